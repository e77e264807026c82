use Rattle.ov_turn.specs.Seats.{sight_of}
use Rattle.ov_ticket.proofs.Telling.{IsLeft, ready, steps_told, none_told, pair_told}
use Rattle.ov_ticket.proofs.ticket.step_once.Goals as goal

pub make-reply-requires-clause-ready : goal.make-reply-requires-clause-ready
make-reply-requires-clause-ready g c = ready (sight_of c.args.seat) c.enter-inside.result c.args.call.now.act c.enter-inside.ensures.entered c.requires.asks

pub returns-clause-ok : goal.returns-clause-ok
returns-clause-ok g c =
    let e = c.leave.ensures in
    let left : IsLeft c.make-reply.new.inside (sight_of c.leave.result) = record { share = e.share; seen = e.seen; own = e.own; holds = e.holds; owes = e.owes } in
    steps_told (sight_of c.args.seat) (sight_of c.leave.result) c.enter-inside.result c.make-reply.new.inside c.args.place c.args.call.now c.make-reply.result c.args.owed.now.items c.make-reply.new.owed.items c.enter-inside.ensures.entered left c.make-reply.ensures.ok

pub returns-clause-err : goal.returns-clause-err
returns-clause-err g c =
    let e = c.leave.ensures in
    let left : IsLeft c.make-reply.new.inside (sight_of c.leave.result) = record { share = e.share; seen = e.seen; own = e.own; holds = e.holds; owes = e.owes } in
    none_told (sight_of c.args.seat) (sight_of c.leave.result) c.enter-inside.result c.make-reply.new.inside c.make-reply.result c.enter-inside.ensures.entered left c.make-reply.ensures.err

pub returns-clause-pair : goal.returns-clause-pair
returns-clause-pair g c =
    let e = c.leave.ensures in
    let left : IsLeft c.make-reply.new.inside (sight_of c.leave.result) = record { share = e.share; seen = e.seen; own = e.own; holds = e.holds; owes = e.owes } in
    pair_told (sight_of c.leave.result) c.make-reply.new.inside c.make-reply.result c.args.pair.now c.make-reply.new.pair c.make-reply.ensures.settled left c.make-reply.ensures.pair
