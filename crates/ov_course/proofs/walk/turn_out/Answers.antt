use Rattle.ov_course.proofs.Turns.{going_first, going_ready, going_more, going_done, going_stopped}
use Rattle.ov_course.proofs.walk.turn_out.Goals as goal

pub loop-init : goal.loop-init
loop-init g c = going_first g.D.Desk.view g.D.Desk.does g.via c.args.line.now c.args.desk.now c.args.walk.now c.requires.1.1.0 c.requires.1.1.1.0 c.requires.1.1.1.1.0

pub turn-requires : goal.turn-requires
turn-requires g c = λ κs within.
    let ready = going_ready g.D.Desk.view g.D.Desk.does g.via c.args.walk.now.place c.args.line.now c.args.desk.now c.loop.desk c.loop.walk c.loop.invariant in
    (within, (ready.0, (ready.1, ((λ asks. c.loop.invariant.hops), c.requires.1.1.1.1.1.1))))

pub loop-preserved : goal.loop-preserved
loop-preserved g c =
    going_more g.D.Desk.view g.D.Desk.does g.via c.args.walk.now.place c.args.line.now c.args.desk.now c.loop.desk c.turn.new.desk c.loop.walk c.turn.new.self c.in_ok-turn.field-0 c.in-More.is c.requires.1.1.1.1.1.0 c.loop.invariant c.turn.ensures.stays.place
    c.in_ok-turn.ensures.then c.in_ok-turn.ensures.made

pub returns-in_err-turn-clause-err : goal.returns-in_err-turn-clause-err
returns-in_err-turn-clause-err g c =
    going_stopped g.D.Desk.view g.D.Desk.does g.D.Desk.keeps g.via c.args.walk.now.place c.args.line.now c.args.desk.now c.loop.desk c.turn.new.desk c.loop.walk c.from_residual.result c.loop.invariant c.in_err-turn.ensures.err.0.line c.in_err-turn.ensures.err.1

pub returns-in-Answered-clause-ok : goal.returns-in-Answered-clause-ok
returns-in-Answered-clause-ok g c =
    going_done g.D.Desk.view g.D.Desk.does g.via c.args.walk.now.place c.args.line.now c.args.desk.now c.loop.desk c.turn.new.desk c.loop.walk c.turn.new.self c.in_ok-turn.field-0 c.in-Answered.answer c.in-Answered.is c.loop.invariant c.turn.ensures.stays.place
    c.in_ok-turn.ensures.then c.in_ok-turn.ensures.made
