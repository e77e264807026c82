use Rattle.std.proofs.Common.{◌≡◌, ◌∷◌, List, ◌∙◌}
use Rattle.ov_turn.specs.Seats.{sight_of}
use Rattle.ov_model.specs.declared.hold.Owed.{Owed}
use Rattle.ov_ticket.specs.Within.{IsReleasing}
use Rattle.ov_ticket.proofs.Releasing.{popped}
use Rattle.ov_ticket.proofs.Telling.{IsLeft, releasing_first, rest_fits, release_told}
use Rattle.ov_ticket.proofs.ticket.release_once.Goals as goal

pub release_one-event-requires : goal.release_one-event-requires
release_one-event-requires g c =
    let rest : List Owed = c.pop_front.new.self.items in
    let first : c.args.owed.now.items ≡ c.in-Some.first ∷ rest = popped c.args.owed.now.items rest c.pop_front.result c.in-Some.first c.pop_front.ensures.items c.in-Some.is in
    (rest, releasing_first (sight_of c.args.seat) c.enter-inside.result c.args.owed.now c.in-Some.first rest c.enter-inside.ensures.entered c.requires.owed first)

pub returns-clause-released : goal.returns-clause-released
returns-clause-released g c =
    let rest : List Owed = c.pop_front.new.self.items in
    let first : c.args.owed.now.items ≡ c.in-Some.first ∷ rest = popped c.args.owed.now.items rest c.pop_front.result c.in-Some.first c.pop_front.ensures.items c.in-Some.is in
    let was : IsReleasing (c.in-Some.first ∷ rest) c.enter-inside.result = releasing_first (sight_of c.args.seat) c.enter-inside.result c.args.owed.now c.in-Some.first rest c.enter-inside.ensures.entered c.requires.owed first in
    let e = c.leave.ensures in
    let left : IsLeft c.release_one-event.new.inside (sight_of c.leave.result) = record { share = e.share; seen = e.seen; own = e.own; holds = e.holds; owes = e.owes } in
    release_told (sight_of c.args.seat) (sight_of c.leave.result) c.enter-inside.result c.release_one-event.new.inside c.args.place c.args.at c.in-Some.first _ c.args.owed.now.items rest first c.enter-inside.ensures.entered left was (c.release_one-event.ensures.releasing rest was) c.release_one-event.ensures.made c.release_one-event.ensures.event

pub returns-clause-owed : goal.returns-clause-owed
returns-clause-owed g c =
    let rest : List Owed = c.pop_front.new.self.items in
    let first : c.args.owed.now.items ≡ c.in-Some.first ∷ rest = popped c.args.owed.now.items rest c.pop_front.result c.in-Some.first c.pop_front.ensures.items c.in-Some.is in
    let was : IsReleasing (c.in-Some.first ∷ rest) c.enter-inside.result = releasing_first (sight_of c.args.seat) c.enter-inside.result c.args.owed.now c.in-Some.first rest c.enter-inside.ensures.entered c.requires.owed first in
    rest_fits c.args.owed.now c.pop_front.new.self c.in-Some.first _ _ c.requires.owed first c.pop_front.ensures.capacity (c.leave.ensures.owes ∙ (c.release_one-event.ensures.releasing rest was).owes)
