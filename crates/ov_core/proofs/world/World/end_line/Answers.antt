-- The line of the lane that has its turn is over.
use Rattle.std.proofs.Common.{◌≡◌, ◌∙◌, sym, refl, subst, ap, [], slice_set}
use Rattle.ov_path.specs.Desks.{NoHold}
use Rattle.ov_core.specs.contracts.world.World.{the_view}
use Rattle.ov_core.specs.Seats.{Seated, Sitting, Kept, shown_of, after_line}
use Rattle.ov_core.proofs.Leaving.{same_world}
use Rattle.ov_core.proofs.Asking.{read_seat}
use Rattle.ov_core.proofs.Newest.{line_done}
use Rattle.ov_core.proofs.world.World.end_line.Goals as goal

pub invariant_of-self : goal.invariant_of-self
invariant_of-self c =
    let d : Seated = the_view c.self.inside in
    let now : Seated = record d { seats = slice_set d.seats d.turn c.clear.new.self } in
    let is : now ≡ after_line d = same_world now (after_line d) refl refl refl refl refl (ap (λ s. slice_set d.seats d.turn s) (c.clear.ensures ∙ ap (λ (s : Sitting). record s { events = [] }) (read_seat d c.index_mut.result.now c.self.invariant c.index_mut.ensures.value))) refl in
    subst Kept (sym is) (line_done d c.self.invariant (subst (λ (x : Seated). (shown_of x).hold ≡ NoHold) (sym c.self.view_is) c.requires.free) (subst (λ (x : Seated). (shown_of x).owing ≡ []) (sym c.self.view_is) c.requires.owes))
