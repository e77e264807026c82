-- What the table still has of a key.
use Rattle.std.proofs.Common.{◌≡◌, sym, subst, ◌∙◌}
use Rattle.std.specs.Prelude.{Some, Option, IsSome}
use Rattle.ov_model.specs.Tables.{Material}
use Rattle.ov_model.specs.Keys.{key_of}
use Rattle.ov_path.specs.Desks.{HoldsKey}
use Rattle.ov_table.proofs.Installed.{pair_installed}
use Rattle.ov_core.specs.contracts.world.World.{the_view}
use Rattle.ov_core.specs.Seats.{Seated, Kept, shown_of, seat_of, seen}
use Rattle.ov_core.proofs.Leaving.{seen_at}
use Rattle.ov_core.proofs.Mays.{hold_key, pair_stands, copied_some}
use Rattle.ov_core.proofs.world.WorldDesk.pair.Goals as goal

pub returns-clause-is : goal.returns-clause-is
returns-clause-is c = λ m is.
    let d : Seated = the_view c.self.inside in
    let kept : Kept d = c.self.invariant in
    subst (λ (x : Seated). key_of x.table.journal c.args.key ≡ Some m) c.self.view_is (pair_installed d.table c.args.key m kept.sound.told (sym c.pair.ensures ∙ is))

pub returns-clause-some : goal.returns-clause-some
returns-clause-some c = λ names unused.
    let d : Seated = the_view c.self.inside in
    let kept : Kept d = c.self.invariant in
    let held : HoldsKey (seat_of d).hold c.args.key = subst (λ (x : Seated). HoldsKey (shown_of x).hold c.args.key) (sym c.self.view_is) names in
    let there = hold_key d.table.now (seat_of d).hold c.args.key (kept.sound.seats d.turn (seen (seat_of d)) (seen_at d kept)).there held in
    copied_some c.pair.result (subst (λ (o : Option Material). IsSome o) (sym c.pair.ensures) (pair_stands d.table.now c.args.key there))
