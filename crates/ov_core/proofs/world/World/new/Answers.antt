-- A new world keeps what it is to keep.
use Rattle.std.proofs.Common.{◌≡◌, sym, refl, subst, arith}
use Rattle.ov_core.specs.Seats.{Seated, Kept, new_seated}
use Rattle.ov_core.proofs.Leaving.{same_world}
use Rattle.ov_core.proofs.Newest.{new_kept}
use Rattle.ov_core.proofs.world.World.new.Goals as goal

pub invariant_of-result : goal.invariant_of-result
invariant_of-result c =
    let now : Seated = record { table = c.new.result; shards = c.in_ok-shards.shards.items; first = c.args.first; next = c.new-2.result.items; seats = c.in_ok-seats.seats.items; turn = 0; routes = c.args.routes } in
    let is : now ≡ new_seated c.args.first c.args.routes = same_world now (new_seated c.args.first c.args.routes) refl c.new.ensures c.in_ok-shards.ensures refl c.new-2.ensures.items c.in_ok-seats.ensures refl in
    subst Kept (sym is) (new_kept c.args.first c.args.routes (omega (arith, c.ranges.first.fits)))
