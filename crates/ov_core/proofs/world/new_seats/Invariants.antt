use Rattle.std.proofs.Common.{◌≡◌}
use Rattle.ov_core.specs.Seats.{seats_to}
use Rattle.ov_core.proofs.world.new_seats.Given as goal

abbrev pub invariant-loop-lane : goal.invariant-loop-lane
invariant-loop-lane l = l.seats.items ≡ seats_to l._lane
