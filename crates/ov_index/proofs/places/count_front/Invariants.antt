use Rattle.std.proofs.Common.{length, ◌-◌, ◌≤◌}
use Rattle.ov_index.specs.Gone.{holes_in_front}
use Rattle.ov_index.proofs.places.count_front.Given as goal

abbrev pub invariant-loop-place : goal.invariant-loop-place
invariant-loop-place g l = l.place ≤ holes_in_front l.slots

abbrev pub decreases-loop-place : goal.decreases-loop-place
decreases-loop-place g l = length l.slots - l.place
