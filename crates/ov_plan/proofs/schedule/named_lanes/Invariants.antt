use Rattle.std.proofs.Common.{length}
use denote.Text.{Utf8}
use denote.Shadow.{shadow}
use Rattle.ov_plan.proofs.Schedules.{ReadTo}
use Rattle.ov_plan.proofs.schedule.named_lanes.Given as goal

-- The lanes of the text so far.
abbrev pub invariant-parts : goal.invariant-parts
invariant-parts l = shadow (Utf8 l.rest) × ReadTo l.text l.rest l.lanes.items l.full

abbrev pub decreases-parts : goal.decreases-parts
decreases-parts l = length l.rest
