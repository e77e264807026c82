use Rattle.std.proofs.Common.{◌≡◌}
use Rattle.ov_core.specs.Scripts.{dealt}
use Rattle.ov_core.proofs.session.deal.Given as goal

abbrev pub invariant-loop-line : goal.invariant-loop-line
invariant-loop-line l = l.courses.items ≡ dealt l.yielded
