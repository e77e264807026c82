use Rattle.ov_core.specs.Scripts.{RanOut}
use Rattle.ov_core.proofs.session.run_all.Given as goal

abbrev pub invariant-loop-lane : goal.invariant-loop-lane
invariant-loop-lane l = RanOut l.fn.world l.world l.fn.courses.items l.courses.items l.lane
