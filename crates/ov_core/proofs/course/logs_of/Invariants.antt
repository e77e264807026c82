use Rattle.std.proofs.Common.{◌≡◌}
use Rattle.std.specs.Prelude.{map}
use Rattle.ov_core.specs.Sessions.{log_of}
use Rattle.ov_core.specs.Scripts.{lanes_of}
use Rattle.ov_core.proofs.course.logs_of.Given as goal

abbrev pub invariant-loop-course : goal.invariant-loop-course
invariant-loop-course l = l.logs.items ≡ map log_of (lanes_of l.yielded)
