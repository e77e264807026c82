use Rattle.ov_core.proofs.Whole.{OutToIn, lines_left}
use Rattle.ov_core.proofs.course.Course.run_out.Given as goal

abbrev pub invariant-lines : goal.invariant-lines
invariant-lines l = OutToIn l.fn.world l.world l.fn.self l.self

abbrev pub decreases-lines : goal.decreases-lines
decreases-lines l = lines_left l.self
