use Rattle.ov_core.specs.Seats.{world_of}
use Rattle.ov_core.proofs.Whole.{RunToIn, more_left}
use Rattle.ov_core.proofs.course.Course.run_line.Given as goal

abbrev pub invariant-turns : goal.invariant-turns
invariant-turns l = RunToIn l.fn.world l.world l.fn.self l.self l.last

abbrev pub decreases-turns : goal.decreases-turns
decreases-turns l = more_left (world_of l.world) l.self l.last
