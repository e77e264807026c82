-- One log more.
use Rattle.std.proofs.Common.{rules, [], ◌∷◌}
use Rattle.std.proofs.lemmas.List.{map-append}
use Rattle.ov_core.specs.Courses.{lane_of}
use Rattle.ov_core.specs.Scripts.{lanes_of}
use Rattle.ov_core.specs.Sessions.{log_of}
use Rattle.ov_core.proofs.course.logs_of.Goals as goal

pub loop-course-preserved : goal.loop-course-preserved
loop-course-preserved c = rw (map-append lane_of c.loop-course.yielded (c.in-Some.course ∷ []), map-append log_of (lanes_of c.loop-course.yielded) (lane_of c.in-Some.course ∷ [])) (search rules)
