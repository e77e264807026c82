-- One lane more.
use Rattle.std.proofs.Common.{rules}
use Rattle.ov_core.proofs.Dealing.{new_more}
use Rattle.ov_core.proofs.course.new_courses.Goals as goal

pub loop-lane-preserved : goal.loop-lane-preserved
loop-lane-preserved c = rw (new_more c.loop-lane.lane) (search rules)
