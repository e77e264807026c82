-- One seat more.
use Rattle.std.proofs.Common.{rules}
use Rattle.ov_core.proofs.Newest.{seats_more}
use Rattle.ov_core.proofs.world.new_seats.Goals as goal

pub loop-lane-preserved : goal.loop-lane-preserved
loop-lane-preserved c = rw (seats_more c.loop-lane._lane) (search rules)
