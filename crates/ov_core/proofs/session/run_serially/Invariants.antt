use Rattle.std.specs.Prelude.{take}
use Rattle.ov_core.specs.Seats.{new_seated}
use Rattle.ov_core.specs.Scripts.{RanLines, dealt}
use Rattle.ov_core.proofs.session.run_serially.Given as goal

abbrev pub invariant-loop-lane : goal.invariant-loop-lane
invariant-loop-lane l = RanLines l.fn.script.lines (new_seated l.fn.first l.fn.script.routes) l.world (dealt l.fn.script.lines) l.courses.items (take l.lane-index l.fn.script.lines)
