use Rattle.std.specs.Prelude.{take}
use Rattle.ov_core.specs.Scripts.{TookTurns}
use Rattle.ov_core.proofs.session.take_turns.Given as goal

abbrev pub invariant-loop-lane : goal.invariant-loop-lane
invariant-loop-lane l = TookTurns l.fn.world l.world l.fn.courses.items l.courses.items (take l.lane-index l.schedule)
