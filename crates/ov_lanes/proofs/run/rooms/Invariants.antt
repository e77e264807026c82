use Rattle.std.specs.Prelude.{take}
use Rattle.ov_lanes.specs.Dealt.{HaveRoom}
use Rattle.ov_lanes.proofs.run.rooms.Given as goal

abbrev pub invariant-loop-lines : goal.invariant-loop-lines
invariant-loop-lines l = HaveRoom (take l.lines-index l.dealt) l.rooms.items
