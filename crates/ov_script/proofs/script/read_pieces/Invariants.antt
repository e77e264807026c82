-- What came is read, and what may still come is counted.
use Rattle.std.proofs.Common.{◌≡◌}
use Rattle.ov_script.proofs.Streaming.{Seen}
use Rattle.ov_script.proofs.script.read_pieces.Given as goal

abbrev pub invariant-pieces : goal.invariant-pieces
invariant-pieces g l = record {
  seen : Seen l.lanes (g.S.Source.left l.fn.source) (g.S.Source.left l.source) l.room l.pieces.good.lines.items l.pieces.good.wide l.pieces.rest.items;
  kept : g.S.Source.faults l.source ≡ g.S.Source.faults l.fn.source;
}

abbrev pub decreases-pieces : goal.decreases-pieces
decreases-pieces g l = l.room
