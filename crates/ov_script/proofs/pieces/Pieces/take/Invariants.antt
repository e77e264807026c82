-- What was read of the piece, and what is known behind it.
use Rattle.std.proofs.Common.{length}
use Rattle.ov_script.proofs.Taking.{Onward}
use Rattle.ov_script.proofs.pieces.Pieces.take.Given as goal

abbrev pub invariant-ends : goal.invariant-ends
invariant-ends l = Onward l.lanes l.piece l.left l.fn.self.good.lines.items l.fn.self.good.wide l.fn.self.rest.items l.self.good.lines.items l.self.good.wide l.self.rest.items

abbrev pub decreases-ends : goal.decreases-ends
decreases-ends l = length l.left
