-- The pieces that were taken off are those of the text.
use Rattle.std.proofs.Common.{◌∙◌, ◌++◌, ap}
use Rattle.ov_line.proofs.KeyText.{dir_pieces}
use Rattle.ov_line.proofs.compact_key.direction.Goals as goal

pub returns : goal.returns
returns c = dir_pieces _ _ _ _ _ _ _ c.in_ok-after.ensures c.in_ok-key.ensures c.in_ok-after-2.ensures (c.in_ok-tail.ensures ∙ ap (λ l. c.in_ok-tail.tail.now ++ l) c.in_ok-after-3.ensures)
