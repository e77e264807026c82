-- The pieces that were taken off are those of the text.
use Rattle.ov_line.proofs.TxText.{tx_pieces}
use Rattle.ov_line.proofs.compact_tx.tx_parts.Goals as goal

pub returns : goal.returns
returns c = tx_pieces _ _ _ _ _ _ _ _ _ c.in_ok-after.ensures c.in_ok-at.ensures c.in_ok-after-2.ensures c.in_ok-lane.ensures c.in_ok-after-3.ensures c.in_ok-digits.ensures
