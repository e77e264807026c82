-- The pieces that were taken off are those of the text.
use Rattle.std.proofs.Common.{rules}
use Rattle.ov_line.proofs.KeyText.{key_pieces}
use Rattle.ov_line.proofs.compact_key.key_parts.Goals as goal

pub returns : goal.returns
returns c = key_pieces _ _ _ _ _ _ _ _ _ _ _ _ _ _ _ _ _ _ _ _ c.in_ok-after.ensures c.in_ok-at.ensures c.in_ok-after-2.ensures c.in_ok-opening.ensures c.in_ok-after-3.ensures c.in_ok-sealing.ensures c.in_ok-after-4.ensures c.in_ok-key_id.ensures c.in_ok-after-5.ensures c.in_ok-peer.ensures c.in_ok-after-6.ensures (search rules)
