-- The pieces that were taken off are those of the text.
use Rattle.std.proofs.Common.{rules}
use Rattle.ov_line.proofs.RxText.{rx_pieces}
use Rattle.ov_line.proofs.compact_rx.rx_parts.Goals as goal

pub returns : goal.returns
returns c = rx_pieces _ _ _ _ _ _ _ _ _ _ _ _ _ _ _ c.in_ok-after.ensures c.in_ok-at.ensures c.in_ok-after-2.ensures c.in_ok-digits.ensures c.in_ok-after-3.ensures c.in_ok-addr.ensures c.in_ok-after-4.ensures c.in_ok-port.ensures c.in_ok-after-5.ensures (search rules)
