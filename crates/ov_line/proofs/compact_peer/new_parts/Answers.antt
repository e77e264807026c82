-- The pieces that were taken off are those of the text.
use Rattle.ov_line.proofs.PeerText.{new_pieces}
use Rattle.ov_line.proofs.compact_peer.new_parts.Goals as goal

pub returns : goal.returns
returns c = new_pieces _ _ _ _ _ _ _ _ _ _ _ _ _ _ _ _ _ _ c.in_ok-after.ensures c.in_ok-at.ensures c.in_ok-after-2.ensures c.in_ok-lane.ensures c.in_ok-after-3.ensures c.in_ok-id.ensures c.in_ok-after-4.ensures c.in_ok-remote.ensures c.in_ok-after-5.ensures c.in_ok-port.ensures c.in_ok-after-6.ensures c.in_ok-vpn.ensures
