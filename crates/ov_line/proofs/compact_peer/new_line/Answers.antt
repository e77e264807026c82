-- The text says the line.
use Rattle.std.proofs.Common.{rules}
use Rattle.ov_line.proofs.PeerText.{says_new}
use Rattle.ov_line.proofs.compact_peer.new_line.Goals as goal

pub returns : goal.returns
returns c =
    let p = c.in-Some.parts in
    rw c.in_ok-new.ensures (says_new c.args.line.now c.args.lanes p.at p.lane p.id p.remote.now p.port p.vpn.now _ _ c.in-Some.ensures (search rules) (search rules) (search rules) (search rules) (search rules) (search rules) (search rules))
