use Rattle.std.proofs.Common.{rules}
use Rattle.ov_model.specs.Tables.{Peer, same_vpn}
use Rattle.ov_index.proofs.Held.{shares_is}
use Rattle.ov_index.proofs.index.Index.shares_vpn.Goals as goal

pub returns-then-has_vpn4 : goal.returns-then-has_vpn4
returns-then-has_vpn4 c = rw (shares_is (λ (p : Peer). same_vpn p.vpn4 c.args.attrs.now.vpn4) (λ (p : Peer). same_vpn p.vpn6 c.args.attrs.now.vpn6) c.args.self.now.live) (search rules)

pub returns-else-has_vpn4 : goal.returns-else-has_vpn4
returns-else-has_vpn4 c = rw (shares_is (λ (p : Peer). same_vpn p.vpn4 c.args.attrs.now.vpn4) (λ (p : Peer). same_vpn p.vpn6 c.args.attrs.now.vpn6) c.args.self.now.live) (search rules)
