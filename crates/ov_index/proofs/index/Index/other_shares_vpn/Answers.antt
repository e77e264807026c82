use Rattle.std.proofs.Common.{rules}
use Rattle.ov_model.specs.Tables.{Peer, same_vpn}
use Rattle.ov_model.specs.Step.{others}
use Rattle.ov_index.proofs.Held.{shares_is}
use Rattle.ov_index.proofs.index.Index.other_shares_vpn.Goals as goal

pub returns-then-other_has_vpn4 : goal.returns-then-other_has_vpn4
returns-then-other_has_vpn4 c = rw (shares_is (λ (p : Peer). same_vpn p.vpn4 c.args.attrs.now.vpn4) (λ (p : Peer). same_vpn p.vpn6 c.args.attrs.now.vpn6) (others c.args.attrs.now.id c.args.self.now.live)) (search rules)

pub returns-else-other_has_vpn4 : goal.returns-else-other_has_vpn4
returns-else-other_has_vpn4 c = rw (shares_is (λ (p : Peer). same_vpn p.vpn4 c.args.attrs.now.vpn4) (λ (p : Peer). same_vpn p.vpn6 c.args.attrs.now.vpn6) (others c.args.attrs.now.id c.args.self.now.live)) (search rules)
