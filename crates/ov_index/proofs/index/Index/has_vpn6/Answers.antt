use Rattle.std.proofs.Common.{rules, sym}
use Rattle.ov_model.specs.Tables.{Peer, same_vpn}
use Rattle.ov_index.proofs.Held.{any_is, vpn_nobody}
use Rattle.ov_index.proofs.index.Index.has_vpn6.Goals as goal

pub returns-in-Some : goal.returns-in-Some
returns-in-Some c = rw (any_is (λ (p : Peer). same_vpn p.vpn6 c.args.octets) c.args.self.now.live) (search rules)

pub returns-in-None : goal.returns-in-None
returns-in-None c = rw c.in-None.is (sym (vpn_nobody (λ p. p.vpn6) c.args.self.now.live))
