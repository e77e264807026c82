use Rattle.std.proofs.Common.{sym}
use Rattle.ov_model.specs.Step.{others}
use Rattle.ov_index.proofs.Held.{vpn_nobody}
use Rattle.ov_index.proofs.index.Index.other_has_vpn6.Goals as goal

pub returns-in-None : goal.returns-in-None
returns-in-None c = rw c.in-None.is (sym (vpn_nobody (λ p. p.vpn6) (others c.args.id c.args.self.now.live)))
