use Rattle.ov_ghash.specs.Ghash.{Holds}
use Rattle.ov_ghash.proofs.Ghash.update.Goals as goal

pub returns : goal.returns
unfolding Holds
returns c = λ h xs holds. (holds.0, c.folded-self.ensures h xs holds.0 holds.1)
