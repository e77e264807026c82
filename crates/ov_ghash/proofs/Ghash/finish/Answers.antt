use Rattle.std.proofs.Common.{sym}
use Rattle.ov_ghash.specs.Ghash.{Holds}
use Rattle.ov_ghash.proofs.Ghash.finish.Goals as goal

pub returns : goal.returns
unfolding Holds
returns c = λ h xs holds. sym holds.1
