use Rattle.ov_gcm.proofs.Steps.{crypted-crypted}
use Rattle.ov_gcm.proofs.laws.sealed_opens.Goals as goal

pub returns-clause-text : goal.returns-clause-text
returns-clause-text c = λ key nonce ad text is. crypted-crypted key nonce text is
