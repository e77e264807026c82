use Rattle.ov_aes.proofs.TableFacts.{power-is}
use Rattle.ov_aes.proofs.powers.power.Goals as goal

pub returns : goal.returns
returns c = power-is c.args.n c.requires
