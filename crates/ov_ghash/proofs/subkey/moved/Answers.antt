use Rattle.ov_ghash.proofs.RowFacts.{moved-rest}
use Rattle.ov_ghash.proofs.subkey.moved.Goals as goal

pub returns-clause-rest : goal.returns-clause-rest
returns-clause-rest c = moved-rest c.args.before c.args.v c.fits-before.0
