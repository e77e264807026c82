use Rattle.std.proofs.Common.{arith}
use Rattle.ov_ghash.proofs.RowFacts.{splat-at, splat_small}
use Rattle.ov_ghash.proofs.subkey.first_halves.Goals as goal

pub returns-clause-small : goal.returns-clause-small
returns-clause-small c = splat_small _ c.args.bytes 4 c.fits-bytes.0 c.fits-bytes.1 (λ x below. omega (arith, below))

pub returns-clause-halves : goal.returns-clause-halves
returns-clause-halves c = λ k below. splat-at _ c.args.bytes 4 k c.fits-bytes.0 below
