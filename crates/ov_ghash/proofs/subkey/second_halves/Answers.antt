use Rattle.std.proofs.Common.{◌∙◌, get_or, arith}
use Rattle.std.proofs.lemmas.Nat.{and_mask}
use Rattle.ov_ghash.proofs.RowFacts.{splat-at, splat_small}
use Rattle.ov_ghash.proofs.subkey.second_halves.Goals as goal

pub returns-clause-small : goal.returns-clause-small
returns-clause-small c =
    splat_small _ c.args.bytes 15 c.fits-bytes.0 c.fits-bytes.1 (λ x below. let low = and_mask x 4 in omega (arith, low))

pub returns-clause-halves : goal.returns-clause-halves
returns-clause-halves c = λ k below.
    splat-at _ c.args.bytes 15 k c.fits-bytes.0 below ∙ and_mask (get_or c.args.bytes k 0) 4
