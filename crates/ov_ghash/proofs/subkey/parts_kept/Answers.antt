use Rattle.std.proofs.Common.{◌∙◌, bit_xor}
use lib.Lanes.{zip2}
use Rattle.std.proofs.lemmas.Simd.{zip2_splat}
use Rattle.ov_ghash.proofs.Remainders.{kept-is}
use Rattle.ov_ghash.proofs.subkey.parts_kept.Goals as goal

pub returns : goal.returns
returns c =
    let by_one = zip2_splat _ c.args.low 16 1 c.fits-low.0 in
    let by_two = zip2_splat _ c.args.low 16 2 c.fits-low.0 in
    let by_seven = zip2_splat _ c.args.low 16 7 c.fits-low.0 in
    (λ t. zip2 bit_xor (zip2 bit_xor (zip2 bit_xor c.args.low (by_one t)) (by_two t)) (by_seven t)) ∙ kept-is c.args.low
