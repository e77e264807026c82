use Rattle.std.proofs.Common.{◌∙◌, bit_xor}
use lib.Lanes.{zip2}
use Rattle.std.proofs.lemmas.Simd.{zip2_splat}
use Rattle.ov_ghash.proofs.Remainders.{passed-is}
use Rattle.ov_ghash.proofs.subkey.parts_passed.Goals as goal

pub returns : goal.returns
returns c =
    let by_seven = zip2_splat _ c.args.low 16 7 c.fits-low.0 in
    let by_six = zip2_splat _ c.args.low 16 6 c.fits-low.0 in
    let by_one = zip2_splat _ c.args.low 16 1 c.fits-low.0 in
    (λ t. zip2 bit_xor (zip2 bit_xor (by_seven t) (by_six t)) (by_one t)) ∙ passed-is c.args.low
