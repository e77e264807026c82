use Rattle.std.proofs.lemmas.Simd.{zip2_splat}
use Rattle.ov_aes.proofs.nibbles.high_halves.Goals as goal

pub returns : goal.returns
returns c = zip2_splat _ c.args.bytes 16 4 c.fits-bytes.0
