use Rattle.std.proofs.Common.{arith}
use Rattle.ov_aes.proofs.NibbleFacts.{swizzled}
use Rattle.ov_aes.proofs.nibbles.looked_up.Goals as goal

pub returns : goal.returns
returns c = swizzled c.args.table c.args.places 0 (omega (arith, c.fits-places.0))
