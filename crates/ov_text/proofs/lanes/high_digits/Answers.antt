-- Each lane by its high four bits.
use Rattle.ov_text.proofs.Woven.{high_fits, high_digits_are}
use Rattle.ov_text.proofs.lanes.high_digits.Goals as goal

pub swizzle : goal.swizzle
swizzle c = high_fits c.args.bytes c.fits-bytes.0 c.fits-bytes.1

pub returns : goal.returns
returns c = high_digits_are c.args.bytes c.fits-bytes.0 c.fits-bytes.1
