-- Each lane by its low four bits.
use Rattle.ov_text.proofs.Woven.{low_fits, low_digits_are}
use Rattle.ov_text.proofs.lanes.low_digits.Goals as goal

pub swizzle : goal.swizzle
swizzle c = low_fits c.args.bytes c.fits-bytes.0

pub returns : goal.returns
returns c = low_digits_are c.args.bytes c.fits-bytes.0
