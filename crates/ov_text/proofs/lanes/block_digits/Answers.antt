-- The digits of each byte in turn.
use Rattle.ov_text.proofs.Woven.{woven_from}
use Rattle.ov_text.proofs.lanes.block_digits.Goals as goal

pub returns : goal.returns
returns c = woven_from c.args.bytes c.high_digits.result c.low_digits.result c.fits-bytes.0 c.high_digits.ensures c.low_digits.ensures
