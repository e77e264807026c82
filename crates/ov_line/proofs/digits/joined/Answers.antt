-- No lane's greater value is above 15, so the two of each lane are the halves of its byte.
use Rattle.std.proofs.Common.{refl}
use Rattle.ov_line.proofs.HexLanes.{halves_joined}
use Rattle.ov_line.proofs.digits.joined.Goals as goal

pub returns : goal.returns
returns c = halves_joined _ _ c.args.high c.args.low c.fits-high.0 c.fits-low.0 refl c.if-strange-ne0.false
