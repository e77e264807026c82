-- The two vectors' lanes, in turn, are the digits.
use Rattle.std.proofs.Common.{sym}
use Rattle.ov_line.proofs.HexLanes.{whole_of}
use Rattle.ov_line.proofs.digits.apart.Goals as goal

pub returns : goal.returns
returns c = sym (whole_of c.args.digits.now c.told-digits)
