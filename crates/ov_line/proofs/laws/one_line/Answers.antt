-- Each kind has one value, so each object has, and each line.
use Rattle.ov_line.proofs.Unique.{says_one}
use Rattle.ov_line.proofs.laws.one_line.Goals as goal

pub returns : goal.returns
returns c = record { one = says_one }
