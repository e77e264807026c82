-- Each call goes on with one name fewer.
use Rattle.std.proofs.Common.{length}
use Rattle.ov_line.proofs.member.+is_among.Given as goal

abbrev pub decreases-is_among : goal.decreases-is_among
decreases-is_among l = length l.names.now
