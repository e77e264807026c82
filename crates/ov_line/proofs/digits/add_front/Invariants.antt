-- The bytes so far are those of the digits in front of the rest.
use Rattle.std.proofs.Common.{length}
use Rattle.ov_line.specs.Digits.{ReadTo}
use Rattle.ov_line.proofs.digits.add_front.Given as goal

abbrev pub invariant-turns : goal.invariant-turns
invariant-turns l = ReadTo l.digits l.rest l.bytes.items

abbrev pub decreases-turns : goal.decreases-turns
decreases-turns l = length l.rest
