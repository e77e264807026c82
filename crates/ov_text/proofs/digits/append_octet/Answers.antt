-- No digit is escaped.
use Rattle.std.proofs.Common.{arith}
use Rattle.ov_text.proofs.Plain.{decimal_plain}
use Rattle.ov_text.proofs.digits.append_octet.Goals as goal

pub returns-clause-plain : goal.returns-clause-plain
returns-clause-plain c = decimal_plain c.args.octet (omega arith)
