-- The text says the line.
use Rattle.std.proofs.Common.{rules}
use Rattle.ov_line.proofs.TxText.{says_tx}
use Rattle.ov_line.proofs.compact_tx.tx_line.Goals as goal

pub returns : goal.returns
returns c = says_tx c.args.line.now c.args.lanes c.in-Some.at c.in-Some.lane c.in-Some.digits.now c.in-Some-2.packet c.in-Some.ensures (search rules) (search rules) (search rules) (search rules) (search rules)
