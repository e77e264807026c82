-- The text says the line.
use Rattle.std.proofs.Common.{rules}
use Rattle.ov_line.proofs.RxText.{says_rx}
use Rattle.ov_line.proofs.compact_rx.rx_line.Goals as goal

pub returns : goal.returns
returns c =
    let p = c.in-Some.parts in
    says_rx c.args.line.now c.args.lanes p.at p.digits.now p.addr.now p.port p.lane _ _ c.in-Some.ensures (search rules) (search rules) (search rules) (search rules) (search rules) (search rules) (search rules)
