-- The text says the line.
use Rattle.std.proofs.Common.{rules}
use Rattle.ov_line.specs.Compact.{IsDirText}
use Rattle.ov_line.proofs.KeyText.{says_key}
use Rattle.ov_line.proofs.compact_key.key_line.Goals as goal

pub returns : goal.returns
returns c =
    let p = c.in-Some.parts in
    let encrypt : IsDirText p.sealing.key.now p.sealing.tail.now c.in-Some-2.encrypt = search rules in
    let decrypt : IsDirText p.opening.key.now p.opening.tail.now c.in-Some-3.decrypt = search rules in
    rw c.in_ok-new.ensures (says_key c.args.line.now c.args.lanes p.at p.opening.key.now p.opening.tail.now p.sealing.key.now p.sealing.tail.now p.key_id p.peer p.lane _ _ c.in-Some.ensures (search rules) (search rules) (search rules) (search rules) (search rules) decrypt encrypt)
