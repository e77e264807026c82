-- The blocks and the rest; no digit is escaped.
use Rattle.std.proofs.Common.{take, drop, append_assoc}
use Rattle.hex.specs.Hex.{encode_lower}
use Rattle.ov_text.proofs.Plain.{digits_plain}
use Rattle.ov_text.proofs.Woven.{all_bytes, lent}
use Rattle.ov_text.proofs.digits.append_digits.Goals as goal

pub returns-clause-text : goal.returns-clause-text
returns-clause-text c =
    let n = c.in_ok-blocks.blocks in
    let rest = lent n c.args.bytes.now in
    let whole = all_bytes c.args.bytes.now n in
    let apart = append_assoc c.args.page.now.items (encode_lower (take n c.args.bytes.now)) (encode_lower (drop n c.args.bytes.now)) in
    cc (c.in_ok-blocks.ensures.text, c.in_ok-append_rest.ensures, rest, whole, apart)

pub returns-clause-plain : goal.returns-clause-plain
returns-clause-plain c = digits_plain c.args.bytes.now c.type_inv.bytes
