-- The digits in front and the last ones are all.
use Rattle.std.proofs.Common.{rules, ◌≡◌, ◌∙◌, ◌<◌, ◌%◌, ℕ, List, Ok, length, sym, subst}
use Rattle.hex.specs.Hex.{decode_of}
use Rattle.ov_line.specs.Digits.{ReadTo}
use Rattle.ov_line.proofs.HexLanes.{read_last}
use Rattle.ov_line.proofs.digits.bytes_of.Goals as goal

pub returns : goal.returns
returns c =
    let read : (length c.in-Some.rest.now < 32) × ReadTo c.args.digits.now c.in-Some.rest.now c.add_front.new.bytes.items = search rules in
    let even : length c.args.digits.now % 2 ≡ 0 = search rules in
    let P : List ℕ → Type 0 = λ l. decode_of c.args.digits.now ≡ Ok l in
    subst P (sym (c.of_vec.ensures ∙ c.in_ok-extend_from_slice.ensures.items)) (read_last c.args.digits.now c.in-Some.rest.now c.in-Some-padded.ensures.0 _ c.in-Some-padded.last even read.1 c.in-Some-padded.ensures.1)
