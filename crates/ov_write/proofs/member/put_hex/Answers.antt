-- No digit is escaped.
use Rattle.std.proofs.Common.{◌≡◌, ◌∙◌, true, List, ℕ, Some, sym, subst}
use Rattle.hex.specs.Hex.{encode_lower}
use Rattle.json.specs.Print.{escape}
use Rattle.serde_json.specs.Data.{string}
use Rattle.ov_write.specs.Text.{Puts}
use Rattle.ov_line.proofs.PlainText.{escape_hex}
use Rattle.ov_write.proofs.member.put_hex.Goals as goal

pub returns : goal.returns
returns c =
    let same : c.as_str.result.now ≡ encode_lower c.args.bytes.now = c.as_str.ensures.value ∙ c.in_ok-digits.ensures in
    let P : List ℕ → Type 0 = λ t. Puts c.args.page.now.items c.put_text.new.page.items c.args.later true c.args.name.now (Some (string t)) in
    λ plain. subst P same (c.in_ok-put_text.ensures plain (subst (λ (t : List ℕ). escape t ≡ t) (sym same) (escape_hex c.args.bytes.now c.type_inv.bytes).0))
