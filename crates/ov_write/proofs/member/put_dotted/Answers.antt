-- No digit and no dot is escaped.
use Rattle.std.proofs.Common.{◌≡◌, ◌∙◌, true, List, ℕ, Some, sym, ap, subst}
use Rattle.std.specs.Net.Text.{ipv4_text}
use Rattle.json.specs.Print.{escape}
use Rattle.serde_json.specs.Data.{string}
use Rattle.ov_write.specs.Text.{Puts}
use Rattle.ov_line.proofs.PlainText.{escape_ipv4}
use Rattle.ov_write.proofs.member.put_dotted.Goals as goal

pub returns : goal.returns
returns c =
    let same : c.as_str.result.now ≡ ipv4_text c.args.octets.now = c.as_str.ensures.value ∙ c.in_ok-text.ensures.ok ∙ ap ipv4_text c.from_octets.ensures in
    let P : List ℕ → Type 0 = λ t. Puts c.args.page.now.items c.put_text.new.page.items c.args.later true c.args.name.now (Some (string t)) in
    λ plain. subst P same (c.in_ok-put_text.ensures plain (subst (λ (t : List ℕ). escape t ≡ t) (sym same) (escape_ipv4 c.args.octets.now c.told-octets c.fits-octets).0))
