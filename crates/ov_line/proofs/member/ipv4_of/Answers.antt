-- The text under the name is the only one there, so the address is that of the value, or none is.
use Rattle.std.proofs.Common.{rules, ◌≡◌, ◌∙◌, List, ℕ, sym, subst}
use Rattle.std.specs.Net.Grammar.{IsDotted}
use Rattle.serde_json.specs.Data.{string}
use Rattle.serde_json.specs.View.{view}
use Rattle.ov_line.proofs.Has.{string_same}
use Rattle.ov_line.proofs.Options.{finds_not}
use Rattle.ov_line.proofs.member.ipv4_of.Goals as goal

pub returns-in_err-text : goal.returns-in_err-text
returns-in_err-text c = finds_not c.from_residual.result c.in_err-text.field-0.0 (λ (text : List ℕ). view c.args.value.now ≡ string text) _ c.from_residual.ensures c.in_err-text.ensures (λ octets h. (h.text, h.given))

pub returns-in-Ok : goal.returns-in-Ok
returns-in-Ok c = record { text = c.in_ok-text.text.now; given = c.in_ok-text.ensures; dotted = search rules }

pub returns-in-Err : goal.returns-in-Err
returns-in-Err c = λ octets h.
    let same : h.text ≡ c.in_ok-text.text.now = string_same h.text c.in_ok-text.text.now (sym h.given ∙ c.in_ok-text.ensures) in
    c.in-Err.ensures (record { octets = octets }) (subst (λ (t : List ℕ). IsDotted t octets) (same ∙ sym c.as_bytes.ensures.value) h.dotted)
