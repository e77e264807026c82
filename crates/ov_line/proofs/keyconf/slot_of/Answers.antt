-- A value that is no text is no word, and a text that is neither word names no slot.
use Rattle.std.proofs.Common.{◌≡◌, ◌∙◌, List, ℕ, codes, sym, ap}
use Rattle.serde_json.specs.Data.{string}
use Rattle.serde_json.specs.View.{view}
use Rattle.ov_model.specs.declared.command.Slot.{Slot}
use Rattle.ov_model.specs.declared.command.Slot.TheVariants as slot
use Rattle.ov_line.specs.Grammar.{slot_word}
use Rattle.ov_line.proofs.Has.{string_same}
use Rattle.ov_line.proofs.Options.{finds_not}
use Rattle.ov_line.proofs.keyconf.slot_of.Goals as goal

neither : (text : List ℕ) (s : Slot) → (text ≡ codes "primary" → ⊥) → (text ≡ codes "secondary" → ⊥) → text ≡ slot_word s → ⊥
neither text slot.Primary p q h = p h
neither text slot.Secondary p q h = q h

pub returns-in_err-text_of : goal.returns-in_err-text_of
returns-in_err-text_of c = finds_not c.from_residual.result c.in_err-text_of.field-0.0 (λ (text : List ℕ). view c.args.value.now ≡ string text) _ c.from_residual.ensures c.in_err-text_of.ensures (λ s h. (slot_word s, h))

pub returns-in-primary : goal.returns-in-primary
returns-in-primary c = c.in_ok-text_of.ensures ∙ ap string c.in-primary.is

pub returns-in-secondary : goal.returns-in-secondary
returns-in-secondary c = c.in_ok-text_of.ensures ∙ ap string c.in-secondary.is

pub returns-in_default : goal.returns-in_default
returns-in_default c = λ s h. neither c.in_ok-text_of.field-0.now s c.in_default.not-primary c.in_default.not-secondary (string_same _ _ (sym c.in_ok-text_of.ensures ∙ h))
