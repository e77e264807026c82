-- A value that is no text is no word, and a text that is none of the words names no cipher.
use Rattle.std.proofs.Common.{◌≡◌, ◌∙◌, List, ℕ, codes, sym}
use Rattle.serde_json.specs.Data.{string}
use Rattle.serde_json.specs.View.{view}
use Rattle.ov_model.specs.declared.netlink.Cipher.{Cipher}
use Rattle.ov_model.specs.declared.netlink.Cipher.TheVariants as cipher
use Rattle.ov_line.specs.Grammar.{cipher_word}
use Rattle.ov_line.proofs.Has.{string_same}
use Rattle.ov_line.proofs.Options.{finds_not}
use Rattle.ov_line.proofs.keyconf.cipher_of.Goals as goal

neither : (text : List ℕ) (k : Cipher) → (text ≡ codes "none" → ⊥) → (text ≡ codes "aes-gcm" → ⊥) → (text ≡ codes "chacha20-poly1305" → ⊥) → text ≡ cipher_word k → ⊥
neither text cipher.NoCipher n a h e = n e
neither text cipher.AesGcm n a h e = a e
neither text cipher.ChaCha20Poly1305 n a h e = h e

pub returns-in_err-text_of : goal.returns-in_err-text_of
returns-in_err-text_of c = finds_not c.from_residual.result c.in_err-text_of.field-0.0 (λ (text : List ℕ). view c.args.value.now ≡ string text) _ c.from_residual.ensures c.in_err-text_of.ensures (λ k h. (cipher_word k, h))

pub returns-in_default : goal.returns-in_default
returns-in_default c = λ k h. neither c.in_ok-text_of.field-0.now k c.in_default.not-none c.in_default.not-text c.in_default.not-text-2 (string_same _ _ (sym c.in_ok-text_of.ensures ∙ h))
