-- Words and texts, and their bytes.
use Rattle.std.proofs.Common.{ℕ, ◌≡◌, ◌≢◌, ◌<◌, ◌≤◌, Bool, true, false, List, [], ◌∷◌, length, get_or, sym, ◌∙◌, ap, arith}
use Rattle.std.specs.Prelude.{map, String, string_bytes}
use Rattle.std.specs.Str.{bytes_eq}
use Rattle.std.specs.declared.alloc.Global.{Global}
use Rattle.std.proofs.lemmas.Slice.Eq.{bytes_eq-Decides}
use Rattle.ov_plan.specs.declared.words.PlanStop.TheVariants as stop

-- A word is a text, or it isn't, as their bytes say.
pub is_word : (w : String Global) (s text : List ℕ) (b : Bool) → s ≡ string_bytes w → b ≡ bytes_eq s text → b ≡ true → string_bytes w ≡ text
is_word w s text b value e t = sym value ∙ (bytes_eq-Decides s text).0 (sym e ∙ t)

pub unequal : (s text : List ℕ) (b : Bool) → b ≡ bytes_eq s text → b ≡ false → s ≢ text
unequal s text b e f is = let same : bytes_eq s text ≡ true = (bytes_eq-Decides s text).1 is in cc

-- A list of one word.
pub one_text : (words : List (String Global)) (w : String Global) → 1 ≤ length words → length words < 2 → w ≡ get_or words 0 w → map string_bytes words ≡ string_bytes w ∷ []
one_text [] w some few is = absurd (omega arith)
one_text (v ∷ []) w some few is = ap (λ x. string_bytes x ∷ []) (sym is)
one_text (v ∷ u ∷ words) w some few is = absurd (omega arith)

pub no_usage : stop.Memory ≡ stop.Usage → ⊥
no_usage is = cc
