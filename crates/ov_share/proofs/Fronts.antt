-- Two histories of which each begins the other are one.
use Rattle.std.proofs.Common.{ℕ, ◌≡◌, ◌+◌, List, [], ◌∷◌, ◌++◌, length, length-append, refl, sym, ap, ◌∙◌, arith, append-nil}
use mathlib.Core.List.{IsPrefix}
use Rattle.ov_model.specs.declared.entry.Entry.{Entry}

pub prefix_both : (xs ys : List Entry) → IsPrefix xs ys → IsPrefix ys xs → xs ≡ ys
prefix_both xs ys p q =
    let long : length xs + length p.0 ≡ length ys = sym (length-append xs p.0) ∙ ap length p.1 in
    let back : length ys + length q.0 ≡ length xs = sym (length-append ys q.0) ∙ ap length q.1 in
    sym (append-nil xs) ∙ ap (λ l. xs ++ l) (sym (nothing p.0 (omega arith))) ∙ p.1
  where
    nothing : (l : List Entry) → length l ≡ 0 → l ≡ []
    nothing [] e = refl
    nothing (x ∷ l) e = absurd (omega arith)
