-- The one slot, as the seat that took it has it.
use Rattle.std.specs.Prelude.{◌≡◌, ℕ, List, [], ◌∷◌}
use Rattle.std.proofs.Common.{suc-ne-zero}

module _ {S : Type 0} where
  -- the slot that was taken last, or 1 where none was
  abbrev pub front : List (ℕ × S) → ℕ
  front [] = 1
  front (x ∷ xs) = x.0

  -- the value in the slot that was taken last, where there is one
  abbrev pub kept_in : (slots : List (ℕ × S)) → front slots ≡ 0 → S
  kept_in [] none = absurd (suc-ne-zero 0 none)
  kept_in (x ∷ xs) _ = x.1
