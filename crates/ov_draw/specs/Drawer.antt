-- What contracts see of counters and seats, and what they say of draws.
use Rattle.std.specs.Prelude.{◌≡◌, ℕ, ◌<◌, ◌≤◌, ◌==◌, ◌&&◌, if◌then◌else◌, List, Contains}
use Rattle.atomic_table.specs.Seated.{TableId}
use Rattle.ov_base.specs.Sums.{total, between}
use Rattle.ov_model.specs.declared.draw.Drawn.{Drawn}
use Rattle.ov_model.specs.declared.draw.Drawn.TheVariants.{Id, Spent}

-- the counters: which they are, and the number at which each begins
pub record Counters : Type 0 where
  pub name : TableId
  pub first : ℕ

-- a seat: of which counters, its share of 4294967296, its draws in order, each a key and an id, and the keys of which it was answered Spent
pub record Drawer : Type 0 where
  pub of : Counters
  pub share : ℕ
  pub drawn : List (ℕ × ℕ)
  pub spent : List ℕ

-- how often the id n of the key k stands in some draws
abbrev pub times : ℕ → ℕ → List (ℕ × ℕ) → ℕ
times k n drawn = total (λ d. if (d.0 == k) && (d.1 == n) then 1 else 0) drawn

-- n is greater than each id of the key k among some draws
abbrev pub IsAbove : ℕ → ℕ → List (ℕ × ℕ) → Type 0
IsAbove k n drawn = (m : ℕ) → 0 < times k m drawn → m < n

-- of no key do two lists of draws have an id in common
abbrev pub AreApart : List (ℕ × ℕ) → List (ℕ × ℕ) → Type 0
AreApart left right = (k n : ℕ) → 0 < times k n left → times k n right ≡ 0

-- of each key the draws are the numbers from `first` on, each once, none left out and none above 4294967295; of a spent key they reach that number
abbrev pub IsEnded : ℕ → List (ℕ × ℕ) → List ℕ → Type 0
IsEnded first drawn spent = (k : ℕ) → (end : ℕ) × (end ≤ 4294967296) × ((n : ℕ) → times k n drawn ≡ between first end n) × (Contains spent k → end ≡ 4294967296)

-- P of the id, if one was drawn
abbrev pub IfId : Drawn → (ℕ → Type 0) → Type 0
IfId (Id n) P = P n
IfId Spent P = Unit {0}

-- P, if the key has no id left
abbrev pub OnSpent : Drawn → Type 0 → Type 0
OnSpent (Id n) P = Unit {0}
OnSpent Spent P = P
