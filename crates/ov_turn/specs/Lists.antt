-- Lists of cells, and entries with their positions.
use Rattle.std.specs.Prelude.{◌≡◌, ℕ, ◌==◌, Bool, true, not, ◌&&◌, nat_lt, if◌then◌else◌, List, [], ◌∷◌, length, filter}
use mathlib.Core.Option.{some}
use lib.ListN.{get_elem?}
use Rattle.ov_base.specs.Sums.{total, between}

-- 1 where the list has c, else 0
abbrev pub has : ℕ → List ℕ → ℕ
has c [] = 0
has c (x ∷ xs) = if x == c then 1 else has c xs

-- the members that the list before has not
abbrev pub newly : List ℕ → List ℕ → List ℕ
newly before xs = filter (λ c. has c before == 0) xs

-- the members that the list after has too
abbrev pub still : List ℕ → List ℕ → List ℕ
still after xs = filter (λ c. has c after == 1) xs

-- the list with each c taken out
abbrev pub without : ℕ → List ℕ → List ℕ
without c xs = filter (λ x. not (x == c)) xs

-- whether each member is below n
abbrev pub all_below : ℕ → List ℕ → Bool
all_below n [] = true
all_below n (x ∷ xs) = nat_lt x n && all_below n xs

module _ {I : Type 0} where
  -- how many of the entries stand at the position p
  abbrev pub times : ℕ → List (ℕ × I) → ℕ
  times p own = total (λ e. if e.0 == p then 1 else 0) own

  -- each entry is the one that the history has at its position
  abbrev pub AreOf : List I → List (ℕ × I) → Type 0
  AreOf log [] = Unit {0}
  AreOf log (e ∷ es) = (get_elem? log e.0 ≡ some e.1) × AreOf log es

  -- these entries are the whole history: each position once, with the entry that stands there
  abbrev pub IsWhole : List I → List (ℕ × I) → Type 0
  IsWhole log own = ((p : ℕ) → times p own ≡ between 0 (length log) p) × AreOf log own
