-- Sums over lists, in which rules on threads that share words say what stands in exactly one thread's view.
use Rattle.std.specs.Prelude.{ℕ, ◌+◌, nat_lt, nat_le, if◌then◌else◌, ◌&&◌, ◌==◌, List, [], ◌∷◌}

-- the sum of f over the members of a list
abbrev pub total : {A : Type 0} → (A → ℕ) → List A → ℕ
total f [] = 0
total f (x ∷ xs) = f x + total f xs

-- 1 where n is at least `first` and below `end`, else 0
abbrev pub between : ℕ → ℕ → ℕ → ℕ
between first end n = if nat_le first n && nat_lt n end then 1 else 0

-- how often a number stands in a list
abbrev pub count_of : ℕ → List ℕ → ℕ
count_of c xs = total (λ x. if x == c then 1 else 0) xs
