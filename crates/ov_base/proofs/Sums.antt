-- What becomes of a sum over a list, and of a fact of each member, where one member changes or one more is appended.
use Rattle.std.proofs.Common.{◌≡◌, ℕ, zero, suc, ◌+◌, ◌<◌, ◌≤◌, ◌≢◌, List, [], ◌∷◌, ◌++◌, set, sym, refl, ap, subst, arith}
use mathlib.Core.Option.{some, some-injective, some-ne-none}
use lib.ListN.{get_elem?}
use Rattle.std.proofs.lemmas.Bool.Decides.{nat_tests}
use Rattle.ov_base.specs.Sums.{total, between}

module _ {A : Type 0} where
  -- Sums.
  pub total_set : (f : A → ℕ) (l : List A) (i : ℕ) (v w : A) → get_elem? l i ≡ some v → total f (set l i w) + f v ≡ total f l + f w
  total_set f [] i v w e = absurd (some-ne-none v (sym e))
  total_set f (x ∷ xs) zero v w e = let same : f x ≡ f v = ap f (some-injective x v e) in omega arith
  total_set f (x ∷ xs) (suc i) v w e = omega (arith, total_set f xs i v w e)

  pub total_snoc : (f : A → ℕ) (l : List A) (v : A) → total f (l ++ v ∷ []) ≡ total f l + f v
  total_snoc f [] v = omega arith
  total_snoc f (x ∷ xs) v = omega (arith, total_snoc f xs v)

  pub total_append : (f : A → ℕ) (l m : List A) → total f (l ++ m) ≡ total f l + total f m
  total_append f [] m = omega arith
  total_append f (x ∷ xs) m = omega (arith, total_append f xs m)

  pub part_le : (f : A → ℕ) (l : List A) (i : ℕ) (v : A) → get_elem? l i ≡ some v → f v ≤ total f l
  part_le f [] i v e = absurd (some-ne-none v (sym e))
  part_le f (x ∷ xs) zero v e = let same : f x ≡ f v = ap f (some-injective x v e) in omega arith
  part_le f (x ∷ xs) (suc i) v e = omega (arith, part_le f xs i v e)

  pub pair_le : (f : A → ℕ) (l : List A) (i j : ℕ) (v u : A) → j ≢ i → get_elem? l i ≡ some v → get_elem? l j ≡ some u → f v + f u ≤ total f l
  pair_le f [] i j v u ne e d = absurd (some-ne-none v (sym e))
  pair_le f (x ∷ xs) zero zero v u ne e d = absurd (ne refl)
  pair_le f (x ∷ xs) zero (suc j) v u ne e d =
      let same : f x ≡ f v = ap f (some-injective x v e) in
      omega (arith, part_le f xs j u d)
  pair_le f (x ∷ xs) (suc i) zero v u ne e d =
      let same : f x ≡ f u = ap f (some-injective x u d) in
      omega (arith, part_le f xs i v e)
  pair_le f (x ∷ xs) (suc i) (suc j) v u ne e d = omega (arith, pair_le f xs i j v u (λ h. ne (ap suc h)) e d)

  pub total_le : (f g : A → ℕ) (l : List A) → ((i : ℕ) (v : A) → get_elem? l i ≡ some v → f v ≤ g v) → total f l ≤ total g l
  total_le f g [] le = omega arith
  total_le f g (x ∷ xs) le = omega (arith, le zero x refl, total_le f g xs (λ i v e. le (suc i) v e))

  pub total_zero : (f : A → ℕ) (l : List A) → ((i : ℕ) (v : A) → get_elem? l i ≡ some v → f v ≡ 0) → total f l ≡ 0
  total_zero f [] each = refl
  total_zero f (x ∷ xs) each = omega (arith, each zero x refl, total_zero f xs (λ i v e. each (suc i) v e))

  -- A member that is 0 by a sum of 0.
  pub none_of : (f : A → ℕ) (l : List A) (i : ℕ) (v : A) → get_elem? l i ≡ some v → total f l ≡ 0 → f v ≡ 0
  none_of f l i v e z = omega (arith, part_le f l i v e)

  -- Where one member has the whole of g, and only members with some of g have some of f, that member has the whole of f.
  pub alone : (f g : A → ℕ) (l : List A) (i : ℕ) (v : A) → ((j : ℕ) (u : A) → get_elem? l j ≡ some u → g u ≡ 0 → f u ≡ 0) → get_elem? l i ≡ some v → total g l ≡ g v → total f l ≡ f v
  alone f g [] i v idle e whole = absurd (some-ne-none v (sym e))
  alone f g (x ∷ xs) zero v idle e whole =
      let same : f x ≡ f v = ap f (some-injective x v e) in
      let also : g x ≡ g v = ap g (some-injective x v e) in
      let rest : total g xs ≡ 0 = omega arith in
      omega (arith, total_zero f xs (λ j u d. idle (suc j) u d (none_of g xs j u d rest)))
  alone f g (x ∷ xs) (suc i) v idle e whole =
      let part = part_le g xs i v e in
      let none : g x ≡ 0 = omega arith in
      omega (arith, idle zero x refl none, alone f g xs i v (λ j u d. idle (suc j) u d) e (omega arith))

  -- A fact of each member.
  pub each_other : (F : A → Type 0) (l : List A) (i : ℕ) (w : A) → F w → ((j : ℕ) (u : A) → j ≢ i → get_elem? l j ≡ some u → F u) → (j : ℕ) (u : A) → get_elem? (set l i w) j ≡ some u → F u
  each_other F [] i w new old j u e = absurd (some-ne-none u (sym e))
  each_other F (x ∷ xs) zero w new old zero u e = subst F (some-injective w u e) new
  each_other F (x ∷ xs) zero w new old (suc j) u e = old (suc j) u (λ h. omega arith) e
  each_other F (x ∷ xs) (suc i) w new old zero u e = old zero u (λ h. omega arith) e
  each_other F (x ∷ xs) (suc i) w new old (suc j) u e = each_other F xs i w new (λ k y ne d. old (suc k) y (λ h. ne (omega arith)) d) j u e

  pub each_set : (F : A → Type 0) (l : List A) (i : ℕ) (w : A) → F w → ((j : ℕ) (u : A) → get_elem? l j ≡ some u → F u) → (j : ℕ) (u : A) → get_elem? (set l i w) j ≡ some u → F u
  each_set F l i w new old = each_other F l i w new (λ j u ne e. old j u e)

  pub each_snoc : (F : A → Type 0) (l : List A) (w : A) → F w → ((j : ℕ) (u : A) → get_elem? l j ≡ some u → F u) → (j : ℕ) (u : A) → get_elem? (l ++ w ∷ []) j ≡ some u → F u
  each_snoc F [] w new old zero u e = subst F (some-injective w u e) new
  each_snoc F [] w new old (suc j) u e = absurd (some-ne-none u (sym e))
  each_snoc F (x ∷ xs) w new old zero u e = old zero u e
  each_snoc F (x ∷ xs) w new old (suc j) u e = each_snoc F xs w new (λ k y d. old (suc k) y d) j u e

-- Numbers between two.
pub between_in : (first end n : ℕ) → first ≤ n → n < end → between first end n ≡ 1
between_in first end n from below = grind (arith, nat_tests)

pub between_out : (first end n : ℕ) → (first ≤ n → end ≤ n) → between first end n ≡ 0
between_out first end n out = grind (arith, nat_tests)

pub between_le : (first end n : ℕ) → between first end n ≤ 1
between_le first end n = grind (arith, nat_tests)

pub between_is : (first end n : ℕ) → 0 < between first end n → (first ≤ n) × (n < end)
between_is first end n some_of = grind (arith, nat_tests)

-- one more number
pub between_more : (first end n : ℕ) → first ≤ end → between first (end + 1) n ≡ between first end n + between end (end + 1) n
between_more first end n le = grind (arith, nat_tests)
