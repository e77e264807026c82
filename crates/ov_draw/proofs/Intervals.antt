-- Lists in which each number of an interval stands once, and no other number: how long they are.
use Rattle.std.proofs.Common.{◌≡◌, ℕ, zero, suc, ◌+◌, ◌<◌, ◌≤◌, min, List, [], ◌∷◌, length, refl, ◌∙◌, subst, arith}
use Rattle.std.specs.Prelude.{nat_lt, if◌then◌else◌, ◌==◌}
use Rattle.std.proofs.lemmas.Bool.Decides.{nat_tests}
use mathlib.Core.Logic.{dite}
use native.Mathlib.Decide.{dec_le}
use Rattle.ov_base.specs.Sums.{total, between, count_of}
use Rattle.ov_base.proofs.Sums.{between_in, between_out}

-- how many members of a list are below m
abbrev below : ℕ → List ℕ → ℕ
below m l = total (λ x. if nat_lt x m then 1 else 0) l

below_one : (m x : ℕ) → (if nat_lt x (m + 1) then 1 else 0) ≡ (if nat_lt x m then 1 else 0) + (if x == m then 1 else 0)
below_one m x = grind (arith, nat_tests)

below_more : (m : ℕ) (l : List ℕ) → below (m + 1) l ≡ below m l + count_of m l
below_more m [] = refl
below_more m (x ∷ xs) = omega (arith, below_more m xs, below_one m x)

not_below_zero : (x : ℕ) → ◌≡◌ {A = ℕ} (if nat_lt x 0 then 1 else 0) 0
not_below_zero x = grind (arith, nat_tests)

below_none : (l : List ℕ) → below 0 l ≡ 0
below_none [] = refl
below_none (x ∷ xs) = omega (arith, not_below_zero x, below_none xs)

-- one more number of the interval, or one more in front of it
min_more : (first end m : ℕ) → suc m ≤ end → between first end m + min first (suc m) ≡ suc (min first m)
min_more first end m le = dite (dec_le first m)
    (λ from. omega (arith, between_in first end m from (omega arith)))
    (λ before. omega (arith, between_out first end m (λ from. absurd (before from))))

-- as many members are below m as the interval has numbers below m
below_counts : (l : List ℕ) (first end m : ℕ) → ((n : ℕ) → count_of n l ≡ between first end n) → m ≤ end → below m l + min first m ≡ m
below_counts l first end zero each le = omega (arith, below_none l)
below_counts l first end (suc m) each le =
    let next : m + 1 ≡ suc m = omega arith in
    let one : below (suc m) l ≡ below m l + count_of m l = subst (λ (k : ℕ). below k l ≡ below m l + count_of m l) next (below_more m l) in
    omega (arith, one, below_counts l first end m each (omega arith), each m, min_more first end m le)

head_counts : (x : ℕ) (xs : List ℕ) → count_of x (x ∷ xs) ≡ suc (count_of x xs)
head_counts x xs = grind (arith, nat_tests)

is_below : (x end : ℕ) → x < end → ◌≡◌ {A = ℕ} (if nat_lt x end then 1 else 0) 1
is_below x end lt = grind (arith, nat_tests)

-- all members are below `end`, where no number from `end` on stands among them
below_all : (l : List ℕ) (end : ℕ) → ((n : ℕ) → end ≤ n → count_of n l ≡ 0) → below end l ≡ length l
below_all [] end none = refl
below_all (x ∷ xs) end none =
    let lt : x < end = dite (dec_le end x) (λ le. absurd (omega (arith, none x le, head_counts x xs))) (λ more. omega arith) in
    omega (arith, is_below x end lt, below_all xs end (λ n le. omega (arith, none n le)))

-- the list is as long as the interval
pub length-interval : (l : List ℕ) (first end : ℕ) → ((n : ℕ) → count_of n l ≡ between first end n) → length l + min first end ≡ end
length-interval l first end each =
    omega (arith, below_all l end (λ n past. each n ∙ between_out first end n (λ _. past)), below_counts l first end end each (omega arith))
