-- Counting draws, and what one more draw changes.
use Rattle.std.proofs.Common.{◌≡◌, ◌≢◌, ℕ, zero, suc, ◌+◌, ◌<◌, ◌≤◌, min, List, [], ◌∷◌, ◌++◌, sym, refl, ap, ◌∙◌, arith}
use Rattle.std.specs.Prelude.{Option, None, Some, if◌then◌else◌, ◌==◌, ◌&&◌}
use Rattle.std.proofs.lemmas.Bool.Decides.{nat_tests}
use Rattle.ov_base.specs.Sums.{between}
use Rattle.ov_base.proofs.Sums.{total_append, total_snoc, between_more}
use Rattle.ov_draw.specs.Drawer.{times, AreApart}
use Rattle.ov_draw.specs.Rule.{stands_in}

abbrev is_draw : ℕ → ℕ → ℕ × ℕ → ℕ
is_draw k n d = if (d.0 == k) && (d.1 == n) then 1 else 0

pub times-append : (k n : ℕ) (l m : List (ℕ × ℕ)) → times k n (l ++ m) ≡ times k n l + times k n m
times-append k n l m = total_append (is_draw k n) l m

drawn_here : (k x n : ℕ) → is_draw k n (k, x) ≡ between x (x + 1) n
drawn_here k x n = grind (arith, nat_tests)

drawn_elsewhere : (j k x n : ℕ) → j ≢ k → is_draw k n (j, x) ≡ 0
drawn_elsewhere j k x n ne = grind (arith, nat_tests)

-- one more draw of the key k
pub times-here : (k x n : ℕ) (l : List (ℕ × ℕ)) → times k n (l ++ (k, x) ∷ []) ≡ times k n l + between x (x + 1) n
times-here k x n l = total_snoc (is_draw k n) l (k, x) ∙ ap (λ (m : ℕ). times k n l + m) (drawn_here k x n)

-- one more draw of another key
pub times-elsewhere : (j k x n : ℕ) (l : List (ℕ × ℕ)) → j ≢ k → times k n (l ++ (j, x) ∷ []) ≡ times k n l
times-elsewhere j k x n l ne = omega (arith, total_snoc (is_draw k n) l (j, x), drawn_elsewhere j k x n ne)

-- a word that counts up below the end
pub between-min_more : (first x n : ℕ) → first ≤ x → x < 4294967296 → between first (min (x + 1) 4294967296) n ≡ between first (min x 4294967296) n + between x (x + 1) n
between-min_more first x n from below =
    let now : min x 4294967296 ≡ x = omega arith in
    let next : min (x + 1) 4294967296 ≡ x + 1 = omega arith in
    ap (λ (e : ℕ). between first e n) next ∙ between_more first x n from ∙ ap (λ (e : ℕ). between first e n + between x (x + 1) n) (sym now)

-- a word that is at the end already
pub between-min_ended : (first x n : ℕ) → 4294967296 ≤ x → between first (min (x + 1) 4294967296) n ≡ between first (min x 4294967296) n
between-min_ended first x n ended =
    let same : min (x + 1) 4294967296 ≡ min x 4294967296 = omega arith in
    ap (λ (e : ℕ). between first e n) same

pub stands_in-here : (k : ℕ) → stands_in k (Some k) ≡ 1
stands_in-here k = grind (arith, nat_tests)

pub stands_in-elsewhere : (j k : ℕ) → j ≢ k → stands_in k (Some j) ≡ 0
stands_in-elsewhere j k ne = grind (arith, nat_tests)

one_test : (j k : ℕ) → stands_in k (Some j) ≤ 1
one_test j k = grind (arith, nat_tests)

-- who stands has a share
pub stands_in-le : (k : ℕ) (at : Option ℕ) (n : ℕ) → (n ≡ 0 → at ≡ None) → stands_in k at ≤ n
stands_in-le k None n free = omega arith
stands_in-le k (Some j) zero free = let no : Some j ≡ None = free refl in cc
stands_in-le k (Some j) (suc n) free = omega (arith, one_test j k)

-- two lists that together have no draw twice
pub apart : (l m : List (ℕ × ℕ)) → ((k n : ℕ) → times k n (l ++ m) ≤ 1) → AreApart l m
apart l m each k n some_of = omega (arith, each k n, times-append k n l m)
