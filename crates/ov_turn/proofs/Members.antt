-- Lists of cells and of entries: what `filter` and `++` do to what is counted in them.
use Rattle.std.proofs.Common.{◌≡◌, ℕ, ◌+◌, ◌<◌, ◌≤◌, ◌==◌, Bool, true, false, not, ◌&&◌, nat_lt, if◌then◌else◌, List, [], ◌∷◌, ◌++◌, filter, refl, sym, ap, subst, ◌∙◌, arith, eq-eqb, ne_eqb}
use Rattle.std.proofs.lemmas.Bool.{lt-ltb, ltb-true}
use mathlib.Core.Logic.{dite}
use mathlib.Core.Bool.{true≢false}
use native.Mathlib.Decide.{ℕ_discrete}
use Rattle.atomic_table.proofs.Lists.{at_longer}
use Rattle.ov_base.specs.Sums.{count_of}
use Rattle.ov_turn.specs.Lists.{has, newly, still, without, all_below, AreOf}

-- Tests.
pub both_true : (a b : Bool) → (a && b) ≡ true → (a ≡ true) × (b ≡ true)
both_true true b e = (refl, e)
both_true false b e = absurd (true≢false (sym e))

pub true_both : (a b : Bool) → a ≡ true → b ≡ true → (a && b) ≡ true
true_both a b p q = rw p q

pub if_zero : (b : Bool) → ◌≡◌ {A = ℕ} 0 (if b then 0 else 0)
if_zero true = refl
if_zero false = refl

-- Members.
pub has_here : (c : ℕ) (xs : List ℕ) → has c (c ∷ xs) ≡ 1
has_here c xs = let t : (c == c) ≡ true = eq-eqb c c refl in rw t

pub has_le : (c : ℕ) (xs : List ℕ) → has c xs ≤ 1
has_le c [] = omega arith
has_le c (x ∷ xs) = by (x == c) (has_le c xs)
  where
    by : (b : Bool) → has c xs ≤ 1 → (if b then 1 else has c xs) ≤ 1
    by true h = omega arith
    by false h = h

pub has_counted : (c : ℕ) (xs : List ℕ) → 0 < count_of c xs → has c xs ≡ 1
has_counted c [] h = absurd (omega arith)
has_counted c (x ∷ xs) h = by (x == c) (has_counted c xs) h
  where
    by : (b : Bool) → (0 < count_of c xs → has c xs ≡ 1) → 0 < (if b then 1 else 0) + count_of c xs → (if b then 1 else has c xs) ≡ 1
    by true k h = refl
    by false k h = k (omega arith)

pub counted_has : (c : ℕ) (xs : List ℕ) → 0 < has c xs → 0 < count_of c xs
counted_has c [] h = h
counted_has c (x ∷ xs) h = by (x == c) (counted_has c xs) h
  where
    by : (b : Bool) → (0 < has c xs → 0 < count_of c xs) → 0 < (if b then 1 else has c xs) → 0 < (if b then 1 else 0) + count_of c xs
    by true k h = omega arith
    by false k h = let q = k h in omega arith

-- Filters.
pub has_filter : (test : ℕ → Bool) (c : ℕ) (xs : List ℕ) → has c (filter test xs) ≡ (if test c then has c xs else 0)
has_filter test c [] = if_zero (test c)
has_filter test c (x ∷ xs) = by (test x) refl (has_filter test c xs)
  where
    Goal : Bool → Type 0
    Goal b = has c (if b then x ∷ filter test xs else filter test xs) ≡ (if test c then (if x == c then 1 else has c xs) else 0)

    by : (b : Bool) → test x ≡ b → has c (filter test xs) ≡ (if test c then has c xs else 0) → has c (if b then x ∷ filter test xs else filter test xs) ≡ (if test c then (if x == c then 1 else has c xs) else 0)
    by true e k =
        dite (ℕ_discrete x c)
        (λ h. let t : (x == c) ≡ true = eq-eqb x c h in let u : test c ≡ true = ap test (sym h) ∙ e in rw (t, u))
        (λ n. let t : (x == c) ≡ false = ne_eqb x c n in rw t k)
    by false e k =
        dite (ℕ_discrete x c)
        (λ h. let u : test c ≡ false = ap test (sym h) ∙ e in let q = rw u at k in rw u q)
        (λ n. let t : (x == c) ≡ false = ne_eqb x c n in rw t k)

pub count_filter : (test : ℕ → Bool) (c : ℕ) (xs : List ℕ) → count_of c (filter test xs) ≡ (if test c then count_of c xs else 0)
count_filter test c [] = if_zero (test c)
count_filter test c (x ∷ xs) = by (test x) (test c) refl refl (count_filter test c xs)
  where
    by : (b d : Bool) → test x ≡ b → test c ≡ d → count_of c (filter test xs) ≡ (if test c then count_of c xs else 0)
        → count_of c (if b then x ∷ filter test xs else filter test xs) ≡ (if test c then (if x == c then 1 else 0) + count_of c xs else 0)
    by true true e d k = let q = rw d at k in rw d (ap (λ n. (if x == c then 1 else 0) + n) q)
    by false false e d k = let q = rw d at k in rw d q
    by true false e d k =
        let q = rw d at k in
        let n : x ≡ c → ⊥ = λ h. true≢false (sym e ∙ ap test h ∙ d) in
        let t : (x == c) ≡ false = ne_eqb x c n in
        rw (d, t) (omega arith)
    by false true e d k =
        let q = rw d at k in
        let n : x ≡ c → ⊥ = λ h. true≢false (sym d ∙ ap test (sym h) ∙ e) in
        let t : (x == c) ≡ false = ne_eqb x c n in
        rw (d, t) (omega arith)

-- what `newly` has
pub newly_old : (c : ℕ) (before xs : List ℕ) → has c before ≡ 1 → has c (newly before xs) ≡ 0
newly_old c before xs h = let t : (has c before == 0) ≡ false = rw h refl in has_filter (λ k. has k before == 0) c xs ∙ rw t

pub newly_new : (c : ℕ) (before xs : List ℕ) → has c before ≡ 0 → has c (newly before xs) ≡ has c xs
newly_new c before xs h = let t : (has c before == 0) ≡ true = rw h refl in has_filter (λ k. has k before == 0) c xs ∙ rw t

-- what `still` has
pub still_in : (c : ℕ) (after xs : List ℕ) → has c after ≡ 1 → count_of c (still after xs) ≡ count_of c xs
still_in c after xs h = let t : (has c after == 1) ≡ true = rw h refl in count_filter (λ k. has k after == 1) c xs ∙ rw t

pub still_out : (c : ℕ) (after xs : List ℕ) → has c after ≡ 0 → count_of c (still after xs) ≡ 0
still_out c after xs h = let t : (has c after == 1) ≡ false = rw h refl in count_filter (λ k. has k after == 1) c xs ∙ rw t

-- what `without` has
pub without_has : (c : ℕ) (xs : List ℕ) → has c (without c xs) ≡ 0
without_has c xs = let t : (c == c) ≡ true = eq-eqb c c refl in has_filter (λ x. not (x == c)) c xs ∙ rw t

pub without_count : (c : ℕ) (xs : List ℕ) → count_of c (without c xs) ≡ 0
without_count c xs = let t : (c == c) ≡ true = eq-eqb c c refl in count_filter (λ x. not (x == c)) c xs ∙ rw t

pub others_has : (c d : ℕ) (xs : List ℕ) → (d ≡ c → ⊥) → has d (without c xs) ≡ has d xs
others_has c d xs n = let t : (d == c) ≡ false = ne_eqb d c n in has_filter (λ x. not (x == c)) d xs ∙ rw t

pub others_count : (c d : ℕ) (xs : List ℕ) → (d ≡ c → ⊥) → count_of d (without c xs) ≡ count_of d xs
others_count c d xs n = let t : (d == c) ≡ false = ne_eqb d c n in count_filter (λ x. not (x == c)) d xs ∙ rw t

-- one more
pub count_snoc_here : (c : ℕ) (xs : List ℕ) → count_of c (xs ++ c ∷ []) ≡ count_of c xs + 1
count_snoc_here c [] = let t : (c == c) ≡ true = eq-eqb c c refl in rw t
count_snoc_here c (x ∷ xs) = let k = count_snoc_here c xs in omega arith

pub count_snoc_other : (c d : ℕ) (xs : List ℕ) → (d ≡ c → ⊥) → count_of d (xs ++ c ∷ []) ≡ count_of d xs
count_snoc_other c d [] n = let t : (c == d) ≡ false = ne_eqb c d (λ h. n (sym h)) in rw t
count_snoc_other c d (x ∷ xs) n = let k = count_snoc_other c d xs n in omega arith

-- Cells below a number.
pub below_has : (n c : ℕ) (xs : List ℕ) → all_below n xs ≡ true → 0 < has c xs → c < n
below_has n c [] all h = absurd (omega arith)
below_has n c (x ∷ xs) all h =
    let both = both_true (nat_lt x n) (all_below n xs) all in
    dite (ℕ_discrete x c)
    (λ e. let lt : x < n = ltb-true x n both.0 in omega arith)
    (λ ne. let t : (x == c) ≡ false = ne_eqb x c ne in below_has n c xs both.1 (rw t at h))

pub below_all : (n : ℕ) (xs : List ℕ) → ((c : ℕ) → 0 < has c xs → c < n) → all_below n xs ≡ true
below_all n [] f = refl
below_all n (x ∷ xs) f =
    true_both (nat_lt x n) (all_below n xs)
    (lt-ltb x n (f x (let q = has_here x xs in omega arith)))
    (below_all n xs (λ c h. f c (longer (x == c) (has c xs) h)))
  where
    longer : (b : Bool) (k : ℕ) → 0 < k → 0 < (if b then 1 else k)
    longer true k h = omega arith
    longer false k h = h

pub below_append : (n : ℕ) (xs ys : List ℕ) → all_below n xs ≡ true → all_below n ys ≡ true → all_below n (xs ++ ys) ≡ true
below_append n [] ys p q = q
below_append n (x ∷ xs) ys p q = let both = both_true (nat_lt x n) (all_below n xs) p in true_both (nat_lt x n) (all_below n (xs ++ ys)) both.0 (below_append n xs ys both.1 q)

pub below_filter : (n : ℕ) (test : ℕ → Bool) (xs : List ℕ) → all_below n xs ≡ true → all_below n (filter test xs) ≡ true
below_filter n test xs p = below_all n (filter test xs) (λ c h. below_has n c xs p (of (test c) (subst (λ (k : ℕ). 0 < k) (has_filter test c xs) h)))
  where
    of : (b : Bool) {k : ℕ} → 0 < (if b then k else 0) → 0 < k
    of true h = h
    of false h = absurd (omega arith)

-- Entries.
module _ {I : Type 0} where
  pub are_longer : (log more : List I) (own : List (ℕ × I)) → AreOf log own → AreOf (log ++ more) own
  are_longer log more [] h = tt
  are_longer log more (e ∷ es) h = (at_longer log more e.0 e.1 h.0, are_longer log more es h.1)

  pub are_append : (log : List I) (xs ys : List (ℕ × I)) → AreOf log xs → AreOf log ys → AreOf log (xs ++ ys)
  are_append log [] ys p q = q
  are_append log (x ∷ xs) ys p q = (p.0, are_append log xs ys p.1 q)
