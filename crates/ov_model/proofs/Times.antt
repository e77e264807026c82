-- How often a number stands in a list.
use Rattle.std.proofs.Common.{ℕ, ◌≡◌, ◌+◌, ◌≤◌, List, [], ◌∷◌, ◌++◌, refl, sym, length-append, false, arith, ◌==◌, nat_eq, inl, inr}
use Rattle.std.specs.Prelude.{filter}
use Rattle.std.specs.List.{AllByRecursion, IsDistinct}
use Rattle.std.proofs.lemmas.Bool.{cases_eq, eq-eqb, ne_eqb}
use Rattle.std.proofs.lemmas.List.Elements.{filter-append}
use Rattle.ov_model.specs.Removals.{times}

pub times-append : (x : ℕ) (xs ys : List ℕ) → times x (xs ++ ys) ≡ times x xs + times x ys
times-append x xs ys = rw (filter-append (λ y. y == x) xs ys) (length-append (filter (λ y. y == x) xs) (filter (λ y. y == x) ys))

pub times_first : (x y : ℕ) (ys : List ℕ) → times x (y ∷ ys) ≡ times x (y ∷ []) + times x ys
times_first x y ys = times-append x (y ∷ []) ys

others : (y : ℕ) (ys : List ℕ) → times y ys ≡ 0 → AllByRecursion (λ z. (y == z) ≡ false) ys
others y [] none = tt
others y (z ∷ zs) none =
    let all : times y (z ∷ zs) ≡ times y (z ∷ []) + times y zs = times_first y z zs in
    elim (cases_eq y z) [
      | inl same ↦ absurd (let one : times y (z ∷ []) ≡ 1 = rw (eq-eqb z y (sym same)) refl in omega arith)
      | inr other ↦ (ne_eqb y z other, others y zs (omega arith))
    ]

-- What stands once at most differs.
pub distinct_times : (xs : List ℕ) → ((x : ℕ) → times x xs ≤ 1) → IsDistinct nat_eq xs
unfolding IsDistinct
distinct_times [] once = tt
distinct_times (y ∷ ys) once =
    let own : times y (y ∷ ys) ≡ times y (y ∷ []) + times y ys = times_first y y ys in
    let one : times y (y ∷ []) ≡ 1 = rw (eq-eqb y y refl) refl in
    let none : times y ys ≡ 0 = (let most = once y in omega arith) in
    (others y ys none, distinct_times ys (λ x. let most = once x in let all : times x (y ∷ ys) ≡ times x (y ∷ []) + times x ys = times_first x y ys in omega arith))
