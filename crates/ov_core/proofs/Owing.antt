-- What is owed, counted: of one serial of a peer or of a key, at the width of numbers.
use Rattle.std.proofs.Common.{ℕ, ◌≡◌, ◌+◌, ◌<◌, ◌≤◌, zero, suc, List, [], ◌∷◌, refl, sym, ap, ◌∙◌, Bool, true, false, arith, if◌then◌else◌, ◌==◌, inl, inr}
use Rattle.std.specs.Prelude.{filter, Some, slice_get, slice_set}
use Rattle.std.proofs.lemmas.Bool.Decides.{nat_tests}
use Rattle.std.proofs.lemmas.Bool.{cases_eq, eq-eqb, ne_eqb}
use Rattle.ov_base.specs.Sums.{total}
use Rattle.ov_model.specs.Removals.{times}

-- ---- one serial

-- What is owed of a serial: all that is on its way out, where nobody holds it.
abbrev pub due : (holds out : ℕ) → ℕ
due holds out = if holds == 0 then out else 0

-- Some join what is on its way out, and some are let go.
pub joins_owed : (holds owes after out left freed gone : ℕ) → owes ≡ due holds out → left + freed ≡ out + gone → after + freed ≡ owes + due holds gone → after ≡ due holds left
joins_owed holds owes after out left freed gone owed table lane = grind (arith, nat_tests)

-- A hold more, of what isn't on its way out.
pub taken_owed : (holds more owes out : ℕ) → owes ≡ due holds out → (0 < more → out ≡ 0) → owes ≡ due (holds + more) out
taken_owed holds more owes out owed kept = grind (arith, nat_tests)

-- A hold less: whoever was the last owes what is on its way out.
pub given_owed : (holds left owes after out : ℕ) → owes ≡ due holds out → holds ≡ left + 1 → after ≡ owes + due left out → after ≡ due left out
given_owed holds left owes after out owed less last = grind (arith, nat_tests)

-- ---- lists

-- Of the members that pass a test by their number.
pub times_filter : (x : ℕ) (f : ℕ → Bool) (xs : List ℕ) → times x (filter f xs) ≡ (if f x then times x xs else 0)
times_filter x f [] = elim (f x) as (λ b. ◌≡◌ {A = ℕ} 0 (if b then 0 else 0)) [ true ↦ refl | false ↦ refl ]
times_filter x f (y ∷ ys) =
    let later : times x (filter f ys) ≡ (if f x then times x ys else 0) = times_filter x f ys in
    elim (cases_eq y x) [
      | inl same ↦
          let whole : times x (y ∷ ys) ≡ suc (times x ys) = rw (eq-eqb y x same) refl in
          let more : times x (y ∷ filter f ys) ≡ suc (times x (filter f ys)) = rw (eq-eqb y x same) refl in
          elim (f y) as (λ b. f y ≡ b → times x (if b then y ∷ filter f ys else filter f ys) ≡ (if f x then times x (y ∷ ys) else 0)) [
            | true ↦ λ yes. (let also : f x ≡ true = sym (ap f same) ∙ yes in rw also (more ∙ ap suc (later ∙ rw also refl) ∙ sym whole))
            | false ↦ λ no. (let also : f x ≡ false = sym (ap f same) ∙ no in rw also (later ∙ rw also refl))
          ] refl
      | inr other ↦
          let skip : times x (y ∷ ys) ≡ times x ys = rw (ne_eqb y x other) refl in
          let skip_too : times x (y ∷ filter f ys) ≡ times x (filter f ys) = rw (ne_eqb y x other) refl in
          elim (f y) as (λ b. times x (if b then y ∷ filter f ys else filter f ys) ≡ (if f x then times x (y ∷ ys) else 0)) [
            | true ↦ rw skip (skip_too ∙ later)
            | false ↦ rw skip later
          ]
    ]

-- ---- a sum over all lanes, of which one changed

module _ {X : Type 0} where
  pub total_changed_at : (f : X → ℕ) (xs : List X) (i : ℕ) (was now : X) → slice_get xs i ≡ Some was → total f (slice_set xs i now) + f was ≡ total f xs + f now
  total_changed_at f [] i was now at = cc
  total_changed_at f (x ∷ xs) zero was now at = let its : x ≡ was = cc in let same : f x ≡ f was = ap f its in omega arith
  total_changed_at f (x ∷ xs) (suc i) was now at = let later : total f (slice_set xs i now) + f was ≡ total f xs + f now = total_changed_at f xs i was now at in omega arith

  pub part_of_total : (f : X → ℕ) (xs : List X) (i : ℕ) (x : X) → slice_get xs i ≡ Some x → f x ≤ total f xs
  part_of_total f [] i x at = cc
  part_of_total f (y ∷ xs) zero x at = let its : y ≡ x = cc in let same : f y ≡ f x = ap f its in omega arith
  part_of_total f (y ∷ xs) (suc i) x at = let later : f x ≤ total f xs = part_of_total f xs i x at in omega arith
