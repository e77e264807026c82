-- The first member of a list that fits: it is found, changed, or taken out.
use Rattle.std.proofs.Common.{ℕ, ◌≡◌, ◌+◌, List, [], ◌∷◌, refl, ap, subst, Bool, true, false, arith, if◌then◌else◌, ◌==◌, ◌||◌, sym, ◌∙◌, inl, inr, ◌⊎◌}
use Rattle.std.specs.Prelude.{map, find, Some}
use Rattle.std.specs.List.{AllByRecursion, list_any}
use Rattle.std.proofs.lemmas.Bool.{cases_eq, eq-eqb, ne_eqb}
use Rattle.std.proofs.lemmas.Bool.Decides.{nat_tests}
use Rattle.ov_base.specs.Sums.{total}
use Rattle.ov_model.specs.Tables.{change_first, without_first}
use Rattle.ov_model.specs.Removals.{times}
use Rattle.ov_model.proofs.Times.{times_first}

-- It is the head, or it is found behind it.
first_cases : {X : Type 0} (fits : X → Bool) (y : X) (ys : List X) (x : X) → find fits (y ∷ ys) ≡ Some x → ((fits y ≡ true) × (y ≡ x)) ⊎ ((fits y ≡ false) × (find fits ys ≡ Some x))
first_cases {X} fits y ys x found =
    elim (fits y) as (λ b. fits y ≡ b → (if b then Some y else find fits ys) ≡ Some x → ((fits y ≡ true) × (y ≡ x)) ⊎ ((fits y ≡ false) × (find fits ys ≡ Some x))) [
      | true ↦ λ yes is. inl (yes, (let e : Some y ≡ Some x = is in cc))
      | false ↦ λ no is. inr (no, is)
    ] refl found

-- What is found fits.
pub found_fits : {X : Type 0} (fits : X → Bool) (xs : List X) (x : X) → find fits xs ≡ Some x → fits x ≡ true
found_fits fits [] x found = cc
found_fits fits (y ∷ ys) x found =
    elim (first_cases fits y ys x found) [ inl here ↦ subst (λ z. fits z ≡ true) here.1 here.0 | inr later ↦ found_fits fits ys x later.1 ]

-- What is found by a number has it.
pub found_of : {X : Type 0} (f : X → ℕ) (n : ℕ) (xs : List X) (x : X) → find (λ y. f y == n) xs ≡ Some x → f x ≡ n
found_of f n xs x found = let fits : (f x == n) ≡ true = found_fits (λ y. f y == n) xs x found in grind (arith, nat_tests)

-- ---- what holds of all members

pub all_found : {X : Type 0} (P : X → Type 0) (fits : X → Bool) (xs : List X) (x : X) → find fits xs ≡ Some x → AllByRecursion P xs → P x
all_found P fits [] x found all = cc
all_found P fits (y ∷ ys) x found all =
    elim (first_cases fits y ys x found) [ inl here ↦ subst P here.1 all.0 | inr later ↦ all_found P fits ys x later.1 all.1 ]

pub all_without : {X : Type 0} (P : X → Type 0) (fits : X → Bool) (xs : List X) → AllByRecursion P xs → AllByRecursion P (without_first fits xs)
all_without P fits [] all = tt
all_without P fits (x ∷ xs) all =
    elim (fits x) as (λ b. AllByRecursion P (if b then xs else x ∷ without_first fits xs)) [ true ↦ all.1 | false ↦ (all.0, all_without P fits xs all.1) ]

pub all_changed : {X : Type 0} (P : X → Type 0) (fits : X → Bool) (change : X → X) (xs : List X) → ((x : X) → P x → P (change x)) → AllByRecursion P xs → AllByRecursion P (change_first fits change xs)
all_changed P fits change [] keeps all = tt
all_changed P fits change (x ∷ xs) keeps all =
    elim (fits x) as (λ b. AllByRecursion P (if b then change x ∷ xs else x ∷ change_first fits change xs)) [ true ↦ (keeps x all.0, all.1) | false ↦ (all.0, all_changed P fits change xs keeps all.1) ]

-- What a change keeps of a member.
pub map_changed : {X Y : Type 0} (f : X → Y) (fits : X → Bool) (change : X → X) (xs : List X) → ((x : X) → f (change x) ≡ f x) → map f (change_first fits change xs) ≡ map f xs
map_changed f fits change [] keeps = refl
map_changed f fits change (x ∷ xs) keeps =
    elim (fits x) as (λ b. map f (if b then change x ∷ xs else x ∷ change_first fits change xs) ≡ map f (x ∷ xs)) [
      | true ↦ ap (λ y. y ∷ map f xs) (keeps x)
      | false ↦ ap (λ ys. f x ∷ ys) (map_changed f fits change xs keeps)
    ]

-- ---- sums

pub total_without : {X : Type 0} (f : X → ℕ) (fits : X → Bool) (xs : List X) (x : X) → find fits xs ≡ Some x → total f (without_first fits xs) + f x ≡ total f xs
total_without f fits [] x found = cc
total_without f fits (y ∷ ys) x found =
    elim (first_cases fits y ys x found) [
      | inl here ↦ rw (here.0, here.1) (omega arith)
      | inr later ↦ rw later.0 (let rest : total f (without_first fits ys) + f x ≡ total f ys = total_without f fits ys x later.1 in omega arith)
    ]

pub total_changed : {X : Type 0} (f : X → ℕ) (fits : X → Bool) (change : X → X) (xs : List X) (x : X) → find fits xs ≡ Some x → total f (change_first fits change xs) + f x ≡ total f xs + f (change x)
total_changed f fits change [] x found = cc
total_changed f fits change (y ∷ ys) x found =
    elim (first_cases fits y ys x found) [
      | inl here ↦ rw (here.0, here.1) (omega arith)
      | inr later ↦ rw later.0 (let rest : total f (change_first fits change ys) + f x ≡ total f ys + f (change x) = total_changed f fits change ys x later.1 in omega arith)
    ]

pub total_kept : {X : Type 0} (f : X → ℕ) (fits : X → Bool) (change : X → X) (xs : List X) → ((x : X) → f (change x) ≡ f x) → total f (change_first fits change xs) ≡ total f xs
total_kept f fits change [] keeps = refl
total_kept f fits change (x ∷ xs) keeps =
    elim (fits x) as (λ b. total f (if b then change x ∷ xs else x ∷ change_first fits change xs) ≡ total f (x ∷ xs)) [
      | true ↦ ap (λ n. n + total f xs) (keeps x)
      | false ↦ ap (λ n. f x + n) (total_kept f fits change xs keeps)
    ]

pub times_total : {X : Type 0} (f : X → ℕ) (x : ℕ) (ps : List X) → times x (map f ps) ≡ total (λ p. times x (f p ∷ [])) ps
times_total f x [] = refl
times_total f x (p ∷ ps) = times_first x (f p) (map f ps) ∙ ap (λ n. times x (f p ∷ []) + n) (times_total f x ps)

-- ---- by a number

abbrev pub is_of : {X : Type 0} → (X → ℕ) → ℕ → X → Bool
is_of f serial p = f p == serial

pub later_any : (b c : Bool) → b ≡ false → (b || c) ≡ true → c ≡ true
later_any b c first any = sym (ap (λ d. d || c) first) ∙ any

pub counts_without : {X : Type 0} (f : X → ℕ) (x serial : ℕ) (ps : List X) → list_any (is_of f serial) ps ≡ true → times x (map f (without_first (is_of f serial) ps)) + times x (serial ∷ []) ≡ times x (map f ps)
counts_without f x serial [] any = cc
counts_without f x serial (p ∷ ps) any =
    let all : times x (f p ∷ map f ps) ≡ times x (f p ∷ []) + times x (map f ps) = times_first x (f p) (map f ps) in
    elim (cases_eq (f p) serial) [
      | inl same ↦ rw (eq-eqb (f p) serial same, all, same) (omega arith)
      | inr other ↦
          let rest : List ℕ = map f (without_first (is_of f serial) ps) in
          let later : times x rest + times x (serial ∷ []) ≡ times x (map f ps) = counts_without f x serial ps (later_any (f p == serial) _ (ne_eqb (f p) serial other) any) in
          let left : times x (f p ∷ rest) ≡ times x (f p ∷ []) + times x rest = times_first x (f p) rest in
          rw (ne_eqb (f p) serial other, left, all) (omega arith)
    ]
