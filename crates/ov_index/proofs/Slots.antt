-- The members of a list with holes: the one that fits is found, changed or taken out where it stands.
use Rattle.std.proofs.Common.{ℕ, ◌<◌, ◌≤◌, ◌≡◌, ◌∙◌, refl, ap, sym, List, [], ◌∷◌, ◌++◌, length, zero, suc, Bool, true, false, ◌||◌, arith, inl, inr, ◌⊎◌}
use Rattle.std.specs.Prelude.{Option, Some, None, find, slice_get, slice_set}
use Rattle.std.specs.List.{list_any}
use Rattle.ov_model.specs.Tables.{change_first, without_first}
use Rattle.std.proofs.lemmas.Option.{slice_get_within}
use Rattle.ov_index.specs.Index.{present, standing, standing_in}

-- ---- reading what was written

pub get_set_same : {X : Type 0} (xs : List X) (k : ℕ) (x y : X) → slice_get xs k ≡ Some y → slice_get (slice_set xs k x) k ≡ Some x
get_set_same [] k x y at = absurd (let e : ◌≡◌ None (Some y) = at in cc)
get_set_same (z ∷ xs) zero x y at = refl
get_set_same (z ∷ xs) (suc k) x y at = get_set_same xs k x y at

pub get_set_other : {X : Type 0} (xs : List X) (k j : ℕ) (x : X) → (j ≡ k → ⊥) → slice_get (slice_set xs k x) j ≡ slice_get xs j
get_set_other [] k j x other = refl
get_set_other (z ∷ xs) zero zero x other = absurd (other refl)
get_set_other (z ∷ xs) zero (suc j) x other = refl
get_set_other (z ∷ xs) (suc k) zero x other = refl
get_set_other (z ∷ xs) (suc k) (suc j) x other = get_set_other xs k j x (λ same. other (ap suc same))

pub get_more : {X : Type 0} (xs : List X) (x y : X) (j : ℕ) → slice_get xs j ≡ Some y → slice_get (xs ++ x ∷ []) j ≡ Some y
get_more [] x y j at = absurd (let e : ◌≡◌ None (Some y) = at in cc)
get_more (z ∷ xs) x y zero at = at
get_more (z ∷ xs) x y (suc j) at = get_more xs x y j at

pub get_last : {X : Type 0} (xs : List X) (x : X) → slice_get (xs ++ x ∷ []) (length xs) ≡ Some x
get_last [] x = refl
get_last (z ∷ xs) x = get_last xs x

pub get_cases : {X : Type 0} (xs : List X) (x y : X) (j : ℕ) → slice_get (xs ++ x ∷ []) j ≡ Some y → (slice_get xs j ≡ Some y) ⊎ ((j ≡ length xs) × (x ≡ y))
get_cases [] x y zero at = inr (refl, (let e : Some x ≡ Some y = at in cc))
get_cases [] x y (suc j) at = absurd (let e : ◌≡◌ None (Some y) = at in cc)
get_cases (z ∷ xs) x y zero at = inl at
get_cases (z ∷ xs) x y (suc j) at = elim (get_cases xs x y j at) [ inl old ↦ inl old | inr new ↦ inr (ap suc new.0, new.1) ]

-- ---- the one that fits

-- A member that fits, and no other does.
pub record At {X : Type 0} (fits : X → Bool) (slots : List (Option X)) (k : ℕ) (x : X) : Type 0 where
  pub any : list_any fits (present slots) ≡ true
  pub found : find fits (present slots) ≡ Some x
  pub changed : (change : X → X) → change_first fits change (present slots) ≡ present (slice_set slots k (Some (change x)))
  pub without : without_first fits (present slots) ≡ present (slice_set slots k None)

abbrev pub Only : {X : Type 0} → (X → Bool) → List (Option X) → ℕ → Type 0
Only {X} fits slots k = (j : ℕ) (y : X) → slice_get slots j ≡ Some (Some y) → fits y ≡ true → j ≡ k

pub at_slot : {X : Type 0} (fits : X → Bool) (slots : List (Option X)) (k : ℕ) (x : X) → slice_get slots k ≡ Some (Some x) → fits x ≡ true → Only fits slots k → At fits slots k x
at_slot fits [] k x at fit only = absurd (let e : ◌≡◌ None (Some (Some x)) = at in cc)
at_slot fits (None ∷ slots) zero x at fit only = absurd (let e : ◌≡◌ (Some None) (Some (Some x)) = at in cc)
at_slot fits (Some y ∷ slots) zero x at fit only =
    let same : y ≡ x = (let e : ◌≡◌ (Some (Some y)) (Some (Some x)) = at in cc) in
    let here : fits y ≡ true = ap fits same ∙ fit in
    record { any = rw here refl; found = rw here (ap Some same); changed = λ change. rw here (ap (λ z. change z ∷ present slots) same); without = rw here refl }
at_slot fits (None ∷ slots) (suc k) x at fit only =
    let later : At fits slots k x = at_slot fits slots k x at fit (λ j y is its. let e : suc j ≡ suc k = only (suc j) y is its in cc) in
    record { any = later.any; found = later.found; changed = later.changed; without = later.without }
at_slot {X} fits (Some y ∷ slots) (suc k) x at fit only =
    let later : At fits slots k x = at_slot fits slots k x at fit (λ j z is its. let e : suc j ≡ suc k = only (suc j) z is its in cc) in
    elim (fits y) as (λ b. fits y ≡ b → At fits (Some y ∷ slots) (suc k) x) [
      | true ↦ λ here. absurd (let e : zero ≡ suc k = only 0 y refl here in cc)
      | false ↦ λ no. record {
        any = rw no later.any;
        found = rw no later.found;
        changed = λ change. rw no (ap (λ ys. y ∷ ys) (later.changed change));
        without = rw no (ap (λ ys. y ∷ ys) later.without);
      }
    ] refl

-- No member fits.
pub record Nowhere {X : Type 0} (fits : X → Bool) (slots : List (Option X)) : Type 0 where
  pub any : list_any fits (present slots) ≡ false
  pub found : find fits (present slots) ≡ None
  pub same : (change : X → X) → change_first fits change (present slots) ≡ present slots
  pub without : without_first fits (present slots) ≡ present slots

pub nowhere : {X : Type 0} (fits : X → Bool) (slots : List (Option X)) → ((j : ℕ) (y : X) → slice_get slots j ≡ Some (Some y) → fits y ≡ true → ⊥) → Nowhere fits slots
nowhere fits [] none = record { any = refl; found = refl; same = λ change. refl; without = refl }
nowhere fits (None ∷ slots) none =
    let later : Nowhere fits slots = nowhere fits slots (λ j y is. none (suc j) y is) in
    record { any = later.any; found = later.found; same = later.same; without = later.without }
nowhere fits (Some x ∷ slots) none =
    let later : Nowhere fits slots = nowhere fits slots (λ j y is. none (suc j) y is) in
    elim (fits x) as (λ b. fits x ≡ b → Nowhere fits (Some x ∷ slots)) [
      | true ↦ λ here. absurd (none 0 x refl here)
      | false ↦ λ no. record {
        any = rw no later.any;
        found = rw no later.found;
        same = λ change. rw no (ap (λ ys. x ∷ ys) (later.same change));
        without = rw no (ap (λ ys. x ∷ ys) later.without);
      }
    ] refl

-- What is found stands at a place.
pub record Stands {X : Type 0} (fits : X → Bool) (slots : List (Option X)) : Type 0 where
  pub place : ℕ
  pub item : X
  pub at : slice_get slots place ≡ Some (Some item)
  pub is : fits item ≡ true

pub stands : {X : Type 0} (fits : X → Bool) (slots : List (Option X)) → list_any fits (present slots) ≡ true → Stands fits slots
stands fits [] any = absurd (let e : ◌≡◌ {A = Bool} false true = any in cc)
stands fits (None ∷ slots) any = let later : Stands fits slots = stands fits slots any in record { place = suc later.place; item = later.item; at = later.at; is = later.is }
stands fits (Some x ∷ slots) any =
    elim (fits x) as (λ b. fits x ≡ b → (b || list_any fits (present slots)) ≡ true → Stands fits (Some x ∷ slots)) [
      | true ↦ λ here any. record { place = 0; item = x; at = refl; is = here }
      | false ↦ λ no any. let later : Stands fits slots = stands fits slots any in record { place = suc later.place; item = later.item; at = later.at; is = later.is }
    ] refl any

pub present_more : {X : Type 0} (slots : List (Option X)) (x : X) → present (slots ++ Some x ∷ []) ≡ present slots ++ x ∷ []
present_more [] x = refl
present_more (None ∷ slots) x = present_more slots x
present_more (Some y ∷ slots) x = ap (λ ys. y ∷ ys) (present_more slots x)

-- ---- places

pub standing_past : {X : Type 0} (xs : List (Option X)) (k : ℕ) → length xs ≤ k → standing xs k ≡ None
standing_past [] k past = refl
standing_past (x ∷ xs) zero past = absurd (omega arith)
standing_past (x ∷ xs) (suc k) past = standing_past xs k (omega arith)

pub set_past : {X : Type 0} (xs : List X) (k : ℕ) (x : X) → length xs ≤ k → slice_set xs k x ≡ xs
set_past [] k x past = refl
set_past (y ∷ xs) zero x past = absurd (omega arith)
set_past (y ∷ xs) (suc k) x past = ap (λ ys. y ∷ ys) (set_past xs k x (omega arith))

-- Who stands there stands there.
pub standing_at : {X : Type 0} (xs : List (Option X)) (k : ℕ) (x : X) → standing xs k ≡ Some x → slice_get xs k ≡ Some (Some x)
standing_at {X} xs k x is =
    elim (slice_get xs k) as (λ o. standing_in o ≡ Some x → o ≡ Some (Some x)) [
      | None ↦ λ e. absurd (let e : ◌≡◌ None (Some x) = e in cc)
      | Some o ↦ λ e. ap Some e
    ] is

pub standing_is : {X : Type 0} (xs : List (Option X)) (k : ℕ) (x : X) → slice_get xs k ≡ Some (Some x) → standing xs k ≡ Some x
standing_is xs k x is = ap standing_in is

pub standing_within : {X : Type 0} (xs : List (Option X)) (k : ℕ) (x : X) → standing xs k ≡ Some x → k < length xs
standing_within xs k x is = slice_get_within xs k (Some x) (standing_at xs k x is)

pub set_set : {X : Type 0} (xs : List X) (k : ℕ) (x y : X) → slice_set (slice_set xs k x) k y ≡ slice_set xs k y
set_set [] k x y = refl
set_set (z ∷ xs) zero x y = refl
set_set (z ∷ xs) (suc k) x y = ap (λ ys. z ∷ ys) (set_set xs k x y)

-- A hole that is made where nobody stands changes nobody.
pub hole_where_none : {X : Type 0} (xs : List (Option X)) (k : ℕ) → standing xs k ≡ None → slice_set xs k None ≡ xs
hole_where_none [] k none = refl
hole_where_none (x ∷ xs) zero none = ap (λ o. o ∷ xs) (sym none)
hole_where_none (x ∷ xs) (suc k) none = ap (λ ys. x ∷ ys) (hole_where_none xs k none)
