-- How many stand at the places, as one joins, leaves or comes back.
use Rattle.std.proofs.Common.{ℕ, ◌+◌, ◌≤◌, ◌≡◌, ◌∙◌, refl, ap, Bool, true, false, List, [], ◌∷◌, ◌++◌, length, zero, suc, arith, length-append}
use Rattle.std.specs.Prelude.{Option, Some, None, is_some, slice_get, slice_set}
use Rattle.ov_index.specs.Index.{present}
use Rattle.ov_index.proofs.Slots.{present_more}
use Rattle.ov_index.proofs.Listed.{present_within}

pub one_more : {X : Type 0} (slots : List (Option X)) (x : X) → length (present (slots ++ Some x ∷ [])) ≡ length (present slots) + 1
one_more slots x = ap length (present_more slots x) ∙ length-append (present slots) (x ∷ [])

-- Who comes into a hole is one more.
pub filled : {X : Type 0} (slots : List (Option X)) (k : ℕ) (x : X) → slice_get slots k ≡ Some None → length (present (slice_set slots k (Some x))) ≡ length (present slots) + 1
filled [] k x at = absurd (let e : ◌≡◌ None (Some None) = at in cc)
filled (None ∷ slots) zero x at = omega arith
filled (Some y ∷ slots) zero x at = absurd (let e : ◌≡◌ (Some (Some y)) (Some None) = at in cc)
filled (None ∷ slots) (suc k) x at = filled slots k x at
filled (Some y ∷ slots) (suc k) x at = let later : length (present (slice_set slots k (Some x))) ≡ length (present slots) + 1 = filled slots k x at in omega arith

-- Who comes where one stands takes its place.
pub replaced : {X : Type 0} (slots : List (Option X)) (k : ℕ) (x y : X) → slice_get slots k ≡ Some (Some y) → length (present (slice_set slots k (Some x))) ≡ length (present slots)
replaced [] k x y at = absurd (let e : ◌≡◌ None (Some (Some y)) = at in cc)
replaced (None ∷ slots) zero x y at = absurd (let e : ◌≡◌ (Some None) (Some (Some y)) = at in cc)
replaced (Some z ∷ slots) zero x y at = omega arith
replaced (None ∷ slots) (suc k) x y at = replaced slots k x y at
replaced (Some z ∷ slots) (suc k) x y at = let later : length (present (slice_set slots k (Some x))) ≡ length (present slots) = replaced slots k x y at in omega arith

-- Where there is a hole, fewer stand than there are places.
pub hole_within : {X : Type 0} (slots : List (Option X)) (k : ℕ) → slice_get slots k ≡ Some None → length (present slots) + 1 ≤ length slots
hole_within [] k at = absurd (let e : ◌≡◌ None (Some None) = at in cc)
hole_within (Some y ∷ slots) zero at = absurd (let e : ◌≡◌ (Some (Some y)) (Some None) = at in cc)
hole_within (None ∷ slots) zero at = let within : length (present slots) ≤ length slots = present_within slots in omega arith
hole_within (None ∷ slots) (suc k) at = let later : length (present slots) + 1 ≤ length slots = hole_within slots k at in omega arith
hole_within (Some y ∷ slots) (suc k) at = let later : length (present slots) + 1 ≤ length slots = hole_within slots k at in omega arith

-- Nobody is there, or one is.
pub hole_of : {X : Type 0} (o : Option X) → is_some o ≡ false → o ≡ None
hole_of None is = refl
hole_of (Some x) is = absurd (let e : ◌≡◌ {A = Bool} true false = is in cc)

pub one_of : {X : Type 0} (o : Option X) → is_some o ≡ true → (x : X) × (o ≡ Some x)
one_of None is = absurd (let e : ◌≡◌ {A = Bool} false true = is in cc)
one_of (Some x) is = (x, refl)
