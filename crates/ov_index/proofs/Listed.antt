-- A list of those that are gone goes on saying the truth of its places as one joins and one is taken out.
use Rattle.std.proofs.Common.{ℕ, ◌+◌, ◌<◌, ◌≤◌, ◌≡◌, ◌∙◌, refl, ap, sym, subst, List, [], ◌∷◌, ◌++◌, length, zero, suc, Bool, true, false, if◌then◌else◌, ◌==◌, ◌||◌, arith, inl, inr, length-append}
use Rattle.std.specs.Prelude.{Option, Some, None, slice_get, slice_set}
use Rattle.std.specs.List.{list_any}
use Rattle.std.proofs.lemmas.Bool.{cases_eq}
use Rattle.std.proofs.lemmas.Bool.Decides.{nat_tests}
use Rattle.std.proofs.lemmas.Option.{slice_get-get_or}
use Rattle.ov_index.specs.Index.{present, standing}
use Rattle.ov_index.specs.Gone.{has_number, is_number, place_if, place_in, holes_in_front, IsListed}
use Rattle.ov_model.specs.Tables.{change_first}
use Rattle.ov_index.proofs.Back.{Back, back}
use Rattle.ov_index.proofs.Slots.{get_set_same, get_set_other, get_cases, At, at_slot, Nowhere, nowhere, standing_at, standing_is, present_more}

same_one : {X : Type 0} (x y : X) → Some x ≡ Some y → x ≡ y
same_one x y is = cc

-- ---- the holes in front

-- Behind them stands the first that is there.
pub front_first : {X : Type 0} (slots : List (Option X)) → standing slots (holes_in_front slots) ≡ slice_get (present slots) 0
front_first [] = refl
front_first (None ∷ slots) = front_first slots
front_first (Some x ∷ slots) = refl

front_joined : {X : Type 0} (slots : List (Option X)) (x : X) → holes_in_front (slots ++ Some x ∷ []) ≡ holes_in_front slots
front_joined [] x = refl
front_joined (None ∷ slots) x = ap suc (front_joined slots x)
front_joined (Some y ∷ slots) x = refl

pub front_taken : {X : Type 0} (slots : List (Option X)) (k : ℕ) → holes_in_front slots ≤ holes_in_front (slice_set slots k None)
front_taken [] k = omega arith
front_taken (None ∷ slots) zero = omega arith
front_taken (None ∷ slots) (suc k) = let later : holes_in_front slots ≤ holes_in_front (slice_set slots k None) = front_taken slots k in omega arith
front_taken (Some y ∷ slots) k = omega arith

pub front_within : {X : Type 0} (slots : List (Option X)) → holes_in_front slots ≤ length slots
front_within [] = omega arith
front_within (None ∷ slots) = let later : holes_in_front slots ≤ length slots = front_within slots in omega arith
front_within (Some y ∷ slots) = omega arith

-- Who stands at a place is behind them, and a hole that is the next one isn't.
pub front_there : {X : Type 0} (slots : List (Option X)) (k : ℕ) (x : X) → slice_get slots k ≡ Some (Some x) → holes_in_front slots ≤ k
front_there [] k x at = absurd (let e : ◌≡◌ None (Some (Some x)) = at in cc)
front_there (None ∷ slots) zero x at = absurd (let e : ◌≡◌ (Some None) (Some (Some x)) = at in cc)
front_there (None ∷ slots) (suc k) x at = let later : holes_in_front slots ≤ k = front_there slots k x at in omega arith
front_there (Some y ∷ slots) k x at = omega arith

pub front_hole : {X : Type 0} (slots : List (Option X)) (k : ℕ) → k ≤ holes_in_front slots → slice_get slots k ≡ Some None → k < holes_in_front slots
front_hole [] k within at = absurd (let e : ◌≡◌ None (Some None) = at in cc)
front_hole (None ∷ slots) zero within at = omega arith
front_hole (None ∷ slots) (suc k) within at = let later : k < holes_in_front slots = front_hole slots k (omega arith) at in omega arith
front_hole (Some y ∷ slots) zero within at = absurd (let e : ◌≡◌ (Some (Some y)) (Some None) = at in cc)
front_hole (Some y ∷ slots) (suc k) within at = absurd (omega arith)

-- ---- how many are there

pub fewer : {X : Type 0} (slots : List (Option X)) (k : ℕ) (x : X) → slice_get slots k ≡ Some (Some x) → length (present (slice_set slots k None)) + 1 ≡ length (present slots)
fewer [] k x at = absurd (let e : ◌≡◌ None (Some (Some x)) = at in cc)
fewer (None ∷ slots) zero x at = absurd (let e : ◌≡◌ (Some None) (Some (Some x)) = at in cc)
fewer (Some y ∷ slots) zero x at = omega arith
fewer (None ∷ slots) (suc k) x at = fewer slots k x at
fewer (Some y ∷ slots) (suc k) x at = let later : length (present (slice_set slots k None)) + 1 ≡ length (present slots) = fewer slots k x at in omega arith

pub present_within : {X : Type 0} (slots : List (Option X)) → length (present slots) ≤ length slots
present_within [] = omega arith
present_within (None ∷ slots) = let later : length (present slots) ≤ length slots = present_within slots in omega arith
present_within (Some y ∷ slots) = let later : length (present slots) ≤ length slots = present_within slots in omega arith

length_set : {X : Type 0} (xs : List X) (k : ℕ) (x : X) → length (slice_set xs k x) ≡ length xs
length_set [] k x = refl
length_set (y ∷ xs) zero x = refl
length_set (y ∷ xs) (suc k) x = ap suc (length_set xs k x)

nobody_left : {X : Type 0} (xs : List X) → length xs ≡ 0 → xs ≡ []
nobody_left [] none = refl
nobody_left (x ∷ xs) none = absurd (omega arith)

-- Who isn't found isn't there.
not_there : {X : Type 0} (fits : X → Bool) (slots : List (Option X)) (k : ℕ) (x : X) → list_any fits (present slots) ≡ false → slice_get slots k ≡ Some (Some x) → fits x ≡ true → ⊥
not_there fits [] k x none at fit = let e : ◌≡◌ None (Some (Some x)) = at in cc
not_there fits (None ∷ slots) zero x none at fit = let e : ◌≡◌ (Some None) (Some (Some x)) = at in cc
not_there fits (None ∷ slots) (suc k) x none at fit = not_there fits slots k x none at fit
not_there fits (Some y ∷ slots) zero x none at fit =
    let same : y ≡ x = same_one y x (same_one _ _ at) in
    let here : fits y ≡ true = ap fits same ∙ fit in
    let e : (true || list_any fits (present slots)) ≡ false = subst (λ b. (b || list_any fits (present slots)) ≡ false) here none in
    let no : ◌≡◌ {A = Bool} true false = e in cc
not_there {X} fits (Some y ∷ slots) (suc k) x none at fit =
    elim (fits y) as (λ b. (b || list_any fits (present slots)) ≡ false → ⊥) [
      | true ↦ λ e. (let no : ◌≡◌ {A = Bool} true false = e in cc)
      | false ↦ λ none. not_there fits slots k x none at fit
    ] none

-- ---- finding by a serial

-- What a table says, whether or not it has so many places.
leads : {X : Type 0} (f : X → ℕ) (places : List ℕ) (slots : List (Option X)) (front holes serial j : ℕ) (y : X) → IsListed f places slots front holes → slice_get slots j ≡ Some (Some y) → has_number f serial y ≡ true → slice_get places serial ≡ Some j
leads f places slots front holes serial j y is at fit =
    let fit : (f y == serial) ≡ true = fit in
    let own : f y ≡ serial = grind (arith, nat_tests) in
    subst (λ s. slice_get places s ≡ Some j) own (is.known j y at)

pub number_at : {X : Type 0} (f : X → ℕ) (places : List ℕ) (slots : List (Option X)) (front holes serial k : ℕ) (x : X) → IsListed f places slots front holes → slice_get places serial ≡ Some k → standing slots k ≡ Some x → f x ≡ serial → At (has_number f serial) slots k x
number_at f places slots front holes serial k x is leads_to stands own =
    at_slot (has_number f serial) slots k x (standing_at slots k x stands) (rw own (grind (arith, nat_tests)))
    (λ j y at fit. same_one j k (sym (leads f places slots front holes serial j y is at fit) ∙ leads_to))

-- The table has no place for it.
unknown : {X : Type 0} (f : X → ℕ) (places : List ℕ) (slots : List (Option X)) (front holes serial : ℕ) → IsListed f places slots front holes → slice_get places serial ≡ None → Nowhere (has_number f serial) slots
unknown f places slots front holes serial is none = nowhere (has_number f serial) slots (λ j y at fit. let e : ◌≡◌ None (Some j) = sym none ∙ leads f places slots front holes serial j y is at fit in cc)

-- Nobody with this serial stands at its place.
missing : {X : Type 0} (f : X → ℕ) (places : List ℕ) (slots : List (Option X)) (front holes serial k : ℕ) → IsListed f places slots front holes → slice_get places serial ≡ Some k → is_number f serial (standing slots k) ≡ false → Nowhere (has_number f serial) slots
missing f places slots front holes serial k is leads_to none = nowhere (has_number f serial) slots (λ j y at fit.
    let same : j ≡ k = same_one j k (sym (leads f places slots front holes serial j y is at fit) ∙ leads_to) in
    let there : standing slots k ≡ Some y = subst (λ m. standing slots m ≡ Some y) same (standing_is slots j y at) in
    let e : ◌≡◌ {A = Bool} true false = sym fit ∙ sym (ap (is_number f serial) there) ∙ none in cc)

-- One with this serial stands at its place.
is_there : {X : Type 0} (f : X → ℕ) (serial : ℕ) (o : Option X) → is_number f serial o ≡ true → (x : X) × (o ≡ Some x) × (f x ≡ serial)
is_there f serial None is = absurd (let e : ◌≡◌ {A = Bool} false true = is in cc)
is_there f serial (Some x) is = let is : (f x == serial) ≡ true = is in (x, refl, grind (arith, nat_tests))

-- Who was found.
pub record Placed {X : Type 0} (f : X → ℕ) (slots : List (Option X)) (serial k : ℕ) : Type 0 where
  pub item : X
  pub stands : standing slots k ≡ Some item
  pub at : At (has_number f serial) slots k item

place_is : (b : Bool) (m k : ℕ) → (if b then Some m else None) ≡ Some k → (b ≡ true) × (m ≡ k)
place_is true m k is = (refl, same_one m k is)
place_is false m k is = absurd (let e : ◌≡◌ None (Some k) = is in cc)

place_not : (b : Bool) (m : ℕ) → ◌≡◌ {A = Option ℕ} (if b then Some m else None) None → b ≡ false
place_not true m is = absurd (let e : ◌≡◌ {A = Option ℕ} (Some m) None = is in cc)
place_not false m is = refl

pub placed : {X : Type 0} (f : X → ℕ) (places : List ℕ) (slots : List (Option X)) (front holes serial k : ℕ) → IsListed f places slots front holes → place_in f places slots serial ≡ Some k → Placed f slots serial k
placed {X} f places slots front holes serial k is found =
    elim (slice_get places serial) as (λ o. slice_get places serial ≡ o → place_if f slots serial o ≡ Some k → Placed f slots serial k) [
      | None ↦ λ none found. absurd (let e : ◌≡◌ None (Some k) = found in cc)
      | Some m ↦ λ leads_to found.
          let tested = place_is (is_number f serial (standing slots m)) m k found in
          let here : slice_get places serial ≡ Some k = leads_to ∙ ap Some tested.1 in
          let who = is_there f serial (standing slots k) (subst (λ j. is_number f serial (standing slots j) ≡ true) tested.1 tested.0) in
          record { item = who.0; stands = who.1; at = number_at f places slots front holes serial k who.0 is here who.1 who.2 }
    ] refl found

pub not_placed : {X : Type 0} (f : X → ℕ) (places : List ℕ) (slots : List (Option X)) (front holes serial : ℕ) → IsListed f places slots front holes → place_in f places slots serial ≡ None → Nowhere (has_number f serial) slots
not_placed {X} f places slots front holes serial is none =
    elim (slice_get places serial) as (λ o. slice_get places serial ≡ o → place_if f slots serial o ≡ None → Nowhere (has_number f serial) slots) [
      | None ↦ λ no_place none. unknown f places slots front holes serial is no_place
      | Some m ↦ λ leads_to none. missing f places slots front holes serial m is leads_to (place_not (is_number f serial (standing slots m)) m none)
    ] refl none

-- ---- it goes on saying the truth

-- The table has more places.
get_longer : {X : Type 0} (xs ys : List X) (j : ℕ) (y : X) → slice_get xs j ≡ Some y → slice_get (xs ++ ys) j ≡ Some y
get_longer [] ys j y at = absurd (let e : ◌≡◌ None (Some y) = at in cc)
get_longer (x ∷ xs) ys zero y at = at
get_longer (x ∷ xs) ys (suc j) y at = get_longer xs ys j y at

pub more_places : {X : Type 0} (f : X → ℕ) (places more : List ℕ) (slots : List (Option X)) (front holes : ℕ) → IsListed f places slots front holes → IsListed f (places ++ more) slots front holes
more_places f places more slots front holes is = record {
  known = λ k x at. get_longer places more (f x) k (is.known k x at);
  leading = is.leading;
  counted = is.counted;
}

-- One joins.
pub joined : {X : Type 0} (f : X → ℕ) (places : List ℕ) (slots : List (Option X)) (front holes : ℕ) (x : X) → IsListed f places slots front holes → f x < length places → list_any (has_number f (f x)) (present slots) ≡ false → IsListed f (slice_set places (f x) (length slots)) (slots ++ Some x ∷ []) front holes
joined f places slots front holes x is within apart = record {
  known = λ k y at. elim (get_cases slots (Some x) (Some y) k at) [
    | inl old ↦
        let other : f y ≡ f x → ⊥ = λ same. not_there (has_number f (f x)) slots k y apart old (rw same (grind (arith, nat_tests))) in
        get_set_other places (f x) (f y) (length slots) other ∙ is.known k y old
    | inr new ↦
        let who : x ≡ y = same_one x y new.1 in
        let own : slice_get (slice_set places (f x) (length slots)) (f x) ≡ Some (length slots) = get_set_same places (f x) (length slots) _ (slice_get-get_or places (f x) 0 within) in
        subst (λ z. slice_get (slice_set places (f x) (length slots)) (f z) ≡ Some k) who (own ∙ ap Some (sym new.0))
  ];
  leading = is.leading ∙ sym (front_joined slots x);
  counted = (let long : length (present slots ++ x ∷ []) ≡ length (present slots) + 1 = length-append (present slots) (x ∷ []) in let more : length (present (slots ++ Some x ∷ [])) ≡ length (present slots ++ x ∷ []) = ap length (present_more slots x) in let slots_more : length (slots ++ Some x ∷ []) ≡ length slots + 1 = length-append slots (Some x ∷ []) in let was : holes + length (present slots) ≡ length slots = is.counted in omega arith);
}

-- One is taken out.
pub taken : {X : Type 0} (f : X → ℕ) (places : List ℕ) (slots : List (Option X)) (front holes k now more : ℕ) (x : X) → IsListed f places slots front holes → standing slots k ≡ Some x → now ≡ holes_in_front (slice_set slots k None) → more ≡ holes + 1 → IsListed f places (slice_set slots k None) now more
taken f places slots front holes k now more x is stands now_is more_is =
    let at : slice_get slots k ≡ Some (Some x) = standing_at slots k x stands in
    record {
      known = λ j y there. elim (cases_eq j k) [
        | inl same ↦
            let hole : slice_get (slice_set slots k None) k ≡ Some None = get_set_same slots k None (Some x) at in
            let here : slice_get (slice_set slots k None) k ≡ Some (Some y) = subst (λ m. slice_get (slice_set slots k None) m ≡ Some (Some y)) same there in
            absurd (let e : ◌≡◌ (Some None) (Some (Some y)) = sym hole ∙ here in cc)
        | inr other ↦ is.known j y (sym (get_set_other slots k j None other) ∙ there)
      ];
      leading = now_is;
      counted = (let less : length (present (slice_set slots k None)) + 1 ≡ length (present slots) = fewer slots k x at in let was : holes + length (present slots) ≡ length slots = is.counted in let long : length (slice_set slots k None) ≡ length slots = length_set slots k None in omega arith);
    }

-- One is changed and keeps its serial.
front_changed : {X : Type 0} (slots : List (Option X)) (k : ℕ) (x y : X) → slice_get slots k ≡ Some (Some x) → holes_in_front (slice_set slots k (Some y)) ≡ holes_in_front slots
front_changed [] k x y at = refl
front_changed (None ∷ slots) zero x y at = absurd (let e : ◌≡◌ (Some None) (Some (Some x)) = at in cc)
front_changed (None ∷ slots) (suc k) x y at = ap suc (front_changed slots k x y at)
front_changed (Some z ∷ slots) zero x y at = refl
front_changed (Some z ∷ slots) (suc k) x y at = refl

length_present_changed : {X : Type 0} (slots : List (Option X)) (k : ℕ) (x y : X) → slice_get slots k ≡ Some (Some x) → length (present (slice_set slots k (Some y))) ≡ length (present slots)
length_present_changed [] k x y at = refl
length_present_changed (None ∷ slots) zero x y at = absurd (let e : ◌≡◌ (Some None) (Some (Some x)) = at in cc)
length_present_changed (None ∷ slots) (suc k) x y at = length_present_changed slots k x y at
length_present_changed (Some z ∷ slots) zero x y at = refl
length_present_changed (Some z ∷ slots) (suc k) x y at = ap suc (length_present_changed slots k x y at)

pub changed : {X : Type 0} (f : X → ℕ) (places : List ℕ) (slots : List (Option X)) (front holes k : ℕ) (x y : X) → IsListed f places slots front holes → standing slots k ≡ Some x → f y ≡ f x → IsListed f places (slice_set slots k (Some y)) front holes
changed f places slots front holes k x y is stands same_serial =
    let at : slice_get slots k ≡ Some (Some x) = standing_at slots k x stands in
    record {
      known = λ j z there. elim (cases_eq j k) [
        | inl same ↦
            let put : slice_get (slice_set slots k (Some y)) k ≡ Some (Some y) = get_set_same slots k (Some y) (Some x) at in
            let here : slice_get (slice_set slots k (Some y)) k ≡ Some (Some z) = subst (λ m. slice_get (slice_set slots k (Some y)) m ≡ Some (Some z)) same there in
            let who : y ≡ z = same_one y z (same_one _ _ (sym put ∙ here)) in
            ap (slice_get places) (sym (ap f who) ∙ same_serial) ∙ is.known k x at ∙ ap Some (sym same)
        | inr other ↦ is.known j z (sym (get_set_other slots k j (Some y) other) ∙ there)
      ];
      leading = is.leading ∙ sym (front_changed slots k x y at);
      counted = (let same : length (present (slice_set slots k (Some y))) ≡ length (present slots) = length_present_changed slots k x y at in let was : holes + length (present slots) ≡ length slots = is.counted in let long : length (slice_set slots k (Some y)) ≡ length slots = length_set slots k (Some y) in omega arith);
    }

-- The one with a serial is taken out, changed and put back.
pub record Returned {X : Type 0} (f : X → ℕ) (places : List ℕ) (slots left put : List (Option X)) (front holes serial k : ℕ) (change : X → X) : Type 0 where
  pub listed : IsListed f places put front holes
  pub any : list_any (has_number f serial) (present slots) ≡ true
  pub changed : present put ≡ change_first (has_number f serial) change (present slots)

pub returned : {X : Type 0} (f : X → ℕ) (places : List ℕ) (slots left put : List (Option X)) (front holes serial k : ℕ) (change : X → X) (x y : X) → IsListed f places slots front holes → place_in f places slots serial ≡ Some k → standing slots k ≡ Some x
    → left ≡ slice_set slots k None → put ≡ slice_set left k (Some y) → y ≡ change x → f (change x) ≡ f x → Returned f places slots left put front holes serial k change
returned f places slots left put front holes serial k change x y is there stands taken_is put_is change_is same_serial =
    let who = placed f places slots front holes serial k is there in
    let own : who.item ≡ x = same_one who.item x (sym who.stands ∙ stands) in
    let b : Back (has_number f serial) slots put k change x = back (has_number f serial) slots left put k change x y (subst (At (has_number f serial) slots k) own who.at) taken_is put_is change_is in
    record {
      listed = subst (λ s. IsListed f places s front holes) (sym b.items) (changed f places slots front holes k x (change x) is stands same_serial);
      any = b.any;
      changed = b.changed;
    }

-- Where all are holes, nobody is there.
pub all_holes : {X : Type 0} (f : X → ℕ) (places : List ℕ) (slots : List (Option X)) (front holes : ℕ) → IsListed f places slots front holes → holes ≡ length slots → present slots ≡ []
all_holes f places slots front holes is all = nobody_left (present slots) (let was : holes + length (present slots) ≡ length slots = is.counted in omega arith)

-- Nobody is left.
pub emptied : {X : Type 0} (f : X → ℕ) (places : List ℕ) → IsListed f places [] 0 0
emptied f places = record { known = λ k x at. absurd (let e : ◌≡◌ None (Some (Some x)) = at in cc); leading = refl; counted = refl }
