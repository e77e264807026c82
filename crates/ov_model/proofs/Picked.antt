-- Members that are named by their positions: they stay as the list grows, and all positions of a test's members pick what the test keeps.
use Rattle.std.proofs.Common.{ℕ, ◌≡◌, ◌≢◌, ◌+◌, ◌≤◌, ◌<◌, List, [], ◌∷◌, ◌++◌, length, zero, suc, refl, sym, ◌∙◌, ap, Bool, true, false, append_assoc, arith, inl, inr, ◌==◌}
use Rattle.std.specs.Prelude.{filter, map, if◌then◌else◌}
use Rattle.std.specs.List.{AllByRecursion}
use Rattle.std.proofs.lemmas.Bool.{cases_eq, eq-eqb, ne_eqb}
use Rattle.std.proofs.lemmas.Bool.Decides.{nat_tests}
use mathlib.Core.Option.{Option, none, some, some-ne-none}
use lib.ListN.{get_elem?}
use Rattle.ov_base.specs.Sums.{count_of, between}
use Rattle.ov_model.specs.Own.{if_any, picked, positions, times_at, AreAll, RiseFrom}

-- ---- positions

abbrev pub bit : Bool → ℕ
bit b = if b then 1 else 0

-- Positions one lower.
abbrev lower : ℕ → ℕ
lower zero = zero
lower (suc p) = p

abbrev down : List ℕ → List ℕ
down ps = map lower ps

rise_down : (b : ℕ) (ps : List ℕ) → RiseFrom (suc b) ps → RiseFrom b (down ps)
rise_down b [] rise = tt
rise_down b (zero ∷ ps) rise = absurd (let above : suc b ≤ 0 = rise.0 in omega arith)
rise_down b (suc p ∷ ps) rise = (let above : suc b ≤ suc p = rise.0 in omega arith, rise_down (suc p) ps rise.1)

one_lower : (p q : ℕ) → ◌≡◌ {A = ℕ} (if p == q then 1 else 0) (if suc p == suc q then 1 else 0)
one_lower p q = grind (arith, nat_tests)

count_down : (q b : ℕ) (ps : List ℕ) → RiseFrom (suc b) ps → count_of q (down ps) ≡ count_of (suc q) ps
count_down q b [] rise = refl
count_down q b (zero ∷ ps) rise = absurd (let above : suc b ≤ 0 = rise.0 in omega arith)
count_down q b (suc p ∷ ps) rise = rw (one_lower p q, count_down q (suc p) ps rise.1) refl

none_below : (q b : ℕ) (ps : List ℕ) → RiseFrom b ps → q < b → count_of q ps ≡ 0
none_below q b [] rise below = refl
none_below q b (p ∷ ps) rise below =
    let above : b ≤ p = rise.0 in
    rw (ne_eqb p q (λ e. absurd (omega arith)), none_below q (suc p) ps rise.1 (omega arith)) refl

first_zero : (q : ℕ) (ps : List ℕ) → count_of (suc q) ps ≡ count_of (suc q) (0 ∷ ps)
first_zero q ps = rw (ne_eqb 0 (suc q) (λ e. absurd (omega arith))) (omega arith)

not_passing : (b : Bool) → 0 ≡ bit b → b ≡ false
not_passing true is = absurd (omega arith)
not_passing false is = refl

passing : (b : Bool) → 1 ≡ bit b → b ≡ true
passing true one = refl
passing false one = absurd (omega arith)

if_none : (b : Bool) → ◌≡◌ {A = ℕ} 0 (if b then 0 else 0)
if_none true = refl
if_none false = refl

once_here : (b : Bool) (p n times : ℕ) → (b ≡ true → p < n) → times ≡ between 0 n p → (if b then times else 0) ≡ bit b
once_here true p n times within once = let below : p < n = within refl in grind (arith, nat_tests)
once_here false p n times within once = refl

module _ {X : Type 0} where
  -- ---- a list that grows

  pub elem_within : (xs : List X) (p : ℕ) (x : X) → get_elem? xs p ≡ some x → p < length xs
  elem_within [] p x at = absurd (some-ne-none x (sym at))
  elem_within (y ∷ xs) zero x at = omega arith
  elem_within (y ∷ xs) (suc p) x at = omega (arith, elem_within xs p x at)

  elem_front : (xs ys : List X) (p : ℕ) → p < length xs → get_elem? (xs ++ ys) p ≡ get_elem? xs p
  elem_front [] ys p below = absurd (omega arith)
  elem_front (x ∷ xs) ys zero below = refl
  elem_front (x ∷ xs) ys (suc p) below = elem_front xs ys p (omega arith)

  pub picked_front : (xs ys : List X) (ps : List ℕ) → AllByRecursion (λ p. p < length xs) ps → picked (xs ++ ys) ps ≡ picked xs ps
  picked_front xs ys [] below = refl
  picked_front xs ys (p ∷ ps) below = rw (elem_front xs ys p below.0, picked_front xs ys ps below.1) refl

  pub picked-append : (xs : List X) (ps qs : List ℕ) → picked xs (ps ++ qs) ≡ picked xs ps ++ picked xs qs
  picked-append xs [] qs = refl
  picked-append xs (p ∷ ps) qs = rw (picked-append xs ps qs) (sym (append_assoc (if_any (get_elem? xs p)) (picked xs ps) (picked xs qs)))

  -- ---- all positions of what passes a test

  -- Whether a member passes, where there is one.
  abbrev pub at_passes : (X → Bool) → Option X → Bool
  at_passes test none = false
  at_passes test (some x) = test x

  picked_down : (x : X) (xs : List X) (b : ℕ) (ps : List ℕ) → RiseFrom (suc b) ps → picked (x ∷ xs) ps ≡ picked xs (down ps)
  picked_down x xs b [] rise = refl
  picked_down x xs b (zero ∷ ps) rise = absurd (let above : suc b ≤ 0 = rise.0 in omega arith)
  picked_down x xs b (suc p ∷ ps) rise = ap (λ l. if_any (get_elem? xs p) ++ l) (picked_down x xs (suc p) ps rise.1)

  -- The first member is picked exactly where it passes; `later` is of the others.
  first_picked : (test : X → Bool) (x : X) (xs : List X) (ps : List ℕ) → ((qs : List ℕ) → RiseFrom 1 qs → ((p : ℕ) → count_of (suc p) qs ≡ bit (at_passes test (get_elem? xs p))) → picked (x ∷ xs) qs ≡ filter test xs)
      → RiseFrom 0 ps → ((p : ℕ) → count_of p ps ≡ bit (at_passes test (get_elem? (x ∷ xs) p))) → picked (x ∷ xs) ps ≡ filter test (x ∷ xs)
  first_picked test x xs [] later rise count = rw (not_passing (test x) (count 0)) (later [] tt (λ p. count (suc p)))
  first_picked test x xs (zero ∷ ps) later rise count =
      let none : count_of 0 ps ≡ 0 = none_below 0 1 ps rise.1 (omega arith) in
      let one : 1 + count_of 0 ps ≡ bit (test x) = count 0 in
      let yes : test x ≡ true = passing (test x) (let e : 1 ≡ 1 + count_of 0 ps = omega arith in e ∙ one) in
      rw yes (ap (λ l. x ∷ l) (later ps rise.1 (λ p. first_zero p ps ∙ count (suc p))))
  first_picked test x xs (suc p ∷ ps) later rise count =
      let above : RiseFrom 1 (suc p ∷ ps) = (omega arith, rise.1) in
      let no : test x ≡ false = not_passing (test x) (sym (none_below 0 1 (suc p ∷ ps) above (omega arith)) ∙ count 0) in
      rw no (later (suc p ∷ ps) above (λ q. count (suc q)))

  pub picked_filter : (test : X → Bool) (xs : List X) (ps : List ℕ) → RiseFrom 0 ps → ((p : ℕ) → count_of p ps ≡ bit (at_passes test (get_elem? xs p))) → picked xs ps ≡ filter test xs
  picked_filter test [] [] rise count = refl
  picked_filter test [] (p ∷ ps) rise count =
      let here : (p == p) ≡ true = eq-eqb p p refl in
      let one : (if p == p then 1 else 0) + count_of p ps ≡ 0 = count p in
      absurd (grind (arith, nat_tests))
  picked_filter test (x ∷ xs) ps rise count =
      first_picked test x xs ps (λ qs above later. picked_down x xs 0 qs above ∙ picked_filter test xs (down qs) (rise_down 0 qs above) (λ p. count_down p 0 qs above ∙ later p)) rise count

  -- ---- members that are named with their positions

  count-positions : (p : ℕ) (own : List (ℕ × X)) → count_of p (positions own) ≡ times_at p own
  count-positions p [] = refl
  count-positions p (e ∷ own) = rw (count-positions p own) refl

  -- One more named member, at the position or at another.
  kept_here : (keeps : (ℕ × X) → Bool) (p : ℕ) (e : ℕ × X) (own : List (ℕ × X)) (b : Bool) → keeps e ≡ b → e.0 ≡ p → count_of p (positions (filter keeps own)) ≡ (if b then times_at p own else 0)
      → count_of p (positions (if b then e ∷ filter keeps own else filter keeps own)) ≡ (if b then times_at p (e ∷ own) else 0)
  kept_here keeps p e own true is same rest = rw (eq-eqb e.0 p same, rest) refl
  kept_here keeps p e own false is same rest = rest

  passed_there : (keeps : (ℕ × X) → Bool) (p : ℕ) (e : ℕ × X) (own : List (ℕ × X)) (b : Bool) → e.0 ≢ p → count_of p (positions (filter keeps own)) ≡ (if b then times_at p own else 0)
      → count_of p (positions (filter keeps (e ∷ own))) ≡ (if b then times_at p (e ∷ own) else 0)
  passed_there keeps p e own b other later =
      let none : times_at p (e ∷ own) ≡ times_at p own = rw (ne_eqb e.0 p other) (omega arith) in
      let rest : count_of p (positions (filter keeps (e ∷ own))) ≡ count_of p (positions (filter keeps own)) = elim (keeps e) as (λ k. count_of p (positions (if k then e ∷ filter keeps own else filter keeps own)) ≡ count_of p (positions (filter keeps own))) [
        | true ↦ rw (ne_eqb e.0 p other) (omega arith)
        | false ↦ refl
      ] in
      rest ∙ later ∙ ap (λ n. if b then n else 0) (sym none)

  -- Of the members that are named at a position those that pass are all, or none.
  count_tested : (test : X → Bool) (xs : List X) (p : ℕ) (own : List (ℕ × X)) → AllByRecursion (λ e. get_elem? xs e.0 ≡ some e.1) own
      → count_of p (positions (filter (λ e. test e.1) own)) ≡ (if at_passes test (get_elem? xs p) then times_at p own else 0)
  count_tested test xs p [] members = if_none (at_passes test (get_elem? xs p))
  count_tested test xs p (e ∷ own) members =
      let later = count_tested test xs p own members.1 in
      elim (cases_eq e.0 p) [
        | inl same ↦ let its : get_elem? xs p ≡ some e.1 = sym (ap (get_elem? xs) same) ∙ members.0 in
            let rest : count_of p (positions (filter (λ e. test e.1) own)) ≡ (if test e.1 then times_at p own else 0) = later ∙ ap (λ o. if at_passes test o then times_at p own else 0) its in
            rw its (kept_here (λ e. test e.1) p e own (test e.1) refl same rest)
        | inr other ↦ passed_there (λ e. test e.1) p e own (at_passes test (get_elem? xs p)) other later
      ]

  within_passes : (test : X → Bool) (xs : List X) (p : ℕ) → at_passes test (get_elem? xs p) ≡ true → p < length xs
  within_passes test [] p passes = absurd (cc)
  within_passes test (x ∷ xs) zero passes = omega arith
  within_passes test (x ∷ xs) (suc p) passes = omega (arith, within_passes test xs p passes)

module _ {X Y : Type 0} where
  -- Where a whole list is named, those that pass a test pick what the test keeps of a list along it.
  pub picked_along : (test : X → Bool) (other : Y → Bool) (xs : List X) (ys : List Y) (own : List (ℕ × X)) → ((p : ℕ) → at_passes test (get_elem? xs p) ≡ at_passes other (get_elem? ys p)) → AreAll xs own → RiseFrom 0 (positions (filter (λ e. test e.1) own)) → picked ys (positions (filter (λ e. test e.1) own)) ≡ filter other ys
  picked_along test other xs ys own along all rise = picked_filter other ys (positions (filter (λ e. test e.1) own)) rise
      (λ p. count_tested test xs p own all.members ∙ once_here (at_passes test (get_elem? xs p)) p (length xs) (times_at p own) (within_passes test xs p) (all.once p) ∙ ap bit (along p))

-- The same of the list itself.
pub picked_whole : {X : Type 0} (test : X → Bool) (xs : List X) (own : List (ℕ × X)) → AreAll xs own → RiseFrom 0 (positions (filter (λ e. test e.1) own)) → picked xs (positions (filter (λ e. test e.1) own)) ≡ filter test xs
picked_whole test xs own all rise = picked_along test test xs xs own (λ p. refl) all rise
