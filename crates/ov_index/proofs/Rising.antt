-- Lists that rise strictly by a number: two with the same members are one, and a sort of members whose numbers differ
-- makes the one that the definition names by insertion.
use Rattle.std.proofs.Common.{zero, suc, ◌<◌, ◌≤◌, ℕ, ◌≡◌, ◌∙◌, refl, ap, ap₂, sym, subst, List, [], ◌∷◌, Bool, true, false, cond, if◌then◌else◌, ◌==◌, arith, inl, inr, ◌⊎◌}
use Rattle.std.specs.Prelude.{⊤, Some, None, map, filter, nat_lt, slice_get}
use Rattle.std.specs.List.{AllByRecursion, IsDistinct}
use Rattle.std.specs.List.Sorted.{IsPermutation, IsNonDecreasingBy}
use Rattle.std.proofs.lemmas.Bool.Decides.{nat_tests}
use Rattle.std.proofs.lemmas.List.Sorted.{IsPermutation-refl, IsPermutation-sym, IsPermutation-cons, IsPermutation-trans, IsPermutation-middle, IsPermutation-map, All-permutation}
use Rattle.std.proofs.lemmas.List.Elements.{All-from_recursion, recursion_from_All}
use Rattle.std.proofs.lemmas.Map.Keys.{IsDistinct-head, IsDistinct-tail, IsDistinct-cons, IsDistinct-IsPermutation}
use Rattle.ov_model.specs.Tables.{Peer, put_by_id, by_rising_id}
use Rattle.ov_index.specs.Index.{present, IsIndex}
use Rattle.ov_index.specs.declared.name.Name.TheVariants.{Id}
use Rattle.ov_index.proofs.Held.{Owner, Homes, Places}

-- A member of a list.
abbrev pub In : {X : Type 0} → X → List X → Type 0
In z [] = ⊥
In z (x ∷ xs) = (z ≡ x) ⊎ In z xs

-- The number of each member is below those of the later ones.
abbrev pub Rises : {X : Type 0} → (X → ℕ) → List X → Type 0
Rises n [] = ⊤
Rises n (x ∷ xs) = AllByRecursion (λ y. n x < n y) xs × Rises n xs

weaker : {X : Type 0} (P Q : X → Type 0) → ((x : X) → P x → Q x) → (xs : List X) → AllByRecursion P xs → AllByRecursion Q xs
weaker P Q f [] all = tt
weaker P Q f (x ∷ xs) all = (f x all.0, weaker P Q f xs all.1)

both : {X : Type 0} (P Q : X → Type 0) (xs : List X) → AllByRecursion P xs → AllByRecursion Q xs → AllByRecursion (λ x. P x × Q x) xs
both P Q [] p q = tt
both P Q (x ∷ xs) p q = ((p.0, q.0), both P Q xs p.1 q.1)

all_in : {X : Type 0} (P : X → Type 0) (xs : List X) (z : X) → AllByRecursion P xs → In z xs → P z
all_in P [] z all there = absurd there
all_in P (x ∷ xs) z all there = elim there [ inl same ↦ subst P (sym same) all.0 | inr later ↦ all_in P xs z all.1 later ]

all_itself : {X : Type 0} (xs : List X) → AllByRecursion (λ z. In z xs) xs
all_itself [] = tt
all_itself (x ∷ xs) = (inl refl, weaker (λ z. In z xs) (λ z. In z (x ∷ xs)) (λ z later. inr later) xs (all_itself xs))

-- What holds of each member holds in any order.
all_moved : {X : Type 0} (P : X → Type 0) (xs ys : List X) → IsPermutation xs ys → AllByRecursion P xs → AllByRecursion P ys
all_moved P xs ys p all = recursion_from_All P ys (All-permutation P xs ys p (All-from_recursion P xs all))

pub in_moved : {X : Type 0} (xs ys : List X) (z : X) → IsPermutation xs ys → In z xs → In z ys
in_moved xs ys z p there = all_in (λ w. In w ys) xs z (all_moved (λ w. In w ys) ys xs (IsPermutation-sym xs ys p) (all_itself ys)) there

-- Two lists that rise strictly and have the same members are equal.
pub rising_once : {X : Type 0} (n : X → ℕ) (xs ys : List X) → Rises n xs → Rises n ys → ((z : X) → In z xs → In z ys) → ((z : X) → In z ys → In z xs) → xs ≡ ys
rising_once n [] [] a b there back = refl
rising_once n [] (y ∷ ys) a b there back = absurd (back y (inl refl))
rising_once n (x ∷ xs) [] a b there back = absurd (there x (inl refl))
rising_once {X} n (x ∷ xs) (y ∷ ys) a b there back =
    let head : x ≡ y = elim (there x (inl refl)) [
      | inl same ↦ same
      | inr later ↦ elim (back y (inl refl)) [
        | inl same ↦ sym same
        | inr other ↦
            let below : n y < n x = all_in (λ z. n y < n z) ys x b.0 later in
            let above : n x < n y = all_in (λ z. n x < n z) xs y a.0 other in
            absurd (omega arith)
      ]
    ] in
    let apart : (z : X) (zs : List X) → AllByRecursion (λ w. n z < n w) zs → In z zs → ⊥ = λ z zs rise in_it. let below : n z < n z = all_in (λ w. n z < n w) zs z rise in_it in absurd (omega arith) in
    let more : (z : X) → In z xs → In z ys = λ z is. elim (there z (inr is)) [
      | inl same ↦ absurd (apart x xs a.0 (subst (λ w. In w xs) (same ∙ sym head) is))
      | inr later ↦ later
    ] in
    let less : (z : X) → In z ys → In z xs = λ z is. elim (back z (inr is)) [
      | inl same ↦ absurd (apart y ys b.0 (subst (λ w. In w ys) (same ∙ head) is))
      | inr later ↦ later
    ] in
    ap₂ (λ w ws. w ∷ ws) head (rising_once n xs ys a.1 b.1 more less)

-- ---- by insertion

abbrev pub same_id : Peer → Peer → Bool
same_id p q = p.id.number == q.id.number

abbrev pub id_of : Peer → ℕ
id_of p = p.id.number

put_moves : (p : Peer) (qs : List Peer) → IsPermutation (p ∷ qs) (put_by_id p qs)
put_moves p [] = IsPermutation-refl (p ∷ [])
put_moves p (q ∷ qs) = elim (nat_lt p.id.number q.id.number) as (λ b. IsPermutation (p ∷ q ∷ qs) (if b then p ∷ q ∷ qs else (q ∷ put_by_id p qs))) [
  | true ↦ IsPermutation-refl (p ∷ q ∷ qs)
  | false ↦ IsPermutation-trans _ _ _ (IsPermutation-middle (p ∷ []) q qs) (IsPermutation-cons q _ _ (put_moves p qs))
]

-- The peers by rising id are the same peers.
pub rising_moves : (ps : List Peer) → IsPermutation ps (by_rising_id ps)
rising_moves [] = IsPermutation-refl []
rising_moves (p ∷ ps) = IsPermutation-trans _ _ _ (IsPermutation-cons p _ _ (rising_moves ps)) (put_moves p (by_rising_id ps))

put_rises : (p : Peer) (qs : List Peer) → Rises id_of qs → AllByRecursion (λ q. same_id p q ≡ false) qs → Rises id_of (put_by_id p qs)
put_rises p [] rise apart = (tt, tt)
put_rises p (q ∷ qs) rise apart = elim (nat_lt p.id.number q.id.number) as (λ b. nat_lt p.id.number q.id.number ≡ b → Rises id_of (if b then p ∷ q ∷ qs else (q ∷ put_by_id p qs))) [
  | true ↦ λ is.
      let below : p.id.number < q.id.number = grind (arith, nat_tests) in
      ((below, weaker (λ y. q.id.number < y.id.number) (λ y. p.id.number < y.id.number) (λ y above. omega (arith, below, above)) qs rise.0), rise)
  | false ↦ λ is.
      let other : (p.id.number == q.id.number) ≡ false = apart.0 in
      let above : q.id.number < p.id.number = grind (arith, nat_tests) in
      (all_moved (λ y. q.id.number < y.id.number) (p ∷ qs) (put_by_id p qs) (put_moves p qs) (above, rise.0), put_rises p qs rise.1 apart.1)
] refl

pub rising_rises : (ps : List Peer) → IsDistinct same_id ps → Rises id_of (by_rising_id ps)
rising_rises [] once = tt
rising_rises (p ∷ ps) once = put_rises p (by_rising_id ps) (rising_rises ps (IsDistinct-tail same_id p ps once)) (all_moved (λ q. same_id p q ≡ false) ps (by_rising_id ps) (rising_moves ps) (IsDistinct-head same_id p ps once))

-- ---- by a sort

-- What is made of each peer has its id.
abbrev Ids : {X : Type 0} → (Peer → X) → (X → ℕ) → Type 0
Ids f n = (p : Peer) → n (f p) ≡ id_of p

abbrev same_by : {X : Type 0} → (X → ℕ) → X → X → Bool
same_by n v w = n v == n w

all_made : {X : Type 0} (f : Peer → X) (n : X → ℕ) → Ids f n → (m : ℕ) (ps : List Peer) → AllByRecursion (λ q. m < id_of q) ps → AllByRecursion (λ v. m < n v) (map f ps)
all_made f n ids m [] all = tt
all_made f n ids m (p ∷ ps) all = (subst (λ k. m < k) (sym (ids p)) all.0, all_made f n ids m ps all.1)

made_rise : {X : Type 0} (f : Peer → X) (n : X → ℕ) → Ids f n → (ps : List Peer) → Rises id_of ps → Rises n (map f ps)
made_rise f n ids [] rise = tt
made_rise f n ids (p ∷ ps) rise = (subst (λ m. AllByRecursion (λ v. m < n v) (map f ps)) (sym (ids p)) (all_made f n ids (id_of p) ps rise.0), made_rise f n ids ps rise.1)

made_differ : {X : Type 0} (f : Peer → X) (n : X → ℕ) → Ids f n → (m : ℕ) (ps : List Peer) → AllByRecursion (λ q. (m == id_of q) ≡ false) ps → AllByRecursion (λ v. (m == n v) ≡ false) (map f ps)
made_differ f n ids m [] all = tt
made_differ f n ids m (p ∷ ps) all = (subst (λ k. (m == k) ≡ false) (sym (ids p)) all.0, made_differ f n ids m ps all.1)

made_once : {X : Type 0} (f : Peer → X) (n : X → ℕ) → Ids f n → (ps : List Peer) → IsDistinct same_id ps → IsDistinct (same_by n) (map f ps)
unfolding IsDistinct
made_once f n ids [] once = tt
made_once f n ids (p ∷ ps) once = IsDistinct-cons (same_by n) (f p) (map f ps) (subst (λ m. AllByRecursion (λ v. (m == n v) ≡ false) (map f ps)) (sym (ids p)) (made_differ f n ids (id_of p) ps (IsDistinct-head same_id p ps once))) (made_once f n ids ps (IsDistinct-tail same_id p ps once))

-- Numbers that don't fall and differ rise.
sorted_rises : {X : Type 0} (n : X → ℕ) (vs : List X) → IsNonDecreasingBy n vs → IsDistinct (same_by n) vs → Rises n vs
sorted_rises n [] up once = tt
sorted_rises n (v ∷ vs) up once =
    let least : AllByRecursion (λ w. n v ≤ n w) vs = recursion_from_All (λ w. n v ≤ n w) vs (λ k d within. up 0 (suc k) d (omega arith) (omega arith)) in
    let differ : AllByRecursion (λ w. same_by n v w ≡ false) vs = IsDistinct-head (same_by n) v vs once in
    let above : AllByRecursion (λ w. n v < n w) vs = weaker (λ w. (n v ≤ n w) × (same_by n v w ≡ false)) (λ w. n v < n w)
    (λ w is. let most : n v ≤ n w = is.0 in let other : (n v == n w) ≡ false = is.1 in grind (arith, nat_tests))
    vs (both (λ w. n v ≤ n w) (λ w. same_by n v w ≡ false) vs least differ) in
    (above, sorted_rises n vs (λ i j d le within. up (suc i) (suc j) d (omega arith) (omega arith)) (IsDistinct-tail (same_by n) v vs once))

flips : {X : Type 0} (n : X → ℕ) (v w : X) → same_by n v w ≡ same_by n w v
flips n v w = elim (n v == n w) as (λ b. (n v == n w) ≡ b → b ≡ (n w == n v)) [
  | true ↦ λ is. grind (arith, nat_tests)
  | false ↦ λ is. grind (arith, nat_tests)
] refl

-- A sort by the id of what is made of peers whose ids differ gives what is made of the peers by rising id.
pub sorted_made : {X : Type 0} (f : Peer → X) (n : X → ℕ) → Ids f n → (ps : List Peer) (vs : List X) → IsDistinct same_id ps → IsPermutation (map f ps) vs → IsNonDecreasingBy n vs → vs ≡ map f (by_rising_id ps)
sorted_made {X} f n ids ps vs once moved up =
    let named : List X = map f (by_rising_id ps) in
    let same : IsPermutation (map f ps) named = IsPermutation-map f ps (by_rising_id ps) (rising_moves ps) in
    let there : IsPermutation vs named = IsPermutation-trans _ _ _ (IsPermutation-sym (map f ps) vs moved) same in
    rising_once n vs named
    (sorted_rises n vs up (IsDistinct-IsPermutation (same_by n) (flips n) (map f ps) vs moved (made_once f n ids ps once)))
    (made_rise f n ids (by_rising_id ps) (rising_rises ps once))
    (λ z. in_moved vs named z there) (λ z. in_moved named vs z (IsPermutation-sym vs named there))

-- ---- some of them

all_kept : {X : Type 0} (P : X → Type 0) (test : X → Bool) (xs : List X) → AllByRecursion P xs → AllByRecursion P (filter test xs)
all_kept P test [] all = tt
all_kept P test (x ∷ xs) all = elim (test x) as (λ b. AllByRecursion P (cond b (x ∷ filter test xs) (filter test xs))) [ true ↦ (all.0, all_kept P test xs all.1) | false ↦ all_kept P test xs all.1 ]

-- Those that pass a test differ as all do.
pub once_kept : (test : Peer → Bool) (ps : List Peer) → IsDistinct same_id ps → IsDistinct same_id (filter test ps)
once_kept test [] once = once
once_kept test (p ∷ ps) once =
    let later : IsDistinct same_id (filter test ps) = once_kept test ps (IsDistinct-tail same_id p ps once) in
    elim (test p) as (λ b. IsDistinct same_id (cond b (p ∷ filter test ps) (filter test ps))) [
      | true ↦ IsDistinct-cons same_id p (filter test ps) (all_kept (λ q. same_id p q ≡ false) test ps (IsDistinct-head same_id p ps once)) later
      | false ↦ later
    ]

put_first : (p : Peer) (qs : List Peer) → AllByRecursion (λ q. p.id.number < q.id.number) qs → put_by_id p qs ≡ p ∷ qs
put_first p [] all = refl
put_first p (q ∷ qs) all =
    let below : p.id.number < q.id.number = all.0 in
    let is : nat_lt p.id.number q.id.number ≡ true = grind (arith, nat_tests) in
    rw is refl

put_kept : (test : Peer → Bool) (p : Peer) (qs : List Peer) → Rises id_of qs → filter test (put_by_id p qs) ≡ cond (test p) (put_by_id p (filter test qs)) (filter test qs)
put_kept test p [] rise = refl
put_kept test p (q ∷ qs) rise =
    elim (nat_lt p.id.number q.id.number) as (λ b. nat_lt p.id.number q.id.number ≡ b → filter test (if b then p ∷ q ∷ qs else (q ∷ put_by_id p qs)) ≡ cond (test p) (put_by_id p (filter test (q ∷ qs))) (filter test (q ∷ qs))) [
      | true ↦ λ is.
          let below : p.id.number < q.id.number = grind (arith, nat_tests) in
          let all : AllByRecursion (λ y. p.id.number < y.id.number) (q ∷ qs) = (below, weaker (λ y. q.id.number < y.id.number) (λ y. p.id.number < y.id.number) (λ y above. omega (arith, below, above)) qs rise.0) in
          ap (λ ys. cond (test p) ys (filter test (q ∷ qs))) (sym (put_first p (filter test (q ∷ qs)) (all_kept (λ y. p.id.number < y.id.number) test (q ∷ qs) all)))
      | false ↦ λ is.
          let later : filter test (put_by_id p qs) ≡ cond (test p) (put_by_id p (filter test qs)) (filter test qs) = put_kept test p qs rise.1 in
          let kept : q ∷ filter test (put_by_id p qs) ≡ cond (test p) (put_by_id p (q ∷ filter test qs)) (q ∷ filter test qs) = rw is
          (elim (test p) as (λ b. filter test (put_by_id p qs) ≡ cond b (put_by_id p (filter test qs)) (filter test qs) → q ∷ filter test (put_by_id p qs) ≡ cond b (q ∷ put_by_id p (filter test qs)) (q ∷ filter test qs)) [
            | true ↦ λ e. ap (λ ys. q ∷ ys) e
            | false ↦ λ e. ap (λ ys. q ∷ ys) e
          ] later) in
          elim (test q) as (λ b. cond b (q ∷ filter test (put_by_id p qs)) (filter test (put_by_id p qs)) ≡ cond (test p) (put_by_id p (cond b (q ∷ filter test qs) (filter test qs))) (cond b (q ∷ filter test qs) (filter test qs))) [
            | true ↦ kept
            | false ↦ later
          ]
    ] refl

-- Those that pass a test are by rising id as all are.
pub rising_kept : (test : Peer → Bool) (ps : List Peer) → IsDistinct same_id ps → by_rising_id (filter test ps) ≡ filter test (by_rising_id ps)
rising_kept test [] once = refl
rising_kept test (p ∷ ps) once =
    let rest : IsDistinct same_id ps = IsDistinct-tail same_id p ps once in
    let later : by_rising_id (filter test ps) ≡ filter test (by_rising_id ps) = rising_kept test ps rest in
    let put : filter test (put_by_id p (by_rising_id ps)) ≡ cond (test p) (put_by_id p (filter test (by_rising_id ps))) (filter test (by_rising_id ps)) = put_kept test p (by_rising_id ps) (rising_rises ps rest) in
    elim (test p) as (λ b. filter test (put_by_id p (by_rising_id ps)) ≡ cond b (put_by_id p (filter test (by_rising_id ps))) (filter test (by_rising_id ps)) → by_rising_id (cond b (p ∷ filter test ps) (filter test ps)) ≡ filter test (put_by_id p (by_rising_id ps))) [
      | true ↦ λ e. ap (put_by_id p) later ∙ sym e
      | false ↦ λ e. later ∙ sym e
    ] put

-- ---- the live peers

differ_from : (p : Peer) (s : Places) → ((j : ℕ) (q : Peer) → slice_get s j ≡ Some (Some q) → same_id p q ≡ false) → AllByRecursion (λ q. same_id p q ≡ false) (present s)
differ_from p [] differ = tt
differ_from p (None ∷ s) differ = differ_from p s (λ j q at. differ (suc j) q at)
differ_from p (Some q ∷ s) differ = (differ 0 q refl, differ_from p s (λ j x at. differ (suc j) x at))

places_once : (s : Places) → ((j k : ℕ) (p q : Peer) → slice_get s j ≡ Some (Some p) → slice_get s k ≡ Some (Some q) → same_id p q ≡ true → j ≡ k) → IsDistinct same_id (present s)
unfolding IsDistinct
places_once [] one = tt
places_once (None ∷ s) one = places_once s (λ j k p q a b is. let e : suc j ≡ suc k = one (suc j) (suc k) p q a b is in omega (arith, e))
places_once (Some p ∷ s) one =
    IsDistinct-cons same_id p (present s)
    (differ_from p s (λ j q at. elim (same_id p q) as (λ b. same_id p q ≡ b → b ≡ false) [
      | true ↦ λ is. absurd (let e : zero ≡ suc j = one 0 (suc j) p q refl at is in cc)
      | false ↦ λ is. refl
    ] refl))
    (places_once s (λ j k x q a b is. let e : suc j ≡ suc k = one (suc j) (suc k) x q a b is in omega (arith, e)))

-- No two live peers have one id.
pub live_once : (o : Owner) (h : Homes) (s : Places) → IsIndex o h s → IsDistinct same_id (present s)
live_once o h s i = places_once s (λ j k p q a b is.
    let mine : o (Id p.id.number) ≡ Some j = i.known (Id p.id.number) j p a (grind (arith, nat_tests)) in
    let other : o (Id p.id.number) ≡ Some k = i.known (Id p.id.number) k q b (let same : (p.id.number == q.id.number) ≡ true = is in grind (arith, nat_tests)) in
    let e : Some j ≡ Some k = sym mine ∙ other in cc)
