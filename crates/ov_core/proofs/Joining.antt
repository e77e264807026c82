-- The releases of what a step took and removed and nobody holds.
use Rattle.std.proofs.Common.{ℕ, ◌≡◌, ◌+◌, ◌-◌, ◌≤◌, ◌<◌, zero, suc, List, [], ◌∷◌, ◌++◌, length, get_or, append-nil, append_assoc, add-one, refl, sym, ◌∙◌, ap, subst, arith, Bool, true, false, ◌==◌, ◌||◌, if◌then◌else◌}
use Rattle.std.specs.Prelude.{drop, filter, map, not, Some, slice_get, slice_set}
use Rattle.std.proofs.lemmas.Bool.{or_left, or_right}
use Rattle.std.proofs.lemmas.List.Elements.{filter-append}
use Rattle.ov_model.specs.declared.hold.Owed.{Owed}
use Rattle.ov_model.specs.declared.hold.Owed.TheVariants as owed
use Rattle.ov_model.specs.Path.{SomeOf, none, kept, passed}
use Rattle.ov_path.specs.Desks.{Holding}
use Rattle.ov_core.specs.Worlds.{key_holds, peer_holds, joined_by}
use Rattle.ov_core.specs.Seats.{Sitting, seen, empty_seat, has, is_held, owing_more, owing_list, owe_one, owe_each, unheld, leaving}
use Rattle.ov_core.proofs.Seats.{length-slice_set, set_own, set_set, set_same}
use Rattle.ov_core.proofs.Asking.{key_none, peer_none}

-- ---- one seat that owes more

-- A seat whose hold stays changes nothing of who holds.
pub held_same : (seats : List Sitting) (i : ℕ) (s : Sitting) (o : Owed) → s.hold ≡ (get_or seats i empty_seat).hold → is_held (slice_set seats i s) o ≡ is_held seats o
held_same [] i s o same = refl
held_same (x ∷ xs) zero s o same = ap (λ (h : Holding). has o h || is_held xs o) same
held_same (x ∷ xs) (suc i) s o same = ap (λ b. has o x.hold || b) (held_same xs i s o same)

pub unheld_same : (seats : List Sitting) (i : ℕ) (s : Sitting) (os : List Owed) → s.hold ≡ (get_or seats i empty_seat).hold → unheld (slice_set seats i s) os ≡ unheld seats os
unheld_same seats i s [] same = refl
unheld_same seats i s (o ∷ os) same = rw (held_same seats i s o same, unheld_same seats i s os same) refl

owing_none : (s : Sitting) → owing_list s [] ≡ s
owing_none s =
    let none : s.owing ++ [] ≡ s.owing = append-nil s.owing in
    let same : s.spare - 0 ≡ s.spare = omega arith in
    rw (none, same) refl

owing_next : (s : Sitting) (o : Owed) (os : List Owed) → owing_list (owing_more s o) os ≡ owing_list s (o ∷ os)
owing_next s o os =
    let long : s.owing ++ o ∷ [] ++ os ≡ s.owing ++ (o ∷ os) = append_assoc s.owing (o ∷ []) os in
    let less : s.spare - 1 - length os ≡ s.spare - length (o ∷ os) = omega arith in
    ap (λ x. record s { owing = x; spare = s.spare - 1 - length os }) long ∙ ap (λ n. record s { owing = s.owing ++ (o ∷ os); spare = n }) less

pub owed_each : (seats : List Sitting) (i : ℕ) (os : List Owed) → i < length seats → owe_each seats i os ≡ slice_set seats i (owing_list (get_or seats i empty_seat) (unheld seats os))
owed_each seats i [] below = sym (ap (λ s. slice_set seats i s) (owing_none (get_or seats i empty_seat)) ∙ set_same seats i empty_seat)
owed_each seats i (o ∷ os) below =
    let s : Sitting = get_or seats i empty_seat in
    let more : Sitting = owing_more s o in
    elim (is_held seats o) as (λ b. owe_each (if b then seats else slice_set seats i more) i os ≡ slice_set seats i (owing_list s (if not b then o ∷ unheld seats os else unheld seats os))) [
      | true ↦ owed_each seats i os below
      | false ↦
          let own : get_or (slice_set seats i more) i empty_seat ≡ more = set_own seats i more empty_seat below in
          owed_each (slice_set seats i more) i os (let same = length-slice_set seats i more in omega arith)
          ∙ set_set seats i more _
          ∙ ap (λ x. slice_set seats i (owing_list x (unheld (slice_set seats i more) os))) own
          ∙ ap (λ x. slice_set seats i (owing_list more x)) (unheld_same seats i more os refl)
          ∙ ap (λ x. slice_set seats i x) (owing_next s o (unheld seats os))
    ]

pub owe_each-append : (seats : List Sitting) (i : ℕ) (os ps : List Owed) → owe_each (owe_each seats i os) i ps ≡ owe_each seats i (os ++ ps)
owe_each-append seats i [] ps = refl
owe_each-append seats i (o ∷ os) ps = owe_each-append (owe_one seats i o) i os ps

pub unheld_few : (seats : List Sitting) (os : List Owed) → length (unheld seats os) ≤ length os
unheld_few seats [] = omega arith
unheld_few seats (o ∷ os) =
    let later : length (unheld seats os) ≤ length os = unheld_few seats os in
    elim (not (is_held seats o)) as (λ b. length (if b then o ∷ unheld seats os else unheld seats os) ≤ length (o ∷ os)) [
      | true ↦ omega arith
      | false ↦ omega arith
    ]

-- ---- as the world has it

unheld_keys : (seats : List Sitting) (ks : List ℕ) → unheld seats (map owed.Key ks) ≡ map owed.Key (filter (λ k. key_holds k (map seen seats) == 0) ks)
unheld_keys seats [] = refl
unheld_keys seats (k ∷ ks) =
    rw (key_none k seats) (elim (not (is_held seats (owed.Key k))) as (λ b. (if b then owed.Key k ∷ unheld seats (map owed.Key ks) else unheld seats (map owed.Key ks)) ≡ map owed.Key (if b then k ∷ filter (λ x. key_holds x (map seen seats) == 0) ks else filter (λ x. key_holds x (map seen seats) == 0) ks)) [
      | true ↦ ap (λ os. owed.Key k ∷ os) (unheld_keys seats ks)
      | false ↦ unheld_keys seats ks
    ])

unheld_peers : (seats : List Sitting) (ps : List ℕ) → unheld seats (map owed.Peer ps) ≡ map owed.Peer (filter (λ p. peer_holds p (map seen seats) == 0) ps)
unheld_peers seats [] = refl
unheld_peers seats (p ∷ ps) =
    rw (peer_none p seats) (elim (not (is_held seats (owed.Peer p))) as (λ b. (if b then owed.Peer p ∷ unheld seats (map owed.Peer ps) else unheld seats (map owed.Peer ps)) ≡ map owed.Peer (if b then p ∷ filter (λ x. peer_holds x (map seen seats) == 0) ps else filter (λ x. peer_holds x (map seen seats) == 0) ps)) [
      | true ↦ ap (λ os. owed.Peer p ∷ os) (unheld_peers seats ps)
      | false ↦ unheld_peers seats ps
    ])

pub unheld_joins : (seats : List Sitting) (taken gone : List ℕ) → unheld seats (leaving taken gone) ≡ joined_by (map seen seats) taken gone
unheld_joins seats taken gone =
    filter-append (λ o. not (is_held seats o)) (map owed.Key taken) (map owed.Peer gone)
    ∙ ap (λ os. os ++ unheld seats (map owed.Peer gone)) (unheld_keys seats taken)
    ∙ ap (λ os. map owed.Key (filter (λ k. key_holds k (map seen seats) == 0) taken) ++ os) (unheld_peers seats gone)

-- What a seat holds somebody holds.
pub held_by : (seats : List Sitting) (i : ℕ) (s : Sitting) (o : Owed) → slice_get seats i ≡ Some s → has o s.hold ≡ true → is_held seats o ≡ true
held_by [] i s o at its = absurd (cc)
held_by (x ∷ xs) zero s o at its = (let e : x ≡ s = cc in or_left (has o x.hold) (is_held xs o) (subst (λ (y : Sitting). has o y.hold ≡ true) (sym e) its))
held_by (x ∷ xs) (suc i) s o at its = or_right (has o x.hold) (is_held xs o) (held_by xs i s o at its)

-- ---- one after the other

drop_suc : {X : Type 0} (xs : List X) (n : ℕ) (d : X) → n < length xs → drop n xs ≡ get_or xs n d ∷ drop (suc n) xs
drop_suc [] n d below = absurd (omega arith)
drop_suc (x ∷ xs) zero d below = refl
drop_suc (x ∷ xs) (suc n) d below = drop_suc xs n d (omega arith)

pub drop_next : {X : Type 0} (xs : List X) (n : ℕ) (d : X) → n < length xs → drop n xs ≡ get_or xs n d ∷ drop (n + 1) xs
drop_next xs n d below = rw add-one (drop_suc xs n d below)

-- One more release is looked at: what is left to look at, and the room for it.
pub record OweMore (was now seats : List Sitting) (i n k : ℕ) (os : List Owed) (rest : List Owed) : Type 0 where
  pub rest_is : owe_each now i rest ≡ owe_each was i os
  pub long : length now ≡ length was
  pub room : k ≤ n + 1 + (get_or now i empty_seat).spare

pub owe_more : (was seats now : List Sitting) (i n k : ℕ) (o : Owed) (os later rest : List Owed) → owe_each seats i later ≡ owe_each was i os → length seats ≡ length was → k ≤ n + (get_or seats i empty_seat).spare → later ≡ o ∷ rest → i < length seats → now ≡ owe_one seats i o → OweMore was now seats i n k os rest
owe_more was seats now i n k o os later rest same long room split below is =
    let s : Sitting = get_or seats i empty_seat in
    let less = room in
    subst (λ (x : List Sitting). OweMore was x seats i n k os rest) (sym is) (record {
      rest_is = subst (λ (x : List Owed). owe_each seats i x ≡ owe_each was i os) split same;
      long = elim (is_held seats o) as (λ b. length (if b then seats else slice_set seats i (owing_more s o)) ≡ length was) [
        | true ↦ long
        | false ↦ length-slice_set seats i (owing_more s o) ∙ long
      ];
      room = elim (is_held seats o) as (λ b. k ≤ n + 1 + (get_or (if b then seats else slice_set seats i (owing_more s o)) i empty_seat).spare) [
        | true ↦ omega (arith, less)
        | false ↦ (let own : (get_or (slice_set seats i (owing_more s o)) i empty_seat).spare ≡ s.spare - 1 = ap (λ (x : Sitting). x.spare) (set_own seats i (owing_more s o) empty_seat below) in omega (arith, less, own))
      ];
    })

-- Those that pass a test are some of them.
pub some_filter : (p : ℕ → Bool) (xs : List ℕ) → SomeOf xs (filter p xs)
some_filter p [] = none
some_filter p (x ∷ xs) = elim (p x) as (λ b. SomeOf (x ∷ xs) (if b then x ∷ filter p xs else filter p xs)) [
  | true ↦ kept x xs (filter p xs) (some_filter p xs)
  | false ↦ passed x xs (filter p xs) (some_filter p xs)
]
