-- What may be asked of the table: what is held stands there, and what is owed is on its way out.
use Rattle.std.proofs.Common.{ℕ, ◌≡◌, ◌+◌, ◌≤◌, ◌⊎◌, inl, inr, zero, suc, List, [], ◌∷◌, refl, sym, ap, subst, arith, Bool, true, false, ◌==◌, ◌||◌, ◌&&◌, if◌then◌else◌, Bor}
use Rattle.std.specs.Prelude.{find, map, Option, Some, None, is_some, IsSome, slice_get, option_copied}
use Rattle.std.specs.Option.{option_or}
use Rattle.std.specs.List.{list_any}
use Rattle.std.proofs.lemmas.Bool.{or_left, or_right, eq-eqb}
use Rattle.ov_base.specs.Sums.{total}
use Rattle.ov_base.specs.declared.address.Addr.{Addr}
use Rattle.ov_model.specs.declared.act.Act.{Act}
use Rattle.ov_model.specs.declared.act.Act.TheVariants as act
use Rattle.ov_model.specs.declared.act.Call.{Call}
use Rattle.ov_model.specs.declared.hold.Owed.{Owed}
use Rattle.ov_model.specs.declared.hold.Owed.TheVariants as owed
use Rattle.ov_model.specs.Next.{release_act}
use Rattle.ov_model.specs.Removals.{times}
use Rattle.ov_model.specs.Step.{May, may_act, has_key}
use Rattle.ov_model.specs.Tables.{Table, Peer, Key, Material, by_key, keys_in}
use Rattle.ov_model.proofs.KeysTaken.{slot_serials, slots_first}
use Rattle.ov_model.proofs.Tallies.{peer_stands, key_stands}
use Rattle.ov_path.specs.Desks.{Holding, NoHold, Both, PeerLeft, HoldsPeer, HoldsKey, MayCall, first_owed}
use Rattle.ov_table.specs.Pairs.{pair_in, live_key, key_of_peer, material_if_any, retired_key}
use Rattle.ov_core.specs.Worlds.{World, Seat, seen_from, is_peer, is_key, peer_owes, key_owes, peer_holds, key_holds}
use Rattle.ov_core.specs.Sounds.{WorldSound, HeldThere}
use Rattle.ov_core.proofs.Owing.{part_of_total}

-- ---- what stands passes its test

some_of_two : (a b : ℕ) → 1 ≤ a + b → (1 ≤ a) ⊎ (1 ≤ b)
some_of_two zero b some = inr (omega (arith, some))
some_of_two (suc a) b some = inl (omega arith)

module _ {X : Type 0} where
  times_any : (f : X → ℕ) (x : ℕ) (xs : List X) → 1 ≤ times x (map f xs) → list_any (λ p. f p == x) xs ≡ true
  times_any f x [] some = absurd (omega (arith, some))
  times_any f x (p ∷ ps) some =
      elim (f p == x) as (λ b. (f p == x) ≡ b → (b || list_any (λ q. f q == x) ps) ≡ true) [
        | true ↦ λ is. refl
        | false ↦ λ is. let skip : times x (map f (p ∷ ps)) ≡ times x (map f ps) = rw is refl in times_any f x ps (omega (arith, some, skip))
      ] refl

  times_found : (f : X → ℕ) (x : ℕ) (xs : List X) → 1 ≤ times x (map f xs) → is_some (find (λ p. f p == x) xs) ≡ true
  times_found f x [] some = absurd (omega (arith, some))
  times_found f x (p ∷ ps) some =
      elim (f p == x) as (λ b. (f p == x) ≡ b → is_some (find (λ q. f q == x) (p ∷ ps)) ≡ true) [
        | true ↦ λ is. rw is refl
        | false ↦ λ is.
            let skip : times x (map f (p ∷ ps)) ≡ times x (map f ps) = rw is refl in
            let later : find (λ q. f q == x) (p ∷ ps) ≡ find (λ q. f q == x) ps = rw is refl in
            rw later (times_found f x ps (omega (arith, some, skip)))
      ] refl

slots_any : (key : ℕ) (ps : List Peer) → 1 ≤ times key (slot_serials ps) → list_any (has_key key) ps ≡ true
slots_any key [] some = absurd (omega (arith, some))
slots_any key (p ∷ ps) some =
    let both = slots_first key p ps in
    elim (some_of_two _ _ (subst (λ n. 1 ≤ n) both some)) [
      | inl own ↦ or_left _ _ (times_found (λ (k : Key). k.serial) key (keys_in p.slots) own)
      | inr later ↦ or_right _ _ (slots_any key ps later)
    ]

peer_any : (t : Table) (peer : ℕ) → 1 ≤ peer_stands peer t → may_act t (act.Sent peer 0 0 false) ≡ true
peer_any t peer some =
    elim (some_of_two _ _ some) [
      | inl live ↦ or_left _ _ (times_any (λ (p : Peer). p.serial) peer t.live live)
      | inr dying ↦ or_right _ _ (times_any (λ (p : Peer). p.serial) peer t.dying dying)
    ]

both_true : (a b : Bool) → a ≡ true → b ≡ true → (a && b) ≡ true
both_true a b x y = rw (x, y) refl

spend_any : (t : Table) (peer key : ℕ) → 1 ≤ peer_stands peer t → 1 ≤ key_stands key t → may_act t (act.Spend peer key) ≡ true
spend_any t peer key peer_there key_there =
    both_true _ _ (peer_any t peer peer_there) (elim (some_of_two _ _ key_there) [
      | inl live ↦ or_left _ _ (slots_any key t.live live)
      | inr retired ↦ or_right _ _ (times_any (λ (k : Key). k.serial) key t.retired retired)
    ])

-- ---- what is held

hold_peer : (t : Table) (h : Holding) (peer : ℕ) → HeldThere t h → HoldsPeer h peer → 1 ≤ peer_stands peer t
hold_peer t (Both h) peer there names = subst (λ p. 1 ≤ peer_stands p t) names there.0
hold_peer t NoHold peer there names = absurd names
hold_peer t (PeerLeft h) peer there names = absurd names

pub hold_key : (t : Table) (h : Holding) (key : ℕ) → HeldThere t h → HoldsKey h key → 1 ≤ key_stands key t
hold_key t (Both h) key there names = subst (λ k. 1 ≤ key_stands k t) names there.1
hold_key t NoHold key there names = absurd names
hold_key t (PeerLeft h) key there names = absurd names

act_may : (via : Addr → Addr) (t : Table) (w : World) (s : Seat) (a : Act) → HeldThere t s.hold → MayCall (seen_from via w s) a → may_act t a ≡ true
act_may via t w s (act.Do c) there may = refl
act_may via t w s (act.TxLook a) there may = refl
act_may via t w s (act.RxLook id key_id from) there may = refl
act_may via t w s (act.KeepLook peer) there may = refl
act_may via t w s (act.Sent peer inner outer ping) there may = peer_any t peer (hold_peer t s.hold peer there may.0)
act_may via t w s (act.Settle peer from k inner outer) there may = peer_any t peer (hold_peer t s.hold peer there may.0)
act_may via t w s (act.Spend peer key) there may = spend_any t peer key (hold_peer t s.hold peer there may.0) (hold_key t s.hold key there may.1)
act_may via t w s (act.Released peer) there may = absurd may
act_may via t w s (act.KeyReleased key) there may = absurd may

-- What a line may ask for, the table may make.
pub call_may : (via : Addr → Addr) (w : World) (i : ℕ) (s : Seat) (call : Call) → WorldSound w → slice_get w.seats i ≡ Some s → MayCall (seen_from via w s) call.act → May w.table.now call
call_may via w i s call sound at may = act_may via w.table.now w s call.act (sound.seats i s at).there may

-- ---- what is owed

if_due : (holds out : ℕ) → 1 ≤ (if holds == 0 then out else 0) → 1 ≤ out
if_due holds out some = elim (holds == 0) as (λ b. 1 ≤ (if b then out else 0) → 1 ≤ out) [ true ↦ λ is. is | false ↦ λ is. absurd (omega (arith, is)) ] some

names_peer : (os : List Owed) (p : ℕ) → first_owed os ≡ Some (owed.Peer p) → 1 ≤ total (is_peer p) os
names_peer [] p is = absurd (cc)
names_peer (o ∷ os) p is = (let e : o ≡ owed.Peer p = cc in let one : is_peer p o ≡ 1 = rw (e, eq-eqb p p refl) refl in omega arith)

names_key : (os : List Owed) (k : ℕ) → first_owed os ≡ Some (owed.Key k) → 1 ≤ total (is_key k) os
names_key [] k is = absurd (cc)
names_key (o ∷ os) k is = (let e : o ≡ owed.Key k = cc in let one : is_key k o ≡ 1 = rw (e, eq-eqb k k refl) refl in omega arith)

owed_may : (w : World) (i : ℕ) (s : Seat) (o : Owed) → WorldSound w → slice_get w.seats i ≡ Some s → first_owed s.owing ≡ Some o → may_act w.table.now (release_act o) ≡ true
owed_may w i s (owed.Peer p) sound at first =
    let own : 1 ≤ total (is_peer p) s.owing = names_peer s.owing p first in
    let part : total (is_peer p) s.owing ≤ peer_owes p w.seats = part_of_total (λ (x : Seat). total (is_peer p) x.owing) w.seats i s at in
    let all = sound.owes.peers p in
    times_any (λ (q : Peer). q.serial) p w.table.now.dying (if_due (peer_holds p w.seats) _ (subst (λ n. 1 ≤ n) all (omega (arith, own, part))))
owed_may w i s (owed.Key k) sound at first =
    let own : 1 ≤ total (is_key k) s.owing = names_key s.owing k first in
    let part : total (is_key k) s.owing ≤ key_owes k w.seats = part_of_total (λ (x : Seat). total (is_key k) x.owing) w.seats i s at in
    let all = sound.owes.keys k in
    times_any (λ (q : Key). q.serial) k w.table.now.retired (if_due (key_holds k w.seats) _ (subst (λ n. 1 ≤ n) all (omega (arith, own, part))))

-- The release that is owed first may be made.
pub release_may : (w : World) (i : ℕ) (s : Seat) (call : Call) (o : Owed) → WorldSound w → slice_get w.seats i ≡ Some s → first_owed s.owing ≡ Some o → call.act ≡ release_act o → May w.table.now call
release_may w i s call o sound at first is = rw is (owed_may w i s o sound at first)

-- ---- the pair of a key

or_some : (x y : Option Material) → IsSome y → IsSome (option_or x y)
or_some (Some m) y some = refl
or_some None y some = some

some_key : (k : Option Key) (o : Option Material) → is_some k ≡ true → IsSome (option_or (material_if_any k) o)
some_key (Some k) o some = refl
some_key None o some = absurd (cc)

some_material : (k : Option Key) → is_some k ≡ true → IsSome (material_if_any k)
some_material (Some k) some = refl
some_material None some = absurd (cc)

record Found {X : Type 0} (p : X → Bool) (xs : List X) : Type 0 where
  it : X
  is : find p xs ≡ Some it
  test : p it ≡ true

any_found : {X : Type 0} (p : X → Bool) (xs : List X) → list_any p xs ≡ true → Found p xs
any_found p [] any = absurd (cc)
any_found {X} p (x ∷ xs) any =
    elim (p x) as (λ b. p x ≡ b → (b || list_any p xs) ≡ true → Found p (x ∷ xs)) [
      | true ↦ λ yes_x any. record { it = x; is = rw yes_x refl; test = yes_x }
      | false ↦ λ no_x any. let later : Found p xs = any_found p xs any in record { it = later.it; is = rw no_x later.is; test = later.test }
    ] refl any

-- A key that stands has its pair.
pub pair_stands : (t : Table) (key : ℕ) → 1 ≤ key_stands key t → IsSome (pair_in t key)
pair_stands t key some =
    elim (some_of_two _ _ some) [
      | inl live ↦
          let found : Found (has_key key) t.live = any_found (has_key key) t.live (slots_any key t.live live) in
          let its : live_key key t.live ≡ by_key key found.it.slots = ap (key_of_peer key) found.is in
          subst (λ (k : Option Key). IsSome (option_or (material_if_any k) (material_if_any (retired_key key t.retired)))) (sym its) (some_key (by_key key found.it.slots) _ found.test)
      | inr retired ↦ or_some (material_if_any (live_key key t.live)) (material_if_any (retired_key key t.retired)) (some_material (retired_key key t.retired) (times_found (λ (k : Key). k.serial) key t.retired retired))
    ]

-- Whatever is lent is there.
pub copied_some : {X : Type 0} (o : Option (Bor X)) → IsSome (option_copied o) → IsSome o
copied_some (Some p) some = refl
copied_some None some = some
