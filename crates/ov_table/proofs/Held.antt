-- The key that a look-up holds is still in the table after that step.
use Rattle.std.proofs.Common.{ℕ, ◌≡◌, ◌∙◌, sym, ap, List, [], ◌∷◌, refl, subst, Bool, true, false, if◌then◌else◌, ◌==◌, arith}
use Rattle.std.specs.Prelude.{Option, Some, None, find, is_some}
use Rattle.std.specs.Option.{option_or}
use Rattle.std.proofs.lemmas.Bool.Decides.{nat_tests}
use Rattle.ov_base.specs.declared.address.Addr.{Addr}
use Rattle.ov_base.specs.declared.address.Transport.{Transport}
use Rattle.ov_base.specs.Address.{same_transport}
use Rattle.ov_model.specs.declared.ident.PeerId.{PeerId}
use Rattle.ov_model.specs.declared.ident.KeyId.{KeyId}
use Rattle.ov_model.specs.declared.reply.HoldView.{HoldView}
use Rattle.ov_model.specs.declared.reply.Reply.TheVariants as reply
use Rattle.ov_model.specs.Tables.{Material, Peer, Key, Table, keys_in, by_key_id, by_vpn, has_vpn, by_remote, has_id, by_id, has_serial, by_serial}
use Rattle.ov_model.specs.Step.{Outcome, has_key, where_found, hold_of, key_found, replied, tx_look, rx_look, keep_look}
use Rattle.ov_table.specs.Pairs.{key_of_peer, live_key, retired_key, material_if_any, pair_in}

given : (o : Option Key) (b : Option Material) → is_some o ≡ true → is_some (option_or (material_if_any o) b) ≡ true
given None b some = absurd (let e : ◌≡◌ {A = Bool} false true = some in cc)
given (Some k) b some = refl

live_some : (key : ℕ) (test : Peer → Bool) (peers : List Peer) (p : Peer) → find test peers ≡ Some p → has_key key p ≡ true → is_some (live_key key peers) ≡ true
live_some key test [] p is has = absurd (let e : ◌≡◌ None (Some p) = is in cc)
live_some key test (x ∷ peers) p is has =
    elim (has_key key x)
    as (λ b. has_key key x ≡ b → is_some (key_of_peer key (if b then Some x else find (has_key key) peers)) ≡ true) [
      | true ↦ λ here. here
      | false ↦ λ here.
          elim (test x)
          as (λ b. (if b then Some x else find test peers) ≡ Some p → is_some (live_key key peers) ≡ true) [
            | true ↦ λ is. absurd (let e : x ≡ p = (let e : ◌≡◌ (Some x) (Some p) = is in cc) in let has : has_key key x ≡ true = subst (λ q. has_key key q ≡ true) (sym e) has in let no : ◌≡◌ {A = Bool} false true = sym here ∙ has in cc)
            | false ↦ λ is. live_some key test peers p is has
          ]
          is
    ]
    refl

-- A key of a live peer that a look-up found has a pair in the table.
pub held_pair : (t : Table) (now key : ℕ) (test : Peer → Bool) (p : Peer) → find test t.live ≡ Some p → has_key key p ≡ true → is_some (pair_in (record t { moment = now }) key) ≡ true
held_pair t now key test p is has = given (live_key key t.live) (material_if_any (retired_key key t.retired)) (live_some key test t.live p is has)

key_there : (test : Key → Bool) (keys : List Key) (k : Key) → find test keys ≡ Some k → is_some (find (λ x. x.serial == k.serial) keys) ≡ true
key_there test [] k is = absurd (let e : ◌≡◌ None (Some k) = is in cc)
key_there test (x ∷ keys) k is =
    elim (x.serial == k.serial)
    as (λ b. (x.serial == k.serial) ≡ b → is_some (if b then Some x else find (λ y. y.serial == k.serial) keys) ≡ true) [
      | true ↦ λ here. refl
      | false ↦ λ here.
          elim (test x)
          as (λ b. (if b then Some x else find test keys) ≡ Some k → is_some (find (λ y. y.serial == k.serial) keys) ≡ true) [
            | true ↦ λ is. absurd (let e : x ≡ k = (let e : ◌≡◌ (Some x) (Some k) = is in cc) in let same : (x.serial == k.serial) ≡ true = subst (λ y. (x.serial == y.serial) ≡ true) e (grind (arith, nat_tests)) in let no : ◌≡◌ {A = Bool} false true = sym here ∙ same in cc)
            | false ↦ λ is. key_there test keys k is
          ]
          is
    ]
    refl

primary_there : (p : Peer) (k : Key) → p.slots.primary ≡ Some k → has_key k.serial p ≡ true
primary_there p k is = let same : (k.serial == k.serial) ≡ true = grind (arith, nat_tests) in rw (is, same) refl

-- The pair of the key that a look-up's reply holds.
abbrev pub HasPair : Outcome → HoldView → Type 0
HasPair o h = o.reply ≡ reply.Hold h → is_some (pair_in o.after h.key) ≡ true

key_found_held : (t : Table) (now : ℕ) (test : Peer → Bool) (p : Peer) (k : Option Key) (h : HoldView) → find test t.live ≡ Some p → ((x : Key) → k ≡ Some x → has_key x.serial p ≡ true) → HasPair (key_found t now p k) h
key_found_held t now test p None h is has said = absurd (let e : reply.NoKey ≡ reply.Hold h = said in cc)
key_found_held t now test p (Some k) h is has said =
    let same : k.serial ≡ h.key = (let e : reply.Hold (hold_of p k) ≡ reply.Hold h = said in let v : hold_of p k ≡ h = cc in ap (λ v. v.key) v) in
    subst (λ n. is_some (pair_in (record t { moment = now }) n) ≡ true) same (held_pair t now k.serial test p is (has k refl))

look_held : (t : Table) (now : ℕ) (test : Peer → Bool) (o : Option Peer) (key : Peer → Option Key) (h : HoldView) → find test t.live ≡ o → ((p : Peer) (x : Key) → key p ≡ Some x → has_key x.serial p ≡ true) → HasPair (where_found t now reply.NoPeer o (λ p. key_found t now p (key p))) h
look_held t now test None key h is has said = absurd (let e : reply.NoPeer ≡ reply.Hold h = said in cc)
look_held t now test (Some p) key h is has said = key_found_held t now test p (key p) h is (has p) said

pub tx_held : (t : Table) (now : ℕ) (a : Addr) (h : HoldView) → HasPair (tx_look t now a) h
unfolding tx_look
tx_held t now a h = look_held t now (has_vpn a) (by_vpn a t.live) (λ p. p.slots.primary) h refl primary_there

pub keep_held : (t : Table) (now peer : ℕ) (h : HoldView) → HasPair (keep_look t now peer) h
unfolding keep_look
keep_held t now peer h = found_held (by_serial peer t.live) refl
  where
    key_held : (p : Peer) (k : Option Key) → by_serial peer t.live ≡ Some p → p.slots.primary ≡ k → HasPair (where_found t now reply.Skip k (λ x. replied t now (reply.Hold (hold_of p x)))) h
    key_held p None found at said = absurd (let e : reply.Skip ≡ reply.Hold h = said in cc)
    key_held p (Some k) found at said =
        let same : k.serial ≡ h.key = (let e : reply.Hold (hold_of p k) ≡ reply.Hold h = said in let v : hold_of p k ≡ h = cc in ap (λ v. v.key) v) in
        subst (λ n. is_some (pair_in (record t { moment = now }) n) ≡ true) same (held_pair t now k.serial (has_serial peer) p found (primary_there p k at))

    found_held : (o : Option Peer) → by_serial peer t.live ≡ o → HasPair (where_found t now reply.Skip o (λ p. where_found t now reply.Skip p.slots.primary (λ k. replied t now (reply.Hold (hold_of p k))))) h
    found_held None found said = absurd (let e : reply.Skip ≡ reply.Hold h = said in cc)
    found_held (Some p) found said = key_held p p.slots.primary found refl said

pub rx_held : (t : Table) (now : ℕ) (id : PeerId) (key_id : KeyId) (from : Transport) (h : HoldView) → HasPair (rx_look t now id key_id from) h
unfolding rx_look
rx_held t now id key_id from h =
    let key : Peer → Option Key = λ p. by_key_id key_id p.slots in
    let there : (p : Peer) (x : Key) → key p ≡ Some x → has_key x.serial p ≡ true = λ p x found. key_there (λ k. k.key_id.number == key_id.number) (keys_in p.slots) x found in
    elim (id.number == 16777215)
    as (λ b. HasPair (where_found t now reply.NoPeer (if b then by_remote from t.live else by_id id t.live) (λ p. key_found t now p (key p))) h) [
      | true ↦ look_held t now (λ p. same_transport p.remote from) (by_remote from t.live) key h refl there
      | false ↦ look_held t now (has_id id) (by_id id t.live) key h refl there
    ]
