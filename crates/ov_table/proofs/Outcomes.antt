-- What a step of the definitions is where its peer was found.
use Rattle.std.proofs.Common.{ℕ, ◌≡◌, List, [], ◌∷◌, ◌++◌, refl, append-nil, sym, ap, subst, ◌∙◌, Bool, true, false, ◌||◌, if◌then◌else◌}
use Rattle.std.specs.Prelude.{Option, Some, None, Result, Ok, Err, IfOk, is_some, find}
use Rattle.std.specs.List.{list_any}
use Rattle.ov_base.specs.declared.address.Transport.{Transport}
use Rattle.ov_model.specs.declared.act.InnerKind.{InnerKind}
use Rattle.ov_model.specs.declared.reply.Settled.{Settled}
use Rattle.ov_model.specs.declared.ident.PeerId.{PeerId}
use Rattle.ov_model.specs.declared.command.KeyConf.{KeyConf}
use Rattle.ov_model.specs.declared.command.Reason.{Reason}
use Rattle.ov_model.specs.declared.reply.Reply.TheVariants as reply
use Rattle.ov_model.specs.declared.reply.Errno.TheVariants.{NoEntry}
use Rattle.ov_model.specs.declared.command.Slot.{Slot}
use Rattle.ov_model.specs.Tables.{Peer, Key, Table, change_first, without_first, has_id, has_serial, by_id, by_serial, by_key, swapped, with_slot, in_slot, key_if_any}
use Rattle.ov_model.specs.Step.{is_there, sent_peer, sent, received_peer, settled_peer, settled_as, settle, replied, refused, unless, where_found, key_new_checks, key_made, removals, remove_peer, key_new, slots_changed, key_swap, key_del, spent_key, spend}
use Rattle.ov_model.specs.declared.reply.Reply.{Reply}
use Rattle.ov_table.specs.declared.outcome.Outcome.{Outcome}
use Rattle.ov_table.specs.Outcomes.{serial_list, outcome, outcome_with}

pub one_taken : (key : Option ℕ) → serial_list key ++ [] ≡ serial_list key
one_taken key = append-nil (serial_list key)

pub one_key : (keys : List Key) → keys ++ [] ≡ keys
one_key keys = append-nil keys

-- Who is there is found.
pub some_of : {X : Type 0} (o : Option X) → is_some o ≡ true → (x : X) × (o ≡ Some x)
some_of None some = absurd (let e : ◌≡◌ {A = Bool} false true = some in cc)
some_of (Some x) some = (x, refl)

pub none_of : {X : Type 0} (o : Option X) → is_some o ≡ false → o ≡ None
none_of None none = refl
none_of (Some x) none = absurd (let e : ◌≡◌ {A = Bool} true false = none in cc)

pub any_found : {X : Type 0} (fits : X → Bool) (xs : List X) → list_any fits xs ≡ is_some (find fits xs)
any_found fits [] = refl
any_found fits (x ∷ xs) = elim (fits x) as (λ b. (b || list_any fits xs) ≡ is_some (if b then Some x else find fits xs)) [ true ↦ refl | false ↦ any_found fits xs ]

pub removed_found : (t : Table) (now : ℕ) (id : PeerId) (reason : Reason) (p : Peer) → by_id id t.live ≡ Some p → remove_peer t now id reason ≡ removals t now reason (p ∷ []) (without_first (has_id id) t.live) (reply.Removed (p.serial ∷ []))
unfolding remove_peer
removed_found t now id reason p found = rw found refl

pub key_new_found : (t : Table) (now : ℕ) (c : KeyConf) (p : Peer) → by_id c.peer t.live ≡ Some p → key_new t now c ≡ unless t now (key_new_checks t) (key_made t now c p)
unfolding key_new
key_new_found t now c p found = rw found refl

pub swap_found : (t : Table) (now : ℕ) (id : PeerId) (p : Peer) → by_id id t.live ≡ Some p → key_swap t now id ≡ slots_changed t now id swapped []
unfolding key_swap
swap_found t now id p found = rw found refl

pub del_found : (t : Table) (now : ℕ) (id : PeerId) (slot : Slot) (p : Peer) → by_id id t.live ≡ Some p → key_del t now id slot ≡ slots_changed t now id (with_slot slot None) (key_if_any (in_slot slot p.slots))
unfolding key_del
del_found t now id slot p found = rw found refl

pub spent_found : (t : Table) (now peer key : ℕ) (p : Peer) → by_serial peer t.live ≡ Some p → spend t now peer key ≡ where_found t now reply.AlreadyGone (by_key key p.slots) (spent_key t now peer key p)
unfolding spend
spent_found t now peer key p found = rw found refl

-- And where it isn't.
pub removed_none : (t : Table) (now : ℕ) (id : PeerId) (reason : Reason) → by_id id t.live ≡ None → remove_peer t now id reason ≡ refused t now NoEntry
unfolding remove_peer
removed_none t now id reason none = rw none refl

pub key_new_none : (t : Table) (now : ℕ) (c : KeyConf) → by_id c.peer t.live ≡ None → key_new t now c ≡ refused t now NoEntry
unfolding key_new
key_new_none t now c none = rw none refl

pub spent_none : (t : Table) (now peer key : ℕ) → by_serial peer t.live ≡ None → spend t now peer key ≡ replied t now reply.AlreadyGone
unfolding spend
spent_none t now peer key none = rw none refl

-- What is ensured of the peer that was found.
pub ok_found : {X E : Type 0} (Q : X → Peer → Type 0) (o : Option Peer) (p : Peer) (r : Result X E) → o ≡ Some p → IfOk r (λ x. (q : Peer) → o ≡ Some q → Q x q) → IfOk r (λ x. Q x p)
ok_found Q o p (Ok x) found h = h p found
ok_found Q o p (Err e) found h = tt

pub not_both : {X : Type 0} (o : Option X) → o ≡ None → is_some o ≡ true → ⊥
not_both o none some = absurd (let e : ◌≡◌ {A = Bool} false true = sym (ap is_some none) ∙ some in cc)

-- ---- what is done with a peer

-- Where no member fits, none is changed.
pub absent_same : {X : Type 0} (fits : X → Bool) (change : X → X) (xs : List X) → list_any fits xs ≡ false → change_first fits change xs ≡ xs
absent_same fits change [] none = refl
absent_same fits change (x ∷ xs) none =
    elim (fits x) as (λ b. (b || list_any fits xs) ≡ false → (if b then change x ∷ xs else x ∷ change_first fits change xs) ≡ x ∷ xs) [
      | true ↦ λ no. absurd (let e : ◌≡◌ {A = Bool} true false = no in cc)
      | false ↦ λ no. ap (λ ys. x ∷ ys) (absent_same fits change xs no)
    ] none

pub plain_outcome : (t : Table) (o : Outcome) (r : Reply) → o.reply ≡ r → o.note ≡ None → o.first ≡ None → o.second ≡ None → outcome t o ≡ outcome_with t r None None None
plain_outcome t o r reply note first second = λ i. outcome_with t (reply i) (note i) (first i) (second i)

-- What is sent to a dying peer, and received from one, is counted there.
pub sent_dying : (t : Table) (now peer inner outer : ℕ) (ping : Bool) → is_there peer t.live ≡ false → outcome_with (record t { dying = change_first (has_serial peer) (sent_peer now inner outer ping) t.dying; moment = now }) reply.Done None None None ≡ sent t now peer inner outer ping
unfolding sent
sent_dying t now peer inner outer ping there = rw there refl

pub settled_dying : (t : Table) (now peer : ℕ) (from : Option Transport) (k : InnerKind) (inner outer : ℕ) (s : Settled) → s ≡ settled_as peer k t.live → is_there peer t.live ≡ false → outcome_with (record t { dying = change_first (has_serial peer) (λ p. settled_peer s inner (received_peer now outer p)) t.dying; moment = now }) (reply.Settled s) None None None ≡ settle t now peer from k inner outer
unfolding settle
settled_dying t now peer from k inner outer s is there =
    let plain : outcome_with (record t { dying = change_first (has_serial peer) (λ p. settled_peer (settled_as peer k t.live) inner (received_peer now outer p)) t.dying; moment = now }) (reply.Settled (settled_as peer k t.live)) None None None ≡ settle t now peer from k inner outer = rw there refl in
    subst (λ x. outcome_with (record t { dying = change_first (has_serial peer) (λ p. settled_peer x inner (received_peer now outer p)) t.dying; moment = now }) (reply.Settled x) None None None ≡ settle t now peer from k inner outer) (sym is) plain
