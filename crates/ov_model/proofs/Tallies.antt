-- Where the serials of peers and keys stand, and how a run moves each: it is made once, stands at most once,
-- and is named only where it stands.
use Rattle.std.proofs.Common.{ℕ, ◌≡◌, ◌+◌, ◌<◌, ◌≤◌, zero, suc, List, [], ◌∷◌, ◌++◌, refl, sym, ap, ◌∙◌, Bool, true, false, arith, if◌then◌else◌, ◌==◌, ◌||◌, nat_eq, nat_le, inl, inr, ◌⊎◌}
use Rattle.std.specs.Prelude.{map, filter, find, not, Option, Some, None, is_some}
use Rattle.std.specs.List.{list_any, IsDistinct}
use Rattle.std.specs.Cmp.{first_so, second_so}
use Rattle.std.proofs.lemmas.Bool.{cases_eq, eq-eqb, ne_eqb, or_cases}
use Rattle.std.proofs.lemmas.Bool.Decides.{nat_tests}
use Rattle.ov_model.specs.Limits.{most_peers, most_keys}
use Rattle.ov_base.specs.Address.{same_transport}
use Rattle.ov_base.specs.Sums.{total}
use Rattle.ov_model.specs.declared.ident.PeerId.{PeerId}
use Rattle.ov_model.specs.declared.ident.KeyId.{KeyId}
use Rattle.ov_model.specs.declared.command.Reason.{Reason}
use Rattle.ov_model.specs.declared.command.Reason.TheVariants.{Expired, Teardown}
use Rattle.ov_model.specs.declared.command.Command.TheVariants as command
use Rattle.ov_model.specs.declared.act.Act.{Act}
use Rattle.ov_model.specs.declared.act.Act.TheVariants as act
use Rattle.ov_model.specs.declared.act.Call.{Call}
use Rattle.ov_model.specs.declared.entry.Entry.{Entry}
use Rattle.ov_model.specs.declared.reply.Reply.{Reply}
use Rattle.ov_model.specs.declared.reply.Reply.TheVariants as reply
use Rattle.ov_model.specs.Tables.{Peer, Key, Table, empty_table, serials_of, in_slot, key_if_any, keys_in, key_serials, has_id, has_serial, by_rising_id, by_key, by_key_id, by_id, by_serial, by_remote, by_vpn, has_vpn}
use Rattle.ov_model.specs.Step.{Outcome, replied, where_found, peer_new_checks, peer_made, peer_new, peer_set_checks, peer_changed, peer_set, peer_get, peer_dump, removals, remove_peer, key_new_checks, key_made, key_new, key_get, key_swap, key_del, is_expired, expired_of, due_of, tick, down, hold_of, key_found, tx_look, rx_look, keep_look, sent, settle, spend, released, key_released, act_step, step, is_there, is_retired, has_key, may_act, May}
use Rattle.ov_model.specs.Runs.{Follows, IsRun, table_after, last_table}
use Rattle.ov_model.specs.Path.{removed}
use Rattle.ov_model.specs.Removals.{released_by, key_released_by, times}
use Rattle.ov_model.specs.Lifetime.{peers_in_act, peer_kept, peer_made_by, peers_in_reply, keys_in_act, key_made_by, keys_in_reply, peers_named, keys_named}
use Rattle.ov_model.proofs.Firsts.{is_of, later_any, found_of, times_total}
use Rattle.ov_model.proofs.Parts.{whole_total, parts_total}
use Rattle.ov_model.proofs.StepCases.{unless_has, unless_passed, found_has}
use Rattle.ov_model.proofs.Times.{times-append, times_first, distinct_times}
use Rattle.ov_model.proofs.KeysTaken.{slot_serials, peer_keys, slots_first, MakesNext, Turns, step_turns}
use Rattle.ov_model.proofs.Freed.{act_balance}

-- ---- where a serial stands

-- A peer stands among the live and the dying ones, a key in the slots and among the retired ones.
abbrev pub peer_stands : ℕ → Table → ℕ
peer_stands x t = times x (serials_of t.live) + times x (serials_of t.dying)

abbrev pub key_stands : ℕ → Table → ℕ
key_stands x t = times x (slot_serials t.live) + times x (key_serials t.retired)

-- What a test by the serial finds stands in the list.
pub any_stands : {X : Type 0} (f : X → ℕ) (x serial : ℕ) (ps : List X) → list_any (is_of f serial) ps ≡ true → times x (serial ∷ []) ≤ times x (map f ps)
any_stands f x serial [] any = cc
any_stands f x serial (p ∷ ps) any =
    let all : times x (f p ∷ map f ps) ≡ times x (f p ∷ []) + times x (map f ps) = times_first x (f p) (map f ps) in
    elim (cases_eq (f p) serial) [
      | inl same ↦ rw all (rw same (omega arith))
      | inr other ↦
          let later : times x (serial ∷ []) ≤ times x (map f ps) = any_stands f x serial ps (later_any (f p == serial) _ (ne_eqb (f p) serial other) any) in
          rw all (omega arith)
    ]

-- What any test finds is a part of the whole list: of its serials, and of the keys in its slots.
found_part : {X : Type 0} (part : X → ℕ) (whole : List X → ℕ) → ((q : X) (qs : List X) → whole (q ∷ qs) ≡ part q + whole qs) → (P : X → Bool) (ps : List X) (p : X) → find P ps ≡ Some p → part p ≤ whole ps
found_part part whole adds P [] p found = cc
found_part {X} part whole adds P (q ∷ ps) p found =
    let all : whole (q ∷ ps) ≡ part q + whole ps = adds q ps in
    elim (P q) as (λ b. P q ≡ b → part p ≤ whole (q ∷ ps)) [
      | true ↦ λ yes.
          let first : find P (q ∷ ps) ≡ Some q = rw yes refl in
          let its : q ≡ p = (let e : Some q ≡ Some p = sym first ∙ found in cc) in
          let same : part q ≡ part p = ap part its in
          omega arith
      | false ↦ λ no.
          let skip : find P (q ∷ ps) ≡ find P ps = rw no refl in
          let later : part p ≤ whole ps = found_part part whole adds P ps p (sym skip ∙ found) in
          omega arith
    ] refl

pub found_stands : {X : Type 0} (f : X → ℕ) (P : X → Bool) (x : ℕ) (ps : List X) (p : X) → find P ps ≡ Some p → times x (f p ∷ []) ≤ times x (map f ps)
found_stands {X} f P x ps p found = found_part (λ (q : X). times x (f q ∷ [])) (λ qs. times x (map f qs)) (λ q qs. times_first x (f q) (map f qs)) P ps p found

pub found_slots : (P : Peer → Bool) (x : ℕ) (ps : List Peer) (p : Peer) → find P ps ≡ Some p → times x (peer_keys p) ≤ times x (slot_serials ps)
found_slots P x ps p found = found_part (λ q. times x (peer_keys q)) (λ qs. times x (slot_serials qs)) (λ q qs. slots_first x q qs) P ps p found

-- A key that one of the live peers has stands in a slot.
has_stands : (x key : ℕ) (ks : List Key) → is_some (find (is_of (λ (k : Key). k.serial) key) ks) ≡ true → times x (key ∷ []) ≤ times x (key_serials ks)
has_stands x key [] has = cc
has_stands x key (k ∷ ks) has =
    let all : times x (k.serial ∷ key_serials ks) ≡ times x (k.serial ∷ []) + times x (key_serials ks) = times_first x k.serial (key_serials ks) in
    elim (cases_eq k.serial key) [
      | inl same ↦ rw all (rw same (omega arith))
      | inr other ↦
          let skip : find (is_of (λ (q : Key). q.serial) key) (k ∷ ks) ≡ find (is_of (λ (q : Key). q.serial) key) ks = rw (ne_eqb k.serial key other) refl in
          let later : times x (key ∷ []) ≤ times x (key_serials ks) = has_stands x key ks (sym (ap is_some skip) ∙ has) in
          rw all (omega arith)
    ]

pub slot_stands : (x key : ℕ) (ps : List Peer) → list_any (has_key key) ps ≡ true → times x (key ∷ []) ≤ times x (slot_serials ps)
slot_stands x key [] any = cc
slot_stands x key (p ∷ ps) any =
    let all : times x (slot_serials (p ∷ ps)) ≡ times x (peer_keys p) + times x (slot_serials ps) = slots_first x p ps in
    elim (or_cases (has_key key p) (list_any (has_key key) ps) any) [
      | inl here ↦ let own : times x (key ∷ []) ≤ times x (peer_keys p) = has_stands x key (keys_in p.slots) here in rw all (omega arith)
      | inr there ↦ let later : times x (key ∷ []) ≤ times x (slot_serials ps) = slot_stands x key ps there in rw all (omega arith)
    ]

-- ---- what an act may name

peer_there : (x peer : ℕ) (t : Table) → (is_there peer t.live || is_there peer t.dying) ≡ true → times x (peer ∷ []) ≤ peer_stands x t
peer_there x peer t may =
    let f : Peer → ℕ = λ p. p.serial in
    elim (or_cases (is_there peer t.live) (is_there peer t.dying) may) [
      | inl live ↦ let own : times x (peer ∷ []) ≤ times x (serials_of t.live) = any_stands f x peer t.live live in omega arith
      | inr dying ↦ let own : times x (peer ∷ []) ≤ times x (serials_of t.dying) = any_stands f x peer t.dying dying in omega arith
    ]

peer_dies : (x peer : ℕ) (t : Table) → is_there peer t.dying ≡ true → times x (peer ∷ []) ≤ peer_stands x t
peer_dies x peer t may = let own : times x (peer ∷ []) ≤ times x (serials_of t.dying) = any_stands (λ (p : Peer). p.serial) x peer t.dying may in omega arith

key_there : (x key : ℕ) (t : Table) → (list_any (has_key key) t.live || is_retired key t.retired) ≡ true → times x (key ∷ []) ≤ key_stands x t
key_there x key t may =
    elim (or_cases (list_any (has_key key) t.live) (is_retired key t.retired) may) [
      | inl live ↦ let own : times x (key ∷ []) ≤ times x (slot_serials t.live) = slot_stands x key t.live live in omega arith
      | inr retired ↦ let own : times x (key ∷ []) ≤ times x (key_serials t.retired) = any_stands (λ (k : Key). k.serial) x key t.retired retired in omega arith
    ]

key_retires : (x key : ℕ) (t : Table) → is_retired key t.retired ≡ true → times x (key ∷ []) ≤ key_stands x t
key_retires x key t may = let own : times x (key ∷ []) ≤ times x (key_serials t.retired) = any_stands (λ (k : Key). k.serial) x key t.retired may in omega arith

-- What an act or a reply names stands in the table.
pub record Stands (t : Table) (ps ks : List ℕ) : Type 0 where
  pub peers : (x : ℕ) → times x ps ≤ peer_stands x t
  pub keys : (x : ℕ) → times x ks ≤ key_stands x t

nobody : (t : Table) → Stands t [] []
nobody t = record { peers = λ x. omega arith; keys = λ x. omega arith }

pub act_stands : (t : Table) (a : Act) → may_act t a ≡ true → Stands t (peers_in_act a) (keys_in_act a)
act_stands t (act.Do c) may = nobody t
act_stands t (act.TxLook a) may = nobody t
act_stands t (act.RxLook id key_id from) may = nobody t
act_stands t (act.Sent peer inner outer ping) may = record { peers = λ x. peer_there x peer t may; keys = (nobody t).keys }
act_stands t (act.Settle peer from k inner outer) may = record { peers = λ x. peer_there x peer t may; keys = (nobody t).keys }
act_stands t (act.Spend peer key) may = record { peers = λ x. peer_there x peer t (first_so _ _ may); keys = λ x. key_there x key t (second_so _ _ may) }
act_stands t (act.KeepLook peer) may = nobody t
act_stands t (act.Released peer) may = record { peers = λ x. peer_dies x peer t may; keys = (nobody t).keys }
act_stands t (act.KeyReleased key) may = record { peers = (nobody t).peers; keys = λ x. key_retires x key t may }

-- ---- what a reply names

abbrev pub Shows : Table → Reply → Type 0
Shows t r = Stands t (peers_in_reply r) (keys_in_reply r)

-- What a step shows, of an outcome.
abbrev Shown : Table → Outcome → Type 0
Shown t o = Shows t o.reply

-- What is removed was live.
removed_shows : (t : Table) (now : ℕ) (id : PeerId) (reason : Reason) → Shown t (remove_peer t now id reason)
unfolding remove_peer
removed_shows t now id reason = found_has (Shown t) t now _ (by_id id t.live) _ (nobody t) (λ p found. record {
  peers = λ x. (let live : times x (p.serial ∷ []) ≤ times x (serials_of t.live) = found_stands (λ (q : Peer). q.serial) (has_id id) x t.live p found in omega arith);
  keys = (nobody t).keys;
})

removals_show : (t : Table) (now : ℕ) (reason : Reason) (gone left : List Peer) (r : Reply) → peers_in_reply r ≡ serials_of gone → keys_in_reply r ≡ [] → ((f : Peer → ℕ) → total f left + total f gone ≡ total f t.live) → Shown t (removals t now reason gone left r)
removals_show t now reason gone left r are none parts = record {
  peers = λ x. (
      let serial : Peer → ℕ = λ p. p.serial in
      let lives : times x (serials_of left) + times x (serials_of gone) ≡ times x (serials_of t.live) = rw (times_total serial x left, times_total serial x gone, times_total serial x t.live) (parts (λ p. times x (p.serial ∷ []))) in
      rw are (omega arith));
  keys = λ x. rw none (omega arith);
}

tick_shows : (t : Table) (now : ℕ) → Shown t (tick t now)
unfolding tick
tick_shows t now =
    let gone : List Peer = expired_of now t.live in
    removals_show t now Expired gone (filter (λ p. not (is_expired now p)) t.live) (reply.Ticked (serials_of gone) (serials_of (due_of now t.live))) refl refl (λ f. parts_total f (is_expired now) t.live)

down_shows : (t : Table) (now : ℕ) → Shown t (down t now)
unfolding down
down_shows t now =
    let gone : List Peer = by_rising_id t.live in
    removals_show t now Teardown gone [] (reply.Removed (serials_of gone)) refl refl (λ f. whole_total f t.live)

-- A look-up holds a live peer that it found, and a key of that peer.
held_shows : (t : Table) (now : ℕ) (missing empty : Reply) → Shows t missing → Shows t empty → (fits : Peer → Bool) (p : Option Peer) (key : Peer → Option Key) → find fits t.live ≡ p → ((x : ℕ) (q : Peer) (k : Key) → key q ≡ Some k → times x (k.serial ∷ []) ≤ times x (peer_keys q))
    → Shown t (where_found t now missing p (λ q. where_found t now empty (key q) (λ k. replied t now (reply.Hold (hold_of q k)))))
held_shows t now missing empty shows_missing shows_empty fits p key is own = found_has (Shown t) t now _ p _ shows_missing (λ q at. found_has (Shown t) t now _ (key q) _ shows_empty (λ k has.
    let found : find fits t.live ≡ Some q = is ∙ at in
    record {
      peers = λ x. (let live : times x (q.serial ∷ []) ≤ times x (serials_of t.live) = found_stands (λ (r : Peer). r.serial) fits x t.live q found in omega arith);
      keys = λ x. (let its : times x (k.serial ∷ []) ≤ times x (peer_keys q) = own x q k has in let slots : times x (peer_keys q) ≤ times x (slot_serials t.live) = found_slots fits x t.live q found in omega arith);
    }))

look_shows : (t : Table) (now : ℕ) (fits : Peer → Bool) (p : Option Peer) (key : Peer → Option Key) → find fits t.live ≡ p → ((x : ℕ) (q : Peer) (k : Key) → key q ≡ Some k → times x (k.serial ∷ []) ≤ times x (peer_keys q)) → Shown t (where_found t now reply.NoPeer p (λ q. key_found t now q (key q)))
look_shows t now fits p key is own = held_shows t now reply.NoPeer reply.NoKey (nobody t) (nobody t) fits p key is own

primary_stands : (x : ℕ) (a b : Option Key) (k : Key) → a ≡ Some k → times x (k.serial ∷ []) ≤ times x (key_serials (key_if_any a ++ key_if_any b))
primary_stands x None b k is = cc
primary_stands x (Some q) b k is =
    let its : q ≡ k = cc in
    let all : times x (q.serial ∷ key_serials (key_if_any b)) ≡ times x (q.serial ∷ []) + times x (key_serials (key_if_any b)) = times_first x q.serial (key_serials (key_if_any b)) in
    rw all (rw its (omega arith))

key_id_stands : (x : ℕ) (key_id : KeyId) (p : Peer) (k : Key) → by_key_id key_id p.slots ≡ Some k → times x (k.serial ∷ []) ≤ times x (peer_keys p)
key_id_stands x key_id p k is = found_stands (λ (q : Key). q.serial) (λ q. q.key_id.number == key_id.number) x (keys_in p.slots) k is

pub reply_stands : (t : Table) (now : ℕ) (a : Act) → may_act t a ≡ true → Shows t (act_step t now a).reply
unfolding peer_new peer_set peer_get peer_dump key_new key_get key_swap key_del tx_look rx_look keep_look sent settle spend released key_released
reply_stands t now (act.Do (command.PeerNew a)) may = found_has (Shown t) t now _ a.remote _ (nobody t) (λ remote is. unless_has (Shown t) t now (peer_new_checks t a remote) (peer_made t now a remote) (λ e. nobody t) (nobody t))
reply_stands t now (act.Do (command.PeerGet id)) may = found_has (Shown t) t now _ (by_id id t.live) _ (nobody t) (λ p found. nobody t)
reply_stands t now (act.Do (command.PeerSet a)) may = found_has (Shown t) t now _ (by_id a.id t.live) _ (nobody t) (λ p found. unless_has (Shown t) t now (peer_set_checks t a) (peer_changed t now a) (λ e. nobody t) (nobody t))
reply_stands t now (act.Do command.PeerDump) may = nobody t
reply_stands t now (act.Do (command.KeyGet id slot)) may = found_has (Shown t) t now _ (by_id id t.live) _ (nobody t) (λ p found. found_has (Shown t) t now _ (in_slot slot p.slots) _ (nobody t) (λ k has. nobody t))
reply_stands t now (act.Do (command.KeySwap id)) may = found_has (Shown t) t now _ (by_id id t.live) _ (nobody t) (λ p found. nobody t)
reply_stands t now (act.Do (command.KeyDel id slot)) may = found_has (Shown t) t now _ (by_id id t.live) _ (nobody t) (λ p found. nobody t)
reply_stands t now (act.Do (command.Remove id reason)) may = removed_shows t now id reason
reply_stands t now (act.Do (command.KeyNew c)) may = found_has (Shown t) t now _ (by_id c.peer t.live) _ (nobody t) (λ p found. unless_has (Shown t) t now (key_new_checks t) (key_made t now c p) (λ e. nobody t) (nobody t))
reply_stands t now (act.Do command.Tick) may = tick_shows t now
reply_stands t now (act.Do command.Down) may = down_shows t now
reply_stands t now (act.TxLook a) may = look_shows t now (has_vpn a) (by_vpn a t.live) (λ p. p.slots.primary) refl (λ x q k is. primary_stands x q.slots.primary q.slots.secondary k is)
reply_stands t now (act.RxLook id key_id from) may =
    let key : Peer → Option Key = λ p. by_key_id key_id p.slots in
    elim (id.number == 16777215) as (λ b. Shown t (where_found t now reply.NoPeer (if b then by_remote from t.live else by_id id t.live) (λ q. key_found t now q (key q)))) [
      | true ↦ look_shows t now (λ p. same_transport p.remote from) (by_remote from t.live) key refl (λ x q k is. key_id_stands x key_id q k is)
      | false ↦ look_shows t now (has_id id) (by_id id t.live) key refl (λ x q k is. key_id_stands x key_id q k is)
    ]
reply_stands t now (act.Sent peer inner outer ping) may = nobody t
reply_stands t now (act.Settle peer from k inner outer) may = nobody t
reply_stands t now (act.Spend peer key) may = found_has (Shown t) t now _ (by_serial peer t.live) _ (nobody t) (λ p found. found_has (Shown t) t now _ (by_key key p.slots) _ (nobody t) (λ k has. nobody t))
reply_stands t now (act.KeepLook peer) may = held_shows t now reply.Skip reply.Skip (nobody t) (nobody t) (has_serial peer) (by_serial peer t.live) (λ p. p.slots.primary) refl (λ x q k is. primary_stands x q.slots.primary q.slots.secondary k is)
reply_stands t now (act.Released peer) may = record { peers = λ x. peer_dies x peer t may; keys = (nobody t).keys }
reply_stands t now (act.KeyReleased key) may = record { peers = (nobody t).peers; keys = λ x. key_retires x key t may }

-- A peer that was due and is held is live.
pub kept_stands : (x : ℕ) (t : Table) (now : ℕ) (a : Act) → times x (peer_kept a (act_step t now a).reply) ≤ peer_stands x t
unfolding keep_look
kept_stands x t now (act.KeepLook peer) =
    let P : Outcome → Type 0 = λ o. times x (peer_kept (act.KeepLook peer) o.reply) ≤ peer_stands x t in
    found_has P t now _ (by_serial peer t.live) _ (omega arith)
    (λ p found. found_has P t now _ p.slots.primary _ (omega arith) (λ k has.
    let live : times x (p.serial ∷ []) ≤ times x (serials_of t.live) = found_stands (λ (q : Peer). q.serial) (has_serial peer) x t.live p found in
    let its : p.serial ≡ peer = found_of (λ (q : Peer). q.serial) peer t.live p found in
    rw (← its) (omega arith)))
kept_stands x t now _ = omega arith

-- ---- one serial along a run

-- One serial of a peer or of a key: how often it stands in a table, how many were made by then, how often an
-- entry lets it go, and how often an entry names it.
pub record Tally : Type 0 where
  pub serial : ℕ
  pub stands : Table → ℕ
  pub made : Table → ℕ
  pub freed : Entry → ℕ
  pub named : Entry → ℕ

-- It comes once, when it is the next to be made.
pub record Comes (serial before after new : ℕ) : Type 0 where
  pub once : new ≤ 1
  pub next : 0 < new → (serial ≡ before) × (after ≡ before + 1)
  pub grows : before ≤ after

-- What an entry does to it: it comes, or leaves where it is let go; and once it was made it is named only where
-- it stands.
pub record Moves (y : Tally) (t : Table) (e : Entry) : Type 0 where
  pub new : ℕ
  pub comes : Comes y.serial (y.made t) (y.made (step t e.call).after) new
  pub balance : y.stands (step t e.call).after + y.freed e ≡ y.stands t + new
  pub names : y.serial < y.made t → y.named e ≤ y.stands t + y.stands t + y.stands t

-- It stands at most once, and only where it was made.
pub record Room (y : Tally) (t : Table) : Type 0 where
  pub most : y.stands t ≤ 1
  pub unmade : y.made t ≤ y.serial → y.stands t ≡ 0

-- Nothing new, or something new.
pub new_cases : (new : ℕ) → new ≤ 1 → (new ≡ 0) ⊎ (0 < new)
new_cases zero most = inl refl
new_cases (suc n) most = inr (omega arith)

pub room_after : (y : Tally) (t : Table) (e : Entry) → Moves y t e → Room y t → Room y (step t e.call).after
room_after y t e moves room =
    let whole : y.stands (step t e.call).after + y.freed e ≡ y.stands t + moves.new = moves.balance in
    let grows : y.made t ≤ y.made (step t e.call).after = moves.comes.grows in
    let most : y.stands t ≤ 1 = room.most in
    elim (new_cases moves.new moves.comes.once) [
      | inl none ↦ record { most = omega arith; unmade = λ above. (let before : y.stands t ≡ 0 = room.unmade (omega arith) in omega arith) }
      | inr new ↦
          let first : y.serial ≡ y.made t = (moves.comes.next new).0 in
          let more : y.made (step t e.call).after ≡ y.made t + 1 = (moves.comes.next new).1 in
          let before : y.stands t ≡ 0 = room.unmade (omega arith) in
          let once : moves.new ≤ 1 = moves.comes.once in
          record { most = omega arith; unmade = λ above. absurd (omega arith) }
    ]

-- Every entry that follows moves it so.
abbrev pub AllMove : Tally → Type 0
AllMove y = (t : Table) (e : Entry) → May t e.call → (step t e.call).reply ≡ e.reply → Moves y t e

pub comes_next : (x before after : ℕ) (new : List ℕ) → MakesNext new before after → Comes x before after (times x new)
comes_next x before after new (inl still) = rw (still.0, still.1) (record { once = omega arith; next = λ none. absurd (omega arith); grows = omega arith })
comes_next x before after new (inr more) =
    elim (cases_eq before x) [
      | inl same ↦ rw (more.0, more.1, eq-eqb before x same) (record { once = omega arith; next = λ _. (sym same, refl); grows = omega arith })
      | inr other ↦ rw (more.0, more.1, ne_eqb before x other) (record { once = omega arith; next = λ none. absurd (omega arith); grows = omega arith })
    ]

none_new : (x before after new : ℕ) → Comes x before after new → x < before → new ≡ 0
none_new x before after new comes below = elim (new_cases new comes.once) [
  | inl none ↦ none
  | inr some ↦ absurd (let first : x ≡ before = (comes.next some).0 in omega arith)
]

-- ---- peers and keys

abbrev pub peer_tally : ℕ → Tally
peer_tally x = record {
  serial = x;
  stands = peer_stands x;
  made = λ t. t.made;
  freed = λ e. times x (released_by e.call.act);
  named = λ e. times x (peers_named e);
}

-- What stands in three lists in a row, and in four.
three : (x : ℕ) (xs ys zs : List ℕ) → times x (xs ++ ys ++ zs) ≡ times x xs + times x ys + times x zs
three x xs ys zs =
    let last : times x (xs ++ ys ++ zs) ≡ times x (xs ++ ys) + times x zs = times-append x (xs ++ ys) zs in
    let first : times x (xs ++ ys) ≡ times x xs + times x ys = times-append x xs ys in
    omega arith

four : (x : ℕ) (ws xs ys zs : List ℕ) → times x (ws ++ xs ++ ys ++ zs) ≡ times x ws + times x xs + times x ys + times x zs
four x ws xs ys zs =
    let last : times x (ws ++ xs ++ ys ++ zs) ≡ times x (ws ++ xs ++ ys) + times x zs = times-append x (ws ++ xs ++ ys) zs in
    let first : times x (ws ++ xs ++ ys) ≡ times x ws + times x xs + times x ys = three x ws xs ys in
    omega arith

pub peer_moves : (x : ℕ) → AllMove (peer_tally x)
peer_moves x t e may same =
    let o : Outcome = step t e.call in
    let new : List ℕ = peer_made_by e.call.act o.reply in
    let turn : Turns x t e.call.act o = step_turns x t e.call in
    let comes : Comes x t.made o.after.made (times x new) = comes_next x t.made o.after.made new turn.born in
    let living : times x (serials_of o.after.live) + times x (removed o.reply) ≡ times x (serials_of t.live) + times x new = turn.peers in
    let dying : times x (serials_of o.after.dying) + times x (released_by e.call.act) ≡ times x (serials_of t.dying) + times x (removed o.reply) = (act_balance x t _ e.call.act may).peers in
    let in_act : times x (peers_in_act e.call.act) ≤ peer_stands x t = (act_stands t e.call.act may).peers x in
    let in_reply : times x (peers_in_reply e.reply) ≤ peer_stands x t = rw (← same) ((reply_stands t _ e.call.act may).peers x) in
    let kept : times x (peer_kept e.call.act e.reply) ≤ peer_stands x t = rw (← same) (kept_stands x t _ e.call.act) in
    let all : times x (peers_named e) ≡ times x (peers_in_act e.call.act) + times x (peer_kept e.call.act e.reply) + times x (peer_made_by e.call.act e.reply) + times x (peers_in_reply e.reply) = four x (peers_in_act e.call.act) (peer_kept e.call.act e.reply) (peer_made_by e.call.act e.reply) (peers_in_reply e.reply) in
    record {
      new = times x new;
      comes = comes;
      balance = omega arith;
      names = λ below. (let none : times x (peer_made_by e.call.act e.reply) ≡ 0 = rw (← same) (none_new x t.made o.after.made (times x new) comes below) in omega arith);
    }

abbrev pub key_tally : ℕ → Tally
key_tally x = record {
  serial = x;
  stands = key_stands x;
  made = λ t. t.keys_made;
  freed = λ e. times x (key_released_by e.call.act);
  named = λ e. times x (keys_named e);
}

pub key_moves : (x : ℕ) → AllMove (key_tally x)
key_moves x t e may same =
    let o : Outcome = step t e.call in
    let new : List ℕ = key_made_by e.call.act o.reply in
    let turn : Turns x t e.call.act o = step_turns x t e.call in
    let comes : Comes x t.keys_made o.after.keys_made (times x new) = comes_next x t.keys_made o.after.keys_made new turn.made in
    let slots : times x (slot_serials o.after.live) + times x o.taken ≡ times x (slot_serials t.live) + times x new = turn.slots in
    let retired : times x (key_serials o.after.retired) + times x (key_released_by e.call.act) ≡ times x (key_serials t.retired) + times x o.taken = (act_balance x t _ e.call.act may).keys in
    let in_act : times x (keys_in_act e.call.act) ≤ key_stands x t = (act_stands t e.call.act may).keys x in
    let in_reply : times x (keys_in_reply e.reply) ≤ key_stands x t = rw (← same) ((reply_stands t _ e.call.act may).keys x) in
    let all : times x (keys_named e) ≡ times x (keys_in_act e.call.act) + times x (key_made_by e.call.act e.reply) + times x (keys_in_reply e.reply) = three x (keys_in_act e.call.act) (key_made_by e.call.act e.reply) (keys_in_reply e.reply) in
    record {
      new = times x new;
      comes = comes;
      balance = omega arith;
      names = λ below. (let none : times x (key_made_by e.call.act e.reply) ≡ 0 = rw (← same) (none_new x t.keys_made o.after.keys_made (times x new) comes below) in omega arith);
    }

-- ---- at the last table of a run

room_along : (y : Tally) → AllMove y → (t : Table) (es : List Entry) → Follows t es → Room y t → Room y (table_after t es)
room_along y moves t [] follows room = room
room_along y moves t (e ∷ es) follows room = room_along y moves (step t e.call).after es follows.2 (room_after y t e (moves t e follows.0 follows.1) room)

pub peer_room : (x : ℕ) (journal : List Entry) → IsRun journal → Room (peer_tally x) (last_table journal)
peer_room x journal run = room_along (peer_tally x) (peer_moves x) empty_table journal run (record { most = omega arith; unmade = λ _. refl })

pub key_room : (x : ℕ) (journal : List Entry) → IsRun journal → Room (key_tally x) (last_table journal)
key_room x journal run = room_along (key_tally x) (key_moves x) empty_table journal run (record { most = omega arith; unmade = λ _. refl })

-- The peers that one step removes differ.
pub removed_differ : (journal : List Entry) (call : Call) → IsRun journal → IsDistinct nat_eq (removed (step (last_table journal) call).reply)
removed_differ journal call run =
    let t : Table = last_table journal in
    distinct_times (removed (step t call).reply) (λ x.
    let live : times x (removed (step t call).reply) ≤ times x (serials_of t.live) = (step_turns x t call).removed_live in
    let most : peer_stands x t ≤ 1 = (peer_room x journal run).most in
    omega arith)

-- So do the keys that it takes out of their slots.
pub taken_differ : (journal : List Entry) (call : Call) → IsRun journal → IsDistinct nat_eq (step (last_table journal) call).taken
taken_differ journal call run =
    let t : Table = last_table journal in
    distinct_times (step t call).taken (λ x.
    let live : times x (step t call).taken ≤ times x (slot_serials t.live) = (step_turns x t call).taken_live in
    let most : key_stands x t ≤ 1 = (key_room x journal run).most in
    omega arith)

-- ---- how many are made

-- One is made only where there is room for it.
peer_new_room : (t : Table) (now : ℕ) (a : Act) → peer_made_by a (act_step t now a).reply ≡ t.made ∷ [] → t.made < most_peers
unfolding peer_new
peer_new_room t now (act.Do (command.PeerNew a)) made =
    let P : Outcome → Type 0 = λ o. peer_made_by (act.Do (command.PeerNew a)) o.reply ≡ t.made ∷ [] → t.made < most_peers in
    found_has P t now _ a.remote _ (λ is. absurd (cc)) (λ remote at. unless_passed P t now (peer_new_checks t a remote) (peer_made t now a remote) (λ e is. absurd (cc))
    (λ passed is. let room : nat_le most_peers t.made ≡ false = passed.1.1.1.1.0 in grind (arith, nat_tests))) made
peer_new_room t now _ is = absurd (cc)

key_new_room : (t : Table) (now : ℕ) (a : Act) → key_made_by a (act_step t now a).reply ≡ t.keys_made ∷ [] → t.keys_made < most_keys
unfolding key_new
key_new_room t now (act.Do (command.KeyNew c)) made =
    let P : Outcome → Type 0 = λ o. key_made_by (act.Do (command.KeyNew c)) o.reply ≡ t.keys_made ∷ [] → t.keys_made < most_keys in
    found_has P t now _ (by_id c.peer t.live) _ (λ is. absurd (cc)) (λ p found. unless_passed P t now (key_new_checks t) (key_made t now c p) (λ e is. absurd (cc))
    (λ passed is. let room : nat_le most_keys t.keys_made ≡ false = passed.0 in grind (arith, nat_tests))) made
key_new_room t now _ is = absurd (cc)

most_along : (count : Table → ℕ) (most : ℕ) → ((t : Table) (call : Call) → count t ≤ most → count (step t call).after ≤ most) → (t : Table) (es : List Entry) → count t ≤ most → count (table_after t es) ≤ most
most_along count most keeps t [] below = below
most_along count most keeps t (e ∷ es) below = most_along count most keeps (step t e.call).after es (keeps t e.call below)

most_next : (new : List ℕ) (before after most : ℕ) → MakesNext new before after → (new ≡ before ∷ [] → before < most) → before ≤ most → after ≤ most
most_next new before after most (inl same) room below = rw same.1 below
most_next new before after most (inr grown) room below = rw grown.1 (let less : before < most = room grown.0 in omega arith)

pub peers_most : (journal : List Entry) → (last_table journal).made ≤ most_peers
peers_most journal = most_along (λ t. t.made) most_peers
    (λ t call below. most_next (peer_made_by call.act (step t call).reply) t.made (step t call).after.made most_peers (step_turns 0 t call).born (λ is. peer_new_room t _ call.act is) below)
    empty_table journal (omega arith)

pub keys_most : (journal : List Entry) → (last_table journal).keys_made ≤ most_keys
keys_most journal = most_along (λ t. t.keys_made) most_keys
    (λ t call below. most_next (key_made_by call.act (step t call).reply) t.keys_made (step t call).after.keys_made most_keys (step_turns 0 t call).made (λ is. key_new_room t _ call.act is) below)
    empty_table journal (omega arith)
