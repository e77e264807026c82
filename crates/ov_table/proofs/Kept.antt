-- What holds of each key that a table has, holds of each that it has after a step, but for a new key.
use Rattle.std.proofs.Common.{ℕ, ◌≡◌, ◌+◌, List, [], ◌∷◌, refl, Bool, true, false, if◌then◌else◌, ◌==◌}
use Rattle.std.specs.Prelude.{Option, Some, None, not}
use Rattle.std.specs.List.{AllByRecursion}
use Rattle.ov_base.specs.declared.address.Transport.{Transport}
use Rattle.ov_model.specs.declared.ident.PeerId.{PeerId}
use Rattle.ov_model.specs.declared.command.Attrs.{Attrs}
use Rattle.ov_model.specs.declared.command.KeyConf.{KeyConf}
use Rattle.ov_model.specs.declared.command.Reason.{Reason}
use Rattle.ov_model.specs.declared.command.Slot.{Slot}
use Rattle.ov_model.specs.declared.command.Slot.TheVariants.{Primary, Secondary}
use Rattle.ov_model.specs.declared.command.Command.TheVariants as command
use Rattle.ov_model.specs.declared.act.Act.{Act}
use Rattle.ov_model.specs.declared.act.Act.TheVariants as act
use Rattle.ov_model.specs.declared.reply.Reply.{Reply}
use Rattle.ov_model.specs.declared.reply.Reply.TheVariants as reply
use Rattle.ov_model.specs.declared.reply.Errno.{Errno}
use Rattle.ov_model.specs.declared.reply.Errno.TheVariants.{NoEntry}
use Rattle.ov_model.specs.Tables.{Peer, Key, Slots, Table, no_keys, in_slot, with_slot, swapped, key_if_any, keys_in, keys_of, is_key, without_key, has_id, has_serial, by_key, by_id, by_serial, by_vpn, by_key_id, by_rising_id}
use Rattle.ov_model.specs.Step as model
use Rattle.ov_model.specs.Step.{peer_new, peer_set, peer_get, peer_dump, remove_peer, key_new, key_get, key_swap, key_del, tx_look, rx_look, sent, settle, spend, released, key_released, tick, down, keep_look}
use Rattle.ov_model.proofs.Firsts.{all_found, all_without, all_changed}
use Rattle.ov_model.proofs.Lanes.{all_append}
use Rattle.ov_model.proofs.Parts.{rising_all, filter_all}
use Rattle.ov_model.proofs.Shapes.{Kept, settle_kept}
use Rattle.ov_model.proofs.StepCases.{unless_has, found_has, changed_has}

abbrev pub OneHolds : (Key → Type 0) → Option Key → Type 0
OneHolds P None = Unit {0}
OneHolds P (Some k) = P k

pub record SlotsHold (P : Key → Type 0) (s : Slots) : Type 0 where
  pub primary : OneHolds P s.primary
  pub secondary : OneHolds P s.secondary

-- A fact of each key in a slot of a live peer and of each retired key, and the count of the keys made.
pub record Holds (P : Key → Type 0) (n : ℕ) (t : Table) : Type 0 where
  pub count : t.keys_made ≡ n
  pub live : AllByRecursion (λ p. SlotsHold P p.slots) t.live
  pub retired : AllByRecursion P t.retired

pub record Keeps (P : Key → Type 0) (n : ℕ) (o : model.Outcome) : Type 0 where
  pub holds : Holds P n o.after

-- ---- slots

one_all : (P : Key → Type 0) (k : Option Key) → OneHolds P k → AllByRecursion P (key_if_any k)
one_all P None h = tt
one_all P (Some k) h = (h, tt)

pub slots_all : (P : Key → Type 0) (s : Slots) → SlotsHold P s → AllByRecursion P (keys_in s)
slots_all P s h = all_append P (key_if_any s.primary) (key_if_any s.secondary) (one_all P s.primary h.primary) (one_all P s.secondary h.secondary)

in_slot_holds : (P : Key → Type 0) (slot : Slot) (s : Slots) → SlotsHold P s → OneHolds P (in_slot slot s)
in_slot_holds P Primary s h = h.primary
in_slot_holds P Secondary s h = h.secondary

with_slot_holds : (P : Key → Type 0) (slot : Slot) (k : Key) (s : Slots) → P k → SlotsHold P s → SlotsHold P (with_slot slot (Some k) s)
with_slot_holds P Primary k s new h = record { primary = new; secondary = h.secondary }
with_slot_holds P Secondary k s new h = record { primary = h.primary; secondary = new }

without_if : (P : Key → Type 0) (a b : Bool) (s : Slots) → SlotsHold P s → SlotsHold P (if a then record s { primary = None } else (if b then record s { secondary = None } else s))
without_if P true b s h = record { primary = tt; secondary = h.secondary }
without_if P false true s h = record { primary = h.primary; secondary = tt }
without_if P false false s h = h

without_holds : (P : Key → Type 0) (key : ℕ) (s : Slots) → SlotsHold P s → SlotsHold P (without_key key s)
without_holds P key s h = without_if P (is_key key s.primary) (is_key key s.secondary) s h

-- ---- steps

plain : (P : Key → Type 0) (n : ℕ) (t : Table) (now : ℕ) (r : Reply) → Holds P n t → Keeps P n (model.replied t now r)
plain P n t now r h = record { holds = record { count = h.count; live = h.live; retired = h.retired } }

new_keeps : (P : Key → Type 0) (n : ℕ) (t : Table) (now : ℕ) (a : Attrs) (remote : Transport) → Holds P n t → Keeps P n (model.peer_new_at t now a remote)
new_keeps P n t now a remote h =
    let empty : SlotsHold P no_keys = record { primary = tt; secondary = tt } in
    unless_has (Keeps P n) t now (model.peer_new_checks t a remote) (model.peer_made t now a remote) (λ e. plain P n t now (reply.Refused e) h)
    (record { holds = record { count = h.count; live = all_append (λ p. SlotsHold P p.slots) t.live (model.peer_of t.made now a remote ∷ []) h.live (empty, tt); retired = h.retired } })

remove_keeps : (P : Key → Type 0) (n : ℕ) (t : Table) (now : ℕ) (id : PeerId) (reason : Reason) → Holds P n t → Keeps P n (remove_peer t now id reason)
unfolding remove_peer
remove_keeps P n t now id reason h =
    let Q : Peer → Type 0 = λ q. SlotsHold P q.slots in
    found_has (Keeps P n) t now _ (by_id id t.live) _ (plain P n t now _ h) (λ p found.
    let keys : AllByRecursion P (keys_of (p ∷ [])) = all_append P (keys_in p.slots) [] (slots_all P p.slots (all_found Q (has_id id) t.live p found h.live)) tt in
    record { holds = record { count = h.count; live = all_without Q (has_id id) t.live h.live; retired = all_append P t.retired (keys_of (p ∷ [])) h.retired keys } })

-- How key-new ends: refused, or with one more key.
pub data KeyNewEnds (P : Key → Type 0) (t : Table) (c : KeyConf) (o : model.Outcome) : Type 0 where
  no : (e : Errno) → o.reply ≡ reply.Refused e → Keeps P t.keys_made o → KeyNewEnds P t c o
  yes : o.reply ≡ reply.Made t.keys_made → (P (model.key_of_conf t.keys_made c) → Keeps P (t.keys_made + 1) o) → KeyNewEnds P t c o

pub new_key_ends : (P : Key → Type 0) (t : Table) (now : ℕ) (c : KeyConf) → Holds P t.keys_made t → KeyNewEnds P t c (model.key_new t now c)
unfolding key_new
new_key_ends P t now c h =
    let Q : Peer → Type 0 = λ q. SlotsHold P q.slots in
    let k : Key = model.key_of_conf t.keys_made c in
    let refusal : (e : Errno) → KeyNewEnds P t c (model.refused t now e) = λ e. no e refl (plain P t.keys_made t now (reply.Refused e) h) in
    found_has (KeyNewEnds P t c) t now _ (by_id c.peer t.live) _ (refusal NoEntry)
    (λ p found. unless_has (KeyNewEnds P t c) t now (model.key_new_checks t) (model.key_made t now c p) refusal (yes refl (λ new. record {
      holds = record {
        count = refl;
        live = all_changed Q (has_id c.peer) (model.with_key c.slot k) t.live (λ q s. with_slot_holds P c.slot k q.slots new s) h.live;
        retired = all_append P t.retired (key_if_any (in_slot c.slot p.slots)) h.retired (one_all P (in_slot c.slot p.slots) (in_slot_holds P c.slot p.slots (all_found Q (has_id c.peer) t.live p found h.live)));
      };
    })))

look_keeps : (P : Key → Type 0) (n : ℕ) (t : Table) (now : ℕ) (p : Option Peer) (key : Peer → Option Key) → Holds P n t → Keeps P n (model.where_found t now reply.NoPeer p (λ q. model.key_found t now q (key q)))
look_keeps P n t now p key h = found_has (Keeps P n) t now _ p _ (plain P n t now reply.NoPeer h)
    (λ q found. found_has (Keeps P n) t now _ (key q) _ (plain P n t now reply.NoKey h) (λ k has. plain P n t now _ h))

-- A peer that is changed and keeps its slots.
changed_keeps : (P : Key → Type 0) (n : ℕ) (t : Table) (now serial : ℕ) (live dying : Peer → Peer) (r : Reply) → ((p : Peer) → Kept p (live p)) → Holds P n t → Keeps P n (model.replied (model.change_peer serial live dying t) now r)
changed_keeps P n t now serial live dying r keeps h =
    changed_has (λ u. Keeps P n (model.replied u now r)) t serial live dying
    (record { holds = record { count = h.count; live = all_changed (λ q. SlotsHold P q.slots) (has_serial serial) live t.live (λ q s. rw (keeps q).slots s) h.live; retired = h.retired } })
    (record { holds = record { count = h.count; live = h.live; retired = h.retired } })

spend_keeps : (P : Key → Type 0) (n : ℕ) (t : Table) (now peer key : ℕ) → Holds P n t → Keeps P n (spend t now peer key)
unfolding spend
spend_keeps P n t now peer key h =
    let Q : Peer → Type 0 = λ q. SlotsHold P q.slots in
    found_has (Keeps P n) t now _ (by_serial peer t.live) _ (plain P n t now _ h)
    (λ p found. found_has (Keeps P n) t now _ (by_key key p.slots) _ (plain P n t now _ h) (λ k has.
    let one : P k = all_found P (λ x. x.serial == key) (keys_in p.slots) k has (slots_all P p.slots (all_found Q (has_serial peer) t.live p found h.live)) in
    record { holds = record { count = h.count; live = all_changed Q (has_serial peer) (λ q. record q { slots = without_key key q.slots }) t.live (λ q s. without_holds P key q.slots s) h.live; retired = all_append P t.retired (k ∷ []) h.retired (one, tt) } }))

-- peer-set leaves the slots as they are.
set_keeps : (P : Key → Type 0) (n : ℕ) (t : Table) (now : ℕ) (a : Attrs) → Holds P n t → Keeps P n (peer_set t now a)
unfolding peer_set
set_keeps P n t now a h = found_has (Keeps P n) t now _ (by_id a.id t.live) _ (plain P n t now _ h) (λ p found.
    unless_has (Keeps P n) t now (model.peer_set_checks t a) (model.peer_changed t now a) (λ e. plain P n t now (reply.Refused e) h)
    (record { holds = record { count = h.count; live = all_changed (λ q. SlotsHold P q.slots) (has_id a.id) (model.set_peer now a) t.live (λ q s. s) h.live; retired = h.retired } }))

-- A change of slots that gives no new key, and the keys that it takes out.
slots_keep : (P : Key → Type 0) (n : ℕ) (t : Table) (now : ℕ) (id : PeerId) (change : Slots → Slots) (out : List Key) → ((s : Slots) → SlotsHold P s → SlotsHold P (change s)) → AllByRecursion P out → Holds P n t → Keeps P n (model.slots_changed t now id change out)
slots_keep P n t now id change out keeps gone h = record {
  holds = record {
    count = h.count;
    live = all_changed (λ q. SlotsHold P q.slots) (has_id id) (model.with_slots change) t.live (λ q s. keeps q.slots s) h.live;
    retired = all_append P t.retired out h.retired gone;
  };
}

swap_keeps : (P : Key → Type 0) (n : ℕ) (t : Table) (now : ℕ) (id : PeerId) → Holds P n t → Keeps P n (key_swap t now id)
unfolding key_swap
swap_keeps P n t now id h = found_has (Keeps P n) t now _ (by_id id t.live) _ (plain P n t now _ h)
    (λ p found. slots_keep P n t now id swapped [] (λ s holds. record { primary = holds.secondary; secondary = holds.primary }) tt h)

emptied_holds : (P : Key → Type 0) (slot : Slot) (s : Slots) → SlotsHold P s → SlotsHold P (with_slot slot None s)
emptied_holds P Primary s h = record { primary = tt; secondary = h.secondary }
emptied_holds P Secondary s h = record { primary = h.primary; secondary = tt }

del_keeps : (P : Key → Type 0) (n : ℕ) (t : Table) (now : ℕ) (id : PeerId) (slot : Slot) → Holds P n t → Keeps P n (key_del t now id slot)
unfolding key_del
del_keeps P n t now id slot h =
    let Q : Peer → Type 0 = λ q. SlotsHold P q.slots in
    found_has (Keeps P n) t now _ (by_id id t.live) _ (plain P n t now _ h)
    (λ p found. slots_keep P n t now id (with_slot slot None) (key_if_any (in_slot slot p.slots)) (emptied_holds P slot)
    (one_all P (in_slot slot p.slots) (in_slot_holds P slot p.slots (all_found Q (has_id id) t.live p found h.live))) h)

-- The removal of some peers.
removals_keep : (P : Key → Type 0) (n : ℕ) (t : Table) (now : ℕ) (reason : Reason) (gone left : List Peer) (r : Reply) → AllByRecursion (λ q. SlotsHold P q.slots) gone → AllByRecursion (λ q. SlotsHold P q.slots) left → Holds P n t → Keeps P n (model.removals t now reason gone left r)
removals_keep P n t now reason gone left r went stay h = record { holds = record { count = h.count; live = stay; retired = all_append P t.retired (keys_of gone) h.retired (all_keys P gone went) } }
  where
    all_keys : (P : Key → Type 0) (ps : List Peer) → AllByRecursion (λ q. SlotsHold P q.slots) ps → AllByRecursion P (keys_of ps)
    all_keys P [] all = tt
    all_keys P (p ∷ ps) all = all_append P (keys_in p.slots) (keys_of ps) (slots_all P p.slots all.0) (all_keys P ps all.1)

tick_keeps : (P : Key → Type 0) (n : ℕ) (t : Table) (now : ℕ) → Holds P n t → Keeps P n (tick t now)
unfolding tick
tick_keeps P n t now h =
    let Q : Peer → Type 0 = λ q. SlotsHold P q.slots in
    removals_keep P n t now _ (model.expired_of now t.live) _ _ (filter_all Q (model.is_expired now) (by_rising_id t.live) (rising_all Q t.live h.live)) (filter_all Q (λ p. not (model.is_expired now p)) t.live h.live) h

down_keeps : (P : Key → Type 0) (n : ℕ) (t : Table) (now : ℕ) → Holds P n t → Keeps P n (down t now)
unfolding down
down_keeps P n t now h = removals_keep P n t now _ (by_rising_id t.live) [] _ (rising_all (λ q. SlotsHold P q.slots) t.live h.live) tt h

keep_look_keeps : (P : Key → Type 0) (n : ℕ) (t : Table) (now peer : ℕ) → Holds P n t → Keeps P n (keep_look t now peer)
unfolding keep_look
keep_look_keeps P n t now peer h =
    found_has (Keeps P n) t now _ (by_serial peer t.live) _ (plain P n t now reply.Skip h)
    (λ q found. found_has (Keeps P n) t now _ q.slots.primary _ (plain P n t now reply.Skip h) (λ k has. plain P n t now _ h))

-- ---- every act

-- Whether an act is anything but a key-new.
abbrev pub NoNewKey : Act → Type 0
NoNewKey (act.Do (command.KeyNew c)) = ⊥
NoNewKey _ = Unit {0}

pub act_keeps : (P : Key → Type 0) (n : ℕ) (t : Table) (now : ℕ) (a : Act) → NoNewKey a → Holds P n t → Keeps P n (model.act_step t now a)
unfolding peer_new peer_get peer_dump key_get tx_look rx_look sent settle released key_released
act_keeps P n t now (act.Do (command.PeerNew a)) new h = found_has (Keeps P n) t now _ a.remote _ (plain P n t now _ h) (λ remote is. new_keeps P n t now a remote h)
act_keeps P n t now (act.Do (command.PeerSet a)) new h = set_keeps P n t now a h
act_keeps P n t now (act.Do (command.PeerGet id)) new h = found_has (Keeps P n) t now _ (by_id id t.live) _ (plain P n t now _ h) (λ p found. plain P n t now _ h)
act_keeps P n t now (act.Do command.PeerDump) new h = plain P n t now _ h
act_keeps P n t now (act.Do (command.Remove id reason)) new h = remove_keeps P n t now id reason h
act_keeps P n t now (act.Do (command.KeyNew c)) new h = absurd new
act_keeps P n t now (act.Do (command.KeyGet id slot)) new h = found_has (Keeps P n) t now _ (by_id id t.live) _ (plain P n t now _ h) (λ p found. found_has (Keeps P n) t now _ (in_slot slot p.slots) _ (plain P n t now _ h) (λ k has. plain P n t now _ h))
act_keeps P n t now (act.Do (command.KeySwap id)) new h = swap_keeps P n t now id h
act_keeps P n t now (act.Do (command.KeyDel id slot)) new h = del_keeps P n t now id slot h
act_keeps P n t now (act.Do command.Tick) new h = tick_keeps P n t now h
act_keeps P n t now (act.Do command.Down) new h = down_keeps P n t now h
act_keeps P n t now (act.TxLook a) new h = look_keeps P n t now (by_vpn a t.live) (λ p. p.slots.primary) h
act_keeps P n t now (act.RxLook id key_id from) new h = look_keeps P n t now (model.rx_peer id from t.live) (λ p. by_key_id key_id p.slots) h
act_keeps P n t now (act.Sent peer inner outer ping) new h =
    changed_keeps P n t now peer (model.sent_peer now inner outer ping) (model.sent_peer now inner outer ping) reply.Done (λ p. record { name = refl; slots = refl }) h
act_keeps P n t now (act.Settle peer from k inner outer) new h =
    changed_keeps P n t now peer _ _ (reply.Settled (model.settled_as peer k t.live)) (λ p. settle_kept now t.live from (model.settled_as peer k t.live) inner outer p) h
act_keeps P n t now (act.Spend peer key) new h = spend_keeps P n t now peer key h
act_keeps P n t now (act.KeepLook peer) new h = keep_look_keeps P n t now peer h
act_keeps P n t now (act.Released serial) new h = record { holds = record { count = h.count; live = h.live; retired = h.retired } }
act_keeps P n t now (act.KeyReleased serial) new h =
    record { holds = record { count = h.count; live = h.live; retired = all_without P (model.has_key_serial serial) t.retired h.retired } }
