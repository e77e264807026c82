-- Of each serial of a peer or of a key: what a step makes, what it takes out and what is left. None is made
-- twice in a run, and none leaves twice.
use Rattle.std.proofs.Common.{ℕ, ◌≡◌, ◌+◌, ◌<◌, ◌≤◌, List, [], ◌∷◌, ◌++◌, refl, ap, ◌∙◌, append_assoc, Bool, arith, append-nil, inl, inr, ◌⊎◌}
use Rattle.std.specs.Prelude.{filter, find, not, Option, Some, None}
use Rattle.std.proofs.lemmas.Bool.{cases_eq, eq-eqb, ne_eqb}
use Rattle.std.proofs.lemmas.List.{map-append}
use Rattle.ov_base.specs.declared.address.Transport.{Transport}
use Rattle.ov_base.specs.Sums.{total}
use Rattle.ov_model.specs.declared.ident.PeerId.{PeerId}
use Rattle.ov_model.specs.declared.command.Attrs.{Attrs}
use Rattle.ov_model.specs.declared.command.KeyConf.{KeyConf}
use Rattle.ov_model.specs.declared.command.Reason.{Reason}
use Rattle.ov_model.specs.declared.command.Reason.TheVariants.{Expired, Teardown}
use Rattle.ov_model.specs.declared.command.Slot.{Slot}
use Rattle.ov_model.specs.declared.command.Slot.TheVariants.{Primary, Secondary}
use Rattle.ov_model.specs.declared.command.Command.TheVariants as command
use Rattle.ov_model.specs.declared.act.Act.{Act}
use Rattle.ov_model.specs.declared.act.Act.TheVariants as act
use Rattle.ov_model.specs.declared.act.Call.{Call}
use Rattle.ov_model.specs.declared.entry.Entry.{Entry}
use Rattle.ov_model.specs.declared.reply.Reply.{Reply}
use Rattle.ov_model.specs.declared.reply.Reply.TheVariants as reply
use Rattle.ov_model.specs.declared.reply.Errno.TheVariants.{NoEntry, Invalid}
use Rattle.ov_model.specs.declared.reply.Settled.{Settled}
use Rattle.ov_model.specs.Tables.{Peer, Key, Slots, Table, empty_table, change_first, without_first, has_id, has_serial, serials_of, by_rising_id, in_slot, with_slot, swapped, key_if_any, keys_in, keys_of, key_serials, by_id, by_serial, by_vpn, by_key_id, by_key, without_key}
use Rattle.ov_model.specs.Step.{Outcome, replied, refused, where_found, change_peer, peer_of, peer_new_checks, peer_made, peer_new, peer_new_at, set_peer, peer_set_checks, peer_changed, peer_set, peer_get, peer_dump, removals, remove_peer, key_of_conf, with_key, key_new_checks, key_made, key_new, key_get, with_slots, slots_changed, key_swap, key_del, is_expired, expired_of, due_of, tick, down, hold_of, key_found, tx_look, rx_peer, rx_look, keep_look, sent_peer, sent, settled_as, settle, spend, released, key_released, act_step, step}
use Rattle.ov_model.specs.Runs.{Follows, IsRun, table_after}
use Rattle.ov_model.specs.Events.{steps_after, steps_of}
use Rattle.ov_model.specs.Path.{removed}
use Rattle.ov_model.specs.Removals.{times, removed_in, keys_taken_in}
use Rattle.ov_model.specs.Lifetime.{peer_made_by, key_made_by}
use Rattle.ov_model.proofs.Firsts.{map_changed, total_without, total_changed, total_kept, times_total}
use Rattle.ov_model.proofs.Parts.{whole_total, parts_total}
use Rattle.ov_model.proofs.Shapes.{Name, Kept, settle_kept}
use Rattle.ov_model.proofs.StepCases.{unless_has, found_has, changed_has}
use Rattle.ov_model.proofs.Times.{times-append, times_first}

-- ---- the keys in the slots of some peers

abbrev pub slot_serials : List Peer → List ℕ
slot_serials [] = []
slot_serials (p ∷ ps) = key_serials (keys_in p.slots) ++ slot_serials ps

slots_append : (ps qs : List Peer) → slot_serials (ps ++ qs) ≡ slot_serials ps ++ slot_serials qs
slots_append [] qs = refl
slots_append (p ∷ ps) qs = rw (slots_append ps qs, append_assoc) refl

abbrev pub peer_keys : Peer → List ℕ
peer_keys p = key_serials (keys_in p.slots)

pub slots_first : (x : ℕ) (p : Peer) (ps : List Peer) → times x (slot_serials (p ∷ ps)) ≡ times x (peer_keys p) + times x (slot_serials ps)
slots_first x p ps = times-append x (peer_keys p) (slot_serials ps)

slots_total : (x : ℕ) (ps : List Peer) → times x (slot_serials ps) ≡ total (λ p. times x (peer_keys p)) ps
slots_total x [] = refl
slots_total x (p ∷ ps) = slots_first x p ps ∙ ap (λ n. times x (peer_keys p) + n) (slots_total x ps)

-- The keys of some peers have the serials in their slots.
pub keys_serials : (ps : List Peer) → key_serials (keys_of ps) ≡ slot_serials ps
keys_serials [] = refl
keys_serials (p ∷ ps) = map-append (λ (k : Key). k.serial) (keys_in p.slots) (keys_of ps) ∙ ap (λ ns. peer_keys p ++ ns) (keys_serials ps)

-- A key that is put into a slot, and the one that stood there.
put_counts : (x : ℕ) (slot : Slot) (k : Key) (a b : Option Key) →
    let s : Slots = record { primary = a; secondary = b } in
    times x (key_serials (keys_in (with_slot slot (Some k) s))) + times x (key_serials (key_if_any (in_slot slot s))) ≡ times x (key_serials (keys_in s)) + times x (k.serial ∷ [])
put_counts x Primary k None None = omega arith
put_counts x Primary k None (Some b) = rw (times_first x k.serial (b.serial ∷ [])) (omega arith)
put_counts x Primary k (Some a) None = omega arith
put_counts x Primary k (Some a) (Some b) = rw (times_first x k.serial (b.serial ∷ []), times_first x a.serial (b.serial ∷ [])) (omega arith)
put_counts x Secondary k None None = omega arith
put_counts x Secondary k None (Some b) = omega arith
put_counts x Secondary k (Some a) None = rw (times_first x a.serial (k.serial ∷ [])) (omega arith)
put_counts x Secondary k (Some a) (Some b) = rw (times_first x a.serial (k.serial ∷ []), times_first x a.serial (b.serial ∷ [])) (omega arith)

-- A slot that becomes empty, and the key that stood there.
emptied_counts : (x : ℕ) (slot : Slot) (a b : Option Key) →
    let s : Slots = record { primary = a; secondary = b } in
    times x (key_serials (keys_in (with_slot slot None s))) + times x (key_serials (key_if_any (in_slot slot s))) ≡ times x (key_serials (keys_in s))
emptied_counts x Primary None b = omega arith
emptied_counts x Primary (Some a) b = rw (times_first x a.serial (key_serials (key_if_any b))) (omega arith)
emptied_counts x Secondary None b = omega arith
emptied_counts x Secondary (Some a) b = rw (times_first x a.serial (key_serials (key_if_any b))) (omega arith)

-- Two keys that change places.
swapped_counts : (x : ℕ) (a b : Option Key) →
    let s : Slots = record { primary = a; secondary = b } in
    times x (key_serials (keys_in (swapped s))) + times x [] ≡ times x (key_serials (keys_in s))
swapped_counts x None None = omega arith
swapped_counts x None (Some b) = omega arith
swapped_counts x (Some a) None = omega arith
swapped_counts x (Some a) (Some b) = rw (times_first x b.serial (a.serial ∷ []), times_first x a.serial (b.serial ∷ [])) (omega arith)

-- A key that is taken out of its slot by its serial.
out_counts : (x key : ℕ) (k : Key) (a b : Option Key) →
    let s : Slots = record { primary = a; secondary = b } in
    by_key key s ≡ Some k → times x (key_serials (keys_in (without_key key s))) + times x (key ∷ []) ≡ times x (key_serials (keys_in s))
out_counts x key k None None found = cc
out_counts x key k None (Some b) found =
    elim (cases_eq b.serial key) [
      | inl same ↦ rw (eq-eqb b.serial key same, same) (omega arith)
      | inr other ↦ absurd (let none : by_key key (record { primary = None; secondary = Some b }) ≡ None = rw (ne_eqb b.serial key other) refl in cc)
    ]
out_counts x key k (Some a) None found =
    elim (cases_eq a.serial key) [
      | inl same ↦ rw (eq-eqb a.serial key same, same) (omega arith)
      | inr other ↦ absurd (let none : by_key key (record { primary = Some a; secondary = None }) ≡ None = rw (ne_eqb a.serial key other) refl in cc)
    ]
out_counts x key k (Some a) (Some b) found =
    elim (cases_eq a.serial key) [
      | inl same ↦ rw (eq-eqb a.serial key same, same, times_first x key (b.serial ∷ [])) (omega arith)
      | inr other ↦ elim (cases_eq b.serial key) [
        | inl second ↦ rw (ne_eqb a.serial key other, eq-eqb b.serial key second, second, times_first x a.serial (key ∷ [])) (omega arith)
        | inr neither ↦ absurd (let none : by_key key (record { primary = Some a; secondary = Some b }) ≡ None = rw (ne_eqb a.serial key other, ne_eqb b.serial key neither) refl in cc)
      ]
    ]

-- What stands in a slot is a part of all.
slot_part : (x : ℕ) (slot : Slot) (a b : Option Key) →
    let s : Slots = record { primary = a; secondary = b } in
    times x (key_serials (key_if_any (in_slot slot s))) ≤ times x (key_serials (keys_in s))
slot_part x Primary None b = omega arith
slot_part x Primary (Some a) b = rw (times_first x a.serial (key_serials (key_if_any b))) (omega arith)
slot_part x Secondary None b = omega arith
slot_part x Secondary (Some a) b = rw (times_first x a.serial (key_serials (key_if_any b))) (omega arith)

-- ---- every step

-- A step makes none, or the next.
abbrev pub MakesNext : List ℕ → (before after : ℕ) → Type 0
MakesNext new before after = ((new ≡ []) × (after ≡ before)) ⊎ ((new ≡ before ∷ []) × (after ≡ before + 1))

-- Of each serial: the live peers that were and the new one are those that are left and the removed ones;
-- and the keys in slots and the new one are those that are left and those that were taken out.
pub record Turns (x : ℕ) (t : Table) (a : Act) (o : Outcome) : Type 0 where
  pub peers : times x (serials_of o.after.live) + times x (removed o.reply) ≡ times x (serials_of t.live) + times x (peer_made_by a o.reply)
  pub born : MakesNext (peer_made_by a o.reply) t.made o.after.made
  pub removed_live : times x (removed o.reply) ≤ times x (serials_of t.live)
  pub slots : times x (slot_serials o.after.live) + times x o.taken ≡ times x (slot_serials t.live) + times x (key_made_by a o.reply)
  pub made : MakesNext (key_made_by a o.reply) t.keys_made o.after.keys_made
  pub taken_live : times x o.taken ≤ times x (slot_serials t.live)

-- It makes nothing and takes nothing out.
still : (x : ℕ) (t : Table) (a : Act) (o : Outcome) → serials_of o.after.live ≡ serials_of t.live → times x (slot_serials o.after.live) ≡ times x (slot_serials t.live) → removed o.reply ≡ [] → o.taken ≡ [] → peer_made_by a o.reply ≡ [] → key_made_by a o.reply ≡ [] → o.after.made ≡ t.made → o.after.keys_made ≡ t.keys_made → Turns x t a o
still x t a o live slots none_removed none_taken no_peer no_key made keys_made = record {
  peers = rw (live, none_removed, no_peer) refl;
  born = inl (no_peer, made);
  removed_live = rw none_removed (omega arith);
  slots = rw (slots, none_taken, no_key) refl;
  made = inl (no_key, keys_made);
  taken_live = rw none_taken (omega arith);
}

plain : (x : ℕ) (t : Table) (a : Act) (now : ℕ) (r : Reply) → removed r ≡ [] → peer_made_by a r ≡ [] → key_made_by a r ≡ [] → Turns x t a (replied t now r)
plain x t a now r none no_peer no_key = still x t a (replied t now r) refl refl none refl no_peer no_key refl refl

new_turns : (x : ℕ) (t : Table) (now : ℕ) (a : Attrs) (remote : Transport) → Turns x t (act.Do (command.PeerNew a)) (peer_new_at t now a remote)
new_turns x t now a remote =
    let new : Act = act.Do (command.PeerNew a) in
    let p : Peer = peer_of t.made now a remote in
    let bare : slot_serials (t.live ++ p ∷ []) ≡ slot_serials t.live = slots_append t.live (p ∷ []) ∙ append-nil (slot_serials t.live) in
    let more : times x (serials_of (t.live ++ p ∷ [])) ≡ times x (serials_of t.live) + times x (t.made ∷ []) = ap (times x) (map-append (λ (q : Peer). q.serial) t.live (p ∷ [])) ∙ times-append x (serials_of t.live) (t.made ∷ []) in
    unless_has (Turns x t new) t now (peer_new_checks t a remote) (peer_made t now a remote) (λ e. plain x t new now (reply.Refused e) refl refl refl) (record {
      peers = rw more (omega arith);
      born = inr (refl, refl);
      removed_live = omega arith;
      slots = rw bare refl;
      made = inl (refl, refl);
      taken_live = omega arith;
    })

-- The removal of any live peers, which leaves the others.
pub removals_turns : (x : ℕ) (t : Table) (a : Act) (now : ℕ) (reason : Reason) (gone left : List Peer) (r : Reply) → removed r ≡ serials_of gone → peer_made_by a r ≡ [] → key_made_by a r ≡ [] → ((f : Peer → ℕ) → total f left + total f gone ≡ total f t.live) → Turns x t a (removals t now reason gone left r)
removals_turns x t a now reason gone left r are no_peer no_key parts =
    let serial : Peer → ℕ = λ p. p.serial in
    let lives : times x (serials_of left) + times x (serials_of gone) ≡ times x (serials_of t.live) = rw (times_total serial x left, times_total serial x gone, times_total serial x t.live) (parts (λ p. times x (p.serial ∷ []))) in
    let slots : times x (slot_serials left) + times x (slot_serials gone) ≡ times x (slot_serials t.live) = rw (slots_total x left, slots_total x gone, slots_total x t.live) (parts (λ p. times x (peer_keys p))) in
    record {
      peers = rw (are, no_peer) (omega arith);
      born = inl (no_peer, refl);
      removed_live = rw are (omega arith);
      slots = rw (keys_serials gone, no_key) (omega arith);
      made = inl (no_key, refl);
      taken_live = rw (keys_serials gone) (omega arith);
    }

remove_turns : (x : ℕ) (t : Table) (now : ℕ) (id : PeerId) (reason : Reason) → Turns x t (act.Do (command.Remove id reason)) (remove_peer t now id reason)
unfolding remove_peer
remove_turns x t now id reason =
    let a : Act = act.Do (command.Remove id reason) in
    found_has (Turns x t a) t now _ (by_id id t.live) _ (plain x t a now (reply.Refused NoEntry) refl refl refl)
    (λ p found. removals_turns x t a now reason (p ∷ []) (without_first (has_id id) t.live) (reply.Removed (p.serial ∷ [])) refl refl refl
    (λ f. let out : total f (without_first (has_id id) t.live) + f p ≡ total f t.live = total_without f (has_id id) t.live p found in omega arith))

tick_turns : (x : ℕ) (t : Table) (now : ℕ) → Turns x t (act.Do command.Tick) (tick t now)
unfolding tick
tick_turns x t now =
    let gone : List Peer = expired_of now t.live in
    removals_turns x t (act.Do command.Tick) now Expired gone (filter (λ p. not (is_expired now p)) t.live) (reply.Ticked (serials_of gone) (serials_of (due_of now t.live))) refl refl refl (λ f. parts_total f (is_expired now) t.live)

down_turns : (x : ℕ) (t : Table) (now : ℕ) → Turns x t (act.Do command.Down) (down t now)
unfolding down
down_turns x t now =
    let gone : List Peer = by_rising_id t.live in
    removals_turns x t (act.Do command.Down) now Teardown gone [] (reply.Removed (serials_of gone)) refl refl refl (λ f. whole_total f t.live)

-- The keys of a peer that is found are a part of all.
keys_part : (x : ℕ) (fits : Peer → Bool) (ps : List Peer) (p : Peer) → find fits ps ≡ Some p → times x (peer_keys p) ≤ times x (slot_serials ps)
keys_part x fits ps p found = rw (slots_total x ps)
    (let out : total (λ q. times x (peer_keys q)) (without_first fits ps) + times x (peer_keys p) ≡ total (λ q. times x (peer_keys q)) ps = total_without (λ q. times x (peer_keys q)) fits ps p found in omega arith)

key_made_turns : (x : ℕ) (t : Table) (now : ℕ) (c : KeyConf) (p : Peer) → by_id c.peer t.live ≡ Some p → Turns x t (act.Do (command.KeyNew c)) (key_made t now c p)
key_made_turns x t now c p found =
    let k : Key = key_of_conf t.keys_made c in
    let new : List Peer = (key_made t now c p).after.live in
    let set : times x (slot_serials new) + times x (peer_keys p) ≡ times x (slot_serials t.live) + times x (peer_keys (with_key c.slot k p)) =
    rw (slots_total x new, slots_total x t.live) (total_changed (λ q. times x (peer_keys q)) (has_id c.peer) (with_key c.slot k) t.live p found) in
    let put : times x (peer_keys (with_key c.slot k p)) + times x (key_serials (key_if_any (in_slot c.slot p.slots))) ≡ times x (peer_keys p) + times x (t.keys_made ∷ []) = put_counts x c.slot k p.slots.primary p.slots.secondary in
    let whole : times x (peer_keys p) ≤ times x (slot_serials t.live) = keys_part x (has_id c.peer) t.live p found in
    record {
      peers = rw (map_changed (λ (q : Peer). q.serial) (has_id c.peer) (with_key c.slot k) t.live (λ q. refl)) refl;
      born = inl (refl, refl);
      removed_live = omega arith;
      slots = omega arith;
      made = inr (refl, refl);
      taken_live = (let own : times x (key_serials (key_if_any (in_slot c.slot p.slots))) ≤ times x (peer_keys p) = slot_part x c.slot p.slots.primary p.slots.secondary in omega arith);
    }

key_new_turns : (x : ℕ) (t : Table) (now : ℕ) (c : KeyConf) → Turns x t (act.Do (command.KeyNew c)) (key_new t now c)
unfolding key_new
key_new_turns x t now c =
    let a : Act = act.Do (command.KeyNew c) in
    found_has (Turns x t a) t now _ (by_id c.peer t.live) _ (plain x t a now (reply.Refused NoEntry) refl refl refl)
    (λ p found. unless_has (Turns x t a) t now (key_new_checks t) (key_made t now c p) (λ e. plain x t a now (reply.Refused e) refl refl refl) (key_made_turns x t now c p found))

-- A live peer's attributes are changed, and it keeps its keys.
set_turns : (x : ℕ) (t : Table) (now : ℕ) (a : Attrs) → Turns x t (act.Do (command.PeerSet a)) (peer_set t now a)
unfolding peer_set
set_turns x t now a =
    let set : Act = act.Do (command.PeerSet a) in
    let new : List Peer = change_first (has_id a.id) (set_peer now a) t.live in
    let slots : times x (slot_serials new) ≡ times x (slot_serials t.live) =
    rw (slots_total x new, slots_total x t.live) (total_kept (λ p. times x (peer_keys p)) (has_id a.id) (set_peer now a) t.live (λ p. refl)) in
    found_has (Turns x t set) t now _ (by_id a.id t.live) _ (plain x t set now (reply.Refused NoEntry) refl refl refl)
    (λ p found. unless_has (Turns x t set) t now (peer_set_checks t a) (peer_changed t now a) (λ e. plain x t set now (reply.Refused e) refl refl refl)
    (still x t set (peer_changed t now a) (map_changed (λ (q : Peer). q.serial) (has_id a.id) (set_peer now a) t.live (λ q. refl)) slots refl refl refl refl refl refl))

-- A live peer's slots are changed: what is left there and what was taken out are the keys that were there.
slots_turns : (x : ℕ) (t : Table) (a : Act) (now : ℕ) (id : PeerId) (change : Slots → Slots) (out : List Key) (p : Peer) → by_id id t.live ≡ Some p → peer_made_by a reply.Done ≡ [] → key_made_by a reply.Done ≡ []
    → times x (peer_keys (with_slots change p)) + times x (key_serials out) ≡ times x (peer_keys p) → Turns x t a (slots_changed t now id change out)
slots_turns x t a now id change out p found no_peer no_key parts =
    let new : List Peer = change_first (has_id id) (with_slots change) t.live in
    let set : times x (slot_serials new) + times x (peer_keys p) ≡ times x (slot_serials t.live) + times x (peer_keys (with_slots change p)) =
    rw (slots_total x new, slots_total x t.live) (total_changed (λ q. times x (peer_keys q)) (has_id id) (with_slots change) t.live p found) in
    let whole : times x (peer_keys p) ≤ times x (slot_serials t.live) = keys_part x (has_id id) t.live p found in
    record {
      peers = rw (map_changed (λ (q : Peer). q.serial) (has_id id) (with_slots change) t.live (λ q. refl), no_peer) refl;
      born = inl (no_peer, refl);
      removed_live = omega arith;
      slots = rw no_key (omega arith);
      made = inl (no_key, refl);
      taken_live = omega arith;
    }

-- Acts that aren't commands make no peer and no key.
abbrev MakesNone : Act → Type 0
MakesNone a = (r : Reply) → (peer_made_by a r ≡ []) × (key_made_by a r ≡ [])

look_turns : (x : ℕ) (t : Table) (a : Act) (now : ℕ) (p : Option Peer) (key : Peer → Option Key) → MakesNone a → Turns x t a (where_found t now reply.NoPeer p (λ q. key_found t now q (key q)))
look_turns x t a now p key none =
    let as_is : (r : Reply) → removed r ≡ [] → Turns x t a (replied t now r) = λ r gone. plain x t a now r gone (none r).0 (none r).1 in
    found_has (Turns x t a) t now _ p _ (as_is reply.NoPeer refl)
    (λ q found. found_has (Turns x t a) t now _ (key q) _ (as_is reply.NoKey refl) (λ k has. as_is (reply.Hold (hold_of q k)) refl))

keep_turns : (x : ℕ) (t : Table) (now peer : ℕ) → Turns x t (act.KeepLook peer) (keep_look t now peer)
unfolding keep_look
keep_turns x t now peer =
    let a : Act = act.KeepLook peer in
    let as_is : (r : Reply) → removed r ≡ [] → Turns x t a (replied t now r) = λ r gone. plain x t a now r gone refl refl in
    found_has (Turns x t a) t now _ (by_serial peer t.live) _ (as_is reply.Skip refl)
    (λ p found. found_has (Turns x t a) t now _ p.slots.primary _ (as_is reply.Skip refl) (λ k has. as_is (reply.Hold (hold_of p k)) refl))

changed_turns : (x : ℕ) (t : Table) (a : Act) (now serial : ℕ) (live dying : Peer → Peer) (r : Reply) → ((p : Peer) → Kept p (live p)) → removed r ≡ [] → MakesNone a → Turns x t a (replied (change_peer serial live dying t) now r)
changed_turns x t a now serial live dying r keeps gone none =
    let slots : times x (slot_serials (change_first (has_serial serial) live t.live)) ≡ times x (slot_serials t.live) =
    rw (slots_total x (change_first (has_serial serial) live t.live), slots_total x t.live) (total_kept (λ p. times x (peer_keys p)) (has_serial serial) live t.live (λ p. ap (λ s. times x (key_serials (keys_in s))) (keeps p).slots)) in
    changed_has (λ u. Turns x t a (replied u now r)) t serial live dying
    (still x t a _ (map_changed (λ (p : Peer). p.serial) (has_serial serial) live t.live (λ p. ap (λ (n : Name). n.serial) (keeps p).name)) slots gone refl (none r).0 (none r).1 refl refl)
    (still x t a _ refl refl gone refl (none r).0 (none r).1 refl refl)

spent_turns : (x : ℕ) (t : Table) (now peer key : ℕ) → Turns x t (act.Spend peer key) (spend t now peer key)
unfolding spend
spent_turns x t now peer key =
    let a : Act = act.Spend peer key in
    let without : Peer → Peer = λ q. record q { slots = without_key key q.slots } in
    found_has (Turns x t a) t now _ (by_serial peer t.live) _ (plain x t a now reply.AlreadyGone refl refl refl)
    (λ p found. found_has (Turns x t a) t now _ (by_key key p.slots) _ (plain x t a now reply.AlreadyGone refl refl refl) (λ k has.
    let new : List Peer = change_first (has_serial peer) without t.live in
    let set : times x (slot_serials new) + times x (peer_keys p) ≡ times x (slot_serials t.live) + times x (peer_keys (without p)) =
    rw (slots_total x new, slots_total x t.live) (total_changed (λ q. times x (peer_keys q)) (has_serial peer) without t.live p found) in
    let out : times x (peer_keys (without p)) + times x (key ∷ []) ≡ times x (peer_keys p) = out_counts x key k p.slots.primary p.slots.secondary has in
    record {
      peers = rw (map_changed (λ (q : Peer). q.serial) (has_serial peer) without t.live (λ q. refl)) refl;
      born = inl (refl, refl);
      removed_live = omega arith;
      slots = omega arith;
      made = inl (refl, refl);
      taken_live = omega arith;
    }))

pub turns : (x : ℕ) (t : Table) (now : ℕ) (a : Act) → Turns x t a (act_step t now a)
unfolding peer_new peer_get peer_dump key_get key_swap key_del tx_look rx_look sent settle released key_released
turns x t now (act.Do (command.PeerNew a)) =
    let new : Act = act.Do (command.PeerNew a) in
    found_has (Turns x t new) t now _ a.remote _ (plain x t new now (reply.Refused Invalid) refl refl refl) (λ remote is. new_turns x t now a remote)
turns x t now (act.Do (command.PeerGet id)) =
    let a : Act = act.Do (command.PeerGet id) in
    found_has (Turns x t a) t now _ (by_id id t.live) _ (plain x t a now (reply.Refused NoEntry) refl refl refl) (λ p found. plain x t a now _ refl refl refl)
turns x t now (act.Do (command.PeerSet a)) = set_turns x t now a
turns x t now (act.Do command.PeerDump) = plain x t (act.Do command.PeerDump) now _ refl refl refl
turns x t now (act.Do (command.Remove id reason)) = remove_turns x t now id reason
turns x t now (act.Do (command.KeyNew c)) = key_new_turns x t now c
turns x t now (act.Do (command.KeyGet id slot)) =
    let a : Act = act.Do (command.KeyGet id slot) in
    let none : Turns x t a (refused t now NoEntry) = plain x t a now (reply.Refused NoEntry) refl refl refl in
    found_has (Turns x t a) t now _ (by_id id t.live) _ none (λ p found. found_has (Turns x t a) t now _ (in_slot slot p.slots) _ none (λ k has. plain x t a now _ refl refl refl))
turns x t now (act.Do (command.KeySwap id)) =
    let a : Act = act.Do (command.KeySwap id) in
    found_has (Turns x t a) t now _ (by_id id t.live) _ (plain x t a now (reply.Refused NoEntry) refl refl refl)
    (λ p found. slots_turns x t a now id swapped [] p found refl refl (swapped_counts x p.slots.primary p.slots.secondary))
turns x t now (act.Do (command.KeyDel id slot)) =
    let a : Act = act.Do (command.KeyDel id slot) in
    found_has (Turns x t a) t now _ (by_id id t.live) _ (plain x t a now (reply.Refused NoEntry) refl refl refl)
    (λ p found. slots_turns x t a now id (with_slot slot None) (key_if_any (in_slot slot p.slots)) p found refl refl (emptied_counts x slot p.slots.primary p.slots.secondary))
turns x t now (act.Do command.Tick) = tick_turns x t now
turns x t now (act.Do command.Down) = down_turns x t now
turns x t now (act.TxLook a) = look_turns x t (act.TxLook a) now (by_vpn a t.live) (λ p. p.slots.primary) (λ r. (refl, refl))
turns x t now (act.RxLook id key_id from) = look_turns x t (act.RxLook id key_id from) now (rx_peer id from t.live) (λ p. by_key_id key_id p.slots) (λ r. (refl, refl))
turns x t now (act.Sent peer inner outer ping) =
    changed_turns x t (act.Sent peer inner outer ping) now peer (sent_peer now inner outer ping) (sent_peer now inner outer ping) reply.Done (λ p. record { name = refl; slots = refl }) refl (λ r. (refl, refl))
turns x t now (act.Settle peer from k inner outer) =
    let s : Settled = settled_as peer k t.live in
    changed_turns x t (act.Settle peer from k inner outer) now peer _ _ (reply.Settled s) (λ p. settle_kept now t.live from s inner outer p) refl (λ r. (refl, refl))
turns x t now (act.Spend peer key) = spent_turns x t now peer key
turns x t now (act.KeepLook peer) = keep_turns x t now peer
turns x t now (act.Released serial) = still x t (act.Released serial) _ refl refl refl refl refl refl refl refl
turns x t now (act.KeyReleased serial) = still x t (act.KeyReleased serial) _ refl refl refl refl refl refl refl refl

pub step_turns : (x : ℕ) (t : Table) (call : Call) → Turns x t call.act (step t call)
step_turns x t call = turns x t _ call.act

-- ---- a whole run

-- What a run makes of one kind, of peers or of keys.
abbrev pub made_in : (Act → Reply → List ℕ) → List Entry → List ℕ
made_in new [] = []
made_in new (e ∷ es) = new e.call.act e.reply ++ made_in new es

abbrev pub Counts : (Table → ℕ) → (Act → Reply → List ℕ) → Type 0
Counts count new = (t : Table) (call : Call) → MakesNext (new call.act (step t call).reply) (count t) (count (step t call).after)

-- What was made before isn't made again, and none is made twice.
none_again : (count : Table → ℕ) (new : Act → Reply → List ℕ) → Counts count new → (x : ℕ) (t : Table) (es : List Entry) → Follows t es → x < count t → times x (made_in new es) ≡ 0
none_again count new counts x t [] follows before = refl
none_again count new counts x t (e ∷ es) follows before =
    let o : Outcome = step t e.call in
    let all : times x (made_in new (e ∷ es)) ≡ times x (new e.call.act e.reply) + times x (made_in new es) = times-append x (new e.call.act e.reply) (made_in new es) in
    elim (counts t e.call) [
      | inl same ↦
          let here : new e.call.act e.reply ≡ [] = rw (← follows.1) same.0 in
          let later : times x (made_in new es) ≡ 0 = none_again count new counts x o.after es follows.2 (rw same.1 before) in
          rw (all, here) (omega arith)
      | inr grown ↦
          let here : new e.call.act e.reply ≡ count t ∷ [] = rw (← follows.1) grown.0 in
          let later : times x (made_in new es) ≡ 0 = none_again count new counts x o.after es follows.2 (rw grown.1 (omega arith)) in
          rw (all, here, ne_eqb (count t) x (λ s. omega arith)) (omega arith)
    ]

pub made_once : (count : Table → ℕ) (new : Act → Reply → List ℕ) → Counts count new → (x : ℕ) (t : Table) (es : List Entry) → Follows t es → times x (made_in new es) ≤ 1
made_once count new counts x t [] follows = omega arith
made_once count new counts x t (e ∷ es) follows =
    let o : Outcome = step t e.call in
    let all : times x (made_in new (e ∷ es)) ≡ times x (new e.call.act e.reply) + times x (made_in new es) = times-append x (new e.call.act e.reply) (made_in new es) in
    let later : times x (made_in new es) ≤ 1 = made_once count new counts x o.after es follows.2 in
    elim (counts t e.call) [
      | inl same ↦
          let here : new e.call.act e.reply ≡ [] = rw (← follows.1) same.0 in
          rw (all, here) (omega arith)
      | inr grown ↦
          let here : new e.call.act e.reply ≡ count t ∷ [] = rw (← follows.1) grown.0 in
          elim (cases_eq (count t) x) [
            | inl same ↦
                let none : times x (made_in new es) ≡ 0 = none_again count new counts x o.after es follows.2 (rw grown.1 (omega arith)) in
                rw (all, here, eq-eqb (count t) x same) (omega arith)
            | inr other ↦ rw (all, here, ne_eqb (count t) x other) (omega arith)
          ]
    ]

live_balance : (x : ℕ) (t : Table) (es : List Entry) → Follows t es → times x (serials_of (table_after t es).live) + times x (removed_in es) ≡ times x (serials_of t.live) + times x (made_in peer_made_by es)
live_balance x t [] follows = omega arith
live_balance x t (e ∷ es) follows =
    let o : Outcome = step t e.call in
    let here : times x (serials_of o.after.live) + times x (removed e.reply) ≡ times x (serials_of t.live) + times x (peer_made_by e.call.act e.reply) = rw (← follows.1) (step_turns x t e.call).peers in
    let later : times x (serials_of (table_after o.after es).live) + times x (removed_in es) ≡ times x (serials_of o.after.live) + times x (made_in peer_made_by es) = live_balance x o.after es follows.2 in
    let gone : times x (removed_in (e ∷ es)) ≡ times x (removed e.reply) + times x (removed_in es) = times-append x (removed e.reply) (removed_in es) in
    let new : times x (made_in peer_made_by (e ∷ es)) ≡ times x (peer_made_by e.call.act e.reply) + times x (made_in peer_made_by es) = times-append x (peer_made_by e.call.act e.reply) (made_in peer_made_by es) in
    rw (gone, new) (omega arith)

slots_balance : (x : ℕ) (t : Table) (es : List Entry) → Follows t es → times x (slot_serials (table_after t es).live) + times x (keys_taken_in (steps_after t es)) ≡ times x (slot_serials t.live) + times x (made_in key_made_by es)
slots_balance x t [] follows = omega arith
slots_balance x t (e ∷ es) follows =
    let o : Outcome = step t e.call in
    let here : times x (slot_serials o.after.live) + times x o.taken ≡ times x (slot_serials t.live) + times x (key_made_by e.call.act e.reply) = rw (← follows.1) (step_turns x t e.call).slots in
    let later : times x (slot_serials (table_after o.after es).live) + times x (keys_taken_in (steps_after o.after es)) ≡ times x (slot_serials o.after.live) + times x (made_in key_made_by es) = slots_balance x o.after es follows.2 in
    let gone : times x (keys_taken_in (steps_after t (e ∷ es))) ≡ times x o.taken + times x (keys_taken_in (steps_after o.after es)) = times-append x o.taken (keys_taken_in (steps_after o.after es)) in
    let new : times x (made_in key_made_by (e ∷ es)) ≡ times x (key_made_by e.call.act e.reply) + times x (made_in key_made_by es) = times-append x (key_made_by e.call.act e.reply) (made_in key_made_by es) in
    rw (gone, new) (omega arith)

-- No peer is removed twice, and no key leaves its slot twice.
pub removed_times : (x : ℕ) (journal : List Entry) → IsRun journal → times x (removed_in journal) ≤ 1
removed_times x journal run =
    let balance : times x (serials_of (table_after empty_table journal).live) + times x (removed_in journal) ≡ 0 + times x (made_in peer_made_by journal) = live_balance x empty_table journal run in
    let most : times x (made_in peer_made_by journal) ≤ 1 = made_once (λ t. t.made) peer_made_by (λ t call. (step_turns 0 t call).born) x empty_table journal run in
    omega arith

pub taken_once : (x : ℕ) (journal : List Entry) → IsRun journal → times x (keys_taken_in (steps_of journal)) ≤ 1
taken_once x journal run =
    let balance : times x (slot_serials (table_after empty_table journal).live) + times x (keys_taken_in (steps_of journal)) ≡ 0 + times x (made_in key_made_by journal) = slots_balance x empty_table journal run in
    let most : times x (made_in key_made_by journal) ≤ 1 = made_once (λ t. t.keys_made) key_made_by (λ t call. (step_turns 0 t call).made) x empty_table journal run in
    omega arith
