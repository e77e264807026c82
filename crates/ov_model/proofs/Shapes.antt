-- What a step tells: whom it removed, with its notes, and which ids the live peers have after it.
use Rattle.std.proofs.Common.{ℕ, ◌≡◌, ◌+◌, ◌≤◌, List, [], ◌∷◌, refl, ap, ◌∙◌, length, Bool, true, false, arith, if◌then◌else◌, ◌==◌}
use Rattle.std.specs.Prelude.{map, filter, find, not, Option, Some, None, is_some}
use Rattle.std.specs.List.{AllByRecursion}
use Rattle.std.proofs.lemmas.Bool.{eq-eqb, ne_eqb}
use Rattle.std.proofs.lemmas.List.{map-append}
use Rattle.ov_base.specs.declared.address.Transport.{Transport}
use Rattle.ov_model.specs.declared.ident.PeerId.{PeerId}
use Rattle.ov_model.specs.declared.command.Attrs.{Attrs}
use Rattle.ov_model.specs.declared.command.KeyConf.{KeyConf}
use Rattle.ov_model.specs.declared.command.Reason.{Reason}
use Rattle.ov_model.specs.declared.command.Reason.TheVariants.{Expired, Teardown}
use Rattle.ov_model.specs.declared.command.Command.TheVariants as command
use Rattle.ov_model.specs.declared.act.Act.{Act}
use Rattle.ov_model.specs.declared.act.Act.TheVariants as act
use Rattle.ov_model.specs.declared.act.Call.{Call}
use Rattle.ov_model.specs.declared.note.NoteBody.TheVariants as note
use Rattle.ov_model.specs.declared.reply.Errno.{Errno}
use Rattle.ov_model.specs.declared.reply.Errno.TheVariants.{NoEntry, Invalid}
use Rattle.ov_model.specs.declared.reply.Reply.{Reply}
use Rattle.ov_model.specs.declared.reply.Reply.TheVariants as reply
use Rattle.ov_model.specs.declared.reply.Settled.{Settled}
use Rattle.ov_model.specs.declared.reply.Settled.TheVariants as settled
use Rattle.ov_model.specs.Tables.{Peer, Key, Slots, Table, without_first, has_id, has_serial, serials_of, by_rising_id, in_slot, with_slot, swapped, key_if_any, by_id, by_serial, by_remote, by_vpn, by_key_id, by_key, without_key}
use Rattle.ov_model.specs.Step.{Outcome, replied, refused, where_found, change_peer, peer_of, peer_new_checks, peer_made, peer_new, peer_new_at, set_peer, peer_set_checks, peer_changed, peer_set, peer_get, peer_dump, removals, remove_peer, key_of_conf, with_key, key_new_checks, key_made, key_new, key_get, with_slots, slots_changed, key_swap, key_del, is_expired, expired_of, due_of, tick, down, hold_of, key_found, tx_look, rx_peer, rx_look, keep_look, sent_peer, sent, received_peer, floated, settled_peer, settled_as, settle, spend, released, key_released, act_step, step}
use Rattle.ov_model.specs.Path.{removed}
use Rattle.ov_model.specs.Removals.{id_by, reason_of, killed_by, is_peer_del, is_key_swap, del_note}
use Rattle.ov_model.proofs.Lanes.{all_append}
use Rattle.ov_model.proofs.Firsts.{all_found, all_without, map_changed}
use Rattle.ov_model.proofs.Parts.{rising_all, filter_all}
use Rattle.ov_model.proofs.StepCases.{unless_has, found_has, changed_has}

-- What never changes of a peer.
pub record Name : Type 0 where
  pub serial : ℕ
  pub id : PeerId

abbrev pub name_of : Peer → Name
name_of p = record { serial = p.serial; id = p.id }

abbrev pub names : List Peer → List Name
names peers = map name_of peers

-- The ids of some serials are those that these peers have.
abbrev pub Known : (ℕ → Option PeerId) → List Name → Type 0
Known ids ns = AllByRecursion (λ n. ids n.serial ≡ Some n.id) ns

-- gone: the removed peers, in the order of the reply.
pub record Tells (t : Table) (a : Act) (o : Outcome) : Type 0 where
  pub gone : List Name
  pub removed_are : removed o.reply ≡ map (λ n. n.serial) gone
  pub dels : map (λ b. Some b) (filter is_peer_del o.notes) ≡ map (λ n. del_note (Some n.id) (reason_of a)) gone
  pub swaps : length (filter is_key_swap o.notes) ≡ length (killed_by o.reply a)
  pub were : (ids : ℕ → Option PeerId) → Known ids (names t.live) → Known ids gone
  pub live : (ids : ℕ → Option PeerId) → Known ids (names t.live) → ((id : PeerId) → id_by o.reply a t.made ≡ Some id → ids t.made ≡ Some id) → Known ids (names o.after.live)
  pub grows : t.made ≤ o.after.made
  pub unmade : (s : ℕ) → o.after.made ≤ s → id_by o.reply a s ≡ None

-- A step without a note after which the same peers are live.
quiet : (t : Table) (a : Act) (o : Outcome) → names o.after.live ≡ names t.live → o.after.made ≡ t.made → removed o.reply ≡ [] → o.notes ≡ [] → killed_by o.reply a ≡ [] → ((s : ℕ) → id_by o.reply a s ≡ None) → Tells t a o
quiet t a o live made none notes spares unmade = record {
  gone = [];
  removed_are = none;
  dels = rw notes refl;
  swaps = rw (notes, spares) refl;
  were = λ ids known. tt;
  live = λ ids known new. rw live known;
  grows = rw made (omega arith);
  unmade = λ s above. unmade s;
}

refusal : (t : Table) (a : Act) (now : ℕ) (e : Errno) → Tells t a (refused t now e)
refusal t a now e = quiet t a (refused t now e) refl refl refl refl refl (λ s. refl)

-- ---- commands

new_tells : (t : Table) (now : ℕ) (a : Attrs) (remote : Transport) → Tells t (act.Do (command.PeerNew a)) (peer_new_at t now a remote)
new_tells t now a remote =
    let new : Act = act.Do (command.PeerNew a) in
    let p : Peer = peer_of t.made now a remote in
    unless_has (Tells t new) t now (peer_new_checks t a remote) (peer_made t now a remote) (refusal t new now) (record {
      gone = [];
      removed_are = refl;
      dels = refl;
      swaps = refl;
      were = λ ids known. tt;
      live = λ ids known made.
          let given : id_by (reply.Made t.made) new t.made ≡ Some a.id = rw (eq-eqb t.made t.made refl) refl in
          rw (map-append name_of t.live (p ∷ [])) (all_append (λ (n : Name). ids n.serial ≡ Some n.id) (names t.live) (name_of p ∷ []) known (made a.id given, tt));
      grows = omega arith;
      unmade = λ s above. let past : t.made + 1 ≤ s = above in rw (ne_eqb t.made s (λ e. omega arith)) refl;
    })

-- A removal's notes tell of the removed peers, and of no killed key.
dels_tell : (reason : Reason) (gone : List Peer) → map (λ b. Some b) (filter is_peer_del (map (λ p. note.PeerDel p.id reason) gone)) ≡ map (λ (n : Name). del_note (Some n.id) (Some reason)) (names gone)
dels_tell reason [] = refl
dels_tell reason (p ∷ gone) = ap (λ ns. Some (note.PeerDel p.id reason) ∷ ns) (dels_tell reason gone)

no_swaps : (reason : Reason) (gone : List Peer) → filter is_key_swap (map (λ p. note.PeerDel p.id reason) gone) ≡ []
no_swaps reason [] = refl
no_swaps reason (p ∷ gone) = no_swaps reason gone

serials_named : (ps : List Peer) → serials_of ps ≡ map (λ (n : Name). n.serial) (names ps)
serials_named [] = refl
serials_named (p ∷ ps) = ap (λ ns. p.serial ∷ ns) (serials_named ps)

-- The removal of any live peers.
pub removals_tell : (t : Table) (a : Act) (now : ℕ) (reason : Reason) (gone left : List Peer) (r : Reply) → reason_of a ≡ Some reason → removed r ≡ serials_of gone → killed_by r a ≡ [] → ((s : ℕ) → id_by r a s ≡ None) → ((ids : ℕ → Option PeerId) → Known ids (names t.live) → Known ids (names gone) × Known ids (names left)) → Tells t a (removals t now reason gone left r)
removals_tell t a now reason gone left r is removed_are spares unmade parts = record {
  gone = names gone;
  removed_are = removed_are ∙ serials_named gone;
  dels = rw is (dels_tell reason gone);
  swaps = rw (no_swaps reason gone, spares) refl;
  were = λ ids known. (parts ids known).0;
  live = λ ids known new. (parts ids known).1;
  grows = omega arith;
  unmade = λ s above. unmade s;
}

known_peers : (ids : ℕ → Option PeerId) (ps : List Peer) → Known ids (names ps) → AllByRecursion (λ (p : Peer). ids p.serial ≡ Some p.id) ps
known_peers ids [] known = tt
known_peers ids (p ∷ ps) known = (known.0, known_peers ids ps known.1)

named : (ids : ℕ → Option PeerId) (ps : List Peer) → AllByRecursion (λ (p : Peer). ids p.serial ≡ Some p.id) ps → Known ids (names ps)
named ids [] all = tt
named ids (p ∷ ps) all = (all.0, named ids ps all.1)

known_found : (ids : ℕ → Option PeerId) (fits : Peer → Bool) (ps : List Peer) (p : Peer) → find fits ps ≡ Some p → Known ids (names ps) → Known ids (names (p ∷ [])) × Known ids (names (without_first fits ps))
known_found ids fits ps p found known =
    let P : Peer → Type 0 = λ q. ids q.serial ≡ Some q.id in
    let all : AllByRecursion P ps = known_peers ids ps known in
    ((all_found P fits ps p found all, tt), named ids (without_first fits ps) (all_without P fits ps all))

remove_tells : (t : Table) (now : ℕ) (id : PeerId) (reason : Reason) → Tells t (act.Do (command.Remove id reason)) (remove_peer t now id reason)
unfolding remove_peer
remove_tells t now id reason =
    let a : Act = act.Do (command.Remove id reason) in
    found_has (Tells t a) t now _ (by_id id t.live) _ (refusal t a now NoEntry)
    (λ p found. removals_tell t a now reason (p ∷ []) (without_first (has_id id) t.live) (reply.Removed (p.serial ∷ [])) refl refl refl (λ s. refl) (λ ids known. known_found ids (has_id id) t.live p found known))

-- What is known of the live peers is known of those by rising id, and of those that pass a test and the others.
known_rising : (ids : ℕ → Option PeerId) (ps : List Peer) → Known ids (names ps) → AllByRecursion (λ (p : Peer). ids p.serial ≡ Some p.id) (by_rising_id ps)
known_rising ids ps known = rising_all (λ (p : Peer). ids p.serial ≡ Some p.id) ps (known_peers ids ps known)

known_parts : (ids : ℕ → Option PeerId) (test : Peer → Bool) (ps : List Peer) → Known ids (names ps) → Known ids (names (filter test (by_rising_id ps))) × Known ids (names (filter (λ p. not (test p)) ps))
known_parts ids test ps known =
    let P : Peer → Type 0 = λ p. ids p.serial ≡ Some p.id in
    (named ids (filter test (by_rising_id ps)) (filter_all P test (by_rising_id ps) (known_rising ids ps known)), named ids (filter (λ p. not (test p)) ps) (filter_all P (λ p. not (test p)) ps (known_peers ids ps known)))

tick_tells : (t : Table) (now : ℕ) → Tells t (act.Do command.Tick) (tick t now)
unfolding tick
tick_tells t now =
    let gone : List Peer = expired_of now t.live in
    removals_tell t (act.Do command.Tick) now Expired gone (filter (λ p. not (is_expired now p)) t.live) (reply.Ticked (serials_of gone) (serials_of (due_of now t.live))) refl refl refl (λ s. refl) (λ ids known. known_parts ids (is_expired now) t.live known)

down_tells : (t : Table) (now : ℕ) → Tells t (act.Do command.Down) (down t now)
unfolding down
down_tells t now =
    let gone : List Peer = by_rising_id t.live in
    removals_tell t (act.Do command.Down) now Teardown gone [] (reply.Removed (serials_of gone)) refl refl refl (λ s. refl) (λ ids known. (named ids gone (known_rising ids t.live known), tt))

either_none : (b : Bool) → ◌≡◌ {A = Option PeerId} (if b then None else None) None
either_none true = refl
either_none false = refl

key_new_tells : (t : Table) (now : ℕ) (c : KeyConf) → Tells t (act.Do (command.KeyNew c)) (key_new t now c)
unfolding key_new
key_new_tells t now c =
    let a : Act = act.Do (command.KeyNew c) in
    found_has (Tells t a) t now _ (by_id c.peer t.live) _ (refusal t a now NoEntry)
    (λ p found. unless_has (Tells t a) t now (key_new_checks t) (key_made t now c p) (refusal t a now)
    (quiet t a (key_made t now c p) (map_changed name_of (has_id c.peer) (with_key c.slot (key_of_conf t.keys_made c)) t.live (λ q. refl)) refl refl refl refl (λ s. either_none (t.keys_made == s))))

-- A live peer's attributes are changed.
set_tells : (t : Table) (now : ℕ) (a : Attrs) → Tells t (act.Do (command.PeerSet a)) (peer_set t now a)
unfolding peer_set
set_tells t now a =
    let set : Act = act.Do (command.PeerSet a) in
    found_has (Tells t set) t now _ (by_id a.id t.live) _ (refusal t set now NoEntry)
    (λ p found. unless_has (Tells t set) t now (peer_set_checks t a) (peer_changed t now a) (refusal t set now)
    (quiet t set (peer_changed t now a) (map_changed name_of (has_id a.id) (set_peer now a) t.live (λ q. refl)) refl refl refl refl (λ s. refl)))

-- A live peer's slots are changed.
slots_tell : (t : Table) (a : Act) (now : ℕ) (id : PeerId) (change : Slots → Slots) (out : List Key) → Tells t a (slots_changed t now id change out)
slots_tell t a now id change out = quiet t a (slots_changed t now id change out) (map_changed name_of (has_id id) (with_slots change) t.live (λ q. refl)) refl refl refl refl (λ s. refl)

-- ---- look-ups

look_tells : (t : Table) (a : Act) (now : ℕ) (p : Peer) (k : Option Key) → Tells t a (key_found t now p k)
look_tells t a now p k =
    found_has (Tells t a) t now _ k _ (quiet t a (replied t now reply.NoKey) refl refl refl refl refl (λ s. refl))
    (λ x found. quiet t a (replied t now (reply.Hold (hold_of p x))) refl refl refl refl refl (λ s. refl))

found_tells : (t : Table) (a : Act) (now : ℕ) (p : Option Peer) (key : Peer → Option Key) → Tells t a (where_found t now reply.NoPeer p (λ q. key_found t now q (key q)))
found_tells t a now p key = found_has (Tells t a) t now _ p _ (quiet t a (replied t now reply.NoPeer) refl refl refl refl refl (λ s. refl)) (λ q found. look_tells t a now q (key q))

keep_tells : (t : Table) (now peer : ℕ) → Tells t (act.KeepLook peer) (keep_look t now peer)
unfolding keep_look
keep_tells t now peer =
    let a : Act = act.KeepLook peer in
    let skip : Tells t a (replied t now reply.Skip) = quiet t a (replied t now reply.Skip) refl refl refl refl refl (λ s. refl) in
    found_has (Tells t a) t now _ (by_serial peer t.live) _ skip
    (λ p found. found_has (Tells t a) t now _ p.slots.primary _ skip (λ k has. quiet t a (replied t now (reply.Hold (hold_of p k))) refl refl refl refl refl (λ s. refl)))

-- ---- what is done with a hold

-- What a received packet keeps of a peer: its name and its slots.
pub record Kept (p q : Peer) : Type 0 where
  pub name : name_of q ≡ name_of p
  pub slots : q.slots ≡ p.slots

pub settled_kept : (s : Settled) (inner : ℕ) (p : Peer) → Kept p (settled_peer s inner p)
settled_kept settled.Deliver inner p = record { name = refl; slots = refl }
settled_kept settled.Ping inner p = record { name = refl; slots = refl }
settled_kept settled.NotIp inner p = record { name = refl; slots = refl }
settled_kept settled.NotOwner inner p = record { name = refl; slots = refl }

kept_if : (p : Peer) (b : Bool) (x y : Peer) → Kept p x → Kept p y → Kept p (if b then x else y)
kept_if p true x y h k = h
kept_if p false x y h k = k

floated_kept : (live : List Peer) (from : Option Transport) (p : Peer) → Kept p (floated live from p)
floated_kept live None p = record { name = refl; slots = refl }
floated_kept live (Some from) p = kept_if p (is_some (by_remote from live)) p (record p { remote = from }) (record { name = refl; slots = refl }) (record { name = refl; slots = refl })

pub settle_kept : (now : ℕ) (live : List Peer) (from : Option Transport) (s : Settled) (inner outer : ℕ) (p : Peer) → Kept p (settled_peer s inner (floated live from (received_peer now outer p)))
settle_kept now live from s inner outer p =
    let k : Kept (received_peer now outer p) (floated live from (received_peer now outer p)) = floated_kept live from (received_peer now outer p) in
    let last : Kept (floated live from (received_peer now outer p)) (settled_peer s inner (floated live from (received_peer now outer p))) = settled_kept s inner (floated live from (received_peer now outer p)) in
    record { name = last.name ∙ k.name; slots = last.slots ∙ k.slots }

-- A live or dying peer is changed and keeps its name.
changed_tells : (t : Table) (a : Act) (now serial : ℕ) (live dying : Peer → Peer) (r : Reply) → ((p : Peer) → name_of (live p) ≡ name_of p) → removed r ≡ [] → killed_by r a ≡ [] → ((s : ℕ) → id_by r a s ≡ None) → Tells t a (replied (change_peer serial live dying t) now r)
changed_tells t a now serial live dying r keeps none spares unmade =
    changed_has (λ u. Tells t a (replied u now r)) t serial live dying
    (quiet t a _ (map_changed name_of (has_serial serial) live t.live keeps) refl none refl spares unmade)
    (quiet t a _ refl refl none refl spares unmade)

spent_tells : (t : Table) (now peer key : ℕ) → Tells t (act.Spend peer key) (spend t now peer key)
unfolding spend
spent_tells t now peer key =
    let a : Act = act.Spend peer key in
    let gone : Tells t a (replied t now reply.AlreadyGone) = quiet t a (replied t now reply.AlreadyGone) refl refl refl refl refl (λ s. refl) in
    found_has (Tells t a) t now _ (by_serial peer t.live) _ gone
    (λ p found. found_has (Tells t a) t now _ (by_key key p.slots) _ gone (λ k has. record {
      gone = [];
      removed_are = refl;
      dels = refl;
      swaps = refl;
      were = λ ids known. tt;
      live = λ ids known new. rw (map_changed name_of (has_serial peer) (λ q. record q { slots = without_key key q.slots }) t.live (λ q. refl)) known;
      grows = omega arith;
      unmade = λ s above. refl;
    }))

-- ---- every step

tells : (t : Table) (now : ℕ) (a : Act) → Tells t a (act_step t now a)
unfolding peer_new peer_get peer_dump key_get key_swap key_del tx_look rx_look sent settle released key_released
tells t now (act.Do (command.PeerNew a)) = found_has (Tells t (act.Do (command.PeerNew a))) t now _ a.remote _ (refusal t (act.Do (command.PeerNew a)) now Invalid) (λ remote is. new_tells t now a remote)
tells t now (act.Do (command.PeerGet id)) =
    let a : Act = act.Do (command.PeerGet id) in
    found_has (Tells t a) t now _ (by_id id t.live) _ (refusal t a now NoEntry) (λ p found. quiet t a _ refl refl refl refl refl (λ s. refl))
tells t now (act.Do (command.PeerSet a)) = set_tells t now a
tells t now (act.Do command.PeerDump) = quiet t (act.Do command.PeerDump) _ refl refl refl refl refl (λ s. refl)
tells t now (act.Do (command.Remove id reason)) = remove_tells t now id reason
tells t now (act.Do (command.KeyNew c)) = key_new_tells t now c
tells t now (act.Do (command.KeyGet id slot)) =
    let a : Act = act.Do (command.KeyGet id slot) in
    found_has (Tells t a) t now _ (by_id id t.live) _ (refusal t a now NoEntry)
    (λ p found. found_has (Tells t a) t now _ (in_slot slot p.slots) _ (refusal t a now NoEntry) (λ k has. quiet t a _ refl refl refl refl refl (λ s. refl)))
tells t now (act.Do (command.KeySwap id)) =
    let a : Act = act.Do (command.KeySwap id) in
    found_has (Tells t a) t now _ (by_id id t.live) _ (refusal t a now NoEntry) (λ p found. slots_tell t a now id swapped [])
tells t now (act.Do (command.KeyDel id slot)) =
    let a : Act = act.Do (command.KeyDel id slot) in
    found_has (Tells t a) t now _ (by_id id t.live) _ (refusal t a now NoEntry) (λ p found. slots_tell t a now id (with_slot slot None) (key_if_any (in_slot slot p.slots)))
tells t now (act.Do command.Tick) = tick_tells t now
tells t now (act.Do command.Down) = down_tells t now
tells t now (act.TxLook a) = found_tells t (act.TxLook a) now (by_vpn a t.live) (λ p. p.slots.primary)
tells t now (act.RxLook id key_id from) = found_tells t (act.RxLook id key_id from) now (rx_peer id from t.live) (λ p. by_key_id key_id p.slots)
tells t now (act.Sent peer inner outer ping) =
    changed_tells t (act.Sent peer inner outer ping) now peer (sent_peer now inner outer ping) (sent_peer now inner outer ping) reply.Done (λ p. refl) refl refl (λ s. refl)
tells t now (act.Settle peer from k inner outer) =
    let s : Settled = settled_as peer k t.live in
    changed_tells t (act.Settle peer from k inner outer) now peer _ _ (reply.Settled s) (λ p. (settle_kept now t.live from s inner outer p).name) refl refl (λ n. refl)
tells t now (act.Spend peer key) = spent_tells t now peer key
tells t now (act.KeepLook peer) = keep_tells t now peer
tells t now (act.Released serial) = quiet t (act.Released serial) _ refl refl refl refl refl (λ s. refl)
tells t now (act.KeyReleased serial) = quiet t (act.KeyReleased serial) _ refl refl refl refl refl (λ s. refl)

pub step_tells : (t : Table) (call : Call) → Tells t call.act (step t call)
step_tells t call = tells t _ call.act
