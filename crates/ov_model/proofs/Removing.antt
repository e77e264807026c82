-- What the steps of the peer table do to the dying peers and the retired keys.
use Rattle.std.proofs.Common.{ℕ, ◌≡◌, List, [], ◌∷◌, ◌++◌, refl, sym, ap, ◌∙◌, Bool, true, false, arith, append-nil, ◌==◌, inl, inr}
use Rattle.std.specs.Prelude.{map, find, Option, Some, None}
use Rattle.std.specs.List.{list_any}
use Rattle.std.proofs.lemmas.Bool.{cases_eq, eq-eqb, ne_eqb}
use Rattle.std.proofs.lemmas.Bool.Decides.{nat_tests}
use Rattle.std.proofs.lemmas.List.{map-append}
use Rattle.ov_base.specs.declared.address.Addr.{Addr}
use Rattle.ov_base.specs.declared.address.Transport.{Transport}
use Rattle.ov_model.specs.declared.ident.PeerId.{PeerId}
use Rattle.ov_model.specs.declared.ident.KeyId.{KeyId}
use Rattle.ov_model.specs.declared.act.InnerKind.{InnerKind}
use Rattle.ov_model.specs.declared.command.Attrs.{Attrs}
use Rattle.ov_model.specs.declared.command.Reason.{Reason}
use Rattle.ov_model.specs.declared.command.Command.{Command}
use Rattle.ov_model.specs.declared.command.Command.TheVariants as command
use Rattle.ov_model.specs.declared.reply.Reply.{Reply}
use Rattle.ov_model.specs.declared.reply.Reply.TheVariants as reply
use Rattle.ov_model.specs.Tables.{Peer, Key, Slots, Table, has_serial, bare, serials_of, key_serials, key_if_any, keys_in, keys_of, in_slot, with_slot, swapped, by_id, by_serial, by_vpn, by_key_id, by_key}
use Rattle.ov_model.specs.Step.{Outcome, replied, where_found, change_peer, key_found, tx_look, rx_peer, rx_look, sent_peer, sent, settled_as, settle, spend, peer_new_checks, peer_made, peer_new, peer_new_at, peer_set_checks, peer_changed, peer_set, peer_get, peer_dump, removals, remove_peer, key_new_checks, key_new, key_made, key_get, slots_changed, key_swap, key_del, tick, down, keep_look, released, key_released, command_step}
use Rattle.ov_model.specs.Path.{SomeOf, none, kept, removed, spent_reply, spent_taken}
use Rattle.ov_model.proofs.Firsts.{map_changed}
use Rattle.ov_model.proofs.StepCases.{unless_has, found_has, changed_has}
use Rattle.ov_model.proofs.Shapes.{Name, settled_kept}

-- The serials of some peers.
abbrev pub serials : List Peer → List ℕ
serials peers = map (λ p. p.serial) peers

-- All members of a list are some of them.
pub some_all : (xs : List ℕ) → SomeOf xs xs
some_all [] = none
some_all (x ∷ xs) = kept x xs xs (some_all xs)

-- The step that lets the first dying peer go.
pub record LetsGo (t : Table) (now serial : ℕ) (rest : List ℕ) : Type 0 where
  pub may : list_any (λ p. p.serial == serial) t.dying ≡ true
  pub reply_is : (released t now serial).reply ≡ reply.Released serial
  pub taken : (released t now serial).taken ≡ []
  pub others : serials (released t now serial).after.dying ≡ rest
  pub retired : (released t now serial).after.retired ≡ t.retired

lets_go_of : (t : Table) (now serial : ℕ) (rest : List ℕ) (dying : List Peer) → t.dying ≡ dying → serials dying ≡ serial ∷ rest → LetsGo t now serial rest
unfolding released
lets_go_of t now serial rest [] is all = absurd (let e : ◌≡◌ {A = List ℕ} [] (serial ∷ rest) = all in cc)
lets_go_of t now serial rest (p ∷ ps) is all =
    let first : p.serial ≡ serial = (let e : ◌≡◌ {A = List ℕ} (p.serial ∷ serials ps) (serial ∷ rest) = all in cc) in
    let others : serials ps ≡ rest = (let e : ◌≡◌ {A = List ℕ} (p.serial ∷ serials ps) (serial ∷ rest) = all in cc) in
    let test : (p.serial == serial) ≡ true = rw first (grind (arith, nat_tests)) in
    record { may = rw (is, test) refl; reply_is = refl; taken = refl; others = rw (is, test) others; retired = refl }

pub lets_go : (t : Table) (now serial : ℕ) (rest : List ℕ) → serials t.dying ≡ serial ∷ rest → LetsGo t now serial rest
lets_go t now serial rest all = lets_go_of t now serial rest t.dying refl all

-- The step that lets the first retired key go.
pub record LetsKeyGo (t : Table) (now serial : ℕ) (rest : List ℕ) : Type 0 where
  pub may : list_any (λ k. k.serial == serial) t.retired ≡ true
  pub reply_is : (key_released t now serial).reply ≡ reply.KeyReleased serial
  pub taken : (key_released t now serial).taken ≡ []
  pub others : key_serials (key_released t now serial).after.retired ≡ rest
  pub dying : (key_released t now serial).after.dying ≡ t.dying

lets_key_go_of : (t : Table) (now serial : ℕ) (rest : List ℕ) (retired : List Key) → t.retired ≡ retired → key_serials retired ≡ serial ∷ rest → LetsKeyGo t now serial rest
unfolding key_released
lets_key_go_of t now serial rest [] is all = absurd (let e : ◌≡◌ {A = List ℕ} [] (serial ∷ rest) = all in cc)
lets_key_go_of t now serial rest (k ∷ ks) is all =
    let first : k.serial ≡ serial = (let e : ◌≡◌ {A = List ℕ} (k.serial ∷ key_serials ks) (serial ∷ rest) = all in cc) in
    let others : key_serials ks ≡ rest = (let e : ◌≡◌ {A = List ℕ} (k.serial ∷ key_serials ks) (serial ∷ rest) = all in cc) in
    let test : (k.serial == serial) ≡ true = rw first (grind (arith, nat_tests)) in
    record { may = rw (is, test) refl; reply_is = refl; taken = refl; others = rw (is, test) others; dying = refl }

pub lets_key_go : (t : Table) (now serial : ℕ) (rest : List ℕ) → key_serials t.retired ≡ serial ∷ rest → LetsKeyGo t now serial rest
lets_key_go t now serial rest all = lets_key_go_of t now serial rest t.retired refl all

-- A command adds to the dying list the peers that it removes, and no others, and to the retired keys those
-- that it takes out of a slot.
pub record Joins (t : Table) (o : Outcome) : Type 0 where
  pub joined : serials o.after.dying ≡ serials t.dying ++ removed o.reply
  pub keys_joined : key_serials o.after.retired ≡ key_serials t.retired ++ o.taken

joins_plain : (t : Table) (now : ℕ) (r : Reply) → removed r ≡ [] → Joins t (replied t now r)
joins_plain t now r nobody = record { joined = rw nobody (sym (append-nil (serials t.dying))); keys_joined = sym (append-nil (key_serials t.retired)) }

new_joins : (t : Table) (now : ℕ) (a : Attrs) (remote : Transport) → Joins t (peer_new_at t now a remote)
new_joins t now a remote = unless_has (Joins t) t now (peer_new_checks t a remote) (peer_made t now a remote) (λ e. joins_plain t now (reply.Refused e) refl)
    (record { joined = sym (append-nil (serials t.dying)); keys_joined = sym (append-nil (key_serials t.retired)) })

serials_bare : (ps : List Peer) → serials (map bare ps) ≡ serials ps
serials_bare [] = refl
serials_bare (p ∷ ps) = ap (λ ns. p.serial ∷ ns) (serials_bare ps)

-- The removal of any live peers.
pub removals_join : (t : Table) (now : ℕ) (reason : Reason) (gone left : List Peer) (r : Reply) → removed r ≡ serials_of gone → Joins t (removals t now reason gone left r)
removals_join t now reason gone left r are = record {
  joined = map-append (λ (q : Peer). q.serial) t.dying (map bare gone) ∙ rw (serials_bare gone, are) refl;
  keys_joined = map-append (λ (k : Key). k.serial) t.retired (keys_of gone);
}

-- The change of a live peer's slots.
slots_join : (t : Table) (now : ℕ) (id : PeerId) (change : Slots → Slots) (out : List Key) → Joins t (slots_changed t now id change out)
slots_join t now id change out = record { joined = sym (append-nil (serials t.dying)); keys_joined = map-append (λ (k : Key). k.serial) t.retired out }

pub command_joins : (t : Table) (now : ℕ) (c : Command) → Joins t (command_step t now c)
unfolding peer_new peer_set peer_get peer_dump remove_peer key_new key_get key_swap key_del tick down
command_joins t now (command.PeerNew a) = found_has (Joins t) t now _ a.remote _ (joins_plain t now _ refl) (λ remote is. new_joins t now a remote)
command_joins t now (command.PeerSet a) = found_has (Joins t) t now _ (by_id a.id t.live) _ (joins_plain t now _ refl)
    (λ p found. unless_has (Joins t) t now (peer_set_checks t a) (peer_changed t now a) (λ e. joins_plain t now (reply.Refused e) refl)
    (record { joined = sym (append-nil (serials t.dying)); keys_joined = sym (append-nil (key_serials t.retired)) }))
command_joins t now command.PeerDump = joins_plain t now _ refl
command_joins t now (command.PeerGet id) = found_has (Joins t) t now _ (by_id id t.live) _ (joins_plain t now _ refl) (λ p found. joins_plain t now _ refl)
command_joins t now (command.Remove id reason) = found_has (Joins t) t now _ (by_id id t.live) _ (joins_plain t now _ refl) (λ p found. removals_join t now reason (p ∷ []) _ _ refl)
command_joins t now (command.KeyNew c) = found_has (Joins t) t now _ (by_id c.peer t.live) _ (joins_plain t now _ refl)
    (λ p found. unless_has (Joins t) t now (key_new_checks t) (key_made t now c p) (λ e. joins_plain t now (reply.Refused e) refl)
    (record { joined = sym (append-nil (serials t.dying)); keys_joined = map-append (λ (k : Key). k.serial) t.retired (key_if_any (in_slot c.slot p.slots)) }))
command_joins t now (command.KeyGet id slot) = found_has (Joins t) t now _ (by_id id t.live) _ (joins_plain t now _ refl)
    (λ p found. found_has (Joins t) t now _ (in_slot slot p.slots) _ (joins_plain t now _ refl) (λ k has. joins_plain t now _ refl))
command_joins t now (command.KeySwap id) = found_has (Joins t) t now _ (by_id id t.live) _ (joins_plain t now _ refl) (λ p found. slots_join t now id swapped [])
command_joins t now (command.KeyDel id slot) = found_has (Joins t) t now _ (by_id id t.live) _ (joins_plain t now _ refl)
    (λ p found. slots_join t now id (with_slot slot None) (key_if_any (in_slot slot p.slots)))
command_joins t now command.Tick = removals_join t now _ _ _ _ refl
command_joins t now command.Down = removals_join t now _ _ _ _ refl

-- ---- steps that remove nothing

-- The dying peers keep their serials, the retired keys stay, and no key leaves its slot.
pub record Keeps (t : Table) (o : Outcome) : Type 0 where
  pub dying : serials o.after.dying ≡ serials t.dying
  pub retired : o.after.retired ≡ t.retired
  pub taken : o.taken ≡ []
  pub removes_none : removed o.reply ≡ []

plain_keeps : (t : Table) (now : ℕ) (r : Reply) → removed r ≡ [] → Keeps t (replied t now r)
plain_keeps t now r nobody = record { dying = refl; retired = refl; taken = refl; removes_none = nobody }

look_keeps : (t : Table) (now : ℕ) (p : Option Peer) (key : Peer → Option Key) → Keeps t (where_found t now reply.NoPeer p (λ q. key_found t now q (key q)))
look_keeps t now p key = found_has (Keeps t) t now _ p _ (plain_keeps t now reply.NoPeer refl)
    (λ q found. found_has (Keeps t) t now _ (key q) _ (plain_keeps t now reply.NoKey refl) (λ k has. plain_keeps t now _ refl))

pub tx_look_keeps : (t : Table) (now : ℕ) (a : Addr) → Keeps t (tx_look t now a)
unfolding tx_look
tx_look_keeps t now a = look_keeps t now (by_vpn a t.live) (λ p. p.slots.primary)

pub rx_look_keeps : (t : Table) (now : ℕ) (id : PeerId) (key_id : KeyId) (from : Transport) → Keeps t (rx_look t now id key_id from)
unfolding rx_look
rx_look_keeps t now id key_id from = look_keeps t now (rx_peer id from t.live) (λ p. by_key_id key_id p.slots)

pub keep_look_keeps : (t : Table) (now peer : ℕ) → Keeps t (keep_look t now peer)
unfolding keep_look
keep_look_keeps t now peer = found_has (Keeps t) t now _ (by_serial peer t.live) _ (plain_keeps t now reply.Skip refl)
    (λ p found. found_has (Keeps t) t now _ p.slots.primary _ (plain_keeps t now reply.Skip refl) (λ k has. plain_keeps t now _ refl))

-- A peer that is changed and keeps its serial.
changed_keeps : (t : Table) (now serial : ℕ) (live dying : Peer → Peer) (r : Reply) → ((p : Peer) → (dying p).serial ≡ p.serial) → removed r ≡ [] → Keeps t (replied (change_peer serial live dying t) now r)
changed_keeps t now serial live dying r same nobody =
    changed_has (λ u. Keeps t (replied u now r)) t serial live dying
    (record { dying = refl; retired = refl; taken = refl; removes_none = nobody })
    (record { dying = map_changed (λ (p : Peer). p.serial) (has_serial serial) dying t.dying same; retired = refl; taken = refl; removes_none = nobody })

pub sent_keeps : (t : Table) (now peer inner outer : ℕ) (ping : Bool) → Keeps t (sent t now peer inner outer ping)
unfolding sent
sent_keeps t now peer inner outer ping = changed_keeps t now peer (sent_peer now inner outer ping) (sent_peer now inner outer ping) reply.Done (λ p. refl) refl

pub settle_keeps : (t : Table) (now peer : ℕ) (from : Option Transport) (k : InnerKind) (inner outer : ℕ) → Keeps t (settle t now peer from k inner outer)
unfolding settle
settle_keeps t now peer from k inner outer = changed_keeps t now peer _ _ (reply.Settled (settled_as peer k t.live)) (λ p. ap (λ (n : Name). n.serial) (settled_kept (settled_as peer k t.live) inner _).name) refl

-- A spent key joins the retired ones exactly where this step took it out of its slot.
pub record Spends (t : Table) (key : ℕ) (o : Outcome) : Type 0 where
  pub killed : Bool
  pub dying : o.after.dying ≡ t.dying
  pub reply_is : o.reply ≡ spent_reply killed
  pub taken : o.taken ≡ spent_taken killed key
  pub keys_joined : key_serials o.after.retired ≡ key_serials t.retired ++ o.taken

found_is : (key : ℕ) (ks : List Key) (k : Key) → find (λ q. q.serial == key) ks ≡ Some k → k.serial ≡ key
found_is key [] k found = cc
found_is key (q ∷ ks) k found =
    elim (cases_eq q.serial key) [
      | inl same ↦
          let first : find (λ r. r.serial == key) (q ∷ ks) ≡ Some q = rw (eq-eqb q.serial key same) refl in
          let its : q ≡ k = (let e : Some q ≡ Some k = sym first ∙ found in cc) in rw (← its) same
      | inr other ↦
          let later : find (λ r. r.serial == key) (q ∷ ks) ≡ find (λ r. r.serial == key) ks = rw (ne_eqb q.serial key other) refl in
          found_is key ks k (sym later ∙ found)
    ]

spares : (t : Table) (now key : ℕ) → Spends t key (replied t now reply.AlreadyGone)
spares t now key = record { killed = false; dying = refl; reply_is = refl; taken = refl; keys_joined = sym (append-nil (key_serials t.retired)) }

pub spend_spends : (t : Table) (now peer key : ℕ) → Spends t key (spend t now peer key)
unfolding spend
spend_spends t now peer key =
    found_has (Spends t key) t now _ (by_serial peer t.live) _ (spares t now key)
    (λ p found. found_has (Spends t key) t now _ (by_key key p.slots) _ (spares t now key) (λ k has.
    let its : k.serial ≡ key = found_is key (keys_in p.slots) k has in
    record { killed = true; dying = refl; reply_is = refl; taken = refl; keys_joined = map-append (λ (q : Key). q.serial) t.retired (k ∷ []) ∙ ap (λ n. key_serials t.retired ++ n ∷ []) its }))
