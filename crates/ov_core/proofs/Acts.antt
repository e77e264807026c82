-- What the steps of the table answer, and how much a command takes and removes.
use Rattle.std.proofs.Common.{ℕ, ◌≡◌, ◌+◌, ◌*◌, ◌≤◌, Bool, true, false, if◌then◌else◌, List, [], ◌∷◌, ◌++◌, length, length-append, refl, ◌∙◌, ap, arith}
use Rattle.std.specs.Prelude.{Option, Some, None, filter, nat_lt}
use Rattle.std.proofs.lemmas.List.{length-map, map-append}
use Rattle.ov_base.specs.declared.address.Addr.{Addr}
use Rattle.ov_base.specs.declared.address.Transport.{Transport}
use Rattle.ov_model.specs.declared.ident.PeerId.{PeerId}
use Rattle.ov_model.specs.declared.ident.KeyId.{KeyId}
use Rattle.ov_model.specs.declared.command.Command.{Command}
use Rattle.ov_model.specs.declared.command.Command.TheVariants as command
use Rattle.ov_model.specs.declared.command.Reason.{Reason}
use Rattle.ov_model.specs.declared.command.Reason.TheVariants.{Expired, Teardown}
use Rattle.ov_model.specs.declared.act.Act.TheVariants as act
use Rattle.ov_model.specs.declared.act.InnerKind.{InnerKind}
use Rattle.ov_model.specs.declared.reply.Settled.{Settled}
use Rattle.ov_model.specs.declared.reply.Reply.{Reply}
use Rattle.ov_model.specs.declared.reply.Reply.TheVariants as reply
use Rattle.ov_model.specs.Tables.{Peer, Key, Table, by_id, by_serial, by_vpn, by_key_id, keys_in, keys_of, key_if_any, in_slot, key_serials, serials_of, put_by_id, by_rising_id}
use Rattle.ov_model.specs.Step.{Outcome, replied, peer_new_checks, peer_made, peer_new, peer_set_checks, peer_changed, peer_set, peer_get, peer_dump, remove_peer, removals, key_new_checks, key_made, key_new, key_get, key_swap, key_del, tx_look, rx_peer, rx_look, keep_look, sent, settle, settled_as, is_expired, expired_of, due_of, tick, down, command_step}
use Rattle.ov_model.specs.Path.{removed}
use Rattle.ov_model.proofs.StepCases.{unless_has, found_has}
use Rattle.ov_path.specs.Desks.{IsLookReply, IsKeepReply, is_tick, is_ticked}
use Rattle.ov_core.specs.Seats.{room_of}

-- ---- look-ups

pub tx_fits : (t : Table) (now : ℕ) (a : Addr) → IsLookReply (tx_look t now a).reply
unfolding tx_look
tx_fits t now a =
    let P : Outcome → Type 0 = λ o. IsLookReply o.reply in
    found_has P t now _ (by_vpn a t.live) _ tt (λ p at. found_has P t now _ p.slots.primary _ tt (λ k has. tt))

pub rx_fits : (t : Table) (now : ℕ) (id : PeerId) (key_id : KeyId) (from : Transport) → IsLookReply (rx_look t now id key_id from).reply
unfolding rx_look
rx_fits t now id key_id from =
    let P : Outcome → Type 0 = λ o. IsLookReply o.reply in
    found_has P t now _ (rx_peer id from t.live) _ tt (λ p at. found_has P t now _ (by_key_id key_id p.slots) _ tt (λ k has. tt))

pub keep_fits : (t : Table) (now peer : ℕ) → IsKeepReply (keep_look t now peer).reply
unfolding keep_look
keep_fits t now peer =
    let P : Outcome → Type 0 = λ o. IsKeepReply o.reply in
    found_has P t now _ (by_serial peer t.live) _ tt (λ p at. found_has P t now _ p.slots.primary _ tt (λ k has. tt))

-- ---- the uses of a hold

pub sent_done : (t : Table) (now peer inner outer : ℕ) (ping : Bool) → (sent t now peer inner outer ping).reply ≡ reply.Done
unfolding sent
sent_done t now peer inner outer ping = refl

-- A settle answers with what became of the packet.
pub record SettledReply (r : Reply) : Type 0 where
  pub settled : Settled
  pub is : r ≡ reply.Settled settled

pub settle_says : (t : Table) (now peer : ℕ) (from : Option Transport) (k : InnerKind) (inner outer : ℕ) → SettledReply (settle t now peer from k inner outer).reply
unfolding settle
settle_says t now peer from k inner outer = record { settled = settled_as peer k t.live; is = refl }

-- ---- commands

-- No more keys leave their slots and peers their list by a step than so many.
pub record Few (most : ℕ) (o : Outcome) : Type 0 where
  pub few : length o.taken + length (removed o.reply) ≤ most

few_plain : (t : Table) (now : ℕ) (r : Reply) → length (removed r) ≤ 3 → Few 3 (replied t now r)
few_plain t now r few = record { few = omega arith }

serials_any : (k : Option Key) → length (key_serials (key_if_any k)) ≤ 1
serials_any None = omega arith
serials_any (Some k) = omega arith

serials_both : (a b : Option Key) → length (key_serials (key_if_any a ++ key_if_any b)) ≤ 2
serials_both None b = let one = serials_any b in omega arith
serials_both (Some k) b = let one = serials_any b in omega arith

-- Each peer has two keys at most.
keys_few : (ps : List Peer) → length (key_serials (keys_of ps)) ≤ 2 * length ps
keys_few [] = omega arith
keys_few (p ∷ ps) =
    let own : length (key_serials (keys_in p.slots)) ≤ 2 = serials_both p.slots.primary p.slots.secondary in
    let later : length (key_serials (keys_of ps)) ≤ 2 * length ps = keys_few ps in
    let all : length (key_serials (keys_of (p ∷ ps))) ≡ length (key_serials (keys_in p.slots)) + length (key_serials (keys_of ps)) =
    ap length (map-append (λ (k : Key). k.serial) (keys_in p.slots) (keys_of ps)) ∙ length-append (key_serials (keys_in p.slots)) (key_serials (keys_of ps)) in
    omega arith

-- A removal of some of the live peers.
few_removals : (t : Table) (now most : ℕ) (reason : Reason) (gone left : List Peer) (r : Reply) → removed r ≡ serials_of gone → 3 * length gone ≤ most → Few most (removals t now reason gone left r)
few_removals t now most reason gone left r are some =
    let keys : length (key_serials (keys_of gone)) ≤ 2 * length gone = keys_few gone in
    let peers : length (removed r) ≡ length gone = ap length are ∙ length-map gone (λ (p : Peer). p.serial) in
    record { few = omega arith }

-- By rising id there are as many.
put_long : (p : Peer) (qs : List Peer) → length (put_by_id p qs) ≡ length qs + 1
put_long p [] = refl
put_long p (q ∷ qs) =
    let later : length (put_by_id p qs) ≡ length qs + 1 = put_long p qs in
    elim (nat_lt p.id.number q.id.number) as (λ b. length (if b then p ∷ q ∷ qs else (q ∷ put_by_id p qs)) ≡ length (q ∷ qs) + 1) [
      | true ↦ omega arith
      | false ↦ omega arith
    ]

rising_long : (ps : List Peer) → length (by_rising_id ps) ≡ length ps
rising_long [] = refl
rising_long (p ∷ ps) =
    let put : length (put_by_id p (by_rising_id ps)) ≡ length (by_rising_id ps) + 1 = put_long p (by_rising_id ps) in
    let later : length (by_rising_id ps) ≡ length ps = rising_long ps in
    omega arith

filter_few : {X : Type 0} (f : X → Bool) (xs : List X) → length (filter f xs) ≤ length xs
filter_few f [] = omega arith
filter_few f (x ∷ xs) =
    let later : length (filter f xs) ≤ length xs = filter_few f xs in
    elim (f x) as (λ b. length (if b then x ∷ filter f xs else filter f xs) ≤ length (x ∷ xs)) [ true ↦ omega arith | false ↦ omega arith ]

expired_few : (now : ℕ) (live : List Peer) → length (expired_of now live) ≤ length live
expired_few now live =
    let some : length (filter (is_expired now) (by_rising_id live)) ≤ length (by_rising_id live) = filter_few (is_expired now) (by_rising_id live) in
    let all : length (by_rising_id live) ≡ length live = rising_long live in
    omega arith

-- A step's reply isn't that of a tick.
abbrev NotTicked : Outcome → Type 0
NotTicked o = is_ticked o.reply ≡ false

pub command_few : (t : Table) (now : ℕ) (c : Command) → Few (room_of t (act.Do c)) (command_step t now c)
unfolding peer_new peer_set peer_get peer_dump remove_peer key_new key_get key_swap key_del tick down
command_few t now (command.PeerNew a) = found_has (Few 3) t now _ a.remote _ (few_plain t now _ (omega arith))
    (λ remote is. unless_has (Few 3) t now (peer_new_checks t a remote) (peer_made t now a remote) (λ e. few_plain t now (reply.Refused e) (omega arith)) (record { few = omega arith }))
command_few t now (command.PeerSet a) = found_has (Few 3) t now _ (by_id a.id t.live) _ (few_plain t now _ (omega arith))
    (λ p found. unless_has (Few 3) t now (peer_set_checks t a) (peer_changed t now a) (λ e. few_plain t now (reply.Refused e) (omega arith)) (record { few = omega arith }))
command_few t now (command.PeerGet id) = found_has (Few 3) t now _ (by_id id t.live) _ (few_plain t now _ (omega arith)) (λ p found. few_plain t now _ (omega arith))
command_few t now command.PeerDump = few_plain t now _ (omega arith)
command_few t now (command.Remove id reason) = found_has (Few 3) t now _ (by_id id t.live) _ (few_plain t now _ (omega arith))
    (λ p found. few_removals t now 3 reason (p ∷ []) _ (reply.Removed (serials_of (p ∷ []))) refl (omega arith))
command_few t now (command.KeyNew c) = found_has (Few 3) t now _ (by_id c.peer t.live) _ (few_plain t now _ (omega arith))
    (λ p found. unless_has (Few 3) t now (key_new_checks t) (key_made t now c p) (λ e. few_plain t now (reply.Refused e) (omega arith))
    (record { few = (let one = serials_any (in_slot c.slot p.slots) in omega arith) }))
command_few t now (command.KeyGet id slot) = found_has (Few 3) t now _ (by_id id t.live) _ (few_plain t now _ (omega arith))
    (λ p found. found_has (Few 3) t now _ (in_slot slot p.slots) _ (few_plain t now _ (omega arith)) (λ k has. few_plain t now _ (omega arith)))
command_few t now (command.KeySwap id) = found_has (Few 3) t now _ (by_id id t.live) _ (few_plain t now _ (omega arith))
    (λ p found. record { few = omega arith })
command_few t now (command.KeyDel id slot) = found_has (Few 3) t now _ (by_id id t.live) _ (few_plain t now _ (omega arith))
    (λ p found. record { few = (let one = serials_any (in_slot slot p.slots) in omega arith) })
command_few t now command.Tick =
    let some : length (expired_of now t.live) ≤ length t.live = expired_few now t.live in
    few_removals t now (3 + 3 * length t.live) Expired (expired_of now t.live) _ (reply.Ticked (serials_of (expired_of now t.live)) (serials_of (due_of now t.live))) refl (omega arith)
command_few t now command.Down =
    let all : length (by_rising_id t.live) ≡ length t.live = rising_long t.live in
    few_removals t now (3 + 3 * length t.live) Teardown (by_rising_id t.live) [] (reply.Removed (serials_of (by_rising_id t.live))) refl (omega arith)

-- A tick alone is answered as one.
pub command_ticked : (t : Table) (now : ℕ) (c : Command) → is_ticked (command_step t now c).reply ≡ is_tick c
unfolding peer_new peer_set peer_get peer_dump remove_peer key_new key_get key_swap key_del tick down
command_ticked t now (command.PeerNew a) = found_has NotTicked t now _ a.remote _ refl
    (λ remote is. unless_has NotTicked t now (peer_new_checks t a remote) (peer_made t now a remote) (λ e. refl) refl)
command_ticked t now (command.PeerSet a) = found_has NotTicked t now _ (by_id a.id t.live) _ refl
    (λ p found. unless_has NotTicked t now (peer_set_checks t a) (peer_changed t now a) (λ e. refl) refl)
command_ticked t now (command.PeerGet id) = found_has NotTicked t now _ (by_id id t.live) _ refl (λ p found. refl)
command_ticked t now command.PeerDump = refl
command_ticked t now (command.Remove id reason) = found_has NotTicked t now _ (by_id id t.live) _ refl (λ p found. refl)
command_ticked t now (command.KeyNew c) = found_has NotTicked t now _ (by_id c.peer t.live) _ refl
    (λ p found. unless_has NotTicked t now (key_new_checks t) (key_made t now c p) (λ e. refl) refl)
command_ticked t now (command.KeyGet id slot) = found_has NotTicked t now _ (by_id id t.live) _ refl
    (λ p found. found_has NotTicked t now _ (in_slot slot p.slots) _ refl (λ k has. refl))
command_ticked t now (command.KeySwap id) = found_has NotTicked t now _ (by_id id t.live) _ refl (λ p found. refl)
command_ticked t now (command.KeyDel id slot) = found_has NotTicked t now _ (by_id id t.live) _ refl (λ p found. refl)
command_ticked t now command.Tick = refl
command_ticked t now command.Down = refl
