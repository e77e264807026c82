-- What is held stands in the table, whatever step of the table is made.
use Rattle.std.proofs.Common.{ℕ, ◌≡◌, ◌+◌, ◌≤◌, [], ◌∷◌, ◌++◌, refl, ◌∙◌, subst, Bool, true, false, arith, if◌then◌else◌, ◌==◌}
use Rattle.std.specs.Prelude.{⊤, find, Option, Some, None}
use Rattle.std.proofs.lemmas.Bool.{eq-eqb}
use Rattle.ov_base.specs.declared.address.Transport.{Transport}
use Rattle.ov_base.specs.declared.address.Addr.{Addr}
use Rattle.ov_base.specs.Address.{same_transport}
use Rattle.ov_model.specs.declared.ident.PeerId.{PeerId}
use Rattle.ov_model.specs.declared.ident.KeyId.{KeyId}
use Rattle.ov_model.specs.declared.reply.HoldView.{HoldView}
use Rattle.ov_model.specs.declared.reply.Reply.{Reply}
use Rattle.ov_model.specs.declared.reply.Reply.TheVariants as reply
use Rattle.ov_model.specs.Tables.{Peer, Key, Table, serials_of, key_serials, key_if_any, keys_in, has_id, has_serial, by_id, by_serial, by_vpn, has_vpn, by_remote, by_key_id}
use Rattle.ov_model.specs.Step.{Outcome, replied, where_found, hold_of, key_found, tx_look, rx_look, keep_look}
use Rattle.ov_model.specs.Removals.{times}
use Rattle.ov_model.proofs.StepCases.{found_has}
use Rattle.ov_model.proofs.Times.{times_first}
use Rattle.ov_model.proofs.KeysTaken.{slot_serials, peer_keys}
use Rattle.ov_model.proofs.Tallies.{peer_stands, key_stands, found_stands, found_slots, peer_room, key_room}
use Rattle.ov_table.specs.Recorded.{Recorded, IsTold}

-- ---- a serial stands once

pub peer_once : (r : Recorded) (x : ℕ) → IsTold r → peer_stands x r.now ≤ 1
peer_once r x told = subst (λ t. peer_stands x t ≤ 1) told.last (peer_room x r.journal told.run).most

pub key_once : (r : Recorded) (x : ℕ) → IsTold r → key_stands x r.now ≤ 1
key_once r x told = subst (λ t. key_stands x t ≤ 1) told.last (key_room x r.journal told.run).most

-- ---- what a look-up finds is live

-- A hold is on a live peer, and on a key in a slot.
pub record HoldLives (t : Table) (h : HoldView) : Type 0 where
  pub peer : 1 ≤ times h.peer (serials_of t.live)
  pub key : 1 ≤ times h.key (slot_serials t.live)

abbrev pub ReplyLives : Table → Reply → Type 0
ReplyLives t (reply.Hold h) = HoldLives t h
ReplyLives t _ = ⊤

itself : (x : ℕ) → times x (x ∷ []) ≡ 1
itself x = rw (eq-eqb x x refl) refl

-- A look-up with other replies where it finds no peer and no key.
look_lives : (t : Table) (now : ℕ) (missing lacking : Reply) (fits : Peer → Bool) (p : Option Peer) (key : Peer → Option Key) → ReplyLives t missing → ReplyLives t lacking → find fits t.live ≡ p → ((q : Peer) (k : Key) → key q ≡ Some k → times k.serial (k.serial ∷ []) ≤ times k.serial (peer_keys q))
    → ReplyLives t (where_found t now missing p (λ q. where_found t now lacking (key q) (λ k. replied t now (reply.Hold (hold_of q k))))).reply
look_lives t now missing lacking fits p key none none_too is own =
    let P : Outcome → Type 0 = λ o. ReplyLives t o.reply in
    found_has P t now _ p _ none (λ q at. found_has P t now _ (key q) _ none_too (λ k has.
    let found : find fits t.live ≡ Some q = is ∙ at in
    record {
      peer = (let live : times q.serial (q.serial ∷ []) ≤ times q.serial (serials_of t.live) = found_stands (λ (r : Peer). r.serial) fits q.serial t.live q found in let one = itself q.serial in omega arith);
      key = (let its : times k.serial (k.serial ∷ []) ≤ times k.serial (peer_keys q) = own q k has in let slots : times k.serial (peer_keys q) ≤ times k.serial (slot_serials t.live) = found_slots fits k.serial t.live q found in let one = itself k.serial in omega arith);
    }))

primary_lives : (a b : Option Key) (k : Key) → a ≡ Some k → times k.serial (k.serial ∷ []) ≤ times k.serial (key_serials (key_if_any a ++ key_if_any b))
primary_lives None b k is = cc
primary_lives (Some q) b k is =
    let its : q ≡ k = cc in
    let all : times k.serial (q.serial ∷ key_serials (key_if_any b)) ≡ times k.serial (q.serial ∷ []) + times k.serial (key_serials (key_if_any b)) = times_first k.serial q.serial (key_serials (key_if_any b)) in
    rw all (rw its (omega arith))

key_id_lives : (key_id : KeyId) (p : Peer) (k : Key) → by_key_id key_id p.slots ≡ Some k → times k.serial (k.serial ∷ []) ≤ times k.serial (peer_keys p)
key_id_lives key_id p k is = found_stands (λ (q : Key). q.serial) (λ q. q.key_id.number == key_id.number) k.serial (keys_in p.slots) k is

pub tx_lives : (t : Table) (now : ℕ) (a : Addr) → ReplyLives t (tx_look t now a).reply
unfolding tx_look
tx_lives t now a = look_lives t now reply.NoPeer reply.NoKey (has_vpn a) (by_vpn a t.live) (λ p. p.slots.primary) tt tt refl (λ q k is. primary_lives q.slots.primary q.slots.secondary k is)

pub rx_lives : (t : Table) (now : ℕ) (id : PeerId) (key_id : KeyId) (from : Transport) → ReplyLives t (rx_look t now id key_id from).reply
unfolding rx_look
rx_lives t now id key_id from =
    let key : Peer → Option Key = λ p. by_key_id key_id p.slots in
    elim (id.number == 16777215) as (λ b. ReplyLives t (where_found t now reply.NoPeer (if b then by_remote from t.live else by_id id t.live) (λ q. key_found t now q (key q))).reply) [
      | true ↦ look_lives t now reply.NoPeer reply.NoKey (λ p. same_transport p.remote from) (by_remote from t.live) key tt tt refl (λ q k is. key_id_lives key_id q k is)
      | false ↦ look_lives t now reply.NoPeer reply.NoKey (has_id id) (by_id id t.live) key tt tt refl (λ q k is. key_id_lives key_id q k is)
    ]

pub keep_lives : (t : Table) (now peer : ℕ) → ReplyLives t (keep_look t now peer).reply
unfolding keep_look
keep_lives t now peer = look_lives t now reply.Skip reply.Skip (has_serial peer) (by_serial peer t.live) (λ p. p.slots.primary) tt tt refl (λ q k is. primary_lives q.slots.primary q.slots.secondary k is)
