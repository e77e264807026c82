-- What a look-up finds is live, and so may be held. A step that is no command makes and removes nothing.
use Rattle.std.proofs.Common.{ℕ, ◌≡◌, ◌+◌, ◌<◌, ◌≤◌, [], ◌∷◌, ◌++◌, refl, ◌∙◌, subst, Bool, true, false, arith, if◌then◌else◌, ◌==◌, inl, inr}
use Rattle.std.specs.Prelude.{⊤, find, Option, Some, None}
use Rattle.std.proofs.lemmas.Bool.{eq-eqb, cases_lt}
use Rattle.ov_base.specs.declared.address.Transport.{Transport}
use Rattle.ov_base.specs.declared.address.Addr.{Addr}
use Rattle.ov_base.specs.Address.{same_transport}
use Rattle.ov_model.specs.declared.ident.PeerId.{PeerId}
use Rattle.ov_model.specs.declared.ident.KeyId.{KeyId}
use Rattle.ov_model.specs.declared.reply.HoldView.{HoldView}
use Rattle.ov_model.specs.declared.reply.Reply.{Reply}
use Rattle.ov_model.specs.declared.reply.Reply.TheVariants as reply
use Rattle.ov_model.specs.Tables.{Peer, Key, Table, serials_of, key_serials, key_if_any, keys_in, has_id, has_serial, by_id, by_serial, by_vpn, has_vpn, by_remote, by_key_id}
use Rattle.ov_model.specs.Step.{Outcome, replied, where_found, hold_of, key_found, tx_look, rx_look, keep_look}
use Rattle.ov_model.specs.Removals.{times}
use Rattle.ov_model.proofs.StepCases.{found_has}
use Rattle.ov_model.proofs.Times.{times_first}
use Rattle.ov_model.proofs.KeysTaken.{slot_serials, peer_keys}
use Rattle.ov_model.proofs.Tallies.{Room, peer_tally, peer_stands, key_tally, key_stands, found_stands, found_slots, peer_room, key_room, peers_most, keys_most}
use Rattle.ov_table.specs.Recorded.{Recorded, IsTold}

-- ---- how great serials are

pub no_peer : (r : Recorded) → IsTold r → (x : ℕ) → 4096 ≤ x → peer_stands x r.now ≡ 0
no_peer r told x past =
    let few : r.now.made ≤ 4096 = subst (λ (t : Table). t.made ≤ 4096) told.last (peers_most r.journal) in
    (subst (Room (peer_tally x)) told.last (peer_room x r.journal told.run)).unmade (omega arith)

pub peer_low : (r : Recorded) → IsTold r → (x : ℕ) → 0 < peer_stands x r.now → x < 4096
peer_low r told x some = elim (cases_lt x 4096) [
  | inl below ↦ below
  | inr past ↦ absurd (let none = no_peer r told x (omega arith) in omega arith)
]

pub no_key_there : (r : Recorded) → IsTold r → (x : ℕ) → 65536 ≤ x → key_stands x r.now ≡ 0
no_key_there r told x past =
    let few : r.now.keys_made ≤ 65536 = subst (λ (t : Table). t.keys_made ≤ 65536) told.last (keys_most r.journal) in
    (subst (Room (key_tally x)) told.last (key_room x r.journal told.run)).unmade (omega arith)

pub key_low : (r : Recorded) → IsTold r → (x : ℕ) → 0 < key_stands x r.now → x < 65536
key_low r told x some = elim (cases_lt x 65536) [
  | inl below ↦ below
  | inr past ↦ absurd (let none = no_key_there r told x (omega arith) in omega arith)
]

-- ---- what a look-up finds

-- A hold is on a live peer, and on a key in a slot.
pub record HoldLives (t : Table) (h : HoldView) : Type 0 where
  pub peer : 1 ≤ times h.peer (serials_of t.live)
  pub key : 1 ≤ times h.key (slot_serials t.live)

abbrev pub ReplyLives : Table → Reply → Type 0
ReplyLives t (reply.Hold h) = HoldLives t h
ReplyLives t _ = ⊤

itself : (x : ℕ) → times x (x ∷ []) ≡ 1
itself x = rw (eq-eqb x x refl) refl

-- A look-up changes no live peer.
pub record Looks (t : Table) (o : Outcome) : Type 0 where
  pub live : o.after.live ≡ t.live
  pub lives : ReplyLives t o.reply

-- A look-up with other replies where it finds no peer and no key.
look_lives : (t : Table) (now : ℕ) (missing lacking : Reply) (fits : Peer → Bool) (p : Option Peer) (key : Peer → Option Key) → ReplyLives t missing → ReplyLives t lacking → find fits t.live ≡ p → ((q : Peer) (k : Key) → key q ≡ Some k → times k.serial (k.serial ∷ []) ≤ times k.serial (peer_keys q))
    → Looks t (where_found t now missing p (λ q. where_found t now lacking (key q) (λ k. replied t now (reply.Hold (hold_of q k)))))
look_lives t now missing lacking fits p key none none_too is own =
    found_has (Looks t) t now _ p _ (record { live = refl; lives = none }) (λ q at. found_has (Looks t) t now _ (key q) _ (record { live = refl; lives = none_too }) (λ k has.
    let found : find fits t.live ≡ Some q = is ∙ at in
    record {
      live = refl;
      lives = record {
        peer = (let live : times q.serial (q.serial ∷ []) ≤ times q.serial (serials_of t.live) = found_stands (λ (r : Peer). r.serial) fits q.serial t.live q found in let one = itself q.serial in omega arith);
        key = (let its : times k.serial (k.serial ∷ []) ≤ times k.serial (peer_keys q) = own q k has in let slots : times k.serial (peer_keys q) ≤ times k.serial (slot_serials t.live) = found_slots fits k.serial t.live q found in let one = itself k.serial in omega arith);
      };
    }))

primary_lives : (a b : Option Key) (k : Key) → a ≡ Some k → times k.serial (k.serial ∷ []) ≤ times k.serial (key_serials (key_if_any a ++ key_if_any b))
primary_lives None b k is = cc
primary_lives (Some q) b k is =
    let its : q ≡ k = cc in
    let all : times k.serial (q.serial ∷ key_serials (key_if_any b)) ≡ times k.serial (q.serial ∷ []) + times k.serial (key_serials (key_if_any b)) = times_first k.serial q.serial (key_serials (key_if_any b)) in
    rw all (rw its (omega arith))

key_id_lives : (key_id : KeyId) (p : Peer) (k : Key) → by_key_id key_id p.slots ≡ Some k → times k.serial (k.serial ∷ []) ≤ times k.serial (peer_keys p)
key_id_lives key_id p k is = found_stands (λ (q : Key). q.serial) (λ q. q.key_id.number == key_id.number) k.serial (keys_in p.slots) k is

pub tx_looks : (t : Table) (now : ℕ) (a : Addr) → Looks t (tx_look t now a)
unfolding tx_look
tx_looks t now a = look_lives t now reply.NoPeer reply.NoKey (has_vpn a) (by_vpn a t.live) (λ p. p.slots.primary) tt tt refl (λ q k is. primary_lives q.slots.primary q.slots.secondary k is)

pub rx_looks : (t : Table) (now : ℕ) (id : PeerId) (key_id : KeyId) (from : Transport) → Looks t (rx_look t now id key_id from)
unfolding rx_look
rx_looks t now id key_id from =
    let key : Peer → Option Key = λ p. by_key_id key_id p.slots in
    elim (id.number == 16777215) as (λ b. Looks t (where_found t now reply.NoPeer (if b then by_remote from t.live else by_id id t.live) (λ q. key_found t now q (key q)))) [
      | true ↦ look_lives t now reply.NoPeer reply.NoKey (λ p. same_transport p.remote from) (by_remote from t.live) key tt tt refl (λ q k is. key_id_lives key_id q k is)
      | false ↦ look_lives t now reply.NoPeer reply.NoKey (has_id id) (by_id id t.live) key tt tt refl (λ q k is. key_id_lives key_id q k is)
    ]

pub keep_looks : (t : Table) (now peer : ℕ) → Looks t (keep_look t now peer)
unfolding keep_look
keep_looks t now peer = look_lives t now reply.Skip reply.Skip (has_serial peer) (by_serial peer t.live) (λ p. p.slots.primary) tt tt refl (λ q k is. primary_lives q.slots.primary q.slots.secondary k is)
