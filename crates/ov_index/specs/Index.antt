-- The live peers with the counts of all peers and keys that were ever made.
use Rattle.std.specs.Prelude.{ℕ, ◌≡◌, List, [], ◌∷◌, Option, Some, None, slice_get, true}
use Rattle.ov_model.specs.declared.command.Slot.{Slot}
use Rattle.ov_model.specs.Tables.{Peer, Key, by_key, in_slot}
use Rattle.ov_model.specs.Step.{has_key}
use Rattle.ov_index.specs.declared.name.Name.{Name}
use Rattle.ov_index.specs.Names.{has_name}

-- The live peers in the order of making, and how many peers and keys were ever made.
pub record Indexed : Type 0 where
  pub live : List Peer
  pub made : ℕ
  pub keys_made : ℕ

-- The places of the live peers, each with a peer or a hole, and for how many more places room is reserved.
pub record Placed : Type 0 where
  pub items : List (Option Peer)
  pub room : ℕ

-- No peers and no keys.
abbrev pub no_peers : Indexed
no_peers = record { live = []; made = 0; keys_made = 0 }

-- What stands at the places of a list, without those where nothing stands.
abbrev pub present : {X : Type 0} → List (Option X) → List X
present [] = []
present (None ∷ slots) = present slots
present (Some x ∷ slots) = x ∷ present slots

-- What stands at a place of a list, where it has that place and something stands there.
abbrev pub standing_in : {X : Type 0} → Option (Option X) → Option X
standing_in None = None
standing_in (Some slot) = slot

-- What stands at a place of a list.
abbrev pub standing : {X : Type 0} → List (Option X) → ℕ → Option X
standing slots k = standing_in (slice_get slots k)

-- What the maps say is what the places say: each peer stands at the place of its serial, is the one that its
-- names lead to, and they lead nowhere else; and each key of a slot was made for the peer that has it.
pub record IsIndex (owner : Name → Option ℕ) (homes : List ℕ) (slots : List (Option Peer)) : Type 0 where
  pub serial : (k : ℕ) (p : Peer) → slice_get slots k ≡ Some (Some p) → p.serial ≡ k
  pub known : (n : Name) (k : ℕ) (p : Peer) → slice_get slots k ≡ Some (Some p) → has_name n p ≡ true → owner n ≡ Some k
  pub found : (n : Name) (k : ℕ) → owner n ≡ Some k → (p : Peer) × (slice_get slots k ≡ Some (Some p)) × (has_name n p ≡ true)
  pub home : (k key : ℕ) (p : Peer) → slice_get slots k ≡ Some (Some p) → has_key key p ≡ true → slice_get homes key ≡ Some k

-- The key with a serial in a slot of a peer, if there is that peer.
abbrev pub key_taken : ℕ → Option Peer → Option Key
key_taken key None = None
key_taken key (Some p) = by_key key p.slots

-- What stands in a slot of a peer, if there is that peer.
abbrev pub slot_of : Slot → Option Peer → Option Key
slot_of slot None = None
slot_of slot (Some p) = in_slot slot p.slots
