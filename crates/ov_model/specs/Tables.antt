-- The state of the peer table: lists in the order of making. The code may find peers by other means.
use Rattle.std.specs.Prelude.{ℕ, List, [], ◌∷◌, ◌++◌, Bool, Option, Some, None, find, map, nat_lt, ◌==◌, ◌||◌, false, if◌then◌else◌}
use Rattle.std.specs.Str.{bytes_eq}
use Rattle.ov_base.specs.declared.address.Addr.{Addr}
use Rattle.ov_base.specs.declared.address.Addr.TheVariants.{V4, V6}
use Rattle.ov_base.specs.declared.address.Transport.{Transport}
use Rattle.ov_base.specs.Address.{same_transport}
use Rattle.ov_model.specs.declared.ident.PeerId.{PeerId}
use Rattle.ov_model.specs.declared.ident.KeyId.{KeyId}
use Rattle.ov_model.specs.declared.command.Keepalive.{Keepalive}
use Rattle.ov_model.specs.declared.command.Attrs.{Attrs}
use Rattle.ov_model.specs.declared.command.Slot.{Slot}
use Rattle.ov_model.specs.declared.command.Slot.TheVariants.{Primary, Secondary}
use Rattle.ov_model.specs.declared.command.KeyDir.{KeyDir}
use Rattle.ov_model.specs.declared.reply.Counts.{Counts}
use Rattle.ov_model.specs.declared.reply.PeerView.{PeerView}

-- What an installed key seals with and opens with.
pub record Material : Type 0 where
  pub encrypt : KeyDir
  pub decrypt : KeyDir

-- What the table keeps of one key. A serial is the number of keys made before it, so it is never given
-- twice; an id is what datagrams call the key, and may come again.
pub record Key : Type 0 where
  pub serial : ℕ
  pub key_id : KeyId
  pub material : Material

-- The keys that a peer has: the primary seals, both open.
pub record Slots : Type 0 where
  pub primary : Option Key
  pub secondary : Option Key

-- What the table keeps of one peer. A serial is the number of peers made before it, so it is never
-- given twice; an id is what packets and commands call the peer, and may come again.
pub record Peer : Type 0 where
  pub serial : ℕ
  pub id : PeerId
  pub remote : Transport
  pub vpn4 : Option (List ℕ)
  pub vpn6 : Option (List ℕ)
  pub keepalive : Keepalive
  pub counts : Counts
  pub last_received : ℕ
  pub last_sent : ℕ
  pub slots : Slots

-- The table of peers: `live` are those that packets and commands reach, `dying` the removed ones that
-- aren't let go yet, `retired` the keys that were taken out of their slots and aren't let go yet; `made`
-- and `keys_made` are how many were ever made; `moment` is the greatest moment that the table has seen, in
-- seconds.
pub record Table : Type 0 where
  pub live : List Peer
  pub dying : List Peer
  pub retired : List Key
  pub made : ℕ
  pub keys_made : ℕ
  pub moment : ℕ

-- The table that every history begins with.
abbrev pub empty_table : Table
empty_table = record { live = []; dying = []; retired = []; made = 0; keys_made = 0; moment = 0 }

-- ---- members of a list

-- A list in which the first member that fits is changed; one in which none fits stays.
abbrev pub change_first : {X : Type 0} → (X → Bool) → (X → X) → List X → List X
change_first fits change [] = []
change_first fits change (x ∷ xs) = if fits x then change x ∷ xs else x ∷ change_first fits change xs

-- A list without the first member that fits; one in which none fits stays.
abbrev pub without_first : {X : Type 0} → (X → Bool) → List X → List X
without_first fits [] = []
without_first fits (x ∷ xs) = if fits x then xs else x ∷ without_first fits xs

-- ---- keys and slots

-- The slots of a new peer.
abbrev pub no_keys : Slots
no_keys = record { primary = None; secondary = None }

-- What stands in a slot.
abbrev pub in_slot : Slot → Slots → Option Key
in_slot Primary s = s.primary
in_slot Secondary s = s.secondary

-- The slots with something else in one.
abbrev pub with_slot : Slot → Option Key → Slots → Slots
with_slot Primary k s = record s { primary = k }
with_slot Secondary k s = record s { secondary = k }

-- The keys of the two slots change places.
abbrev pub swapped : Slots → Slots
swapped s = record { primary = s.secondary; secondary = s.primary }

-- The key of a slot as a list.
abbrev pub key_if_any : Option Key → List Key
key_if_any None = []
key_if_any (Some k) = k ∷ []

-- The keys of the slots, the primary's first.
abbrev pub keys_in : Slots → List Key
keys_in s = key_if_any s.primary ++ key_if_any s.secondary

-- The serials of some keys.
abbrev pub key_serials : List Key → List ℕ
key_serials keys = map (λ k. k.serial) keys

-- The key with a key id: the primary slot is looked at first.
abbrev pub by_key_id : KeyId → Slots → Option Key
by_key_id id s = find (λ k. k.key_id.number == id.number) (keys_in s)

-- The key with a serial.
abbrev pub by_key : ℕ → Slots → Option Key
by_key key s = find (λ k. k.serial == key) (keys_in s)

-- Whether a slot has the key with a serial.
abbrev pub is_key : ℕ → Option Key → Bool
is_key key None = false
is_key key (Some k) = k.serial == key

-- The slots without the key with a serial.
abbrev pub without_key : ℕ → Slots → Slots
without_key key s =
    if is_key key s.primary then record s { primary = None } else
    (if is_key key s.secondary then record s { secondary = None } else s)

-- The keys of the slots of some peers, in their order.
abbrev pub keys_of : List Peer → List Key
keys_of [] = []
keys_of (p ∷ ps) = keys_in p.slots ++ keys_of ps

-- ---- peers

-- A removed peer keeps all but its keys.
abbrev pub bare : Peer → Peer
bare p = record p { slots = no_keys }

-- The serials of some peers, in their order.
abbrev pub serials_of : List Peer → List ℕ
serials_of peers = map (λ p. p.serial) peers

-- Whether a peer has this id.
abbrev pub has_id : PeerId → Peer → Bool
has_id id p = p.id.number == id.number

-- Whether a peer has this serial.
abbrev pub has_serial : ℕ → Peer → Bool
has_serial serial p = p.serial == serial

-- The peer with an id: the first in the order of making.
abbrev pub by_id : PeerId → List Peer → Option Peer
by_id id peers = find (has_id id) peers

-- The peer with a serial.
abbrev pub by_serial : ℕ → List Peer → Option Peer
by_serial serial peers = find (has_serial serial) peers

-- The first peer with a remote transport.
abbrev pub by_remote : Transport → List Peer → Option Peer
by_remote remote peers = find (λ p. same_transport p.remote remote) peers

-- Whether two VPN addresses of one family are both there and the same.
abbrev pub same_vpn : Option (List ℕ) → Option (List ℕ) → Bool
same_vpn (Some a) (Some b) = bytes_eq a b
same_vpn _ _ = false

-- Whether a peer has a VPN address.
abbrev pub has_vpn : Addr → Peer → Bool
has_vpn (V4 a) p = same_vpn p.vpn4 (Some a)
has_vpn (V6 a) p = same_vpn p.vpn6 (Some a)

-- The peer with a VPN address: the first that has it.
abbrev pub by_vpn : Addr → List Peer → Option Peer
by_vpn a peers = find (has_vpn a) peers

-- A peer goes before the first one that has a greater id.
abbrev pub put_by_id : Peer → List Peer → List Peer
put_by_id p [] = p ∷ []
put_by_id p (q ∷ qs) = if nat_lt p.id.number q.id.number then p ∷ q ∷ qs else (q ∷ put_by_id p qs)

-- The peers by rising id.
abbrev pub by_rising_id : List Peer → List Peer
by_rising_id [] = []
by_rising_id (p ∷ ps) = put_by_id p (by_rising_id ps)

-- Whether one of the VPN addresses in some attributes is one of a peer's.
abbrev pub shares_vpn : Attrs → Peer → Bool
shares_vpn a p = same_vpn p.vpn4 a.vpn4 || same_vpn p.vpn6 a.vpn6

-- What peer-get shows of a peer.
abbrev pub view_of : Peer → PeerView
view_of p = record { id = p.id; remote = p.remote; vpn4 = p.vpn4; vpn6 = p.vpn6; keepalive = p.keepalive; counts = p.counts }
