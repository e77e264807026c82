-- Lines that the grammar has a text for: each name that has a value is one that it lists for the line's word,
-- and the values are in its ranges.
use Rattle.std.specs.Prelude.{⊤, ◌≡◌, ◌≤◌, ◌<◌, ℕ, List, length, IsTrue, IfSome, Option}
use Rattle.hex.specs.Hex.{IsBytes}
use Rattle.serde_json.specs.Data.{string}
use Rattle.ov_base.specs.declared.address.Addr.{Addr}
use Rattle.ov_base.specs.declared.address.Addr.TheVariants.{V4, V6}
use Rattle.ov_model.specs.Limits.{longest_packet, longest_datagram}
use Rattle.ov_model.specs.declared.line.Line.{Line}
use Rattle.ov_model.specs.declared.line.Deed.{Deed}
use Rattle.ov_model.specs.declared.line.Deed.TheVariants as deed
use Rattle.ov_model.specs.declared.netlink.NlPeer.{NlPeer}
use Rattle.ov_model.specs.declared.netlink.NlKeyDir.{NlKeyDir}
use Rattle.ov_model.specs.declared.netlink.NlKeyConf.{NlKeyConf}
use Rattle.ov_model.specs.declared.netlink.NlMessage.{NlMessage}
use Rattle.ov_line.specs.Values.{most_number, has_only}
use Rattle.ov_line.specs.Grammar.{message_names, peer_names, conf_names, most_key_bytes, IsLoss}
use Rattle.ov_write.specs.Text.{peer_data, conf_data, line_data, reason_word}

-- A number of 32 bits, where there is one.
abbrev pub IsSmall : Option ℕ → Type 0
IsSmall found = IfSome found (λ n. n ≤ most_number)

-- So many bytes.
abbrev pub AreOctets : ℕ → List ℕ → Type 0
AreOctets count bytes = (length bytes ≡ count) × IsBytes bytes

-- The bytes of a key or a nonce's tail, where there are any.
abbrev pub IsShort : Option (List ℕ) → Type 0
IsShort found = IfSome found (λ bytes. (length bytes ≤ most_key_bytes) × IsBytes bytes)

-- A peer with no attributes but those of these names, each in its range.
pub record IsListedPeer (names : List (List ℕ)) (p : NlPeer) : Type 0 where
  pub only : IsTrue (has_only names (peer_data p))
  pub id : IsSmall p.id
  pub remote_ipv4 : IfSome p.remote_ipv4 (AreOctets 4)
  pub remote_ipv6 : IfSome p.remote_ipv6 (AreOctets 16)
  pub remote_ipv6_scope_id : IsSmall p.remote_ipv6_scope_id
  pub remote_port : IsSmall p.remote_port
  pub socket : IsSmall p.socket
  pub socket_netnsid : IsSmall p.socket_netnsid
  pub vpn_ipv4 : IfSome p.vpn_ipv4 (AreOctets 4)
  pub vpn_ipv6 : IfSome p.vpn_ipv6 (AreOctets 16)
  pub local_ipv4 : IfSome p.local_ipv4 (AreOctets 4)
  pub local_ipv6 : IfSome p.local_ipv6 (AreOctets 16)
  pub local_port : IsSmall p.local_port
  pub keepalive_interval : IsSmall p.keepalive_interval
  pub keepalive_timeout : IsSmall p.keepalive_timeout

-- A direction of a key with at most as many bytes as a line may give.
pub record IsListedDir (d : NlKeyDir) : Type 0 where
  pub cipher_key : IsShort d.cipher_key
  pub nonce_tail : IsShort d.nonce_tail

-- A key with no attributes but those of these names, each in its range.
pub record IsListedConf (names : List (List ℕ)) (k : NlKeyConf) : Type 0 where
  pub only : IsTrue (has_only names (conf_data k))
  pub peer_id : IsSmall k.peer_id
  pub key_id : IsSmall k.key_id
  pub encrypt : IfSome k.encrypt IsListedDir
  pub decrypt : IfSome k.decrypt IsListedDir

-- An operation whose device, peer and key are what lines give.
pub record IsListedMessage (m : NlMessage) : Type 0 where
  pub ifindex : IsSmall m.ifindex
  pub peer : IfSome m.peer (IsListedPeer (peer_names m.op))
  pub keyconf : IfSome m.keyconf (IsListedConf (conf_names m.op))

-- An address of either family.
abbrev pub IsListedAddr : Addr → Type 0
IsListedAddr (V4 octets) = AreOctets 4 octets
IsListedAddr (V6 octets) = AreOctets 16 octets

-- What a line asks for. A loss has one of the two reasons that lines give.
abbrev pub IsListedDeed : Deed → Type 0
IsListedDeed (deed.Netlink m) = IsListedMessage m
IsListedDeed (deed.Tx packet) = (length packet ≤ longest_packet) × IsBytes packet
IsListedDeed (deed.Rx from datagram) = IsListedAddr from.addr × (from.port ≤ 65535) × (length datagram ≤ longest_datagram) × IsBytes datagram
IsListedDeed (deed.Lost id why) = IsLoss (string (reason_word why)) why
IsListedDeed deed.Tick = ⊤
IsListedDeed deed.Down = ⊤

-- whether the line has no names but those of its operation
abbrev pub HasListedNames : Line → Deed → Type 0
HasListedNames line (deed.Netlink m) = IsTrue (has_only (message_names m.op) (line_data line))
HasListedNames line _ = ⊤

-- A line whose names that have a value are those of its word, with values in their ranges.
pub record IsListed (lanes : ℕ) (line : Line) : Type 0 where
  pub only : HasListedNames line line.deed
  pub at : line.at ≤ most_number
  pub lane : line.lane ≤ most_number
  pub below : line.lane < lanes
  pub deed : IsListedDeed line.deed
