-- The grammar of a script's lines: which line some bytes say.
use Rattle.std.specs.Prelude.{◌≡◌, ◌<◌, ℕ, List, [], ◌∷◌, codes, IsTrue, Some}
use Rattle.std.specs.Str.{IsUtf8}
use Rattle.serde_json.specs.Data.{Data, string, number, unsigned}
use Rattle.serde_json.specs.Read.{read}
use Rattle.ov_base.specs.declared.address.Transport.{Transport}
use Rattle.ov_model.specs.Limits.{longest_packet, longest_datagram}
use Rattle.ov_model.specs.declared.ident.PeerId.{PeerId}
use Rattle.ov_model.specs.declared.command.Slot.{Slot}
use Rattle.ov_model.specs.declared.command.Slot.TheVariants as slot
use Rattle.ov_model.specs.declared.command.Reason.{Reason}
use Rattle.ov_model.specs.declared.command.Reason.TheVariants as reason
use Rattle.ov_model.specs.declared.line.Line.{Line}
use Rattle.ov_model.specs.declared.line.Deed.{Deed}
use Rattle.ov_model.specs.declared.line.Deed.TheVariants as deed
use Rattle.ov_model.specs.declared.netlink.Cipher.{Cipher}
use Rattle.ov_model.specs.declared.netlink.Cipher.TheVariants as cipher
use Rattle.ov_model.specs.declared.netlink.NlOp.{NlOp}
use Rattle.ov_model.specs.declared.netlink.NlOp.TheVariants as op
use Rattle.ov_model.specs.declared.netlink.NlPeer.{NlPeer}
use Rattle.ov_model.specs.declared.netlink.NlKeyDir.{NlKeyDir}
use Rattle.ov_model.specs.declared.netlink.NlKeyConf.{NlKeyConf}
use Rattle.ov_model.specs.declared.netlink.NlMessage.{NlMessage}
use Rattle.ov_line.specs.Values.{Has, IsNumber, most_number, IsHex, IsIpv4, IsIpv6, IsAddr, IsWord, has_only}

-- ---- words

-- The operations of the netlink family, by their words.
abbrev pub op_word : NlOp → List ℕ
op_word op.PeerNew = codes "peer-new"
op_word op.PeerSet = codes "peer-set"
op_word op.PeerGet = codes "peer-get"
op_word op.PeerDump = codes "peer-dump"
op_word op.PeerDel = codes "peer-del"
op_word op.KeyNew = codes "key-new"
op_word op.KeyGet = codes "key-get"
op_word op.KeySwap = codes "key-swap"
op_word op.KeyDel = codes "key-del"

-- What a line asks for, by its word.
abbrev pub deed_word : Deed → List ℕ
deed_word (deed.Netlink m) = op_word m.op
deed_word (deed.Tx packet) = codes "tx"
deed_word (deed.Rx from datagram) = codes "rx"
deed_word (deed.Lost id reason) = codes "lost"
deed_word deed.Tick = codes "tick"
deed_word deed.Down = codes "down"

-- The slots of a peer.
abbrev pub slot_word : Slot → List ℕ
slot_word slot.Primary = codes "primary"
slot_word slot.Secondary = codes "secondary"

-- The ciphers of the family.
abbrev pub cipher_word : Cipher → List ℕ
cipher_word cipher.NoCipher = codes "none"
cipher_word cipher.AesGcm = codes "aes-gcm"
cipher_word cipher.ChaCha20Poly1305 = codes "chacha20-poly1305"

-- ---- names

-- The names of a line that asks for an operation on one peer.
abbrev pub peer_line : List (List ℕ)
peer_line = codes "at" ∷ codes "do" ∷ codes "ifindex" ∷ codes "lane" ∷ codes "peer" ∷ []

-- The names of a line that asks for an operation on a key.
abbrev pub key_line : List (List ℕ)
key_line = codes "at" ∷ codes "do" ∷ codes "ifindex" ∷ codes "keyconf" ∷ codes "lane" ∷ []

-- The names of a line that asks for an operation.
abbrev pub message_names : NlOp → List (List ℕ)
message_names op.PeerNew = peer_line
message_names op.PeerSet = peer_line
message_names op.PeerGet = peer_line
message_names op.PeerDump = codes "at" ∷ codes "do" ∷ codes "ifindex" ∷ codes "lane" ∷ []
message_names op.PeerDel = peer_line
message_names op.KeyNew = key_line
message_names op.KeyGet = key_line
message_names op.KeySwap = key_line
message_names op.KeyDel = key_line

-- The names inside `peer` of peer-set.
abbrev pub peer_settings : List (List ℕ)
peer_settings =
    codes "id" ∷ codes "keepalive-interval" ∷ codes "keepalive-timeout" ∷ codes "local-ipv4" ∷ codes "local-ipv6" ∷ codes "local-port" ∷ codes "remote-ipv4"
    ∷ codes "remote-ipv6" ∷ codes "remote-ipv6-scope-id" ∷ codes "remote-port" ∷ codes "vpn-ipv4" ∷ codes "vpn-ipv6" ∷ []

-- The names inside `peer`, by the operation. Those of peer-set are those of peer-new without the socket's.
abbrev pub peer_names : NlOp → List (List ℕ)
peer_names op.PeerNew = codes "socket" ∷ codes "socket-netnsid" ∷ peer_settings
peer_names op.PeerSet = peer_settings
peer_names op.PeerGet = codes "id" ∷ []
peer_names op.PeerDel = codes "id" ∷ []
peer_names _ = []

-- The names inside `keyconf`, by the operation.
abbrev pub conf_names : NlOp → List (List ℕ)
conf_names op.KeyNew = codes "cipher-alg" ∷ codes "decrypt-dir" ∷ codes "encrypt-dir" ∷ codes "key-id" ∷ codes "peer-id" ∷ codes "slot" ∷ []
conf_names op.KeyGet = codes "peer-id" ∷ codes "slot" ∷ []
conf_names op.KeySwap = codes "peer-id" ∷ []
conf_names op.KeyDel = codes "peer-id" ∷ codes "slot" ∷ []
conf_names _ = []

-- ---- objects

-- The attributes of a peer, of which these names may stand there.
pub record IsPeer (names : List (List ℕ)) (d : Data) (p : NlPeer) : Type 0 where
  pub only : IsTrue (has_only names d)
  pub id : Has (IsNumber most_number) (codes "id") d p.id
  pub remote_ipv4 : Has IsIpv4 (codes "remote-ipv4") d p.remote_ipv4
  pub remote_ipv6 : Has IsIpv6 (codes "remote-ipv6") d p.remote_ipv6
  pub remote_ipv6_scope_id : Has (IsNumber most_number) (codes "remote-ipv6-scope-id") d p.remote_ipv6_scope_id
  pub remote_port : Has (IsNumber most_number) (codes "remote-port") d p.remote_port
  pub socket : Has (IsNumber most_number) (codes "socket") d p.socket
  pub socket_netnsid : Has (IsNumber most_number) (codes "socket-netnsid") d p.socket_netnsid
  pub vpn_ipv4 : Has IsIpv4 (codes "vpn-ipv4") d p.vpn_ipv4
  pub vpn_ipv6 : Has IsIpv6 (codes "vpn-ipv6") d p.vpn_ipv6
  pub local_ipv4 : Has IsIpv4 (codes "local-ipv4") d p.local_ipv4
  pub local_ipv6 : Has IsIpv6 (codes "local-ipv6") d p.local_ipv6
  pub local_port : Has (IsNumber most_number) (codes "local-port") d p.local_port
  pub keepalive_interval : Has (IsNumber most_number) (codes "keepalive-interval") d p.keepalive_interval
  pub keepalive_timeout : Has (IsNumber most_number) (codes "keepalive-timeout") d p.keepalive_timeout

-- The most bytes of a key or of a nonce's tail that a line may give. Which lengths are right is not asked here.
abbrev pub most_key_bytes : ℕ
most_key_bytes = 256

-- One direction of a key.
pub record IsDir (d : Data) (dir : NlKeyDir) : Type 0 where
  pub only : IsTrue (has_only (codes "cipher-key" ∷ codes "nonce-tail" ∷ []) d)
  pub cipher_key : Has (IsHex most_key_bytes) (codes "cipher-key") d dir.cipher_key
  pub nonce_tail : Has (IsHex most_key_bytes) (codes "nonce-tail") d dir.nonce_tail

-- The attributes of a key, of which these names may stand there.
pub record IsConf (names : List (List ℕ)) (d : Data) (k : NlKeyConf) : Type 0 where
  pub only : IsTrue (has_only names d)
  pub peer_id : Has (IsNumber most_number) (codes "peer-id") d k.peer_id
  pub slot : Has (IsWord slot_word) (codes "slot") d k.slot
  pub key_id : Has (IsNumber most_number) (codes "key-id") d k.key_id
  pub cipher : Has (IsWord cipher_word) (codes "cipher-alg") d k.cipher
  pub encrypt : Has IsDir (codes "encrypt-dir") d k.encrypt
  pub decrypt : Has IsDir (codes "decrypt-dir") d k.decrypt

-- A transport: an address and a UDP port, both needed.
pub record IsTransport (d : Data) (t : Transport) : Type 0 where
  pub only : IsTrue (has_only (codes "addr" ∷ codes "port" ∷ []) d)
  pub addr : Has IsAddr (codes "addr") d (Some t.addr)
  pub port : Has (IsNumber 65535) (codes "port") d (Some t.port)

-- A peer's id: a number of 24 bits.
abbrev pub IsId : Data → PeerId → Type 0
IsId d id = d ≡ number (unsigned id.number)

-- Why a transport is lost: of the reasons for a removal these two.
abbrev pub IsLoss : Data → Reason → Type 0
IsLoss d reason.TransportError = d ≡ string (codes "transport-error")
IsLoss d reason.TransportDisconnect = d ≡ string (codes "transport-disconnect")
IsLoss d _ = ⊥

-- A peer whose transport is lost: its id and the reason, both needed.
pub record IsLost (d : Data) (lost : PeerId × Reason) : Type 0 where
  pub only : IsTrue (has_only (codes "del-reason" ∷ codes "id" ∷ []) d)
  pub id : Has IsId (codes "id") d (Some lost.0)
  pub reason : Has IsLoss (codes "del-reason") d (Some lost.1)

-- ---- lines

-- A line that asks for an operation: the device and what the operation is asked of, each where it is given.
pub record IsMessage (d : Data) (m : NlMessage) : Type 0 where
  pub only : IsTrue (has_only (message_names m.op) d)
  pub ifindex : Has (IsNumber most_number) (codes "ifindex") d m.ifindex
  pub peer : Has (IsPeer (peer_names m.op)) (codes "peer") d m.peer
  pub keyconf : Has (IsConf (conf_names m.op)) (codes "keyconf") d m.keyconf

-- A line that sends an inner packet.
pub record IsTx (d : Data) (packet : List ℕ) : Type 0 where
  pub only : IsTrue (has_only (codes "at" ∷ codes "do" ∷ codes "lane" ∷ codes "packet" ∷ []) d)
  pub packet_is : Has (IsHex longest_packet) (codes "packet") d (Some packet)

-- A line by which a datagram comes.
pub record IsRx (d : Data) (from : Transport) (datagram : List ℕ) : Type 0 where
  pub only : IsTrue (has_only (codes "at" ∷ codes "datagram" ∷ codes "do" ∷ codes "from" ∷ codes "lane" ∷ []) d)
  pub sender : Has IsTransport (codes "from") d (Some from)
  pub datagram_is : Has (IsHex longest_datagram) (codes "datagram") d (Some datagram)

-- A line by which a peer's transport is lost.
pub record IsLoser (d : Data) (id : PeerId) (why : Reason) : Type 0 where
  pub only : IsTrue (has_only (codes "at" ∷ codes "do" ∷ codes "lane" ∷ codes "peer" ∷ []) d)
  pub peer : Has IsLost (codes "peer") d (Some (id, why))

-- A line with no names but the three that every line has.
abbrev pub IsBare : Data → Type 0
IsBare d = IsTrue (has_only (codes "at" ∷ codes "do" ∷ codes "lane" ∷ []) d)

-- What a line asks for, with the names that belong to it.
abbrev pub IsDeed : Data → Deed → Type 0
IsDeed d (deed.Netlink m) = IsMessage d m
IsDeed d (deed.Tx packet) = IsTx d packet
IsDeed d (deed.Rx from datagram) = IsRx d from datagram
IsDeed d (deed.Lost id why) = IsLoser d id why
IsDeed d deed.Tick = IsBare d
IsDeed d deed.Down = IsBare d

-- A value as a line: the moment, the lane, and what the line asks for, by its word and its other names.
pub record IsLine (lanes : ℕ) (d : Data) (line : Line) : Type 0 where
  pub at : Has (IsNumber most_number) (codes "at") d (Some line.at)
  pub lane : Has (IsNumber most_number) (codes "lane") d (Some line.lane)
  pub below : line.lane < lanes
  pub word : Has (IsWord deed_word) (codes "do") d (Some line.deed)
  pub deed : IsDeed d line.deed

-- The bytes of one line, without a line end, say `line`: they are UTF-8 and one JSON value (RFC 8259
-- section 2; of two members of one name the last stands), and that value is the line.
pub record Says (bytes : List ℕ) (lanes : ℕ) (line : Line) : Type 0 where
  pub utf8 : IsUtf8 bytes
  pub value : Data
  pub reads : read bytes ≡ Some value
  pub is_line : IsLine lanes value line
