-- Datagrams of OpenVPN's data channel (P_DATA_V2) and the packets inside them, as lists of bytes.
use Rattle.std.specs.Prelude.{Option, Some, None, ℕ, zero, suc, ◌+◌, ◌*◌, ◌/◌, ◌%◌, ◌^◌, ◌==◌, Bool, true, false, nat_lt, nat_le, ◌&&◌, if◌then◌else◌, List, [], ◌∷◌, ◌++◌, length, take, drop, slice_index}
use Rattle.std.specs.Str.{bytes_eq}
use Rattle.std.specs.Int.{bytes_high_first}
use Rattle.ov_base.specs.declared.address.Addr.{Addr}
use Rattle.ov_base.specs.declared.address.Addr.TheVariants.{V4, V6}
use Rattle.ov_aes.specs.Aes.{key_list}
use Rattle.ov_gcm.specs.Gcm.{seal_text, seal_tag, tag_of, plain}
use Rattle.ov_model.specs.declared.command.KeyDir.{KeyDir}
use Rattle.ov_model.specs.Limits.{head_length, tag_length, overhead, key_id_count, data_v1_opcode, data_v2_opcode, shortest_datagram}

-- The number in the n bytes from place i, the highest first (network byte order).
abbrev pub number_from : ℕ → ℕ → List ℕ → ℕ
number_from i zero bytes = 0
number_from i (suc n) bytes = slice_index bytes i * 256 ^ n + number_from (suc i) n bytes

-- ---- the head

-- What the first bytes of a datagram say it is. A data packet of the second version names a peer, a key
-- of it, and its own number under that key.
pub data HeadKind : Type 0 where
  short : HeadKind
  data_v1 : HeadKind
  control : HeadKind
  data_v2 : (id key_id packet_id : ℕ) → HeadKind

-- The first byte has the opcode in its high five bits and the key id in its low three. All opcodes but
-- those of data are the control channel's. A head is followed by a tag.
abbrev pub head_by : (length opcode : ℕ) → List ℕ → HeadKind
head_by size opcode bytes =
    if nat_lt size shortest_datagram then short else
    (if opcode == data_v1_opcode then data_v1 else
    (if opcode == data_v2_opcode then
    (if nat_lt size overhead then short else
    data_v2 (number_from 1 3 bytes) (slice_index bytes 0 % key_id_count) (number_from 4 4 bytes))
    else control))

-- What the first bytes of a datagram say it is: by its length and its first byte.
abbrev pub head_of : List ℕ → HeadKind
head_of bytes = head_by (length bytes) (slice_index bytes 0 / key_id_count) bytes

-- The bytes of a data packet's head: opcode and key id, peer id, packet id.
abbrev pub head_bytes : (id key_id packet_id : ℕ) → List ℕ
head_bytes id key_id packet_id =
    ((data_v2_opcode * key_id_count + key_id) ∷ bytes_high_first 3 id) ++ bytes_high_first 4 packet_id

-- ---- the datagram

-- The IV of 96 bits: the packet id, then the nonce tail of the key's direction.
abbrev pub nonce_of : ℕ → List ℕ → List ℕ
nonce_of packet_id tail = bytes_high_first 4 packet_id ++ tail

-- A data packet: its head, the tag, and the ciphertext of the inner packet. The head is the associated
-- data.
unfoldable pub datagram : (id key_id packet_id : ℕ) → (key tail packet : List ℕ) → List ℕ
datagram id key_id packet_id key tail packet =
    head_bytes id key_id packet_id
    ++ seal_tag key (nonce_of packet_id tail) (head_bytes id key_id packet_id) packet
    ++ seal_text key (nonce_of packet_id tail) (head_bytes id key_id packet_id) packet

-- The head of a received data packet: its first bytes.
abbrev pub head_part : List ℕ → List ℕ
head_part bytes = take head_length bytes

-- The tag of a received data packet: the bytes behind its head.
abbrev pub tag_part : List ℕ → List ℕ
tag_part bytes = take tag_length (drop head_length bytes)

-- The ciphertext of a received data packet: all that is behind head and tag.
abbrev pub sealed_part : List ℕ → List ℕ
sealed_part bytes = drop overhead bytes

-- The packet id in the head of a received data packet: its bytes 4 to 7.
abbrev pub packet_id_of : List ℕ → ℕ
packet_id_of bytes = number_from 4 4 bytes

-- The inner packet of a received data packet, where its tag is the one that the key, the nonce of its
-- packet id, its head and its ciphertext give (SP 800-38D, 7.2); none where it isn't.
unfoldable pub opened : KeyDir → List ℕ → Option (List ℕ)
opened d bytes =
    if bytes_eq (tag_part bytes) (tag_of (key_list d.key) (nonce_of (packet_id_of bytes) d.tail) (head_part bytes) (sealed_part bytes))
    then Some (plain (key_list d.key) (nonce_of (packet_id_of bytes) d.tail) (sealed_part bytes)) else None

-- ---- the inner packet

-- The 16 bytes by which a peer shows that it is alive (OpenVPN's ping).
abbrev pub keepalive : List ℕ
keepalive =
    0x2a ∷ 0x18 ∷ 0x7b ∷ 0xf3 ∷ 0x64 ∷ 0x1e ∷ 0xb4 ∷ 0xcb ∷
    0x07 ∷ 0xed ∷ 0x2d ∷ 0x0a ∷ 0x98 ∷ 0x1f ∷ 0xc7 ∷ 0x48 ∷ []

-- Whether an inner packet is the keepalive message, byte for byte.
abbrev pub is_ping : List ℕ → Bool
is_ping packet = bytes_eq packet keepalive

-- The addresses of an inner packet.
pub data Inner : Type 0 where
  v4 : (source destination : List ℕ) → Inner
  v6 : (source destination : List ℕ) → Inner
  not_ip : Inner

-- The version is in the high four bits of the first byte. An IPv4 header has at least 20 bytes (RFC 791
-- section 3.1), an IPv6 header 40 (RFC 8200 section 3). No other field is looked at.
abbrev pub inner_by : (length version : ℕ) → List ℕ → Inner
inner_by size version packet =
    if nat_le 20 size && (version == 4) then v4 (take 4 (drop 12 packet)) (take 4 (drop 16 packet)) else
    (if nat_le 40 size && (version == 6) then v6 (take 16 (drop 8 packet)) (take 16 (drop 24 packet)) else
    not_ip)

-- The addresses of an inner packet, by its length and its first byte.
abbrev pub inner_of : List ℕ → Inner
inner_of packet = inner_by (length packet) (slice_index packet 0 / 16) packet

-- What a received inner packet counts as: one with a source address, a ping, or neither.
pub data Kind : Type 0 where
  from_source : Addr → Kind
  ping : Kind
  no_source : Kind

-- The kind of a packet, by whether it is the keepalive message and by its addresses.
abbrev pub kind_by : Bool → Inner → Kind
kind_by true inner = ping
kind_by false (v4 source destination) = from_source (V4 source)
kind_by false (v6 source destination) = from_source (V6 source)
kind_by false not_ip = no_source

-- What a received inner packet counts as.
abbrev pub kind_of : List ℕ → Kind
kind_of packet = kind_by (is_ping packet) (inner_of packet)
