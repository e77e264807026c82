-- The script that a seed and a count stand for: 128 peers, each with a key, and then lines in groups of four: a packet
-- that is sent to a peer, a datagram from it, the same datagram again, and the datagram with one bit changed.
use Rattle.std.specs.Prelude.{ℕ, ◌+◌, ◌-◌, ◌*◌, ◌/◌, ◌%◌, ◌==◌, if◌then◌else◌, List, [], ◌∷◌, ◌++◌, length, map, replicate, None, Some, slice_index, slice_set, bit_xor}
use Rattle.std.specs.Int.{bytes_high_first}
use Rattle.std.specs.List.{range_with_len}
use Rattle.ov_aes.specs.declared.key_bytes.KeyBytes.{KeyBytes}
use Rattle.ov_aes.specs.declared.key_bytes.KeyBytes.TheVariants.{K16}
use Rattle.ov_base.specs.declared.address.Addr.TheVariants.{V4}
use Rattle.ov_base.specs.declared.address.Transport.{Transport}
use Rattle.ov_model.specs.declared.command.Slot.TheVariants as slot
use Rattle.ov_model.specs.declared.line.Deed.{Deed}
use Rattle.ov_model.specs.declared.line.Deed.TheVariants as deed
use Rattle.ov_model.specs.declared.line.Line.{Line}
use Rattle.ov_model.specs.declared.line.Script.{Script}
use Rattle.ov_model.specs.declared.netlink.Cipher.TheVariants as cipher
use Rattle.ov_model.specs.declared.netlink.NlKeyDir.{NlKeyDir}
use Rattle.ov_model.specs.declared.netlink.NlMessage.{NlMessage}
use Rattle.ov_model.specs.declared.netlink.NlOp.TheVariants as op
use Rattle.ov_model.specs.Examples.{no_attributes}
use Rattle.ov_model.specs.Packets.{datagram}

-- ---- peers and keys

-- How many peers there are. Each has the number p from 0 on, which is its id.
abbrev pub peer_count : ℕ
peer_count = 128

-- The address of peer p on the outer path: 192.0.2.(p+1).
abbrev pub outer_address : ℕ → List ℕ
outer_address p = 192 ∷ 0 ∷ 2 ∷ (p + 1) ∷ []

-- The address of peer p inside the tunnel: 10.8.0.(p+1).
abbrev pub inner_address : ℕ → List ℕ
inner_address p = 10 ∷ 8 ∷ 0 ∷ (p + 1) ∷ []

-- The address to which a peer's packets go, and from which they come: 10.9.0.1.
abbrev pub far_address : List ℕ
far_address = 10 ∷ 9 ∷ 0 ∷ 1 ∷ []

-- The port of all peers.
abbrev pub port : ℕ
port = 1194

-- Where the datagrams of peer p come from.
abbrev pub remote : ℕ → Transport
remote p = record { addr = V4 (outer_address p); port = port }

-- The bytes of a key: the seed and a number, each as 8 bytes, the highest first.
abbrev pub key_bytes : (seed number : ℕ) → List ℕ
key_bytes seed number = bytes_high_first 8 seed ++ bytes_high_first 8 number

-- What the key of peer p seals with.
abbrev pub encrypt_key : (seed p : ℕ) → List ℕ
encrypt_key seed p = key_bytes seed (2 * p)

-- What the key of peer p opens with.
abbrev pub decrypt_key : (seed p : ℕ) → List ℕ
decrypt_key seed p = key_bytes seed (2 * p + 1)

-- The nonce tail of both directions of peer p's key: p as 8 bytes, the highest first.
abbrev pub tail_bytes : ℕ → List ℕ
tail_bytes p = bytes_high_first 8 p

-- One direction of a key as a message gives it.
abbrev pub direction : (key tail : List ℕ) → NlKeyDir
direction key tail = record { cipher_key = Some key; nonce_tail = Some tail }

-- The message that makes peer p.
abbrev pub peer_new : ℕ → NlMessage
peer_new p = record {
  op = op.PeerNew;
  ifindex = None;
  peer = Some (record no_attributes { id = Some p; remote_ipv4 = Some (outer_address p); remote_port = Some port; vpn_ipv4 = Some (inner_address p) });
  keyconf = None;
}

-- The message that gives peer p its key, whose id is the remainder of p by 8.
abbrev pub key_new : (seed p : ℕ) → NlMessage
key_new seed p = record {
  op = op.KeyNew;
  ifindex = None;
  peer = None;
  keyconf = Some (record {
    peer_id = Some p;
    slot = Some slot.Primary;
    key_id = Some (p % 8);
    cipher = Some cipher.AesGcm;
    encrypt = Some (direction (encrypt_key seed p) (tail_bytes p));
    decrypt = Some (direction (decrypt_key seed p) (tail_bytes p));
  });
}

-- Head line i: line 2p makes peer p, and line 2p+1 gives it its key. Both stand on the lane of p's remainder by 8.
abbrev pub head_line : (seed i : ℕ) → Line
head_line seed i = record {
  lane = i / 2 % 8;
  at = 0;
  deed = deed.Netlink (if i % 2 == 0 then peer_new (i / 2) else key_new seed (i / 2));
}

-- ---- packets and datagrams

-- An inner packet of 64 bytes: 0x45, 11 zero bytes, its two addresses, and 44 bytes of the seed's remainder by 256.
abbrev pub packet : (seed : ℕ) (source destination : List ℕ) → List ℕ
packet seed source destination = 0x45 ∷ replicate 11 0 ++ source ++ destination ++ replicate 44 (seed % 256)

-- The packet that is sent to peer p.
abbrev pub out : (seed p : ℕ) → List ℕ
out seed p = packet seed far_address (inner_address p)

-- The packet that peer p sends.
abbrev pub back : (seed p : ℕ) → List ℕ
back seed p = packet seed (inner_address p) far_address

-- The datagram of peer p with the packet id n.
abbrev pub sealed : (seed p n : ℕ) → List ℕ
sealed seed p n = datagram p (p % 8) n (decrypt_key seed p) (tail_bytes p) (back seed p)

-- The lowest bit of the last byte is changed.
abbrev pub changed : List ℕ → List ℕ
changed bytes = slice_set bytes (length bytes - 1) (bit_xor (slice_index bytes (length bytes - 1)) 1)

-- ---- the lines

-- The group of line j: its number, its peer, and the packet id of its datagram.
abbrev pub group_of : ℕ → ℕ
group_of j = j / 4

-- The peers take turns.
abbrev pub peer_of : ℕ → ℕ
peer_of q = q % peer_count

-- A peer's packet ids rise from 1 by 1.
abbrev pub packet_id_of : ℕ → ℕ
packet_id_of q = q / peer_count + 1

-- The datagram of group q.
abbrev pub sealed_of : (seed q : ℕ) → List ℕ
sealed_of seed q = sealed seed (peer_of q) (packet_id_of q)

-- What line k of group q asks for, k from 0 to 3: a packet to the peer; a datagram from it; the same datagram again;
-- and the datagram changed.
abbrev pub deed_of : (seed q k : ℕ) → Deed
deed_of seed q k =
    if k == 0 then deed.Tx (out seed (peer_of q)) else
    (if k == 1 then deed.Rx (remote (peer_of q)) (sealed_of seed q) else
    (if k == 2 then deed.Rx (remote (peer_of q)) (sealed_of seed q) else
    deed.Rx (remote (peer_of q)) (changed (sealed_of seed q))))

-- Line j behind the head. Its lane is that of j, moved on by one whenever all peers had a group.
abbrev pub made_line : (seed j : ℕ) → Line
made_line seed j = record {
  lane = (j + group_of j / peer_count) % 8;
  at = 0;
  deed = deed_of seed (group_of j) (j % 4);
}

-- The head lines, two of each peer.
abbrev pub head_lines : ℕ → List Line
head_lines seed = map (head_line seed) (range_with_len 0 (2 * peer_count))

-- All lines: the head lines, and then `count` more.
abbrev pub made_lines : (seed count : ℕ) → List Line
made_lines seed count = head_lines seed ++ map (made_line seed) (range_with_len 0 count)

-- The script: its lines, and no routes.
abbrev pub made : (seed count : ℕ) → Script
made seed count = record { lines = made_lines seed count; routes = [] }

-- ---- the keys that are kept

-- The keys under which the datagrams of the first n peers are sealed.
abbrev pub peer_keys : (seed n : ℕ) → List KeyBytes
peer_keys seed n = map (λ p. K16 (decrypt_key seed p)) (range_with_len 0 n)
