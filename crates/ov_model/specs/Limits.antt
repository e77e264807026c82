-- The limits of a session and the numbers of the wire, each once.
use Rattle.std.specs.Prelude.{ℕ, ◌+◌, ◌-◌}

-- How many peers a session may make.
abbrev pub most_peers : ℕ
most_peers = 4096

-- How many keys a session may make.
abbrev pub most_keys : ℕ
most_keys = 65536

-- The greatest peer id, of 24 bits. In the head of a datagram it stands for none.
abbrev pub greatest_peer_id : ℕ
greatest_peer_id = 16777215

-- The greatest key id, of 3 bits.
abbrev pub greatest_key_id : ℕ
greatest_key_id = 7

-- How many key ids there are. The first byte of a datagram is its opcode times this, and its key id.
abbrev pub key_id_count : ℕ
key_id_count = greatest_key_id + 1

-- The opcode of a data packet of the first version, which names no peer.
abbrev pub data_v1_opcode : ℕ
data_v1_opcode = 6

-- The opcode of a data packet of the second version.
abbrev pub data_v2_opcode : ℕ
data_v2_opcode = 9

-- The bytes of a datagram below which its first byte isn't looked at.
abbrev pub shortest_datagram : ℕ
shortest_datagram = 4

-- The greatest packet id, of 32 bits: a key that sealed it is spent.
abbrev pub greatest_packet_id : ℕ
greatest_packet_id = 4294967295

-- The bytes of a data packet's head.
abbrev pub head_length : ℕ
head_length = 8

-- The bytes of a tag: AES in Galois/Counter Mode has tags of 16 bytes here.
abbrev pub tag_length : ℕ
tag_length = 16

-- The bytes of a data packet before its ciphertext: the head, and the tag after it.
abbrev pub overhead : ℕ
overhead = head_length + tag_length

-- How far below the greatest accepted packet id one may still come.
abbrev pub window_places : ℕ
window_places = 2048

-- After how many seconds without an accept all earlier ids are too old.
abbrev pub quiet_seconds : ℕ
quiet_seconds = 30

-- How many replay shards there are. A key stands in the shard of its serial's remainder.
abbrev pub shard_count : ℕ
shard_count = 8

-- The most bytes of a received datagram, which is what UDP over IPv4 carries.
abbrev pub longest_datagram : ℕ
longest_datagram = 65507

-- The most bytes of an inner packet to be sent: its datagram has the head and the tag more.
abbrev pub longest_packet : ℕ
longest_packet = longest_datagram - overhead
