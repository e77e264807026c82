-- Worked examples of the definitions, each computed from them: the replay rule at its edges, a datagram as a
-- client of OpenVPN sends it, inner packets, the messages of the netlink family, next hops by routes, and the
-- steps of the peer table with their refusals.
-- The datagram's bytes are those that another implementation of AES-GCM makes of the same key and packet.
use Rattle.std.specs.Prelude.{ℕ, ◌≡◌, List, [], ◌∷◌, true, false, Option, Some, None, Ok, Err, replicate, map}
use Rattle.ov_aes.specs.declared.key_bytes.KeyBytes.TheVariants.{K16}
use Rattle.ov_base.specs.declared.address.Addr.{Addr}
use Rattle.ov_base.specs.declared.address.Addr.TheVariants.{V4, V6}
use Rattle.ov_base.specs.declared.address.Transport.{Transport}
use Rattle.ov_model.specs.declared.ident.PeerId.{PeerId}
use Rattle.ov_model.specs.declared.ident.KeyId.{KeyId}
use Rattle.ov_model.specs.declared.act.Act.TheVariants as act
use Rattle.ov_model.specs.declared.act.InnerKind.TheVariants as inner_kind
use Rattle.ov_model.specs.declared.command.Attrs.{Attrs}
use Rattle.ov_model.specs.declared.command.Keepalive.{Keepalive}
use Rattle.ov_model.specs.declared.command.KeyDir.{KeyDir}
use Rattle.ov_model.specs.declared.command.Command.TheVariants as command
use Rattle.ov_model.specs.declared.command.Reason.TheVariants.{Userspace, Expired, Teardown}
use Rattle.ov_model.specs.declared.command.Slot.{Slot}
use Rattle.ov_model.specs.declared.command.Slot.TheVariants.{Primary, Secondary}
use Rattle.ov_model.specs.declared.line.Deed.TheVariants as deed
use Rattle.ov_model.specs.declared.line.Route.{Route}
use Rattle.ov_model.specs.declared.note.NoteBody.TheVariants as note
use Rattle.ov_model.specs.declared.netlink.NlMessage.{NlMessage}
use Rattle.ov_model.specs.declared.netlink.NlPeer.{NlPeer}
use Rattle.ov_model.specs.declared.netlink.NlKeyDir.{NlKeyDir}
use Rattle.ov_model.specs.declared.netlink.NlOp.{NlOp}
use Rattle.ov_model.specs.declared.netlink.NlOp.TheVariants as op
use Rattle.ov_model.specs.declared.netlink.Cipher.{Cipher}
use Rattle.ov_model.specs.declared.netlink.Cipher.TheVariants.{NoCipher, AesGcm, ChaCha20Poly1305}
use Rattle.ov_model.specs.declared.reply.Errno.TheVariants.{NoEntry, Exists, Invalid, NoSpace, NotSupported}
use Rattle.ov_model.specs.declared.reply.Reply.TheVariants as reply
use Rattle.ov_model.specs.declared.reply.Settled.TheVariants as settled
use Rattle.ov_model.specs.declared.replay.Verdict.TheVariants.{Accept, Zero, Old, Below, Again}
use Rattle.ov_model.specs.Checked.{checked}
use Rattle.ov_model.specs.Ident.{peer_id, key_id}
use Rattle.ov_model.specs.Packets.{short, data_v1, control, data_v2, head_of, datagram, opened, v4, v6, not_ip, inner_of, ping, kind_of, keepalive}
use Rattle.ov_model.specs.Replay.{Accepted, verdict_of}
use Rattle.ov_model.specs.Path.{first, begins, kind_via}
use Rattle.ov_model.specs.Step.{peer_of, hold_of, settled_as, peer_new, peer_set, peer_dump, key_get, key_swap, key_del, is_expired, is_due, tick, down, tx_look, keep_look, settle, step}
use Rattle.ov_model.specs.Tables.{Key, Peer, Table, empty_table, view_of}
use Rattle.ov_model.specs.Via.{via_of}

-- ---- the replay rule

-- The packet id 3000 was accepted at the moment 10.
abbrev pub one_accepted : List Accepted
one_accepted = record { id = 3000; moment = 10 } ∷ []

-- The id 5 was accepted at the moment 0 and the id 9 at a later one.
abbrev pub two_accepted : ℕ → List Accepted
two_accepted later = record { id = 5; moment = 0 } ∷ record { id = 9; moment = later } ∷ []

-- The replay rule: its rows at their edges, and the floor after a silence.
pub record WindowExamples : Type 0 where
  pub first : verdict_of [] 1 0 ≡ Accept
  pub zero_id : verdict_of one_accepted 0 10 ≡ Zero
  pub above : verdict_of one_accepted 3001 10 ≡ Accept
  pub again : verdict_of one_accepted 3000 10 ≡ Again
  -- 2047 and 2048 below the greatest
  pub within : verdict_of one_accepted 953 10 ≡ Accept
  pub past : verdict_of one_accepted 952 10 ≡ Old
  -- 29 and 30 seconds after the last accept
  pub before_gap : verdict_of one_accepted 2999 39 ≡ Accept
  pub after_gap : verdict_of one_accepted 2999 40 ≡ Below
  -- 29 and 30 seconds between two accepts: what came before the gap is the floor
  pub no_gap : verdict_of (two_accepted 29) 4 29 ≡ Accept
  pub gap : verdict_of (two_accepted 30) 4 30 ≡ Below
  pub over_the_gap : verdict_of (two_accepted 30) 7 30 ≡ Accept

-- ---- datagrams and packets

-- The direction of a key: the bytes 0 to 15, and the tail 16 to 23.
abbrev pub example_dir : KeyDir
example_dir = record { key = K16 (0 ∷ 1 ∷ 2 ∷ 3 ∷ 4 ∷ 5 ∷ 6 ∷ 7 ∷ 8 ∷ 9 ∷ 10 ∷ 11 ∷ 12 ∷ 13 ∷ 14 ∷ 15 ∷ []); tail = 16 ∷ 17 ∷ 18 ∷ 19 ∷ 20 ∷ 21 ∷ 22 ∷ 23 ∷ [] }

-- The keepalive message sealed under it for the peer 258, with the key id 2 and the packet id 256.
abbrev pub example_datagram : List ℕ
example_datagram = 0x4a ∷ 0x00 ∷ 0x01 ∷ 0x02 ∷ 0x00 ∷ 0x00 ∷ 0x01 ∷ 0x00 ∷ 0x8d ∷ 0x83 ∷ 0xd8 ∷ 0x6d ∷ 0x13 ∷ 0xf2 ∷ 0x9a ∷ 0xa2 ∷ 0x55 ∷ 0xdd ∷ 0x17 ∷ 0xa0 ∷ 0xac ∷ 0x11 ∷ 0x0c ∷ 0x00 ∷ 0x73 ∷ 0x1b ∷ 0xde ∷ 0xd8 ∷ 0x31 ∷ 0x9e ∷ 0x73 ∷ 0x14 ∷ 0x91 ∷ 0x13 ∷ 0xff ∷ 0xb0 ∷ 0x96 ∷ 0xc0 ∷ 0x20 ∷ 0xa9 ∷ []

-- The same with the last bit of the tag turned over.
abbrev pub other_tag : List ℕ
other_tag = 0x4a ∷ 0x00 ∷ 0x01 ∷ 0x02 ∷ 0x00 ∷ 0x00 ∷ 0x01 ∷ 0x00 ∷ 0x8d ∷ 0x83 ∷ 0xd8 ∷ 0x6d ∷ 0x13 ∷ 0xf2 ∷ 0x9a ∷ 0xa2 ∷ 0x55 ∷ 0xdd ∷ 0x17 ∷ 0xa0 ∷ 0xac ∷ 0x11 ∷ 0x0c ∷ 0x01 ∷ 0x73 ∷ 0x1b ∷ 0xde ∷ 0xd8 ∷ 0x31 ∷ 0x9e ∷ 0x73 ∷ 0x14 ∷ 0x91 ∷ 0x13 ∷ 0xff ∷ 0xb0 ∷ 0x96 ∷ 0xc0 ∷ 0x20 ∷ 0xa9 ∷ []

-- The same with the last bit of the packet id turned over.
abbrev pub other_id : List ℕ
other_id = 0x4a ∷ 0x00 ∷ 0x01 ∷ 0x02 ∷ 0x00 ∷ 0x00 ∷ 0x01 ∷ 0x01 ∷ 0x8d ∷ 0x83 ∷ 0xd8 ∷ 0x6d ∷ 0x13 ∷ 0xf2 ∷ 0x9a ∷ 0xa2 ∷ 0x55 ∷ 0xdd ∷ 0x17 ∷ 0xa0 ∷ 0xac ∷ 0x11 ∷ 0x0c ∷ 0x00 ∷ 0x73 ∷ 0x1b ∷ 0xde ∷ 0xd8 ∷ 0x31 ∷ 0x9e ∷ 0x73 ∷ 0x14 ∷ 0x91 ∷ 0x13 ∷ 0xff ∷ 0xb0 ∷ 0x96 ∷ 0xc0 ∷ 0x20 ∷ 0xa9 ∷ []

-- Heads, and a datagram that opens, and doesn't with another tag or another packet id.
pub record DatagramExamples : Type 0 where
  pub head : head_of example_datagram ≡ data_v2 258 2 256
  -- the opcodes 6 and 7, a head that is cut short, and one without the whole of its tag
  pub first_version : head_of (0x30 ∷ 0 ∷ 0 ∷ 0 ∷ []) ≡ data_v1
  pub of_control : head_of (0x38 ∷ 0 ∷ 0 ∷ 0 ∷ []) ≡ control
  pub cut : head_of (0x4a ∷ 0 ∷ 1 ∷ []) ≡ short
  pub no_tag : head_of (0x4a ∷ 0x00 ∷ 0x01 ∷ 0x02 ∷ 0x00 ∷ 0x00 ∷ 0x01 ∷ 0x00 ∷ 0x00 ∷ 0x00 ∷ 0x00 ∷ 0x00 ∷ 0x00 ∷ 0x00 ∷ 0x00 ∷ 0x00 ∷ 0x00 ∷ 0x00 ∷ 0x00 ∷ 0x00 ∷ 0x00 ∷ 0x00 ∷ 0x00 ∷ []) ≡ short
  pub sealed : datagram 258 2 256 (0 ∷ 1 ∷ 2 ∷ 3 ∷ 4 ∷ 5 ∷ 6 ∷ 7 ∷ 8 ∷ 9 ∷ 10 ∷ 11 ∷ 12 ∷ 13 ∷ 14 ∷ 15 ∷ []) (16 ∷ 17 ∷ 18 ∷ 19 ∷ 20 ∷ 21 ∷ 22 ∷ 23 ∷ []) keepalive ≡ example_datagram
  pub opens : opened example_dir example_datagram ≡ Some keepalive
  pub wrong_tag : opened example_dir other_tag ≡ None
  pub wrong_id : opened example_dir other_id ≡ None

-- A packet of IPv4 from 10.8.0.5 to 10.8.0.1.
abbrev pub packet_v4 : List ℕ
packet_v4 = 69 ∷ 0 ∷ 0 ∷ 20 ∷ 0 ∷ 0 ∷ 0 ∷ 0 ∷ 0 ∷ 0 ∷ 0 ∷ 0 ∷ 10 ∷ 8 ∷ 0 ∷ 5 ∷ 10 ∷ 8 ∷ 0 ∷ 1 ∷ []

-- A packet of IPv6 from fd00::5 to fd00::1.
abbrev pub packet_v6 : List ℕ
packet_v6 = 96 ∷ 0 ∷ 0 ∷ 0 ∷ 0 ∷ 0 ∷ 0 ∷ 0 ∷ 253 ∷ 0 ∷ 0 ∷ 0 ∷ 0 ∷ 0 ∷ 0 ∷ 0 ∷ 0 ∷ 0 ∷ 0 ∷ 0 ∷ 0 ∷ 0 ∷ 0 ∷ 5 ∷ 253 ∷ 0 ∷ 0 ∷ 0 ∷ 0 ∷ 0 ∷ 0 ∷ 0 ∷ 0 ∷ 0 ∷ 0 ∷ 0 ∷ 0 ∷ 0 ∷ 0 ∷ 1 ∷ []

-- Inner packets of both versions and headers that are a byte short, and the keepalive message.
pub record InnerExamples : Type 0 where
  pub of_v4 : inner_of packet_v4 ≡ v4 (10 ∷ 8 ∷ 0 ∷ 5 ∷ []) (10 ∷ 8 ∷ 0 ∷ 1 ∷ [])
  pub of_v6 : inner_of packet_v6 ≡ v6 (253 ∷ 0 ∷ 0 ∷ 0 ∷ 0 ∷ 0 ∷ 0 ∷ 0 ∷ 0 ∷ 0 ∷ 0 ∷ 0 ∷ 0 ∷ 0 ∷ 0 ∷ 5 ∷ []) (253 ∷ 0 ∷ 0 ∷ 0 ∷ 0 ∷ 0 ∷ 0 ∷ 0 ∷ 0 ∷ 0 ∷ 0 ∷ 0 ∷ 0 ∷ 0 ∷ 0 ∷ 1 ∷ [])
  -- headers that are a byte short
  pub short_v4 : inner_of (69 ∷ 0 ∷ 0 ∷ 20 ∷ 0 ∷ 0 ∷ 0 ∷ 0 ∷ 0 ∷ 0 ∷ 0 ∷ 0 ∷ 10 ∷ 8 ∷ 0 ∷ 5 ∷ 10 ∷ 8 ∷ 0 ∷ []) ≡ not_ip
  pub short_v6 : inner_of (96 ∷ 0 ∷ 0 ∷ 0 ∷ 0 ∷ 0 ∷ 0 ∷ 0 ∷ 253 ∷ 0 ∷ 0 ∷ 0 ∷ 0 ∷ 0 ∷ 0 ∷ 0 ∷ 0 ∷ 0 ∷ 0 ∷ 0 ∷ 0 ∷ 0 ∷ 0 ∷ 5 ∷ 253 ∷ 0 ∷ 0 ∷ 0 ∷ 0 ∷ 0 ∷ 0 ∷ 0 ∷ 0 ∷ 0 ∷ 0 ∷ 0 ∷ 0 ∷ 0 ∷ 0 ∷ []) ≡ not_ip
  pub message : keepalive ≡ 42 ∷ 24 ∷ 123 ∷ 243 ∷ 100 ∷ 30 ∷ 180 ∷ 203 ∷ 7 ∷ 237 ∷ 45 ∷ 10 ∷ 152 ∷ 31 ∷ 199 ∷ 72 ∷ []
  pub of_ping : kind_of keepalive ≡ ping

-- ---- messages

-- A peer with no attribute given.
abbrev pub no_attributes : NlPeer
no_attributes = record { id = None; remote_ipv4 = None; remote_ipv6 = None; remote_ipv6_scope_id = None; remote_port = None; socket = None; socket_netnsid = None; vpn_ipv4 = None; vpn_ipv6 = None; local_ipv4 = None; local_ipv6 = None; local_port = None; keepalive_interval = None; keepalive_timeout = None }

-- A message of an operation on peers.
abbrev pub of_peer : NlOp → NlPeer → NlMessage
of_peer o p = record { op = o; ifindex = None; peer = Some p; keyconf = None }

-- The peer 5 at 192.0.2.5, port 1194, with the address 10.8.0.5 inside the tunnel.
abbrev pub peer_5 : NlPeer
peer_5 = record no_attributes { id = Some 5; remote_ipv4 = Some (192 ∷ 0 ∷ 2 ∷ 5 ∷ []); remote_port = Some 1194; vpn_ipv4 = Some (10 ∷ 8 ∷ 0 ∷ 5 ∷ []) }

-- Where the peer 5 is reached.
abbrev pub transport_5 : Transport
transport_5 = record { addr = V4 (192 ∷ 0 ∷ 2 ∷ 5 ∷ []); port = 1194 }

-- The attributes of the peer 5.
abbrev pub attrs_5 : PeerId → Attrs
attrs_5 id = record { id = id; remote = Some transport_5; vpn4 = Some (10 ∷ 8 ∷ 0 ∷ 5 ∷ []); vpn6 = None; keepalive = None }

-- A message of an operation on a slot of the peer 5.
abbrev pub of_slot : NlOp → Option Slot → NlMessage
of_slot o slot = record { op = o; ifindex = None; peer = None; keyconf = Some (record { peer_id = Some 5; slot = slot; key_id = None; cipher = None; encrypt = None; decrypt = None }) }

-- A message without attributes.
abbrev pub bare_message : NlOp → NlMessage
bare_message o = record { op = o; ifindex = None; peer = None; keyconf = None }

-- Its primary key with the key id 2, of a cipher, with keys of some bytes.
abbrev pub of_key : Cipher → ℕ → NlMessage
of_key c long =
    let d : NlKeyDir = record { cipher_key = Some (replicate long 7); nonce_tail = Some (replicate 8 9) } in
    record { op = op.KeyNew; ifindex = None; peer = None; keyconf = Some (record { peer_id = Some 5; slot = Some Primary; key_id = Some 2; cipher = Some c; encrypt = Some d; decrypt = Some d }) }

-- One direction of its key.
abbrev pub dir_5 : KeyDir
dir_5 = record { key = K16 (replicate 16 7); tail = replicate 8 9 }

-- One message of each operation, and messages that are refused.
pub record MessageExamples (id : PeerId) (key : KeyId) : Type 0 where
  pub peer_new : checked (of_peer op.PeerNew peer_5) ≡ Ok (command.PeerNew (attrs_5 id))
  pub peer_get : checked (of_peer op.PeerGet peer_5) ≡ Ok (command.PeerGet id)
  pub peer_del : checked (of_peer op.PeerDel peer_5) ≡ Ok (command.Remove id Userspace)
  pub peer_set : checked (of_peer op.PeerSet peer_5) ≡ Ok (command.PeerSet (attrs_5 id))
  pub peer_dump : checked (bare_message op.PeerDump) ≡ Ok command.PeerDump
  pub key_get : checked (of_slot op.KeyGet (Some Primary)) ≡ Ok (command.KeyGet id Primary)
  pub key_swap : checked (of_slot op.KeySwap None) ≡ Ok (command.KeySwap id)
  pub key_del : checked (of_slot op.KeyDel (Some Secondary)) ≡ Ok (command.KeyDel id Secondary)
  pub key_new : checked (of_key AesGcm 16) ≡ Ok (command.KeyNew (record { peer = id; slot = Primary; key_id = key; encrypt = dir_5; decrypt = dir_5 }))
  -- no id; two remote addresses; a port without an address, and the port 0; half a keepalive
  pub no_id : checked (of_peer op.PeerDel no_attributes) ≡ Err Invalid
  pub two_remotes : checked (of_peer op.PeerNew (record peer_5 { remote_ipv6 = Some (replicate 16 1) })) ≡ Err Invalid
  pub no_address : checked (of_peer op.PeerNew (record peer_5 { remote_ipv4 = None })) ≡ Err Invalid
  pub port_0 : checked (of_peer op.PeerNew (record peer_5 { remote_port = Some 0 })) ≡ Err Invalid
  pub half_keepalive : checked (of_peer op.PeerNew (record peer_5 { keepalive_interval = Some 10 })) ≡ Err Invalid
  pub set_port_0 : checked (of_peer op.PeerSet (record peer_5 { remote_port = Some 0 })) ≡ Err Invalid
  -- no slot; no peer and no key
  pub no_slot : checked (of_slot op.KeyGet None) ≡ Err Invalid
  pub no_slot_to_empty : checked (of_slot op.KeyDel None) ≡ Err Invalid
  pub no_peer : checked (bare_message op.PeerGet) ≡ Err Invalid
  pub no_key : checked (bare_message op.KeySwap) ≡ Err Invalid
  -- a key of 15 bytes, and ciphers that aren't taken
  pub short_key : checked (of_key AesGcm 15) ≡ Err Invalid
  pub none_cipher : checked (of_key NoCipher 16) ≡ Err NotSupported
  pub other_cipher : checked (of_key ChaCha20Poly1305 16) ≡ Err NotSupported
  pub short_key_first : checked (of_key ChaCha20Poly1305 15) ≡ Err Invalid

-- ---- the peer table

-- The peer 5, live, with these keys.
abbrev pub live_5 : PeerId → Option Key → Option Key → Peer
live_5 id primary secondary = record (peer_of 0 0 (attrs_5 id) transport_5) { slots = record { primary = primary; secondary = secondary } }

-- A table with the peer 5 alone, where so many peers were made.
abbrev pub table_5 : PeerId → Option Key → Option Key → ℕ → Table
table_5 id primary secondary made = record empty_table { live = live_5 id primary secondary ∷ []; made = made }

-- Where the peer 6 is reached.
abbrev pub transport_6 : Transport
transport_6 = record { addr = V4 (192 ∷ 0 ∷ 2 ∷ 6 ∷ []); port = 1194 }

-- The attributes of the peer 6, which share nothing with the peer 5.
abbrev pub apart : PeerId → Attrs
apart other = record { id = other; remote = Some transport_6; vpn4 = Some (10 ∷ 8 ∷ 0 ∷ 6 ∷ []); vpn6 = None; keepalive = None }

-- peer-new while the peer 5 is live and 4,096 peers were made: each refusal stands before all that follow it.
pub record NewExamples (id other : PeerId) : Type 0 where
  pub no_remote : (peer_new (table_5 id None None 4096) 0 (record (attrs_5 id) { remote = None })).reply ≡ reply.Refused Invalid
  pub no_vpn : (peer_new (table_5 id None None 4096) 0 (record (attrs_5 id) { vpn4 = None })).reply ≡ reply.Refused Invalid
  pub id_taken : (peer_new (table_5 id None None 4096) 0 (record (apart other) { id = id })).reply ≡ reply.Refused Exists
  pub vpn_taken : (peer_new (table_5 id None None 4096) 0 (record (apart other) { vpn4 = Some (10 ∷ 8 ∷ 0 ∷ 5 ∷ []) })).reply ≡ reply.Refused Exists
  pub remote_taken : (peer_new (table_5 id None None 4096) 0 (record (apart other) { remote = Some transport_5 })).reply ≡ reply.Refused Exists
  pub no_space : (peer_new (table_5 id None None 4096) 0 (apart other)).reply ≡ reply.Refused NoSpace
  pub last_one : (peer_new (table_5 id None None 4095) 0 (apart other)).reply ≡ reply.Made 4095

-- The peer 6, live and without keys.
abbrev pub live_6 : PeerId → Peer
live_6 other = peer_of 1 0 (apart other) transport_6

-- A table with the peers 5 and 6, made in this order.
abbrev pub both : PeerId → PeerId → Option Key → Table
both id other primary = record empty_table { live = live_5 id primary None ∷ live_6 other ∷ []; made = 2 }

-- Attributes that give nothing.
abbrev pub nothing : PeerId → Attrs
nothing id = record { id = id; remote = None; vpn4 = None; vpn6 = None; keepalive = None }

-- A ping every 10 seconds, and the end after 60.
abbrev pub often : Keepalive
often = record { interval = 10; timeout = 60 }

-- peer-set at the moment 7, while the peers 5 and 6 are live: what another peer has is taken, what is given
-- replaces the old, and the rest stays, the keys too.
pub record SetExamples (id other : PeerId) (k : Key) : Type 0 where
  pub vpn_taken : (peer_set (both id other (Some k)) 7 (record (nothing id) { vpn4 = Some (10 ∷ 8 ∷ 0 ∷ 6 ∷ []) })).reply ≡ reply.Refused Exists
  pub remote_taken : (peer_set (both id other (Some k)) 7 (record (nothing id) { remote = Some transport_6 })).reply ≡ reply.Refused Exists
  pub by_the_second : (peer_set (both id other (Some k)) 7 (record (nothing other) { vpn4 = Some (10 ∷ 8 ∷ 0 ∷ 5 ∷ []) })).reply ≡ reply.Refused Exists
  pub refused_stays : (peer_set (both id other (Some k)) 7 (record (nothing id) { remote = Some transport_6 })).after ≡ record (both id other (Some k)) { moment = 7 }
  pub nobody : (peer_set empty_table 7 (nothing id)).reply ≡ reply.Refused NoEntry
  -- its own addresses aren't taken
  pub own : (peer_set (both id other (Some k)) 7 (attrs_5 id)).reply ≡ reply.Done
  pub own_stays : (peer_set (both id other (Some k)) 7 (attrs_5 id)).after ≡ record (both id other (Some k)) { moment = 7 }
  pub given : (peer_set (both id other (Some k)) 7 (record (nothing id) { vpn4 = Some (10 ∷ 8 ∷ 0 ∷ 7 ∷ []) })).after.live ≡ record (live_5 id (Some k) None) { vpn4 = Some (10 ∷ 8 ∷ 0 ∷ 7 ∷ []) } ∷ live_6 other ∷ []
  -- a keepalive begins anew
  pub keepalive : (peer_set (both id other (Some k)) 7 (record (nothing id) { keepalive = Some often })).after.live ≡ record (live_5 id (Some k) None) { keepalive = often; last_received = 7; last_sent = 7 } ∷ live_6 other ∷ []

-- key-swap, key-get and key-del of the peer 5 with these keys.
pub record SlotExamples (id : PeerId) (k l : Key) : Type 0 where
  -- a swap of one primary key empties the primary slot, so that nothing is sent any more
  pub swap : (key_swap (table_5 id (Some k) None 1) 0 id).after.live ≡ live_5 id None (Some k) ∷ []
  pub no_key : (tx_look (key_swap (table_5 id (Some k) None 1) 0 id).after 0 (V4 (10 ∷ 8 ∷ 0 ∷ 5 ∷ []))).reply ≡ reply.NoKey
  pub swap_both : (key_swap (table_5 id (Some k) (Some l) 1) 0 id).after.live ≡ live_5 id (Some l) (Some k) ∷ []
  pub swap_takes_none : (key_swap (table_5 id (Some k) (Some l) 1) 0 id).taken ≡ []
  -- a full slot shows its key, an empty one none
  pub get : (key_get (table_5 id (Some k) None 1) 0 id Primary).reply ≡ reply.Key (record { peer = id; slot = Primary; key_id = k.key_id; cipher = AesGcm })
  pub get_empty : (key_get (table_5 id (Some k) None 1) 0 id Secondary).reply ≡ reply.Refused NoEntry
  -- what stood in the slot is retired, and an empty slot stays empty
  pub del : (key_del (table_5 id (Some k) (Some l) 1) 0 id Primary).reply ≡ reply.Done
  pub del_leaves : (key_del (table_5 id (Some k) (Some l) 1) 0 id Primary).after.live ≡ live_5 id None (Some l) ∷ []
  pub del_takes : (key_del (table_5 id (Some k) (Some l) 1) 0 id Primary).taken ≡ k.serial ∷ []
  pub del_retires : (key_del (table_5 id (Some k) (Some l) 1) 0 id Primary).after.retired ≡ k ∷ []
  pub del_empty : (key_del (table_5 id (Some k) None 1) 0 id Secondary).reply ≡ reply.Done
  pub del_empty_takes : (key_del (table_5 id (Some k) None 1) 0 id Secondary).taken ≡ []
  -- no such peer
  pub swap_nobody : (key_swap empty_table 0 id).reply ≡ reply.Refused NoEntry
  pub get_nobody : (key_get empty_table 0 id Primary).reply ≡ reply.Refused NoEntry
  pub del_nobody : (key_del empty_table 0 id Primary).reply ≡ reply.Refused NoEntry

-- peer-get of all peers: the ids 5 and 6 are shown in this order, in whichever order the peers were made.
pub record DumpExamples (id other : PeerId) : Type 0 where
  pub none : (peer_dump empty_table 0).reply ≡ reply.Peers []
  pub as_made : (peer_dump (both id other None) 0).reply ≡ reply.Peers (view_of (live_5 id None None) ∷ view_of (live_6 other) ∷ [])
  pub other_way : (peer_dump (record (both id other None) { live = live_6 other ∷ live_5 id None None ∷ [] }) 0).reply ≡ reply.Peers (view_of (live_5 id None None) ∷ view_of (live_6 other) ∷ [])

-- The look-ups where both slots hold a key: what is sent takes the primary one, what is received the one with
-- the key id. A table's moment never falls.
pub record LookExamples (id : PeerId) (k l : Key) : Type 0 where
  pub tx : (step (table_5 id (Some k) (Some l) 1) (record { at = 0; act = act.TxLook (V4 (10 ∷ 8 ∷ 0 ∷ 5 ∷ [])) })).reply ≡ reply.Hold (hold_of (live_5 id (Some k) (Some l)) k)
  pub rx : (step (table_5 id (Some k) (Some l) 1) (record { at = 0; act = act.RxLook id l.key_id transport_5 })).reply ≡ reply.Hold (hold_of (live_5 id (Some k) (Some l)) l)
  pub nobody : (step (table_5 id (Some k) (Some l) 1) (record { at = 0; act = act.TxLook (V4 (10 ∷ 8 ∷ 0 ∷ 6 ∷ [])) })).reply ≡ reply.NoPeer
  pub no_key : (step (table_5 id None (Some l) 1) (record { at = 0; act = act.TxLook (V4 (10 ∷ 8 ∷ 0 ∷ 5 ∷ [])) })).reply ≡ reply.NoKey
  pub earlier : (step (record empty_table { moment = 7 }) (record { at = 5; act = act.Do (command.PeerGet id) })).after.moment ≡ 7
  pub later : (step (record empty_table { moment = 7 }) (record { at = 9; act = act.Do (command.PeerGet id) })).after.moment ≡ 9

-- The peer 5, heard of and sent to at the moment 100, with these keepalive times.
abbrev pub timed_5 : PeerId → Option Key → (interval timeout : ℕ) → Peer
timed_5 id primary interval timeout = record (live_5 id primary None) { keepalive = record { interval = interval; timeout = timeout }; last_received = 100; last_sent = 100 }

-- The peer 6, heard of and sent to at the moment 50, with a ping every 10 seconds and the end after 60.
abbrev pub timed_6 : PeerId → Peer
timed_6 other = record (live_6 other) { keepalive = often; last_received = 50; last_sent = 50 }

-- A table with both.
abbrev pub timed_both : PeerId → PeerId → Key → Table
timed_both id other k = record empty_table { live = timed_6 other ∷ timed_5 id (Some k) 10 60 ∷ []; made = 2 }

-- Which peers are due a ping and which expire, by their keepalive times, and a tick at the moment 110, at which
-- the peer 6 was silent for 60 seconds and nothing was sent to the peer 5 for 10.
pub record TickExamples (id other : PeerId) (k : Key) : Type 0 where
  -- a ping is due at exactly its interval, and not a second before
  pub due : is_due 110 (timed_5 id (Some k) 10 60) ≡ true
  pub not_due : is_due 109 (timed_5 id (Some k) 10 60) ≡ false
  -- a peer expires at exactly its timeout, and not a second before; the expired one is due no ping
  pub expired : is_expired 160 (timed_5 id (Some k) 10 60) ≡ true
  pub not_expired : is_expired 159 (timed_5 id (Some k) 10 60) ≡ false
  pub last_ping : is_due 159 (timed_5 id (Some k) 10 60) ≡ true
  pub no_ping : is_due 160 (timed_5 id (Some k) 10 60) ≡ false
  -- 0 means never
  pub no_timeout : is_expired 4294967295 (timed_5 id (Some k) 10 0) ≡ false
  pub no_interval : is_due 4294967295 (timed_5 id (Some k) 0 0) ≡ false
  -- without a primary key nothing can be sealed
  pub no_primary : is_due 110 (record (timed_5 id None 10 60) { slots = record { primary = None; secondary = Some k } }) ≡ false
  pub reply_is : (tick (timed_both id other k) 110).reply ≡ reply.Ticked (1 ∷ []) (0 ∷ [])
  pub left : (tick (timed_both id other k) 110).after.live ≡ timed_5 id (Some k) 10 60 ∷ []
  pub dying : (tick (timed_both id other k) 110).after.dying ≡ timed_6 other ∷ []
  pub noted : (tick (timed_both id other k) 110).notes ≡ note.PeerDel other Expired ∷ []
  -- a second before nobody expires; where the peer 6 has a key too, both are due, by rising id
  pub both_due : (tick (record empty_table { live = record (timed_6 other) { slots = record { primary = Some k; secondary = None } } ∷ timed_5 id (Some k) 9 60 ∷ []; made = 2 }) 109).reply ≡ reply.Ticked [] (0 ∷ 1 ∷ [])

-- down: the peers go by rising id, in whichever order they were made, with their keys and a note each.
pub record DownExamples (id other : PeerId) (k : Key) : Type 0 where
  pub none : (down empty_table 0).reply ≡ reply.Removed []
  pub as_made : (down (both id other (Some k)) 0).reply ≡ reply.Removed (0 ∷ 1 ∷ [])
  pub other_way : (down (record (both id other (Some k)) { live = live_6 other ∷ live_5 id (Some k) None ∷ [] }) 0).reply ≡ reply.Removed (0 ∷ 1 ∷ [])
  pub left : (down (both id other (Some k)) 0).after.live ≡ []
  pub dying : (down (both id other (Some k)) 0).after.dying ≡ live_5 id None None ∷ live_6 other ∷ []
  pub taken : (down (both id other (Some k)) 0).taken ≡ k.serial ∷ []
  pub noted : (down (both id other (Some k)) 0).notes ≡ note.PeerDel id Teardown ∷ note.PeerDel other Teardown ∷ []
  -- a ping that was due finds nobody
  pub skipped : (keep_look (down (both id other (Some k)) 0).after 0 0).reply ≡ reply.Skip

-- The look-up of a peer that was due: its primary key is held. Without one, and where the peer is live no more,
-- there is no ping.
pub record KeepExamples (id : PeerId) (k : Key) : Type 0 where
  pub held : (keep_look (table_5 id (Some k) None 1) 0 0).reply ≡ reply.Hold (hold_of (live_5 id (Some k) None) k)
  pub no_primary : (keep_look (table_5 id None (Some k) 1) 0 0).reply ≡ reply.Skip
  pub nobody : (keep_look (table_5 id (Some k) None 1) 0 1).reply ≡ reply.Skip

-- A transport that no peer has.
abbrev pub transport_7 : Transport
transport_7 = record { addr = V4 (192 ∷ 0 ∷ 2 ∷ 7 ∷ []); port = 1194 }

-- Where the live peers are reached after a ping of the peer 5 came from a transport.
abbrev pub reached_after : PeerId → PeerId → Transport → List Transport
reached_after id other from = map (λ p. p.remote) (settle (both id other None) 0 0 (Some from) inner_kind.Ping 16 40).after.live

-- A peer floats to the transport that its datagram came from where no live peer has it, and stays where one has
-- it. One that is removed doesn't float.
pub record FloatExamples (id other : PeerId) : Type 0 where
  pub moves : reached_after id other transport_7 ≡ transport_7 ∷ transport_6 ∷ []
  pub taken : reached_after id other transport_6 ≡ transport_5 ∷ transport_6 ∷ []
  pub own : reached_after id other transport_5 ≡ transport_5 ∷ transport_6 ∷ []
  -- the port alone differs
  pub other_port : reached_after id other (record transport_5 { port = 1195 }) ≡ record transport_5 { port = 1195 } ∷ transport_6 ∷ []
  pub not_owner : map (λ p. p.remote) (settle (both id other None) 0 0 (Some transport_7) (inner_kind.From (V4 (10 ∷ 8 ∷ 0 ∷ 6 ∷ []))) 20 44).after.live ≡ transport_7 ∷ transport_6 ∷ []
  pub removed : map (λ p. p.remote) (settle (record empty_table { dying = live_5 id None None ∷ [] }) 0 0 (Some transport_7) inner_kind.Ping 16 40).after.dying ≡ transport_5 ∷ []

-- The ids that there are: 5 is one, 16777215 the last, and 7 the last key id.
pub record IdExamples : Type 0 where
  pub five : (id : PeerId) → peer_id 5 ≡ Some id → id.number ≡ 5
  pub no_25_bits : peer_id 16777216 ≡ None
  pub no_4_bits : key_id 8 ≡ None

-- ---- routes

-- An IPv4 address of four bytes.
abbrev pub at_v4 : (a b c d : ℕ) → Addr
at_v4 a b c d = V4 (a ∷ b ∷ c ∷ d ∷ [])

-- The IPv6 address fd00::5.
abbrev pub at_v6 : Addr
at_v6 = V6 (253 ∷ 0 ∷ 0 ∷ 0 ∷ 0 ∷ 0 ∷ 0 ∷ 0 ∷ 0 ∷ 0 ∷ 0 ∷ 0 ∷ 0 ∷ 0 ∷ 0 ∷ 5 ∷ [])

-- 192.168.5.0/24 is behind the peer 5.
abbrev pub to_5 : Route
to_5 = record { prefix = at_v4 192 168 5 0; length = 24; hop = at_v4 10 8 0 5 }

-- 192.168.0.0/16 is behind the peer 6.
abbrev pub to_6 : Route
to_6 = record { prefix = at_v4 192 168 0 0; length = 16; hop = at_v4 10 8 0 6 }

-- All else of IPv4 is behind 10.8.0.1.
abbrev pub to_all : Route
to_all = record { prefix = at_v4 0 0 0 0; length = 0; hop = at_v4 10 8 0 1 }

-- fd00::/8 is behind fd00::5.
abbrev pub to_v6 : Route
to_v6 = record { prefix = V6 (253 ∷ replicate 15 0); length = 8; hop = at_v6 }

-- The next hop by some routes.
pub record ViaExamples : Type 0 where
  pub no_routes : via_of [] (at_v4 192 168 5 9) ≡ at_v4 192 168 5 9
  pub one : via_of (to_5 ∷ []) (at_v4 192 168 5 9) ≡ at_v4 10 8 0 5
  pub elsewhere : via_of (to_5 ∷ []) (at_v4 192 168 4 255) ≡ at_v4 192 168 4 255
  -- the longest wins, wherever it stands
  pub long_first : via_of (to_5 ∷ to_6 ∷ []) (at_v4 192 168 5 9) ≡ at_v4 10 8 0 5
  pub long_last : via_of (to_6 ∷ to_5 ∷ []) (at_v4 192 168 5 9) ≡ at_v4 10 8 0 5
  pub short_alone : via_of (to_5 ∷ to_6 ∷ []) (at_v4 192 168 6 9) ≡ at_v4 10 8 0 6
  -- the later one wins among equals
  pub later : via_of (to_5 ∷ record to_5 { hop = at_v4 10 8 0 7 } ∷ []) (at_v4 192 168 5 9) ≡ at_v4 10 8 0 7
  -- a hop isn't looked up again
  pub hop : via_of (to_5 ∷ to_all ∷ []) (at_v4 192 168 5 9) ≡ at_v4 10 8 0 5
  pub hop_itself : via_of (to_5 ∷ to_all ∷ []) (at_v4 10 8 0 5) ≡ at_v4 10 8 0 1
  -- no bits match all addresses of the family, and none of the other
  pub all : via_of (to_all ∷ []) (at_v4 203 0 113 9) ≡ at_v4 10 8 0 1
  pub other_family : via_of (to_all ∷ []) at_v6 ≡ at_v6
  -- bits past the length don't count, the last within it does
  pub past : via_of (record to_5 { prefix = at_v4 192 168 5 77 } ∷ []) (at_v4 192 168 5 9) ≡ at_v4 10 8 0 5
  pub last_bit : via_of (record to_5 { length = 31 } ∷ []) (at_v4 192 168 5 1) ≡ at_v4 10 8 0 5
  pub next_bit : via_of (record to_5 { length = 32 } ∷ []) (at_v4 192 168 5 1) ≡ at_v4 192 168 5 1
  -- all 32 bits, and one more than there are
  pub whole : via_of (record to_5 { length = 32 } ∷ []) (at_v4 192 168 5 0) ≡ at_v4 10 8 0 5
  pub too_long : via_of (record to_5 { length = 33 } ∷ []) (at_v4 192 168 5 0) ≡ at_v4 192 168 5 0
  -- the same of IPv6
  pub of_v6 : via_of (to_v6 ∷ []) (V6 (253 ∷ replicate 15 255)) ≡ at_v6
  pub not_v6 : via_of (to_v6 ∷ []) (V6 (252 ∷ replicate 15 255)) ≡ V6 (252 ∷ replicate 15 255)
  pub whole_v6 : via_of (record to_v6 { length = 128 } ∷ []) (V6 (253 ∷ replicate 15 0)) ≡ at_v6
  pub too_long_v6 : via_of (record to_v6 { length = 129 } ∷ []) (V6 (253 ∷ replicate 15 0)) ≡ V6 (253 ∷ replicate 15 0)

-- A packet of IPv4 from 192.168.5.9 to 192.168.5.9.
abbrev pub routed_packet : List ℕ
routed_packet = 69 ∷ 0 ∷ 0 ∷ 20 ∷ 0 ∷ 0 ∷ 0 ∷ 0 ∷ 0 ∷ 0 ∷ 0 ∷ 0 ∷ 192 ∷ 168 ∷ 5 ∷ 9 ∷ 192 ∷ 168 ∷ 5 ∷ 9 ∷ []

-- A packet to the route's prefix is looked up by its hop and held for the peer 5, and one from there is the
-- peer 5's; without the route it is nobody's.
pub record RouteExample (id : PeerId) (k : Key) : Type 0 where
  pub looked_up : begins (via_of (to_5 ∷ [])) (deed.Tx routed_packet) ≡ first (act.TxLook (at_v4 10 8 0 5))
  pub held : (tx_look (table_5 id (Some k) None 1) 0 (via_of (to_5 ∷ []) (at_v4 192 168 5 9))).reply ≡ reply.Hold (hold_of (live_5 id (Some k) None) k)
  pub no_peer : (tx_look (table_5 id (Some k) None 1) 0 (via_of [] (at_v4 192 168 5 9))).reply ≡ reply.NoPeer
  pub kind : kind_via (via_of (to_5 ∷ [])) (kind_of routed_packet) ≡ inner_kind.From (at_v4 10 8 0 5)
  pub delivered : settled_as 0 (kind_via (via_of (to_5 ∷ [])) (kind_of routed_packet)) (live_5 id (Some k) None ∷ []) ≡ settled.Deliver
  pub not_owner : settled_as 0 (kind_via (via_of []) (kind_of routed_packet)) (live_5 id (Some k) None ∷ []) ≡ settled.NotOwner
