-- The attribute checks of the netlink family: the command of a message, or its refusal.
use Rattle.std.specs.Prelude.{ℕ, List, length, Bool, false, Option, Some, None, is_some, option_and_then, if◌then◌else◌, not, nat_lt, ◌==◌, ◌&&◌, ◌||◌, Result, Ok, Err}
use Rattle.ov_aes.specs.declared.key_bytes.KeyBytes.{KeyBytes}
use Rattle.ov_aes.specs.declared.key_bytes.KeyBytes.TheVariants.{K16, K24, K32}
use Rattle.ov_base.specs.declared.address.Addr.{Addr}
use Rattle.ov_base.specs.declared.address.Addr.TheVariants.{V4, V6}
use Rattle.ov_base.specs.declared.address.Transport.{Transport}
use Rattle.ov_model.specs.declared.ident.PeerId.{PeerId}
use Rattle.ov_model.specs.declared.ident.KeyId.{KeyId}
use Rattle.ov_model.specs.declared.command.Attrs.{Attrs}
use Rattle.ov_model.specs.declared.command.Keepalive.{Keepalive}
use Rattle.ov_model.specs.declared.command.Slot.{Slot}
use Rattle.ov_model.specs.declared.command.KeyDir.{KeyDir}
use Rattle.ov_model.specs.declared.command.KeyConf.{KeyConf}
use Rattle.ov_model.specs.declared.command.Command.{Command}
use Rattle.ov_model.specs.declared.command.Command.TheVariants as command
use Rattle.ov_model.specs.declared.command.Reason.TheVariants.{Userspace}
use Rattle.ov_model.specs.declared.reply.Errno.{Errno}
use Rattle.ov_model.specs.declared.reply.Errno.TheVariants.{Invalid, NotSupported}
use Rattle.ov_model.specs.declared.netlink.NlOp.{NlOp}
use Rattle.ov_model.specs.declared.netlink.NlOp.TheVariants as op
use Rattle.ov_model.specs.declared.netlink.NlPeer.{NlPeer}
use Rattle.ov_model.specs.declared.netlink.Cipher.{Cipher}
use Rattle.ov_model.specs.declared.netlink.Cipher.TheVariants.{AesGcm}
use Rattle.ov_model.specs.declared.netlink.NlKeyDir.{NlKeyDir}
use Rattle.ov_model.specs.declared.netlink.NlKeyConf.{NlKeyConf}
use Rattle.ov_model.specs.declared.netlink.NlMessage.{NlMessage}
use Rattle.ov_model.specs.Ident.{peer_id, key_id}

-- A port is from 1 to 65535.
abbrev pub bad_port : Option ℕ → Bool
bad_port None = false
bad_port (Some n) = (n == 0) || nat_lt 65535 n

-- A scope id other than 0 isn't supported.
abbrev pub bad_scope : Option ℕ → Bool
bad_scope None = false
bad_scope (Some n) = nat_lt 0 n

-- Whether one is given without the other.
abbrev pub only_one : Bool → Bool → Bool
only_one a b = (a && not b) || (not a && b)

-- The remote address of peer-new and peer-set. It has one family at most: `is_invalid` refuses both.
abbrev pub remote_of_family : Option (List ℕ) → Option (List ℕ) → Option Addr
remote_of_family (Some a) _ = Some (V4 a)
remote_of_family None (Some a) = Some (V6 a)
remote_of_family None None = None

-- The remote address that a message gives, in whichever family it has one.
abbrev pub remote_addr : NlPeer → Option Addr
remote_addr p = remote_of_family p.remote_ipv4 p.remote_ipv6

-- Whether an attribute of peer-new or peer-set is out of its range or stands without another that it needs.
abbrev pub is_invalid : NlPeer → Bool
is_invalid p =
    (is_some p.remote_ipv4 && is_some p.remote_ipv6) ||
    (bad_scope p.remote_ipv6_scope_id ||
    (only_one (is_some (remote_addr p)) (is_some p.remote_port) ||
    (bad_port p.remote_port ||
    ((is_some p.local_ipv4 && is_some p.local_ipv6) ||
    (bad_port p.local_port ||
    only_one (is_some p.keepalive_interval) (is_some p.keepalive_timeout))))))

-- The remote transport: an address with its port, and none without both.
abbrev pub transport_of : Option Addr → Option ℕ → Option Transport
transport_of (Some a) (Some n) = Some (record { addr = a; port = n })
transport_of _ _ = None

-- The keepalive of peer-new and peer-set: both its numbers of seconds, and none without both.
abbrev pub keepalive_of : Option ℕ → Option ℕ → Option Keepalive
keepalive_of (Some i) (Some t) = Some (record { interval = i; timeout = t })
keepalive_of _ _ = None

-- The attributes of a message that passed the checks. Those that have no place here are accepted and
-- not used.
abbrev pub attrs_of : PeerId → NlPeer → Attrs
attrs_of id p = record { id = id; remote = transport_of (remote_addr p) p.remote_port; vpn4 = p.vpn_ipv4; vpn6 = p.vpn_ipv6; keepalive = keepalive_of p.keepalive_interval p.keepalive_timeout }

-- peer-new and peer-set with their peer and its id: the attributes in their ranges.
abbrev pub checked_attrs : (Attrs → Command) → NlPeer → PeerId → Result Command Errno
checked_attrs make p id = if is_invalid p then Err Invalid else Ok (make (attrs_of id p))

-- An operation on one peer with its peer and its id. The others don't ask for a peer.
abbrev pub checked_peer : NlOp → NlPeer → Option PeerId → Result Command Errno
checked_peer _ p None = Err Invalid
checked_peer op.PeerNew p (Some id) = checked_attrs command.PeerNew p id
checked_peer op.PeerSet p (Some id) = checked_attrs command.PeerSet p id
checked_peer op.PeerGet p (Some id) = Ok (command.PeerGet id)
checked_peer op.PeerDel p (Some id) = Ok (command.Remove id Userspace)
checked_peer _ p (Some id) = Err Invalid

-- The command of an operation on peers: it needs a peer with an id of 24 bits.
abbrev pub checked_with : NlOp → Option NlPeer → Result Command Errno
checked_with o None = Err Invalid
checked_with o (Some p) = checked_peer o p (option_and_then peer_id p.id)

-- A key of AES has 16, 24 or 32 bytes (FIPS 197, section 5).
abbrev pub key_bytes : List ℕ → Option KeyBytes
key_bytes bytes =
    if length bytes == 16 then Some (K16 bytes) else
    (if length bytes == 24 then Some (K24 bytes) else
    (if length bytes == 32 then Some (K32 bytes) else None))

-- A nonce tail has 8 bytes: with the packet id it makes the nonce of 12 (SP 800-38D, section 8.2.1).
abbrev pub tail_bytes : List ℕ → Option (List ℕ)
tail_bytes bytes = if length bytes == 8 then Some bytes else None

-- One direction of a key, where both its parts are given and in range.
abbrev pub dir_of : Option KeyBytes → Option (List ℕ) → Option KeyDir
dir_of (Some key) (Some tail) = Some (record { key = key; tail = tail })
dir_of _ _ = None

-- The direction of a message: its key and its tail in range.
abbrev pub key_dir : NlKeyDir → Option KeyDir
key_dir d = dir_of (option_and_then key_bytes d.cipher_key) (option_and_then tail_bytes d.nonce_tail)

-- The attributes of key-new, where all are given and in range.
abbrev pub conf_of : Option PeerId → Option Slot → Option KeyId → Option KeyDir → Option KeyDir → Option KeyConf
conf_of (Some peer) (Some slot) (Some id) (Some encrypt) (Some decrypt) = Some (record { peer = peer; slot = slot; key_id = id; encrypt = encrypt; decrypt = decrypt })
conf_of _ _ _ _ _ = None

-- The attributes of a message's key, each there and in range.
abbrev pub key_conf : NlKeyConf → Option KeyConf
key_conf k = conf_of (option_and_then peer_id k.peer_id) k.slot (option_and_then key_id k.key_id) (option_and_then key_dir k.encrypt) (option_and_then key_dir k.decrypt)

-- AES-GCM is the one cipher that is taken.
abbrev pub with_cipher : Option Cipher → Option KeyConf → Result Command Errno
with_cipher (Some AesGcm) (Some c) = Ok (command.KeyNew c)
with_cipher (Some other) (Some c) = Err NotSupported
with_cipher _ _ = Err Invalid

-- key-get and key-del: both need the peer's id and the slot.
abbrev pub checked_slot : (PeerId → Slot → Command) → Option PeerId → Option Slot → Result Command Errno
checked_slot make (Some id) (Some slot) = Ok (make id slot)
checked_slot make _ _ = Err Invalid

-- key-swap needs the peer's id.
abbrev pub checked_swap : Option PeerId → Result Command Errno
checked_swap (Some id) = Ok (command.KeySwap id)
checked_swap None = Err Invalid

-- An operation on keys with its attributes: key-new needs all of them, and the one cipher. The others don't
-- ask for a key.
abbrev pub checked_keyconf : NlOp → NlKeyConf → Result Command Errno
checked_keyconf op.KeyNew k = with_cipher k.cipher (key_conf k)
checked_keyconf op.KeyGet k = checked_slot command.KeyGet (option_and_then peer_id k.peer_id) k.slot
checked_keyconf op.KeySwap k = checked_swap (option_and_then peer_id k.peer_id)
checked_keyconf op.KeyDel k = checked_slot command.KeyDel (option_and_then peer_id k.peer_id) k.slot
checked_keyconf _ k = Err Invalid

-- The command of an operation on keys: it needs a key's attributes.
abbrev pub checked_key : NlOp → Option NlKeyConf → Result Command Errno
checked_key o None = Err Invalid
checked_key o (Some k) = checked_keyconf o k

-- The command by the message's operation: those on keys look at the key, those on one peer at the peer, and
-- peer-dump at neither.
abbrev pub checked_op : NlOp → NlMessage → Result Command Errno
checked_op op.PeerNew m = checked_with op.PeerNew m.peer
checked_op op.PeerSet m = checked_with op.PeerSet m.peer
checked_op op.PeerGet m = checked_with op.PeerGet m.peer
checked_op op.PeerDel m = checked_with op.PeerDel m.peer
checked_op op.PeerDump m = Ok command.PeerDump
checked_op op.KeyNew m = checked_key op.KeyNew m.keyconf
checked_op op.KeyGet m = checked_key op.KeyGet m.keyconf
checked_op op.KeySwap m = checked_key op.KeySwap m.keyconf
checked_op op.KeyDel m = checked_key op.KeyDel m.keyconf

-- The command of a message. Of an operation on one peer Invalid comes where its peer or its id is missing,
-- the id is above 16777215, or an attribute of peer-new or peer-set is invalid; of an operation on keys
-- where an attribute that it needs is missing or out of its range. NotSupported comes of a key-new that is
-- right but for its cipher.
unfoldable pub checked : NlMessage → Result Command Errno
checked m = checked_op m.op m
