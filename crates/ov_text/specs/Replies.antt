-- What the steps reply, as JSON: one object each, whose names stand in ascending byte order at each level.
use Rattle.std.specs.Prelude.{ℕ, List, true, Option, Some, None, map, codes}
use Rattle.std.specs.Net.Text.{ipv4_text}
use Rattle.hex.specs.Hex.{encode_lower}
use Rattle.serde_json.specs.Data.{Data, boolean, string, array, object, Members, no_members, put}
use Rattle.serde_json.specs.View.{items_of}
use Rattle.serde_json.specs.Written.{compact_text}
use Rattle.ov_base.specs.declared.address.Addr.{Addr}
use Rattle.ov_base.specs.declared.address.Addr.TheVariants.{V4, V6}
use Rattle.ov_base.specs.declared.address.Transport.{Transport}
use Rattle.ov_model.specs.declared.command.Slot.{Slot}
use Rattle.ov_model.specs.declared.command.Slot.TheVariants as slot
use Rattle.ov_model.specs.declared.netlink.Cipher.{Cipher}
use Rattle.ov_model.specs.declared.netlink.Cipher.TheVariants as cipher
use Rattle.ov_model.specs.declared.reply.Errno.{Errno}
use Rattle.ov_model.specs.declared.reply.Errno.TheVariants.{NoEntry, Exists, Invalid, NoSpace, NotSupported}
use Rattle.ov_model.specs.declared.reply.Counts.{Counts}
use Rattle.ov_model.specs.declared.reply.PeerView.{PeerView}
use Rattle.ov_model.specs.declared.reply.KeyView.{KeyView}
use Rattle.ov_model.specs.declared.reply.HoldView.{HoldView}
use Rattle.ov_model.specs.declared.reply.Settled.{Settled}
use Rattle.ov_model.specs.declared.reply.Settled.TheVariants as settled
use Rattle.ov_model.specs.declared.reply.Reply.{Reply}
use Rattle.ov_model.specs.declared.reply.Reply.TheVariants as reply
use Rattle.ov_text.specs.Pieces.{num, put_num, put_text, nums, one}

-- Linux's numbers: ENOENT, EEXIST, EINVAL, ENOSPC, EOPNOTSUPP.
abbrev pub errno_number : Errno → ℕ
errno_number NoEntry = 2
errno_number Exists = 17
errno_number Invalid = 22
errno_number NoSpace = 28
errno_number NotSupported = 95

-- A remote address: IPv4 in dotted decimal, IPv6 as 32 hexadecimal digits.
abbrev pub put_remote_addr : Addr → Members → Members
put_remote_addr (V4 a) ms = put_text (codes "remote-ipv4") (ipv4_text a) ms
put_remote_addr (V6 a) ms = put_text (codes "remote-ipv6") (encode_lower a) ms

-- A remote transport: its address and its port.
abbrev pub put_remote : Transport → Members → Members
put_remote t ms = put_num (codes "remote-port") t.port (put_remote_addr t.addr ms)

-- The IPv4 address inside the tunnel, where there is one.
abbrev pub put_vpn4 : Option (List ℕ) → Members → Members
put_vpn4 None ms = ms
put_vpn4 (Some a) ms = put_text (codes "vpn-ipv4") (ipv4_text a) ms

-- The IPv6 address inside the tunnel, where there is one.
abbrev pub put_vpn6 : Option (List ℕ) → Members → Members
put_vpn6 None ms = ms
put_vpn6 (Some a) ms = put_text (codes "vpn-ipv6") (encode_lower a) ms

-- The counts of a peer, of the link and inside the tunnel.
unfoldable pub put_counts : Counts → Members → Members
put_counts c ms =
    put_num (codes "vpn-tx-packets") c.vpn_tx_packets
    (put_num (codes "vpn-tx-bytes") c.vpn_tx_bytes
    (put_num (codes "vpn-rx-packets") c.vpn_rx_packets
    (put_num (codes "vpn-rx-bytes") c.vpn_rx_bytes
    (put_num (codes "link-tx-packets") c.link_tx_packets
    (put_num (codes "link-tx-bytes") c.link_tx_bytes
    (put_num (codes "link-rx-packets") c.link_rx_packets
    (put_num (codes "link-rx-bytes") c.link_rx_bytes ms)))))))

-- What peer-get shows.
unfoldable pub view_members : PeerView → Members
view_members v =
    put_vpn6 v.vpn6
    (put_vpn4 v.vpn4
    (put_remote v.remote
    (put_num (codes "keepalive-timeout") v.keepalive.timeout
    (put_num (codes "keepalive-interval") v.keepalive.interval
    (put_num (codes "id") v.id.number
    (put_counts v.counts no_members))))))

-- What peer-get shows, as a JSON object.
abbrev pub view_data : PeerView → Data
view_data v = object (view_members v)

-- The slots, as the netlink family names them (`key-slot`).
abbrev pub slot_name : Slot → List ℕ
slot_name slot.Primary = codes "primary"
slot_name slot.Secondary = codes "secondary"

-- The ciphers, as the netlink family names them (`cipher-alg`).
abbrev pub cipher_name : Cipher → List ℕ
cipher_name cipher.NoCipher = codes "none"
cipher_name cipher.AesGcm = codes "aes-gcm"
cipher_name cipher.ChaCha20Poly1305 = codes "chacha20-poly1305"

-- What key-get shows: no byte of the key.
abbrev pub key_members : KeyView → Members
key_members k =
    put_text (codes "slot") (slot_name k.slot)
    (put_num (codes "peer-id") k.peer.number
    (put_num (codes "key-id") k.key_id.number
    (put_text (codes "cipher-alg") (cipher_name k.cipher) no_members)))

-- What a look-up holds: the serials of the key and of the peer.
abbrev pub hold_members : HoldView → Members
hold_members h = put_num (codes "peer") h.peer (put_num (codes "key") h.key no_members)

-- What became of an inner packet.
abbrev pub settled_name : Settled → List ℕ
settled_name settled.Deliver = codes "deliver"
settled_name settled.Ping = codes "ping"
settled_name settled.NotIp = codes "not-ip"
settled_name settled.NotOwner = codes "not-owner"

-- What a tick found, by the serials of the peers: those that it removed, and those that are due a ping.
abbrev pub ticked_members : (expired due : List ℕ) → Members
ticked_members expired due = put (codes "expired") (nums expired) (put (codes "due") (nums due) no_members)

-- What a step replied.
abbrev pub reply_data : Reply → Data
reply_data (reply.Made n) = one (codes "serial") (num n)
reply_data reply.Done = one (codes "ok") (boolean true)
reply_data (reply.Peer v) = one (codes "peer") (view_data v)
reply_data (reply.Peers vs) = one (codes "peers") (array (items_of (map view_data vs)))
reply_data (reply.Key k) = one (codes "key") (object (key_members k))
reply_data (reply.Removed ns) = one (codes "removed") (nums ns)
reply_data (reply.Hold h) = one (codes "hold") (object (hold_members h))
reply_data reply.NoPeer = one (codes "none") (string (codes "no-peer"))
reply_data reply.NoKey = one (codes "none") (string (codes "no-key"))
reply_data reply.Skip = one (codes "none") (string (codes "skip"))
reply_data (reply.Settled s) = one (codes "settled") (string (settled_name s))
reply_data reply.Killed = one (codes "spend") (string (codes "killed"))
reply_data reply.AlreadyGone = one (codes "spend") (string (codes "already-gone"))
reply_data (reply.Ticked expired due) = object (ticked_members expired due)
reply_data (reply.Released n) = one (codes "released") (num n)
reply_data (reply.KeyReleased n) = one (codes "key-released") (num n)
reply_data (reply.Refused e) = one (codes "error") (num (errno_number e))

-- The text of a reply.
unfoldable pub reply_text : Reply → List ℕ
reply_text r = compact_text (reply_data r)
