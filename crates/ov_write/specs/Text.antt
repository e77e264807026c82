-- The canonical text of a line: a compact JSON object (RFC 8259) with exactly the names that have a value, in
-- ascending byte order at each level, and digits in lower case.
use Rattle.std.specs.Prelude.{◌≡◌, ℕ, List, [], ◌∷◌, ◌++◌, codes, Bool, Option, Some, None, option_map}
use Rattle.std.specs.Net.Text.{ipv4_text}
use Rattle.hex.specs.Hex.{encode_lower}
use Rattle.serde_json.specs.Data.{Data, string, number, unsigned, object, Members, no_members, member}
use Rattle.serde_json.specs.Written.{compact_text, members_text}
use Rattle.ov_base.specs.declared.address.Addr.{Addr}
use Rattle.ov_base.specs.declared.address.Addr.TheVariants.{V4, V6}
use Rattle.ov_base.specs.declared.address.Transport.{Transport}
use Rattle.ov_model.specs.declared.ident.PeerId.{PeerId}
use Rattle.ov_model.specs.declared.command.Reason.{Reason}
use Rattle.ov_model.specs.declared.command.Reason.TheVariants as reason
use Rattle.ov_model.specs.declared.line.Line.{Line}
use Rattle.ov_model.specs.declared.line.Deed.{Deed}
use Rattle.ov_model.specs.declared.line.Deed.TheVariants as deed
use Rattle.ov_model.specs.declared.netlink.NlPeer.{NlPeer}
use Rattle.ov_model.specs.declared.netlink.NlKeyDir.{NlKeyDir}
use Rattle.ov_model.specs.declared.netlink.NlKeyConf.{NlKeyConf}
use Rattle.ov_line.specs.Grammar.{op_word, slot_word, cipher_word}

-- A name of an object, with its value where it has one.
abbrev pub Field : Type 0
Field = List ℕ × Option Data

-- the members with one in front, where it has a value
abbrev pub with_field : List ℕ → Option Data → Members → Members
with_field name None ms = ms
with_field name (Some d) ms = member name d ms

-- The members of those names that have a value.
abbrev pub given : List Field → Members
given [] = no_members
given (f ∷ fs) = with_field f.0 f.1 (given fs)

-- A number.
abbrev pub num : ℕ → Data
num n = number (unsigned n)

-- An IPv4 address in dotted decimal.
abbrev pub ipv4 : List ℕ → Data
ipv4 octets = string (ipv4_text octets)

-- Bytes as hexadecimal digits in lower case, two for each.
abbrev pub hex : List ℕ → Data
hex bytes = string (encode_lower bytes)

-- An address: IPv4 in dotted decimal, IPv6 as 32 hexadecimal digits.
abbrev pub addr_text : Addr → List ℕ
addr_text (V4 octets) = ipv4_text octets
addr_text (V6 octets) = encode_lower octets

-- The reasons of a removal, as the netlink family names them (`del-peer-reason`).
abbrev pub reason_word : Reason → List ℕ
reason_word reason.Teardown = codes "teardown"
reason_word reason.Userspace = codes "userspace"
reason_word reason.Expired = codes "expired"
reason_word reason.TransportError = codes "transport-error"
reason_word reason.TransportDisconnect = codes "transport-disconnect"

-- The attributes of a peer.
abbrev pub peer_fields : NlPeer → List Field
peer_fields p =
    (codes "id", option_map num p.id)
    ∷ (codes "keepalive-interval", option_map num p.keepalive_interval)
    ∷ (codes "keepalive-timeout", option_map num p.keepalive_timeout)
    ∷ (codes "local-ipv4", option_map ipv4 p.local_ipv4)
    ∷ (codes "local-ipv6", option_map hex p.local_ipv6)
    ∷ (codes "local-port", option_map num p.local_port)
    ∷ (codes "remote-ipv4", option_map ipv4 p.remote_ipv4)
    ∷ (codes "remote-ipv6", option_map hex p.remote_ipv6)
    ∷ (codes "remote-ipv6-scope-id", option_map num p.remote_ipv6_scope_id)
    ∷ (codes "remote-port", option_map num p.remote_port)
    ∷ (codes "socket", option_map num p.socket)
    ∷ (codes "socket-netnsid", option_map num p.socket_netnsid)
    ∷ (codes "vpn-ipv4", option_map ipv4 p.vpn_ipv4)
    ∷ (codes "vpn-ipv6", option_map hex p.vpn_ipv6) ∷ []

-- Those of the attributes of a peer that are given.
unfoldable pub peer_members : NlPeer → Members
peer_members p = given (peer_fields p)

-- The object of a peer.
abbrev pub peer_data : NlPeer → Data
peer_data p = object (peer_members p)

-- One direction of a key.
abbrev pub dir_fields : NlKeyDir → List Field
dir_fields d = (codes "cipher-key", option_map hex d.cipher_key) ∷ (codes "nonce-tail", option_map hex d.nonce_tail) ∷ []

-- Those parts of a direction of a key that are given.
unfoldable pub dir_members : NlKeyDir → Members
dir_members d = given (dir_fields d)

-- The object of a direction of a key.
abbrev pub dir_data : NlKeyDir → Data
dir_data d = object (dir_members d)

-- The attributes of a key.
abbrev pub conf_fields : NlKeyConf → List Field
conf_fields k =
    (codes "cipher-alg", option_map (λ c. string (cipher_word c)) k.cipher)
    ∷ (codes "decrypt-dir", option_map dir_data k.decrypt)
    ∷ (codes "encrypt-dir", option_map dir_data k.encrypt)
    ∷ (codes "key-id", option_map num k.key_id)
    ∷ (codes "peer-id", option_map num k.peer_id)
    ∷ (codes "slot", option_map (λ s. string (slot_word s)) k.slot) ∷ []

-- Those of the attributes of a key that are given.
unfoldable pub conf_members : NlKeyConf → Members
conf_members k = given (conf_fields k)

-- The object of a key.
abbrev pub conf_data : NlKeyConf → Data
conf_data k = object (conf_members k)

-- A transport.
abbrev pub from_fields : Transport → List Field
from_fields t = (codes "addr", Some (string (addr_text t.addr))) ∷ (codes "port", Some (num t.port)) ∷ []

-- The members of a transport.
unfoldable pub from_members : Transport → Members
from_members t = given (from_fields t)

-- The object of a transport.
abbrev pub from_data : Transport → Data
from_data t = object (from_members t)

-- A peer whose transport is lost.
abbrev pub lost_fields : PeerId → Reason → List Field
lost_fields id why = (codes "del-reason", Some (string (reason_word why))) ∷ (codes "id", Some (num id.number)) ∷ []

-- The members of a peer whose transport is lost.
unfoldable pub lost_members : PeerId → Reason → Members
lost_members id why = given (lost_fields id why)

-- The object of a peer whose transport is lost.
abbrev pub lost_data : PeerId → Reason → Data
lost_data id why = object (lost_members id why)

-- A line's moment and lane with a word to which nothing else belongs.
abbrev pub bare_fields : ℕ → ℕ → List ℕ → List Field
bare_fields at lane word = (codes "at", Some (num at)) ∷ (codes "do", Some (string word)) ∷ (codes "lane", Some (num lane)) ∷ []

-- A line's moment and lane, its word, and what belongs to the word.
abbrev pub deed_fields : ℕ → ℕ → Deed → List Field
deed_fields at lane (deed.Netlink m) =
    (codes "at", Some (num at)) ∷ (codes "do", Some (string (op_word m.op))) ∷ (codes "ifindex", option_map num m.ifindex)
    ∷ (codes "keyconf", option_map conf_data m.keyconf) ∷ (codes "lane", Some (num lane)) ∷ (codes "peer", option_map peer_data m.peer) ∷ []
deed_fields at lane (deed.Tx packet) =
    (codes "at", Some (num at)) ∷ (codes "do", Some (string (codes "tx"))) ∷ (codes "lane", Some (num lane)) ∷ (codes "packet", Some (hex packet)) ∷ []
deed_fields at lane (deed.Rx from datagram) =
    (codes "at", Some (num at)) ∷ (codes "datagram", Some (hex datagram)) ∷ (codes "do", Some (string (codes "rx")))
    ∷ (codes "from", Some (from_data from)) ∷ (codes "lane", Some (num lane)) ∷ []
deed_fields at lane (deed.Lost id why) =
    (codes "at", Some (num at)) ∷ (codes "do", Some (string (codes "lost"))) ∷ (codes "lane", Some (num lane)) ∷ (codes "peer", Some (lost_data id why)) ∷ []
deed_fields at lane deed.Tick = bare_fields at lane (codes "tick")
deed_fields at lane deed.Down = bare_fields at lane (codes "down")

-- Those names of a line that have a value.
unfoldable pub line_members : ℕ → ℕ → Deed → Members
line_members at lane asked = given (deed_fields at lane asked)

-- The object of a line.
abbrev pub line_data : Line → Data
line_data line = object (line_members line.at line.lane line.deed)

-- The canonical text.
unfoldable pub line_text : Line → List ℕ
line_text line = compact_text (line_data line)

-- A page goes on as the text of an object does, with one more name where it has a value: whether a member
-- stands before, and whether one does now.
abbrev pub Puts : List ℕ → List ℕ → Bool → Bool → List ℕ → Option Data → Type 0
Puts old new later now name value = (rest : Members) → new ++ members_text now rest ≡ old ++ members_text later (with_field name value rest)
