-- The canonical text of a line says the line.
use Rattle.std.proofs.Common.{◌≡◌, ℕ, ◌≤◌, ◌&&◌, List, [], ◌∷◌, codes, length, Bool, true, false, Option, Some, None, refl, arith}
use Rattle.std.specs.Prelude.{⊤, IfSome, option_map}
use Rattle.std.specs.Net.Text.{ipv4_text}
use Rattle.std.proofs.NetLemmas.Texts.{IsDotted-ipv4_text}
use Rattle.json.proofs.Printed.Utf8.{IsUtf8-are_ascii}
use Rattle.hex.specs.Hex.{encode_lower, IsBytes}
use Rattle.hex.proofs.HexLemmas.{decode_of-encode_lower, decode_sized-encode_lower}
use Rattle.serde_json.specs.Data.{Data, string, object, Members}
use Rattle.ov_base.specs.declared.address.Addr.{Addr}
use Rattle.ov_base.specs.declared.address.Addr.TheVariants.{V4, V6}
use Rattle.ov_base.specs.declared.address.Transport.{Transport}
use Rattle.ov_model.specs.Limits.{longest_packet, longest_datagram}
use Rattle.ov_model.specs.declared.ident.PeerId.{PeerId}
use Rattle.ov_model.specs.declared.command.Slot.{Slot}
use Rattle.ov_model.specs.declared.command.Slot.TheVariants as slot
use Rattle.ov_model.specs.declared.command.Reason.{Reason}
use Rattle.ov_model.specs.declared.command.Reason.TheVariants as reason
use Rattle.ov_model.specs.declared.line.Line.{Line}
use Rattle.ov_model.specs.declared.line.Deed.{Deed}
use Rattle.ov_model.specs.declared.line.Deed.TheVariants as deed
use Rattle.ov_model.specs.declared.netlink.Cipher.{Cipher}
use Rattle.ov_model.specs.declared.netlink.Cipher.TheVariants as cipher
use Rattle.ov_model.specs.declared.netlink.NlOp.{NlOp}
use Rattle.ov_model.specs.declared.netlink.NlOp.TheVariants as op
use Rattle.ov_model.specs.declared.netlink.NlPeer.{NlPeer}
use Rattle.ov_model.specs.declared.netlink.NlKeyDir.{NlKeyDir}
use Rattle.ov_model.specs.declared.netlink.NlKeyConf.{NlKeyConf}
use Rattle.ov_line.specs.Values.{IsNumber, most_number, IsHex, IsIpv4, IsIpv6, IsAddr, IsWord, is_among, only_members}
use Rattle.ov_line.specs.Grammar.{op_word, deed_word, slot_word, cipher_word, peer_names, conf_names, most_key_bytes, IsPeer, IsDir, IsConf, IsTransport, IsId, IsLoss, IsLost, IsLine, Says}
use Rattle.ov_write.specs.Text.{Field, with_field, given, num, ipv4, hex, addr_text, reason_word, peer_fields, peer_members, peer_data, dir_fields, dir_members, dir_data, conf_fields, conf_members, conf_data, from_fields, from_members, from_data, lost_fields, lost_members, lost_data, deed_fields, line_members, line_data, line_text}
use Rattle.ov_write.specs.Listed.{IsSmall, AreOctets, IsShort, IsListedPeer, IsListedDir, IsListedConf, IsListedAddr, IsListedDeed, IsListed}
use Rattle.ov_line.proofs.PlainText.{text_utf8, escape_ipv4, escape_decoded}
use Rattle.ov_write.proofs.Rising.{has_field, Good, GoodValue, good_number, good_text, good_map, good_object, good_reads}

-- ---- kinds

number_kind : (n : ℕ) → n ≤ most_number → IsNumber most_number (num n) n
number_kind n h = (refl, h)

ipv4_kind : (o : List ℕ) → AreOctets 4 o → IsIpv4 (ipv4 o) o
ipv4_kind o h = record { text = ipv4_text o; given = refl; dotted = IsDotted-ipv4_text o h.0 h.1 }

ipv6_kind : (o : List ℕ) → AreOctets 16 o → IsIpv6 (hex o) o
ipv6_kind o h = record { text = encode_lower o; given = refl; digits = decode_sized-encode_lower o 16 h.0 h.1 }

addr_kind : (a : Addr) → IsListedAddr a → IsAddr (string (addr_text a)) a
addr_kind (V4 o) h = ipv4_kind o h
addr_kind (V6 o) h = ipv6_kind o h

hex_kind : (most : ℕ) (b : List ℕ) → (length b ≤ most) × IsBytes b → IsHex most (hex b) b
hex_kind most b h = record { text = encode_lower b; given = refl; digits = decode_of-encode_lower b h.1; short = h.0 }

any : {A : Type 0} (o : Option A) → IfSome o (λ _. ⊤)
any None = tt
any (Some a) = tt

-- ---- values that read back

good_four : (k : ℕ) (o : List ℕ) → AreOctets 4 o → Good k (ipv4 o)
good_four k o h = good_text k (ipv4_text o) (escape_ipv4 o h.0 h.1).1

good_hex : (k : ℕ) (b : List ℕ) → IsBytes b → Good k (hex b)
good_hex k b h = good_text k (encode_lower b) (escape_decoded (encode_lower b) b (decode_of-encode_lower b h)).1

good_addr : (k : ℕ) (a : Addr) → IsListedAddr a → Good k (string (addr_text a))
good_addr k (V4 o) h = good_four k o h
good_addr k (V6 o) h = good_hex k o h.1

numbers : (k : ℕ) (o : Option ℕ) → IsSmall o → GoodValue k (option_map num o)
numbers k o h = good_map k num (λ n. n ≤ most_number) (λ n s. good_number k n s) o h

fours : (k : ℕ) (o : Option (List ℕ)) → IfSome o (AreOctets 4) → GoodValue k (option_map ipv4 o)
fours k o h = good_map k ipv4 (AreOctets 4) (λ b s. good_four k b s) o h

sixes : (k : ℕ) (o : Option (List ℕ)) → IfSome o (AreOctets 16) → GoodValue k (option_map hex o)
sixes k o h = good_map k hex (AreOctets 16) (λ b s. good_hex k b s.1) o h

shorts : (k : ℕ) (o : Option (List ℕ)) → IsShort o → GoodValue k (option_map hex o)
shorts k o h = good_map k hex (λ b. (length b ≤ most_key_bytes) × IsBytes b) (λ b s. good_hex k b s.1) o h

words : (k : ℕ) {A : Type 0} (word : A → List ℕ) → ((a : A) → Good k (string (word a))) → (o : Option A) → GoodValue k (option_map (λ a. string (word a)) o)
words k word good o = good_map k (λ a. string (word a)) (λ _. ⊤) (λ a h. good a) o (any o)

-- ---- objects

good_peer : (names : List (List ℕ)) (p : NlPeer) → IsListedPeer names p → Good 2 (peer_data p)
unfolding peer_members
good_peer names p l = good_object 1 (peer_fields p) refl (IsUtf8-are_ascii _ refl, numbers 1 p.id l.id, (IsUtf8-are_ascii _ refl, numbers 1 p.keepalive_interval l.keepalive_interval, (IsUtf8-are_ascii _ refl, numbers 1 p.keepalive_timeout l.keepalive_timeout, (IsUtf8-are_ascii _ refl, fours 1 p.local_ipv4 l.local_ipv4, (IsUtf8-are_ascii _ refl, sixes 1 p.local_ipv6 l.local_ipv6, (IsUtf8-are_ascii _ refl, numbers 1 p.local_port l.local_port, (IsUtf8-are_ascii _ refl, fours 1 p.remote_ipv4 l.remote_ipv4, (IsUtf8-are_ascii _ refl, sixes 1 p.remote_ipv6 l.remote_ipv6, (IsUtf8-are_ascii _ refl, numbers 1 p.remote_ipv6_scope_id l.remote_ipv6_scope_id, (IsUtf8-are_ascii _ refl, numbers 1 p.remote_port l.remote_port, (IsUtf8-are_ascii _ refl, numbers 1 p.socket l.socket, (IsUtf8-are_ascii _ refl, numbers 1 p.socket_netnsid l.socket_netnsid, (IsUtf8-are_ascii _ refl, fours 1 p.vpn_ipv4 l.vpn_ipv4, (IsUtf8-are_ascii _ refl, sixes 1 p.vpn_ipv6 l.vpn_ipv6, tt))))))))))))))

peer_kind : (names : List (List ℕ)) (p : NlPeer) → IsListedPeer names p → IsPeer names (peer_data p) p
unfolding peer_members
peer_kind names p l = record {
  only = l.only;
  id = has_field (IsNumber most_number) num (λ n. n ≤ most_number) number_kind (codes "id") (peer_fields p) p.id refl l.id;
  keepalive_interval = has_field (IsNumber most_number) num (λ n. n ≤ most_number) number_kind (codes "keepalive-interval") (peer_fields p) p.keepalive_interval refl l.keepalive_interval;
  keepalive_timeout = has_field (IsNumber most_number) num (λ n. n ≤ most_number) number_kind (codes "keepalive-timeout") (peer_fields p) p.keepalive_timeout refl l.keepalive_timeout;
  local_ipv4 = has_field IsIpv4 ipv4 (AreOctets 4) ipv4_kind (codes "local-ipv4") (peer_fields p) p.local_ipv4 refl l.local_ipv4;
  local_ipv6 = has_field IsIpv6 hex (AreOctets 16) ipv6_kind (codes "local-ipv6") (peer_fields p) p.local_ipv6 refl l.local_ipv6;
  local_port = has_field (IsNumber most_number) num (λ n. n ≤ most_number) number_kind (codes "local-port") (peer_fields p) p.local_port refl l.local_port;
  remote_ipv4 = has_field IsIpv4 ipv4 (AreOctets 4) ipv4_kind (codes "remote-ipv4") (peer_fields p) p.remote_ipv4 refl l.remote_ipv4;
  remote_ipv6 = has_field IsIpv6 hex (AreOctets 16) ipv6_kind (codes "remote-ipv6") (peer_fields p) p.remote_ipv6 refl l.remote_ipv6;
  remote_ipv6_scope_id = has_field (IsNumber most_number) num (λ n. n ≤ most_number) number_kind (codes "remote-ipv6-scope-id") (peer_fields p) p.remote_ipv6_scope_id refl l.remote_ipv6_scope_id;
  remote_port = has_field (IsNumber most_number) num (λ n. n ≤ most_number) number_kind (codes "remote-port") (peer_fields p) p.remote_port refl l.remote_port;
  socket = has_field (IsNumber most_number) num (λ n. n ≤ most_number) number_kind (codes "socket") (peer_fields p) p.socket refl l.socket;
  socket_netnsid = has_field (IsNumber most_number) num (λ n. n ≤ most_number) number_kind (codes "socket-netnsid") (peer_fields p) p.socket_netnsid refl l.socket_netnsid;
  vpn_ipv4 = has_field IsIpv4 ipv4 (AreOctets 4) ipv4_kind (codes "vpn-ipv4") (peer_fields p) p.vpn_ipv4 refl l.vpn_ipv4;
  vpn_ipv6 = has_field IsIpv6 hex (AreOctets 16) ipv6_kind (codes "vpn-ipv6") (peer_fields p) p.vpn_ipv6 refl l.vpn_ipv6;
}

good_dir : (d : NlKeyDir) → IsListedDir d → Good 1 (dir_data d)
unfolding dir_members
good_dir d l = good_object 0 (dir_fields d) refl (IsUtf8-are_ascii _ refl, shorts 0 d.cipher_key l.cipher_key, (IsUtf8-are_ascii _ refl, shorts 0 d.nonce_tail l.nonce_tail, tt))

-- Members of listed names have no names but those.
abbrev all_listed : List (List ℕ) → List Field → Bool
all_listed names [] = true
all_listed names (f ∷ fs) = is_among f.0 names && all_listed names fs

both : (a b : Bool) → (a && b) ≡ true → (a ≡ true) × (b ≡ true)
both true b h = (refl, h)
both false b h = absurd (cc h)

only_one : (names : List (List ℕ)) (name : List ℕ) (o : Option Data) (ms : Members) → is_among name names ≡ true → only_members names ms ≡ true → only_members names (with_field name o ms) ≡ true
only_one names name None ms a h = h
only_one names name (Some d) ms a h = rw (a, h) refl

only_given : (names : List (List ℕ)) (fs : List Field) → all_listed names fs ≡ true → only_members names (given fs) ≡ true
only_given names [] h = refl
only_given names (f ∷ fs) h = let parts = both (is_among f.0 names) (all_listed names fs) h in only_one names f.0 f.1 (given fs) parts.0 (only_given names fs parts.1)

dir_kind : (d : NlKeyDir) → IsListedDir d → IsDir (dir_data d) d
unfolding dir_members
dir_kind d l = record {
  only = only_given (codes "cipher-key" ∷ codes "nonce-tail" ∷ []) (dir_fields d) refl;
  cipher_key = has_field (IsHex most_key_bytes) hex (λ b. (length b ≤ most_key_bytes) × IsBytes b) (hex_kind most_key_bytes) (codes "cipher-key") (dir_fields d) d.cipher_key refl l.cipher_key;
  nonce_tail = has_field (IsHex most_key_bytes) hex (λ b. (length b ≤ most_key_bytes) × IsBytes b) (hex_kind most_key_bytes) (codes "nonce-tail") (dir_fields d) d.nonce_tail refl l.nonce_tail;
}

good_cipher : (c : Cipher) → Good 1 (string (cipher_word c))
good_cipher cipher.NoCipher = good_text 1 _ (IsUtf8-are_ascii _ refl)
good_cipher cipher.AesGcm = good_text 1 _ (IsUtf8-are_ascii _ refl)
good_cipher cipher.ChaCha20Poly1305 = good_text 1 _ (IsUtf8-are_ascii _ refl)

good_slot : (s : Slot) → Good 1 (string (slot_word s))
good_slot slot.Primary = good_text 1 _ (IsUtf8-are_ascii _ refl)
good_slot slot.Secondary = good_text 1 _ (IsUtf8-are_ascii _ refl)

good_reason : (r : Reason) → Good 1 (string (reason_word r))
good_reason reason.Teardown = good_text 1 _ (IsUtf8-are_ascii _ refl)
good_reason reason.Userspace = good_text 1 _ (IsUtf8-are_ascii _ refl)
good_reason reason.Expired = good_text 1 _ (IsUtf8-are_ascii _ refl)
good_reason reason.TransportError = good_text 1 _ (IsUtf8-are_ascii _ refl)
good_reason reason.TransportDisconnect = good_text 1 _ (IsUtf8-are_ascii _ refl)

good_conf : (names : List (List ℕ)) (k : NlKeyConf) → IsListedConf names k → Good 2 (conf_data k)
unfolding conf_members
good_conf names k l = good_object 1 (conf_fields k) refl (IsUtf8-are_ascii _ refl, words 1 cipher_word good_cipher k.cipher, (IsUtf8-are_ascii _ refl, good_map 1 dir_data IsListedDir good_dir k.decrypt l.decrypt, (IsUtf8-are_ascii _ refl, good_map 1 dir_data IsListedDir good_dir k.encrypt l.encrypt, (IsUtf8-are_ascii _ refl, numbers 1 k.key_id l.key_id, (IsUtf8-are_ascii _ refl, numbers 1 k.peer_id l.peer_id, (IsUtf8-are_ascii _ refl, words 1 slot_word good_slot k.slot, tt))))))

conf_kind : (names : List (List ℕ)) (k : NlKeyConf) → IsListedConf names k → IsConf names (conf_data k) k
unfolding conf_members
conf_kind names k l = record {
  only = l.only;
  peer_id = has_field (IsNumber most_number) num (λ n. n ≤ most_number) number_kind (codes "peer-id") (conf_fields k) k.peer_id refl l.peer_id;
  slot = has_field (IsWord slot_word) (λ (s : Slot). string (slot_word s)) (λ _. ⊤) (λ s h. refl) (codes "slot") (conf_fields k) k.slot refl (any k.slot);
  key_id = has_field (IsNumber most_number) num (λ n. n ≤ most_number) number_kind (codes "key-id") (conf_fields k) k.key_id refl l.key_id;
  cipher = has_field (IsWord cipher_word) (λ (c : Cipher). string (cipher_word c)) (λ _. ⊤) (λ c h. refl) (codes "cipher-alg") (conf_fields k) k.cipher refl (any k.cipher);
  encrypt = has_field IsDir dir_data IsListedDir dir_kind (codes "encrypt-dir") (conf_fields k) k.encrypt refl l.encrypt;
  decrypt = has_field IsDir dir_data IsListedDir dir_kind (codes "decrypt-dir") (conf_fields k) k.decrypt refl l.decrypt;
}

good_from : (t : Transport) → IsListedAddr t.addr → t.port ≤ 65535 → Good 2 (from_data t)
unfolding from_members
good_from t a p = good_object 1 (from_fields t) refl (IsUtf8-are_ascii _ refl, good_addr 1 t.addr a, (IsUtf8-are_ascii _ refl, good_number 1 t.port (omega arith), tt))

from_kind : (t : Transport) → IsListedAddr t.addr × (t.port ≤ 65535) → IsTransport (from_data t) t
unfolding from_members
from_kind t h = record {
  only = refl;
  addr = has_field IsAddr (λ (a : Addr). string (addr_text a)) IsListedAddr addr_kind (codes "addr") (from_fields t) (Some t.addr) refl h.0;
  port = has_field (IsNumber 65535) num (λ n. n ≤ 65535) (λ n s. (refl, s)) (codes "port") (from_fields t) (Some t.port) refl h.1;
}

good_lost : (id : PeerId) (why : Reason) → Good 2 (lost_data id why)
unfolding lost_members
good_lost id why = let small : id.number ≤ 16777215 = id.in_range in good_object 1 (lost_fields id why) refl (IsUtf8-are_ascii _ refl, good_reason why, (IsUtf8-are_ascii _ refl, good_number 1 id.number (omega (arith, small)), tt))

lost_kind : (id : PeerId) (why : Reason) → IsLoss (string (reason_word why)) why → IsLost (lost_data id why) (id, why)
unfolding lost_members
lost_kind id why h = record {
  only = refl;
  id = has_field IsId (λ (i : PeerId). num i.number) (λ _. ⊤) (λ i s. refl) (codes "id") (lost_fields id why) (Some id) refl tt;
  reason = has_field IsLoss (λ (r : Reason). string (reason_word r)) (λ r. IsLoss (string (reason_word r)) r) (λ r s. s) (codes "del-reason") (lost_fields id why) (Some why) refl h;
}

good_op : (o : NlOp) → Good 2 (string (op_word o))
good_op op.PeerNew = good_text 2 _ (IsUtf8-are_ascii _ refl)
good_op op.PeerSet = good_text 2 _ (IsUtf8-are_ascii _ refl)
good_op op.PeerGet = good_text 2 _ (IsUtf8-are_ascii _ refl)
good_op op.PeerDump = good_text 2 _ (IsUtf8-are_ascii _ refl)
good_op op.PeerDel = good_text 2 _ (IsUtf8-are_ascii _ refl)
good_op op.KeyNew = good_text 2 _ (IsUtf8-are_ascii _ refl)
good_op op.KeyGet = good_text 2 _ (IsUtf8-are_ascii _ refl)
good_op op.KeySwap = good_text 2 _ (IsUtf8-are_ascii _ refl)
good_op op.KeyDel = good_text 2 _ (IsUtf8-are_ascii _ refl)

-- ---- lines

good_line : (at lane : ℕ) (asked : Deed) → at ≤ most_number → lane ≤ most_number → IsListedDeed asked → Good 3 (object (line_members at lane asked))
unfolding line_members
good_line at lane (deed.Netlink m) a n l = good_object 2 (deed_fields at lane (deed.Netlink m)) refl (IsUtf8-are_ascii _ refl, good_number 2 at a, (IsUtf8-are_ascii _ refl, good_op m.op, (IsUtf8-are_ascii _ refl, numbers 2 m.ifindex l.ifindex, (IsUtf8-are_ascii _ refl, good_map 2 conf_data (IsListedConf (conf_names m.op)) (good_conf (conf_names m.op)) m.keyconf l.keyconf, (IsUtf8-are_ascii _ refl, good_number 2 lane n, (IsUtf8-are_ascii _ refl, good_map 2 peer_data (IsListedPeer (peer_names m.op)) (good_peer (peer_names m.op)) m.peer l.peer, tt))))))
good_line at lane (deed.Tx packet) a n l = good_object 2 (deed_fields at lane (deed.Tx packet)) refl (IsUtf8-are_ascii _ refl, good_number 2 at a, (IsUtf8-are_ascii _ refl, good_text 2 _ (IsUtf8-are_ascii _ refl), (IsUtf8-are_ascii _ refl, good_number 2 lane n, (IsUtf8-are_ascii _ refl, good_hex 2 packet l.1, tt))))
good_line at lane (deed.Rx from datagram) a n l = good_object 2 (deed_fields at lane (deed.Rx from datagram)) refl (IsUtf8-are_ascii _ refl, good_number 2 at a, (IsUtf8-are_ascii _ refl, good_hex 2 datagram l.3, (IsUtf8-are_ascii _ refl, good_text 2 _ (IsUtf8-are_ascii _ refl), (IsUtf8-are_ascii _ refl, good_from from l.0 l.1, (IsUtf8-are_ascii _ refl, good_number 2 lane n, tt)))))
good_line at lane (deed.Lost id why) a n l = good_object 2 (deed_fields at lane (deed.Lost id why)) refl (IsUtf8-are_ascii _ refl, good_number 2 at a, (IsUtf8-are_ascii _ refl, good_text 2 _ (IsUtf8-are_ascii _ refl), (IsUtf8-are_ascii _ refl, good_number 2 lane n, (IsUtf8-are_ascii _ refl, good_lost id why, tt))))
good_line at lane deed.Tick a n l = good_object 2 (deed_fields at lane deed.Tick) refl (IsUtf8-are_ascii _ refl, good_number 2 at a, (IsUtf8-are_ascii _ refl, good_text 2 _ (IsUtf8-are_ascii _ refl), (IsUtf8-are_ascii _ refl, good_number 2 lane n, tt)))
good_line at lane deed.Down a n l = good_object 2 (deed_fields at lane deed.Down) refl (IsUtf8-are_ascii _ refl, good_number 2 at a, (IsUtf8-are_ascii _ refl, good_text 2 _ (IsUtf8-are_ascii _ refl), (IsUtf8-are_ascii _ refl, good_number 2 lane n, tt)))

line_kind : (lanes at lane : ℕ) (asked : Deed) → IsListed lanes (record { lane = lane; at = at; deed = asked }) → IsLine lanes (object (line_members at lane asked)) (record { lane = lane; at = at; deed = asked })
unfolding line_members
line_kind lanes at lane (deed.Netlink m) l = record {
  at = has_field (IsNumber most_number) num (λ n. n ≤ most_number) number_kind (codes "at") (deed_fields at lane (deed.Netlink m)) (Some at) refl l.at;
  lane = has_field (IsNumber most_number) num (λ n. n ≤ most_number) number_kind (codes "lane") (deed_fields at lane (deed.Netlink m)) (Some lane) refl l.lane;
  below = l.below;
  word = has_field (IsWord deed_word) (λ (a : Deed). string (deed_word a)) (λ _. ⊤) (λ a h. refl) (codes "do") (deed_fields at lane (deed.Netlink m)) (Some (deed.Netlink m)) refl tt;
  deed = record {
    only = l.only;
    ifindex = has_field (IsNumber most_number) num (λ n. n ≤ most_number) number_kind (codes "ifindex") (deed_fields at lane (deed.Netlink m)) m.ifindex refl l.deed.ifindex;
    peer = has_field (IsPeer (peer_names m.op)) peer_data (IsListedPeer (peer_names m.op)) (peer_kind (peer_names m.op)) (codes "peer") (deed_fields at lane (deed.Netlink m)) m.peer refl l.deed.peer;
    keyconf = has_field (IsConf (conf_names m.op)) conf_data (IsListedConf (conf_names m.op)) (conf_kind (conf_names m.op)) (codes "keyconf") (deed_fields at lane (deed.Netlink m)) m.keyconf refl l.deed.keyconf;
  };
}
line_kind lanes at lane (deed.Tx packet) l = record {
  at = has_field (IsNumber most_number) num (λ n. n ≤ most_number) number_kind (codes "at") (deed_fields at lane (deed.Tx packet)) (Some at) refl l.at;
  lane = has_field (IsNumber most_number) num (λ n. n ≤ most_number) number_kind (codes "lane") (deed_fields at lane (deed.Tx packet)) (Some lane) refl l.lane;
  below = l.below;
  word = has_field (IsWord deed_word) (λ (a : Deed). string (deed_word a)) (λ _. ⊤) (λ a h. refl) (codes "do") (deed_fields at lane (deed.Tx packet)) (Some (deed.Tx packet)) refl tt;
  deed = record {
    only = refl;
    packet_is = has_field (IsHex longest_packet) hex (λ b. (length b ≤ longest_packet) × IsBytes b) (hex_kind longest_packet) (codes "packet") (deed_fields at lane (deed.Tx packet)) (Some packet) refl l.deed;
  };
}
line_kind lanes at lane (deed.Rx from datagram) l = record {
  at = has_field (IsNumber most_number) num (λ n. n ≤ most_number) number_kind (codes "at") (deed_fields at lane (deed.Rx from datagram)) (Some at) refl l.at;
  lane = has_field (IsNumber most_number) num (λ n. n ≤ most_number) number_kind (codes "lane") (deed_fields at lane (deed.Rx from datagram)) (Some lane) refl l.lane;
  below = l.below;
  word = has_field (IsWord deed_word) (λ (a : Deed). string (deed_word a)) (λ _. ⊤) (λ a h. refl) (codes "do") (deed_fields at lane (deed.Rx from datagram)) (Some (deed.Rx from datagram)) refl tt;
  deed = record {
    only = refl;
    sender = has_field IsTransport from_data (λ t. IsListedAddr t.addr × (t.port ≤ 65535)) from_kind (codes "from") (deed_fields at lane (deed.Rx from datagram)) (Some from) refl (l.deed.0, l.deed.1);
    datagram_is = has_field (IsHex longest_datagram) hex (λ b. (length b ≤ longest_datagram) × IsBytes b) (hex_kind longest_datagram) (codes "datagram") (deed_fields at lane (deed.Rx from datagram)) (Some datagram) refl (l.deed.2, l.deed.3);
  };
}
line_kind lanes at lane (deed.Lost id why) l = record {
  at = has_field (IsNumber most_number) num (λ n. n ≤ most_number) number_kind (codes "at") (deed_fields at lane (deed.Lost id why)) (Some at) refl l.at;
  lane = has_field (IsNumber most_number) num (λ n. n ≤ most_number) number_kind (codes "lane") (deed_fields at lane (deed.Lost id why)) (Some lane) refl l.lane;
  below = l.below;
  word = has_field (IsWord deed_word) (λ (a : Deed). string (deed_word a)) (λ _. ⊤) (λ a h. refl) (codes "do") (deed_fields at lane (deed.Lost id why)) (Some (deed.Lost id why)) refl tt;
  deed = record {
    only = refl;
    peer = has_field IsLost (λ (p : PeerId × Reason). lost_data p.0 p.1) (λ p. IsLoss (string (reason_word p.1)) p.1) (λ p h. lost_kind p.0 p.1 h) (codes "peer") (deed_fields at lane (deed.Lost id why)) (Some (id, why)) refl l.deed;
  };
}
line_kind lanes at lane deed.Tick l = record {
  at = has_field (IsNumber most_number) num (λ n. n ≤ most_number) number_kind (codes "at") (deed_fields at lane deed.Tick) (Some at) refl l.at;
  lane = has_field (IsNumber most_number) num (λ n. n ≤ most_number) number_kind (codes "lane") (deed_fields at lane deed.Tick) (Some lane) refl l.lane;
  below = l.below;
  word = has_field (IsWord deed_word) (λ (a : Deed). string (deed_word a)) (λ _. ⊤) (λ a h. refl) (codes "do") (deed_fields at lane deed.Tick) (Some deed.Tick) refl tt;
  deed = refl;
}
line_kind lanes at lane deed.Down l = record {
  at = has_field (IsNumber most_number) num (λ n. n ≤ most_number) number_kind (codes "at") (deed_fields at lane deed.Down) (Some at) refl l.at;
  lane = has_field (IsNumber most_number) num (λ n. n ≤ most_number) number_kind (codes "lane") (deed_fields at lane deed.Down) (Some lane) refl l.lane;
  below = l.below;
  word = has_field (IsWord deed_word) (λ (a : Deed). string (deed_word a)) (λ _. ⊤) (λ a h. refl) (codes "do") (deed_fields at lane deed.Down) (Some deed.Down) refl tt;
  deed = refl;
}

-- The canonical text of a listed line says it.
pub says_text : (lanes : ℕ) (line : Line) → IsListed lanes line → Says (line_text line) lanes line
unfolding line_text
says_text lanes line l =
    let good : Good 3 (line_data line) = good_line line.at line.lane line.deed l.at l.lane l.deed in
    record {
      utf8 = text_utf8 (line_data line) good.plain;
      value = line_data line;
      reads = good_reads (line_data line) good;
      is_line = line_kind lanes line.at line.lane line.deed l;
    }
