-- Bytes say one line at most.
use Rattle.std.proofs.Common.{◌≡◌, ◌∙◌, ℕ, List, [], ◌∷◌, ◌++◌, ◌==◌, if◌then◌else◌, length, decimal, codes, Option, Some, None, Result, Ok, true, refl, sym, ap, ap₂, subst}
use Rattle.std.specs.Prelude.{option_and_then}
use Rattle.std.specs.List.{AllPass}
use Rattle.std.specs.Net.Addr.{ipv4_octets}
use Rattle.std.specs.Net.Grammar.{IsDotted}
use Rattle.std.proofs.lemmas.Bool.{false≢true}
use Rattle.std.proofs.NetLemmas.Theorems.{IsIpv4Text_unique}
use Rattle.std.proofs.lemmas.List.Elements.{All-head, All-tail}
use Rattle.hex.specs.Hex.{is_hex_digit, decode_of, decode_sized}
use Rattle.hex.proofs.HexLemmas.{decode_of-same, decode_of-ok, decode_sized-ok, decode_sized-twice}
use Rattle.hex.specs.declared.error.FromHexError.{FromHexError}
use Rattle.serde_json.specs.Data.{Data, string, number, unsigned}
use Rattle.serde_json.specs.Find.{get, as_number, as_u64}
use Rattle.ov_base.specs.declared.address.Addr.TheVariants.{V4, V6}
use Rattle.ov_model.specs.Ident.{peer_id}
use Rattle.ov_model.specs.Limits.{longest_packet, longest_datagram}
use Rattle.ov_model.proofs.PeerIds.{peer_id_of}
use Rattle.ov_model.specs.declared.ident.PeerId.{PeerId}
use Rattle.ov_model.specs.declared.command.Slot.TheVariants as slot
use Rattle.ov_model.specs.declared.command.Reason.{Reason}
use Rattle.ov_model.specs.declared.command.Reason.TheVariants as reason
use Rattle.ov_model.specs.declared.line.Line.{Line}
use Rattle.ov_model.specs.declared.line.Deed.{Deed}
use Rattle.ov_model.specs.declared.line.Deed.TheVariants as deed
use Rattle.ov_model.specs.declared.netlink.Cipher.{Cipher}
use Rattle.ov_model.specs.declared.netlink.Cipher.TheVariants as cipher
use Rattle.ov_model.specs.declared.netlink.NlOp.{NlOp}
use Rattle.ov_model.specs.declared.netlink.NlMessage.{NlMessage}
use Rattle.ov_line.specs.declared.grammar.Form.{Form}
use Rattle.ov_line.specs.declared.grammar.Form.TheVariants as form
use Rattle.ov_line.specs.Values.{Given, Has, IsNumber, most_number, IsHex, IsIpv4, IsIpv6, IsAddr, IsWord}
use Rattle.ov_line.specs.Forms.{deed_form}
use Rattle.ov_line.specs.Grammar.{slot_word, cipher_word, peer_names, conf_names, most_key_bytes, IsPeer, IsDir, IsConf, IsTransport, IsId, IsLoss, IsLost, IsMessage, IsDeed, IsLine, Says}
use Rattle.ov_line.proofs.Has.{string_same}
use Rattle.ov_line.proofs.Options.{some_same}
use Rattle.ov_line.proofs.Words.{has_form, one_form}
use Rattle.ov_line.proofs.PlainText.{flat_dotted}

-- A kind of which no value says two things.
abbrev One : {A : Type 0} → (Data → A → Type 0) → Type 0
One {A} kind = (d : Data) (a b : A) → kind d a → kind d b → a ≡ b

-- Then what stands under a name is one.
given_same : {A : Type 0} (kind : Data → A → Type 0) → One kind → (o : Option Data) (x y : Option A) → Given kind o x → Given kind o y → x ≡ y
given_same kind one None None None h k = refl
given_same kind one None None (Some b) h k = absurd k
given_same kind one None (Some a) y h k = absurd h
given_same kind one (Some d) None y h k = absurd h
given_same kind one (Some d) (Some a) None h k = absurd k
given_same kind one (Some d) (Some a) (Some b) h k = ap Some (one d a b h k)

has_same : {A : Type 0} (kind : Data → A → Type 0) → One kind → (name : List ℕ) (d : Data) (x y : Option A) → Has kind name d x → Has kind name d y → x ≡ y
has_same kind one name d x y h k = given_same kind one (get name d) x y h k

needed_same : {A : Type 0} (kind : Data → A → Type 0) → One kind → (name : List ℕ) (d : Data) (a b : A) → Has kind name d (Some a) → Has kind name d (Some b) → a ≡ b
needed_same kind one name d a b h k = some_same a b (has_same kind one name d (Some a) (Some b) h k)

-- ---- kinds

unsigned_same : (m n : ℕ) → number (unsigned m) ≡ number (unsigned n) → m ≡ n
unsigned_same m n h = some_same m n (ap (λ (d : Data). option_and_then as_u64 (as_number d)) h)

number_one : (most : ℕ) → One (IsNumber most)
number_one most d a b h k = unsigned_same a b (sym h.0 ∙ k.0)

hex_one : (most : ℕ) → One (IsHex most)
hex_one most d a b h k =
    let same : h.text ≡ k.text = string_same _ _ (sym h.given ∙ k.given) in
    decode_of-same k.text a b (ap decode_of (sym same) ∙ h.digits) k.digits

dotted_one : (text a b : List ℕ) → IsDotted text a → IsDotted text b → a ≡ b
dotted_one text a b h k = ap ipv4_octets (IsIpv4Text_unique text (record { octets = a }) (record { octets = b }) h k)

ipv4_one : One IsIpv4
ipv4_one d a b h k =
    let same : h.text ≡ k.text = string_same _ _ (sym h.given ∙ k.given) in
    dotted_one k.text a b (subst (λ (t : List ℕ). IsDotted t a) same h.dotted) k.dotted

ok_same : (a b : List ℕ) → ◌≡◌ {A = Result (List ℕ) FromHexError} (Ok a) (Ok b) → a ≡ b
ok_same a b h = cc

ipv6_one : One IsIpv6
ipv6_one d a b h k =
    let same : h.text ≡ k.text = string_same _ _ (sym h.given ∙ k.given) in
    ok_same a b (sym h.digits ∙ ap (λ (t : List ℕ). decode_sized t 16) same ∙ k.digits)

-- A dot is no hexadecimal digit.
all_behind : (xs ys : List ℕ) → AllPass is_hex_digit (xs ++ ys) → AllPass is_hex_digit ys
all_behind [] ys h = h
all_behind (x ∷ xs) ys h = all_behind xs ys (All-tail (λ c. is_hex_digit c ≡ true) x (xs ++ ys) h)

no_dot : (xs ys : List ℕ) → ¬ (AllPass is_hex_digit (xs ++ 46 ∷ ys))
no_dot xs ys h = false≢true (All-head (λ c. is_hex_digit c ≡ true) 46 ys (all_behind xs (46 ∷ ys) h))

digits_of_sized : (text bytes : List ℕ) → decode_sized text 16 ≡ Ok bytes → AllPass is_hex_digit text
digits_of_sized text bytes h =
    let long = decode_sized-ok text 16 bytes h in
    (decode_of-ok text bytes (sym (decode_sized-twice text 16 long) ∙ h)).1

not_both : (text a b : List ℕ) → IsDotted text a → ¬ (decode_sized text 16 ≡ Ok b)
not_both text a b h k =
    let spelled : text ≡ decimal h.a ++ 46 ∷ (decimal h.b ++ 46 ∷ (decimal h.c ++ 46 ∷ decimal h.d)) = h.spelled ∙ flat_dotted h.a h.b h.c h.d in
    no_dot (decimal h.a) (decimal h.b ++ 46 ∷ (decimal h.c ++ 46 ∷ decimal h.d)) (subst (AllPass is_hex_digit) spelled (digits_of_sized text b k))

apart : (d : Data) (a b : List ℕ) → IsIpv4 d a → ¬ (IsIpv6 d b)
apart d a b h k =
    let same : h.text ≡ k.text = string_same _ _ (sym h.given ∙ k.given) in
    not_both k.text a b (subst (λ (t : List ℕ). IsDotted t a) same h.dotted) k.digits

addr_one : One IsAddr
addr_one d (V4 a) (V4 b) h k = ap V4 (ipv4_one d a b h k)
addr_one d (V4 a) (V6 b) h k = absurd (apart d a b h k)
addr_one d (V6 a) (V4 b) h k = absurd (apart d b a k h)
addr_one d (V6 a) (V6 b) h k = ap V6 (ipv6_one d a b h k)

slot_one : One (IsWord slot_word)
slot_one d slot.Primary slot.Primary h k = refl
slot_one d slot.Primary slot.Secondary h k = let same : slot_word slot.Primary ≡ slot_word slot.Secondary = string_same _ _ (sym h ∙ k) in absurd (cc same)
slot_one d slot.Secondary slot.Primary h k = let same : slot_word slot.Secondary ≡ slot_word slot.Primary = string_same _ _ (sym h ∙ k) in absurd (cc same)
slot_one d slot.Secondary slot.Secondary h k = refl

-- A cipher by the length of its word.
abbrev by_length : ℕ → Cipher
by_length n = if n == 4 then cipher.NoCipher else (if n == 7 then cipher.AesGcm else cipher.ChaCha20Poly1305)

length_back : (c : Cipher) → by_length (length (cipher_word c)) ≡ c
length_back cipher.NoCipher = refl
length_back cipher.AesGcm = refl
length_back cipher.ChaCha20Poly1305 = refl

cipher_one : One (IsWord cipher_word)
cipher_one d a b h k = sym (length_back a) ∙ ap (λ (w : List ℕ). by_length (length w)) (string_same _ _ (sym h ∙ k)) ∙ length_back b

id_one : One IsId
id_one d a b h k = some_same a b (peer_id_of a.number a.in_range ∙ ap peer_id (unsigned_same a.number b.number (sym h ∙ k)) ∙ sym (peer_id_of b.number b.in_range))

losses_apart : (d : Data) → d ≡ string (codes "transport-error") → ¬ (d ≡ string (codes "transport-disconnect"))
losses_apart d h k = let same : codes "transport-error" ≡ codes "transport-disconnect" = string_same _ _ (sym h ∙ k) in absurd (cc same)

loss_one : One IsLoss
loss_one d reason.Teardown b h k = absurd h
loss_one d reason.Userspace b h k = absurd h
loss_one d reason.Expired b h k = absurd h
loss_one d reason.TransportError reason.Teardown h k = absurd k
loss_one d reason.TransportError reason.Userspace h k = absurd k
loss_one d reason.TransportError reason.Expired h k = absurd k
loss_one d reason.TransportError reason.TransportError h k = refl
loss_one d reason.TransportError reason.TransportDisconnect h k = absurd (losses_apart d h k)
loss_one d reason.TransportDisconnect reason.Teardown h k = absurd k
loss_one d reason.TransportDisconnect reason.Userspace h k = absurd k
loss_one d reason.TransportDisconnect reason.Expired h k = absurd k
loss_one d reason.TransportDisconnect reason.TransportError h k = absurd (losses_apart d k h)
loss_one d reason.TransportDisconnect reason.TransportDisconnect h k = refl

-- ---- objects

peer_one : (names : List (List ℕ)) → One (IsPeer names)
peer_one names d p q h k =
    let numbers = λ (name : List ℕ) (x y : Option ℕ) (a : Has (IsNumber most_number) name d x) (b : Has (IsNumber most_number) name d y). has_same (IsNumber most_number) (number_one most_number) name d x y a b in
    let fours = λ (name : List ℕ) (x y : Option (List ℕ)) (a : Has IsIpv4 name d x) (b : Has IsIpv4 name d y). has_same IsIpv4 ipv4_one name d x y a b in
    let sixes = λ (name : List ℕ) (x y : Option (List ℕ)) (a : Has IsIpv6 name d x) (b : Has IsIpv6 name d y). has_same IsIpv6 ipv6_one name d x y a b in
    let e1 = numbers (codes "id") p.id q.id h.id k.id in
    let e2 = fours (codes "remote-ipv4") p.remote_ipv4 q.remote_ipv4 h.remote_ipv4 k.remote_ipv4 in
    let e3 = sixes (codes "remote-ipv6") p.remote_ipv6 q.remote_ipv6 h.remote_ipv6 k.remote_ipv6 in
    let e4 = numbers (codes "remote-ipv6-scope-id") p.remote_ipv6_scope_id q.remote_ipv6_scope_id h.remote_ipv6_scope_id k.remote_ipv6_scope_id in
    let e5 = numbers (codes "remote-port") p.remote_port q.remote_port h.remote_port k.remote_port in
    let e6 = numbers (codes "socket") p.socket q.socket h.socket k.socket in
    let e7 = numbers (codes "socket-netnsid") p.socket_netnsid q.socket_netnsid h.socket_netnsid k.socket_netnsid in
    let e8 = fours (codes "vpn-ipv4") p.vpn_ipv4 q.vpn_ipv4 h.vpn_ipv4 k.vpn_ipv4 in
    let e9 = sixes (codes "vpn-ipv6") p.vpn_ipv6 q.vpn_ipv6 h.vpn_ipv6 k.vpn_ipv6 in
    let e10 = fours (codes "local-ipv4") p.local_ipv4 q.local_ipv4 h.local_ipv4 k.local_ipv4 in
    let e11 = sixes (codes "local-ipv6") p.local_ipv6 q.local_ipv6 h.local_ipv6 k.local_ipv6 in
    let e12 = numbers (codes "local-port") p.local_port q.local_port h.local_port k.local_port in
    let e13 = numbers (codes "keepalive-interval") p.keepalive_interval q.keepalive_interval h.keepalive_interval k.keepalive_interval in
    let e14 = numbers (codes "keepalive-timeout") p.keepalive_timeout q.keepalive_timeout h.keepalive_timeout k.keepalive_timeout in
    λ i. record { id = e1 i; remote_ipv4 = e2 i; remote_ipv6 = e3 i; remote_ipv6_scope_id = e4 i; remote_port = e5 i; socket = e6 i; socket_netnsid = e7 i; vpn_ipv4 = e8 i; vpn_ipv6 = e9 i; local_ipv4 = e10 i; local_ipv6 = e11 i; local_port = e12 i; keepalive_interval = e13 i; keepalive_timeout = e14 i }

dir_one : One IsDir
dir_one d a b h k =
    let key = has_same (IsHex most_key_bytes) (hex_one most_key_bytes) (codes "cipher-key") d a.cipher_key b.cipher_key h.cipher_key k.cipher_key in
    let tail = has_same (IsHex most_key_bytes) (hex_one most_key_bytes) (codes "nonce-tail") d a.nonce_tail b.nonce_tail h.nonce_tail k.nonce_tail in
    λ i. record { cipher_key = key i; nonce_tail = tail i }

conf_one : (names : List (List ℕ)) → One (IsConf names)
conf_one names d a b h k =
    let peer = has_same (IsNumber most_number) (number_one most_number) (codes "peer-id") d a.peer_id b.peer_id h.peer_id k.peer_id in
    let slot = has_same (IsWord slot_word) slot_one (codes "slot") d a.slot b.slot h.slot k.slot in
    let key = has_same (IsNumber most_number) (number_one most_number) (codes "key-id") d a.key_id b.key_id h.key_id k.key_id in
    let cipher = has_same (IsWord cipher_word) cipher_one (codes "cipher-alg") d a.cipher b.cipher h.cipher k.cipher in
    let encrypt = has_same IsDir dir_one (codes "encrypt-dir") d a.encrypt b.encrypt h.encrypt k.encrypt in
    let decrypt = has_same IsDir dir_one (codes "decrypt-dir") d a.decrypt b.decrypt h.decrypt k.decrypt in
    λ i. record { peer_id = peer i; slot = slot i; key_id = key i; cipher = cipher i; encrypt = encrypt i; decrypt = decrypt i }

transport_one : One IsTransport
transport_one d a b h k =
    let addr = needed_same IsAddr addr_one (codes "addr") d a.addr b.addr h.addr k.addr in
    let port = needed_same (IsNumber 65535) (number_one 65535) (codes "port") d a.port b.port h.port k.port in
    λ i. record { addr = addr i; port = port i }

lost_one : One IsLost
lost_one d a b h k =
    let id = needed_same IsId id_one (codes "id") d a.0 b.0 h.id k.id in
    let why = needed_same IsLoss loss_one (codes "del-reason") d a.1 b.1 h.reason k.reason in
    λ i. (id i, why i)

-- ---- lines

message_one : (d : Data) (m n : NlMessage) → m.op ≡ n.op → IsMessage d m → IsMessage d n → m ≡ n
message_one d m n op h k =
    let ifindex = has_same (IsNumber most_number) (number_one most_number) (codes "ifindex") d m.ifindex n.ifindex h.ifindex k.ifindex in
    let P : NlOp → Type 0 = λ o. Has (IsPeer (peer_names o)) (codes "peer") d m.peer in
    let K : NlOp → Type 0 = λ o. Has (IsConf (conf_names o)) (codes "keyconf") d m.keyconf in
    let peer = has_same (IsPeer (peer_names n.op)) (peer_one (peer_names n.op)) (codes "peer") d m.peer n.peer (subst P op h.peer) k.peer in
    let conf = has_same (IsConf (conf_names n.op)) (conf_one (conf_names n.op)) (codes "keyconf") d m.keyconf n.keyconf (subst K op h.keyconf) k.keyconf in
    λ i. record { op = op i; ifindex = ifindex i; peer = peer i; keyconf = conf i }

abbrev op_of : Form → Option NlOp
op_of (form.Netlink o) = Some o
op_of form.Tx = None
op_of form.Rx = None
op_of form.Lost = None
op_of form.Tick = None
op_of form.Down = None

deed_one : (d : Data) (a b : Deed) → deed_form a ≡ deed_form b → IsDeed d a → IsDeed d b → a ≡ b
deed_one d (deed.Netlink m) (deed.Netlink n) e h k = ap deed.Netlink (message_one d m n (some_same _ _ (ap op_of e)) h k)
deed_one d (deed.Netlink m) (deed.Tx y) e h k = absurd (cc e)
deed_one d (deed.Netlink m) (deed.Rx g y) e h k = absurd (cc e)
deed_one d (deed.Netlink m) (deed.Lost i w) e h k = absurd (cc e)
deed_one d (deed.Netlink m) deed.Tick e h k = absurd (cc e)
deed_one d (deed.Netlink m) deed.Down e h k = absurd (cc e)
deed_one d (deed.Tx x) (deed.Netlink n) e h k = absurd (cc e)
deed_one d (deed.Tx x) (deed.Tx y) e h k = ap deed.Tx (needed_same (IsHex longest_packet) (hex_one longest_packet) (codes "packet") d x y h.packet_is k.packet_is)
deed_one d (deed.Tx x) (deed.Rx g y) e h k = absurd (cc e)
deed_one d (deed.Tx x) (deed.Lost i w) e h k = absurd (cc e)
deed_one d (deed.Tx x) deed.Tick e h k = absurd (cc e)
deed_one d (deed.Tx x) deed.Down e h k = absurd (cc e)
deed_one d (deed.Rx f x) (deed.Netlink n) e h k = absurd (cc e)
deed_one d (deed.Rx f x) (deed.Tx y) e h k = absurd (cc e)
deed_one d (deed.Rx f x) (deed.Rx g y) e h k = ap₂ deed.Rx (needed_same IsTransport transport_one (codes "from") d f g h.sender k.sender) (needed_same (IsHex longest_datagram) (hex_one longest_datagram) (codes "datagram") d x y h.datagram_is k.datagram_is)
deed_one d (deed.Rx f x) (deed.Lost i w) e h k = absurd (cc e)
deed_one d (deed.Rx f x) deed.Tick e h k = absurd (cc e)
deed_one d (deed.Rx f x) deed.Down e h k = absurd (cc e)
deed_one d (deed.Lost j v) (deed.Netlink n) e h k = absurd (cc e)
deed_one d (deed.Lost j v) (deed.Tx y) e h k = absurd (cc e)
deed_one d (deed.Lost j v) (deed.Rx g y) e h k = absurd (cc e)
deed_one d (deed.Lost j v) (deed.Lost i w) e h k = ap (λ (p : PeerId × Reason). deed.Lost p.0 p.1) (needed_same IsLost lost_one (codes "peer") d (j, v) (i, w) h.peer k.peer)
deed_one d (deed.Lost j v) deed.Tick e h k = absurd (cc e)
deed_one d (deed.Lost j v) deed.Down e h k = absurd (cc e)
deed_one d deed.Tick (deed.Netlink n) e h k = absurd (cc e)
deed_one d deed.Tick (deed.Tx y) e h k = absurd (cc e)
deed_one d deed.Tick (deed.Rx g y) e h k = absurd (cc e)
deed_one d deed.Tick (deed.Lost i w) e h k = absurd (cc e)
deed_one d deed.Tick deed.Tick e h k = refl
deed_one d deed.Tick deed.Down e h k = absurd (cc e)
deed_one d deed.Down (deed.Netlink n) e h k = absurd (cc e)
deed_one d deed.Down (deed.Tx y) e h k = absurd (cc e)
deed_one d deed.Down (deed.Rx g y) e h k = absurd (cc e)
deed_one d deed.Down (deed.Lost i w) e h k = absurd (cc e)
deed_one d deed.Down deed.Tick e h k = absurd (cc e)
deed_one d deed.Down deed.Down e h k = refl

line_one : (lanes : ℕ) (d : Data) (a b : Line) → IsLine lanes d a → IsLine lanes d b → a ≡ b
line_one lanes d a b h k =
    let at = needed_same (IsNumber most_number) (number_one most_number) (codes "at") d a.at b.at h.at k.at in
    let lane = needed_same (IsNumber most_number) (number_one most_number) (codes "lane") d a.lane b.lane h.lane k.lane in
    let form = one_form (codes "do") d (deed_form a.deed) (deed_form b.deed) (has_form (codes "do") d a.deed h.word) (has_form (codes "do") d b.deed k.word) in
    let deed = deed_one d a.deed b.deed form h.deed k.deed in
    λ i. record { lane = lane i; at = at i; deed = deed i }

-- Bytes say one line at most.
pub says_one : (bytes : List ℕ) (lanes : ℕ) (a b : Line) → Says bytes lanes a → Says bytes lanes b → a ≡ b
says_one bytes lanes a b h k =
    let same : h.value ≡ k.value = some_same _ _ (sym h.reads ∙ k.reads) in
    line_one lanes k.value a b (subst (λ (d : Data). IsLine lanes d a) same h.is_line) k.is_line
