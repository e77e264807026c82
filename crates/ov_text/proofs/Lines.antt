-- The texts of replies, of what was sealed and of lists, as the pieces that they are put together of.
use Rattle.std.proofs.Common.{ℕ, ◌≡◌, ◌+◌, ◌<◌, ◌∙◌, List, ◌++◌, Bool, true, length, drop, get_or, refl, sym, ap, append_assoc}
use Rattle.std.specs.Prelude.{codes, decimal, map, false, Result, OnOk}
use Rattle.std.proofs.lemmas.Result.{on_ok_weaker}
use Rattle.json.specs.Print.{escape}
use Rattle.serde_json.specs.View.{items_of}
use Rattle.serde_json.specs.Written.{comma_if, compact_text, items_text}
use Rattle.serde_json.proofs.OnLiterals.{serde_json_on_literals}
use Rattle.ov_model.specs.declared.reply.Errno.{Errno}
use Rattle.ov_model.specs.declared.reply.HoldView.{HoldView}
use Rattle.ov_model.specs.declared.command.Slot.{Slot}
use Rattle.ov_model.specs.declared.command.Slot.TheVariants as slot
use Rattle.ov_model.specs.declared.netlink.Cipher.{Cipher}
use Rattle.ov_model.specs.declared.netlink.Cipher.TheVariants as cipher
use Rattle.ov_model.specs.declared.reply.KeyView.{KeyView}
use Rattle.ov_model.specs.declared.reply.PeerView.{PeerView}
use Rattle.ov_model.specs.declared.reply.Settled.{Settled}
use Rattle.ov_model.specs.declared.reply.Settled.TheVariants as settled
use Rattle.ov_model.specs.declared.reply.Reply.TheVariants as reply
use Rattle.serde_json.specs.Data.{Data}
use Rattle.hex.specs.Hex.{encode_lower}
use Rattle.std.proofs.lemmas.List.{drop_more}
use Rattle.ov_model.specs.declared.answer.PingOut.{PingOut}
use Rattle.ov_model.specs.declared.answer.PingOutcome.TheVariants as outcome
use Rattle.ov_model.specs.declared.answer.SealedOut.{SealedOut}
use Rattle.ov_text.specs.Pieces.{num, addr_text}
use Rattle.ov_text.specs.Sealed.{sealed_members, sealed_data, outcome_data, ping_data}
use Rattle.ov_text.specs.Replies.{slot_name, cipher_name, view_data, settled_name, errno_number, reply_text}

-- Two pieces at the end of a page, one after the other.
pub joined : (page mid new front back : List ℕ) → mid ≡ page ++ front → new ≡ mid ++ back → new ≡ page ++ (front ++ back)
joined page mid new front back first second = second ∙ ap (λ t. t ++ back) first ∙ append_assoc page front back

-- A call's piece at the end of a page, as another text that it is.
pub kept_on : {T E : Type 0} (r : Result T E) (new page piece text : List ℕ) → OnOk r (new ≡ page ++ piece) → text ≡ piece → OnOk r (new ≡ page ++ text)
kept_on r new page piece text put is = on_ok_weaker r (λ (at_end : new ≡ page ++ piece). at_end ∙ ap (λ t. page ++ t) (sym is)) put

settled_plain : (s : Settled) → escape (settled_name s) ≡ settled_name s
unfolding serde_json_on_literals
settled_plain settled.Deliver = refl
settled_plain settled.Ping = refl
settled_plain settled.NotIp = refl
settled_plain settled.NotOwner = refl

-- ---- replies

pub made_pieces : (n : ℕ) → reply_text (reply.Made n) ≡ codes "{\"serial\":" ++ (decimal n ++ codes "}")
unfolding serde_json_on_literals reply_text
made_pieces n = refl

pub released_pieces : (n : ℕ) → reply_text (reply.Released n) ≡ codes "{\"released\":" ++ (decimal n ++ codes "}")
unfolding serde_json_on_literals reply_text
released_pieces n = refl

pub key_released_pieces : (n : ℕ) → reply_text (reply.KeyReleased n) ≡ codes "{\"key-released\":" ++ (decimal n ++ codes "}")
unfolding serde_json_on_literals reply_text
key_released_pieces n = refl

pub refused_pieces : (e : Errno) → reply_text (reply.Refused e) ≡ codes "{\"error\":" ++ (decimal (errno_number e) ++ codes "}")
unfolding serde_json_on_literals reply_text
refused_pieces e = refl

pub done_text : reply_text reply.Done ≡ codes "{\"ok\":true}"
unfolding serde_json_on_literals reply_text
done_text = refl

pub no_peer_text : reply_text reply.NoPeer ≡ codes "{\"none\":\"no-peer\"}"
unfolding serde_json_on_literals reply_text
no_peer_text = refl

pub no_key_text : reply_text reply.NoKey ≡ codes "{\"none\":\"no-key\"}"
unfolding serde_json_on_literals reply_text
no_key_text = refl

pub skip_text : reply_text reply.Skip ≡ codes "{\"none\":\"skip\"}"
unfolding serde_json_on_literals reply_text
skip_text = refl

pub killed_text : reply_text reply.Killed ≡ codes "{\"spend\":\"killed\"}"
unfolding serde_json_on_literals reply_text
killed_text = refl

pub already_gone_text : reply_text reply.AlreadyGone ≡ codes "{\"spend\":\"already-gone\"}"
unfolding serde_json_on_literals reply_text
already_gone_text = refl

slot_plain : (s : Slot) → escape (slot_name s) ≡ slot_name s
unfolding serde_json_on_literals
slot_plain slot.Primary = refl
slot_plain slot.Secondary = refl

cipher_plain : (c : Cipher) → escape (cipher_name c) ≡ cipher_name c
unfolding serde_json_on_literals
cipher_plain cipher.NoCipher = refl
cipher_plain cipher.AesGcm = refl
cipher_plain cipher.ChaCha20Poly1305 = refl

pub peer_pieces : (v : PeerView) → reply_text (reply.Peer v) ≡ codes "{\"peer\":" ++ (compact_text (view_data v) ++ codes "}")
unfolding serde_json_on_literals reply_text
peer_pieces v = refl

pub peers_pieces : (vs : List PeerView) → reply_text (reply.Peers vs) ≡ codes "{\"peers\":[" ++ (items_text false (items_of (map view_data vs)) ++ codes "}")
unfolding serde_json_on_literals reply_text
peers_pieces vs = refl

pub key_pieces : (k : KeyView) → reply_text (reply.Key k) ≡ (codes "{\"key\":{\"cipher-alg\":\"" ++ cipher_name k.cipher) ++ ((codes "\",\"key-id\":" ++ decimal k.key_id.number) ++ ((codes ",\"peer-id\":" ++ decimal k.peer.number) ++ ((codes ",\"slot\":\"" ++ slot_name k.slot) ++ codes "\"}}")))
unfolding serde_json_on_literals reply_text
key_pieces k = simp (cipher_plain k.cipher, slot_plain k.slot, append_assoc)

pub removed_pieces : (ns : List ℕ) → reply_text (reply.Removed ns) ≡ codes "{\"removed\":[" ++ (items_text false (items_of (map num ns)) ++ codes "}")
unfolding serde_json_on_literals reply_text
removed_pieces ns = refl

pub ticked_pieces : (expired due : List ℕ) → reply_text (reply.Ticked expired due) ≡ codes "{\"due\":[" ++ (items_text false (items_of (map num due)) ++ (codes ",\"expired\":[" ++ (items_text false (items_of (map num expired)) ++ codes "}")))
unfolding serde_json_on_literals reply_text
ticked_pieces expired due = simp append_assoc

pub hold_pieces : (h : HoldView) → reply_text (reply.Hold h) ≡ (codes "{\"hold\":{\"key\":" ++ decimal h.key) ++ (codes ",\"peer\":" ++ (decimal h.peer ++ codes "}}"))
unfolding serde_json_on_literals reply_text
hold_pieces h = simp append_assoc

pub settled_pieces : (s : Settled) → reply_text (reply.Settled s) ≡ (codes "{\"settled\":\"" ++ settled_name s) ++ codes "\"}"
unfolding serde_json_on_literals reply_text
settled_pieces s = simp (settled_plain s, append_assoc)

-- ---- what was sealed

pub sealed_pieces : (s : SealedOut) → escape (encode_lower s.datagram) ≡ encode_lower s.datagram → escape (addr_text s.to.addr) ≡ addr_text s.to.addr
    → compact_text (sealed_data s) ≡ codes "{\"sealed\":{\"datagram\":\"" ++ (encode_lower s.datagram ++ ((codes "\",\"id\":" ++ decimal s.id) ++ ((codes ",\"key\":" ++ decimal s.key) ++ (codes ",\"to\":{\"addr\":\"" ++ (addr_text s.to.addr ++ ((codes "\",\"port\":" ++ decimal s.to.port) ++ codes "}}}"))))))
unfolding serde_json_on_literals sealed_data sealed_members
sealed_pieces s plain addr = simp (plain, addr, append_assoc)

pub outcome_sealed : (s : SealedOut) → compact_text (outcome_data (outcome.Sealed s)) ≡ compact_text (sealed_data s)
unfolding outcome_data
outcome_sealed s = refl

pub outcome_spent : compact_text (outcome_data outcome.Spent) ≡ codes "{\"dropped\":\"spent\"}"
unfolding serde_json_on_literals outcome_data
outcome_spent = refl

pub outcome_skip : compact_text (outcome_data outcome.Skip) ≡ codes "{\"none\":\"skip\"}"
unfolding serde_json_on_literals outcome_data
outcome_skip = refl

pub ping_pieces : (p : PingOut) → compact_text (ping_data p) ≡ codes "{\"outcome\":" ++ (compact_text (outcome_data p.outcome) ++ (codes ",\"peer\":" ++ (decimal p.peer ++ codes "}")))
unfolding serde_json_on_literals ping_data
ping_pieces p = simp append_assoc

-- ---- the members of a list

pub number_text : (n : ℕ) → compact_text (num n) ≡ decimal n
unfolding serde_json_on_literals
number_text n = refl

-- One member more of a list, with the comma before it.
pub items_more : {X : Type 0} (json : X → Data) (page mid new all : List ℕ) (later : Bool) (xs : List X) (i : ℕ) (d x : X) → i < length xs → x ≡ get_or xs i d
    → page ++ items_text later (items_of (map json (drop i xs))) ≡ all → mid ≡ page ++ comma_if later → new ≡ mid ++ compact_text (json x)
    → new ++ items_text true (items_of (map json (drop (i + 1) xs))) ≡ all
items_more json page mid new all later xs i d x below is so_far comma put =
    let e = get_or xs i d in
    let shown : List ℕ = compact_text (json e) in
    let rest : List ℕ = items_text true (items_of (map json (drop (i + 1) xs))) in
    let opened : page ++ (comma_if later ++ (shown ++ rest)) ≡ all = rw (drop_more xs i d below) at so_far in
    ap (λ t. t ++ rest) (put ∙ ap (λ t. t ++ compact_text (json x)) comma ∙ ap (λ w. (page ++ comma_if later) ++ compact_text (json w)) is)
    ∙ append_assoc (page ++ comma_if later) shown rest ∙ append_assoc page (comma_if later) (shown ++ rest) ∙ opened
