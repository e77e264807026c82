-- The text of an object goes on name by name.
use Rattle.std.proofs.Common.{◌≡◌, ◌∙◌, ℕ, List, [], ◌∷◌, ◌++◌, ◌≤◌, ◌==◌, ◌&&◌, not, nat_le, codes, Bool, true, false, Option, Some, refl, sym, subst, ap, ap₂, append_assoc, arith}
use Rattle.json.specs.Print.{escape}
use Rattle.json.proofs.Printed.Strings.{escape_byte_plain}
use Rattle.std.proofs.lemmas.Bool.Decides.{nat_tests}
use Rattle.serde_json.specs.Data.{Data, string, object, Members}
use Rattle.serde_json.specs.Written.{comma_if, compact_text, members_text}
use Rattle.ov_model.specs.declared.command.Slot.{Slot}
use Rattle.ov_model.specs.declared.command.Slot.TheVariants as slot
use Rattle.ov_model.specs.declared.command.Reason.{Reason}
use Rattle.ov_model.specs.declared.command.Reason.TheVariants as reason
use Rattle.ov_model.specs.declared.netlink.Cipher.{Cipher}
use Rattle.ov_model.specs.declared.netlink.Cipher.TheVariants as cipher
use Rattle.ov_model.specs.declared.netlink.NlOp.{NlOp}
use Rattle.ov_model.specs.declared.netlink.NlOp.TheVariants as op
use Rattle.ov_line.specs.Grammar.{op_word, cipher_word, slot_word}
use Rattle.ov_write.specs.Text.{Field, given, reason_word, Puts}

-- A name's text, with the comma and the colon.
abbrev pub name_text : Bool → List ℕ → List ℕ
name_text later name = comma_if later ++ (34 ∷ (name ++ codes "\":"))

-- A name and its value are put.
pub puts_value : (old new : List ℕ) (later : Bool) (name : List ℕ) (d : Data) → new ≡ (old ++ name_text later name) ++ compact_text d → escape name ≡ name → Puts old new later true name (Some d)
puts_value old new later name d e plain rest =
    let value : List ℕ = compact_text d ++ members_text true rest in
    let key : (escape name ++ 34 ∷ []) ++ 58 ∷ value ≡ name ++ (34 ∷ 58 ∷ value) = append_assoc (escape name) (34 ∷ []) (58 ∷ value) ∙ ap (λ n. n ++ (34 ∷ 58 ∷ value)) plain in
    let front : name_text later name ++ value ≡ comma_if later ++ (34 ∷ (name ++ (34 ∷ 58 ∷ value))) =
    append_assoc (comma_if later) (34 ∷ (name ++ codes "\":")) value ∙ ap (λ l. comma_if later ++ (34 ∷ l)) (append_assoc name (codes "\":") value) in
    ap (λ n. n ++ members_text true rest) e
    ∙ append_assoc (old ++ name_text later name) (compact_text d) (members_text true rest)
    ∙ append_assoc old (name_text later name) value
    ∙ ap (λ l. old ++ l) (front ∙ sym (ap (λ l. comma_if later ++ (34 ∷ l)) key))

-- A text between its quotes is the text of the value.
pub text_value : (page text : List ℕ) → escape text ≡ text → ((page ++ 34 ∷ []) ++ text) ++ 34 ∷ [] ≡ page ++ compact_text (string text)
text_value page text plain =
    append_assoc (page ++ 34 ∷ []) text (34 ∷ []) ∙ append_assoc page (34 ∷ []) (text ++ 34 ∷ [])
    ∙ ap (λ t. page ++ (34 ∷ (t ++ 34 ∷ []))) (sym plain)

-- An object is put, from its brace on.
pub puts_object : (old named opened new : List ℕ) (later : Bool) (name : List ℕ) (ms : Members) → named ≡ old ++ name_text later name → opened ≡ named ++ 123 ∷ [] → new ≡ opened ++ members_text false ms → escape name ≡ name → Puts old new later true name (Some (object ms))
puts_object old named opened new later name ms e0 e1 e2 plain =
    puts_value old new later name (object ms)
    (e2 ∙ ap (λ p. p ++ members_text false ms) e1 ∙ append_assoc named (123 ∷ []) (members_text false ms) ∙ ap (λ p. p ++ 123 ∷ members_text false ms) e0)
    plain

-- One name more in front of those that follow.
pub puts_on : (old new : List ℕ) (later now : Bool) (name : List ℕ) (value : Option Data) (fs : List Field) (last : List ℕ) → Puts old new later now name value → last ≡ new ++ members_text now (given fs) → last ≡ old ++ members_text later (given ((name, value) ∷ fs))
puts_on old new later now name value fs last puts behind = behind ∙ puts (given fs)

-- A text of no control character, quote or backslash is not escaped.
abbrev pub is_unescaped : List ℕ → Bool
is_unescaped [] = true
is_unescaped (c ∷ cs) = (nat_le 35 c && not (c == 92)) && is_unescaped cs

plain_byte : (c : ℕ) → (nat_le 35 c && not (c == 92)) ≡ true → (32 ≤ c) × (c ≡ 34 → ⊥) × (c ≡ 92 → ⊥)
plain_byte c h = grind (arith, nat_tests)

both_true : (a b : Bool) → (a && b) ≡ true → (a ≡ true) × (b ≡ true)
both_true true b h = (refl, h)
both_true false b h = absurd (cc h)

pub plain_text : (s : List ℕ) → is_unescaped s ≡ true → escape s ≡ s
plain_text [] h = refl
plain_text (c ∷ cs) h =
    let parts = both_true (nat_le 35 c && not (c == 92)) (is_unescaped cs) h in
    let plain = plain_byte c parts.0 in
    ap₂ (λ (a b : List ℕ). a ++ b) (escape_byte_plain c plain.1 plain.2 plain.0) (plain_text cs parts.1)

pub cipher_plain : (c : Cipher) → escape (cipher_word c) ≡ cipher_word c
cipher_plain cipher.NoCipher = plain_text (codes "none") refl
cipher_plain cipher.AesGcm = plain_text (codes "aes-gcm") refl
cipher_plain cipher.ChaCha20Poly1305 = plain_text (codes "chacha20-poly1305") refl

pub slot_plain : (s : Slot) → escape (slot_word s) ≡ slot_word s
slot_plain slot.Primary = plain_text (codes "primary") refl
slot_plain slot.Secondary = plain_text (codes "secondary") refl

pub reason_plain : (r : Reason) → escape (reason_word r) ≡ reason_word r
reason_plain reason.Teardown = plain_text (codes "teardown") refl
reason_plain reason.Userspace = plain_text (codes "userspace") refl
reason_plain reason.Expired = plain_text (codes "expired") refl
reason_plain reason.TransportError = plain_text (codes "transport-error") refl
reason_plain reason.TransportDisconnect = plain_text (codes "transport-disconnect") refl

pub op_plain : (o : NlOp) → escape (op_word o) ≡ op_word o
op_plain op.PeerNew = plain_text (codes "peer-new") refl
op_plain op.PeerSet = plain_text (codes "peer-set") refl
op_plain op.PeerGet = plain_text (codes "peer-get") refl
op_plain op.PeerDump = plain_text (codes "peer-dump") refl
op_plain op.PeerDel = plain_text (codes "peer-del") refl
op_plain op.KeyNew = plain_text (codes "key-new") refl
op_plain op.KeyGet = plain_text (codes "key-get") refl
op_plain op.KeySwap = plain_text (codes "key-swap") refl
op_plain op.KeyDel = plain_text (codes "key-del") refl

-- A word of some text is put.
pub puts_word : (old new : List ℕ) (later : Bool) (name text word : List ℕ) → text ≡ word → escape word ≡ word → (escape text ≡ text → Puts old new later true name (Some (string text))) → Puts old new later true name (Some (string word))
puts_word old new later name text word same plain puts =
    subst (λ (t : List ℕ). Puts old new later true name (Some (string t))) same (puts (subst (λ (t : List ℕ). escape t ≡ t) (sym same) plain))
