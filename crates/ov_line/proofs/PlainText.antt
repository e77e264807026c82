-- Values of plain numbers and texts: their compact text reads as the value.
use Rattle.std.proofs.Common.{◌≡◌, ◌∙◌, subst, ℕ, ◌<◌, ◌≤◌, ◌^◌, List, [], ◌∷◌, ◌++◌, Bool, true, false, Some, Ok, refl, sym, ap, ap₂, append-nil, append_assoc, arith, length, get_or, Fits, w8}
use Rattle.std.specs.Char.{digit_value}
use Rattle.std.specs.Str.Parse.{AllDigits}
use Rattle.std.specs.Net.Grammar.{IsDotted}
use Rattle.std.specs.Net.Text.{dotted_text, ipv4_text}
use Rattle.std.proofs.NetLemmas.Texts.{IsDotted-ipv4_text}
use Rattle.std.proofs.lemmas.Grind.{flat_map-append}
use Rattle.std.specs.Prelude.{⊤, decimal, option_and_then}
use Rattle.std.specs.List.{AllPass}
use Rattle.std.specs.Str.{IsUtf8, IsAscii}
use Rattle.std.proofs.lemmas.Str.{IsUtf8-append, IsUtf8-from_ascii}
use Rattle.std.proofs.lemmas.Str.Ascii.{IsAscii-nil, IsAscii-cons}
use Rattle.std.proofs.lemmas.Fmt.{IsAscii-decimal, decimal_is_IsNumeral}
use Rattle.std.proofs.lemmas.List.Elements.{All-head, All-tail}
use Rattle.json.specs.Json as json
use Rattle.json.specs.Token.{Token}
use Rattle.json.specs.Lex.{tokens}
use Rattle.json.specs.Print.{escape, escape_byte, quoted}
use Rattle.json.specs.Tree as tree
use Rattle.json.proofs.Printed.Decimals.{IsNumber-decimal}
use Rattle.json.proofs.Printed.Strings.{escape_byte_plain}
use Rattle.json.proofs.Printed.Tokens.{tokens-print}
use Rattle.json.proofs.Printed.Trees.{value-json_tokens, ArePrintable-json_tokens}
use Rattle.json.proofs.Printed.Utf8.{IsUtf8-are_ascii, IsUtf8-quoted, IsUtf8-key}
use Rattle.serde_json.specs.Data.{Data, null, boolean, number, string, array, object, unsigned, negative, float, Members, no_members, member}
use Rattle.serde_json.specs.Read.{read, of_json, max_depth}
use Rattle.serde_json.specs.Written.{outline, members_outline, compact_text, members_text, comma_if}
use Rattle.serde_json.proofs.Texts.{print-outline}
use Rattle.hex.specs.Hex.{is_hex_digit, decode_of, encode_lower}
use Rattle.hex.proofs.HexLemmas.{decode_of-ok, decode_of-encode_lower}

-- A value of objects, whole numbers without a sign, and texts in UTF-8.
abbrev mutual
  pub IsPlain : Data → Type 0
  IsPlain null = ⊥
  IsPlain (boolean b) = ⊥
  IsPlain (number (unsigned n)) = n < 2 ^ 64
  IsPlain (number (negative z)) = ⊥
  IsPlain (number (float x)) = ⊥
  IsPlain (string s) = IsUtf8 s
  IsPlain (array ds) = ⊥
  IsPlain (object ms) = ArePlain ms

  pub ArePlain : Members → Type 0
  ArePlain no_members = ⊤
  ArePlain (member k d ms) = IsUtf8 k × IsPlain d × ArePlain ms

mutual
  numbers_of : (d : Data) → IsPlain d → tree.HasNumbers (outline d)
  numbers_of null h = absurd h
  numbers_of (boolean b) h = absurd h
  numbers_of (number (unsigned n)) h = IsNumber-decimal n h
  numbers_of (number (negative z)) h = absurd h
  numbers_of (number (float x)) h = absurd h
  numbers_of (string s) h = tt
  numbers_of (array ds) h = absurd h
  numbers_of (object ms) h = members_numbers ms h

  members_numbers : (ms : Members) → ArePlain ms → tree.MembersHaveNumbers (members_outline ms)
  members_numbers no_members h = tt
  members_numbers (member k d ms) h = (numbers_of d h.1, members_numbers ms h.2)

comma_utf8 : (later : Bool) → IsUtf8 (comma_if later)
comma_utf8 true = IsUtf8-are_ascii _ refl
comma_utf8 false = IsUtf8-are_ascii _ refl

mutual
  -- The text of a plain value is UTF-8.
  pub text_utf8 : (d : Data) → IsPlain d → IsUtf8 (compact_text d)
  text_utf8 null h = absurd h
  text_utf8 (boolean b) h = absurd h
  text_utf8 (number (unsigned n)) h = IsUtf8-from_ascii _ (IsAscii-decimal n h)
  text_utf8 (number (negative z)) h = absurd h
  text_utf8 (number (float x)) h = absurd h
  text_utf8 (string s) h = IsUtf8-quoted s h
  text_utf8 (array ds) h = absurd h
  text_utf8 (object ms) h = IsUtf8-append (123 ∷ []) (members_text false ms) (IsUtf8-are_ascii _ refl) (members_utf8 false ms h)

  members_utf8 : (later : Bool) (ms : Members) → ArePlain ms → IsUtf8 (members_text later ms)
  members_utf8 later no_members h = IsUtf8-are_ascii _ refl
  members_utf8 later (member k d ms) h =
      let value : IsUtf8 (compact_text d ++ members_text true ms) = IsUtf8-append _ _ (text_utf8 d h.1) (members_utf8 true ms h.2) in
      let named : IsUtf8 (quoted k ++ 58 ∷ (compact_text d ++ members_text true ms)) = rw (← append_assoc (quoted k) (58 ∷ []) (compact_text d ++ members_text true ms)) (IsUtf8-append _ _ (IsUtf8-key k h.0) value) in
      IsUtf8-append _ _ (comma_utf8 later) named

-- The compact text of a plain value reads as the value, where its names stand in order.
pub reads_compact : (d : Data) → IsPlain d → tree.depth (outline d) ≤ 127 → of_json (outline d) ≡ Some d → read (compact_text d) ≡ Some d
reads_compact d plain shallow made =
    let ts : List Token = tree.json_tokens (outline d) in
    let same : tokens (compact_text d) ≡ ts = ap tokens (sym (print-outline d)) ∙ tokens-print ts (ArePrintable-json_tokens (outline d) (numbers_of d plain)) in
    let parsed : json.value max_depth (tokens (compact_text d)) ≡ Some (outline d, []) = ap (json.value max_depth) (same ∙ sym (append-nil ts)) ∙ value-json_tokens (outline d) max_depth [] shallow in
    ap (λ o. option_and_then of_json (option_and_then (λ p. json.if_last p.0 p.1) o)) parsed ∙ made

-- A plain text between its quotes.
pub string_text : (s rest : List ℕ) → escape s ≡ s → quoted s ++ rest ≡ 34 ∷ (s ++ 34 ∷ rest)
string_text s rest plain = ap (λ l. 34 ∷ ((l ++ 34 ∷ []) ++ rest)) plain ∙ ap (λ l. 34 ∷ l) (append_assoc s (34 ∷ []) rest)

-- Digits stand in a JSON text as they are.
digit_plain : (c : ℕ) → is_hex_digit c ≡ true → (32 ≤ c) × (c < 128) × (c ≡ 34 → ⊥) × (c ≡ 92 → ⊥)
digit_plain c h = grind (arith)

escape_digits : (s : List ℕ) → AllPass is_hex_digit s → (escape s ≡ s) × IsAscii s
escape_digits [] h = (refl, IsAscii-nil)
escape_digits (c ∷ cs) h =
    let plain = digit_plain c (All-head (λ x. is_hex_digit x ≡ true) c cs h) in
    let rest = escape_digits cs (All-tail (λ x. is_hex_digit x ≡ true) c cs h) in
    (ap₂ (λ (a b : List ℕ). a ++ b) (escape_byte_plain c plain.2 plain.3 plain.0) rest.0, IsAscii-cons c cs plain.1 rest.1)

pub escape_decoded : (s bytes : List ℕ) → decode_of s ≡ Ok bytes → (escape s ≡ s) × IsUtf8 s
escape_decoded s bytes h = let both = escape_digits s (decode_of-ok s bytes h).1 in (both.0, IsUtf8-from_ascii s both.1)

-- So do the digits of bytes.
pub escape_hex : (bytes : List ℕ) → ((k : ℕ) → Fits w8 (get_or bytes k 0)) → (escape (encode_lower bytes) ≡ encode_lower bytes) × IsUtf8 (encode_lower bytes)
escape_hex bytes fits = escape_decoded (encode_lower bytes) bytes (decode_of-encode_lower bytes (λ k. (fits k).fits))

-- So do the decimal digits and the dots of an address.
digit_of_ten : (c : ℕ) → digit_value c < 10 → (32 ≤ c) × (c < 128) × (c ≡ 34 → ⊥) × (c ≡ 92 → ⊥)
digit_of_ten c h = grind (arith)

escape_number : (s : List ℕ) → AllDigits 10 s → escape s ≡ s
escape_number [] h = refl
escape_number (c ∷ cs) h =
    let plain = digit_of_ten c h.0 in
    ap₂ (λ (a b : List ℕ). a ++ b) (escape_byte_plain c plain.2 plain.3 plain.0) (escape_number cs h.1)

escape_decimal : (n : ℕ) → n < 256 → escape (decimal n) ≡ decimal n
escape_decimal n h = escape_number (decimal n) (decimal_is_IsNumeral n (omega arith)).0.1

with_dot : (n : ℕ) (rest : List ℕ) → n < 256 → escape rest ≡ rest → escape (decimal n ++ 46 ∷ rest) ≡ decimal n ++ 46 ∷ rest
with_dot n rest h same = flat_map-append escape_byte (decimal n) (46 ∷ rest) ∙ ap₂ (λ (a b : List ℕ). a ++ b) (escape_decimal n h) (ap₂ (λ (a b : List ℕ). a ++ b) (escape_byte_plain 46 (λ e. omega arith) (λ e. omega arith) (omega arith)) same)

utf8_decimal : (n : ℕ) → n < 256 → IsUtf8 (decimal n)
utf8_decimal n h = IsUtf8-from_ascii _ (IsAscii-decimal n (omega arith))

with_dot_utf8 : (n : ℕ) (rest : List ℕ) → n < 256 → IsUtf8 rest → IsUtf8 (decimal n ++ 46 ∷ rest)
with_dot_utf8 n rest h same = IsUtf8-append _ _ (utf8_decimal n h) (IsUtf8-append (46 ∷ []) rest (IsUtf8-are_ascii _ refl) same)

pub flat_dotted : (a b c d : ℕ) → dotted_text a b c d ≡ decimal a ++ 46 ∷ (decimal b ++ 46 ∷ (decimal c ++ 46 ∷ decimal d))
flat_dotted a b c d = simp append_assoc refl

pub escape_dotted : (text octets : List ℕ) → IsDotted text octets → (escape text ≡ text) × IsUtf8 text
escape_dotted text octets h =
    let P : List ℕ → Type 0 = λ s. (escape s ≡ s) × IsUtf8 s in
    subst P (sym (h.spelled ∙ flat_dotted h.a h.b h.c h.d)) (
      with_dot h.a _ h.fit.0 (with_dot h.b _ h.fit.1 (with_dot h.c _ h.fit.2 (escape_decimal h.d h.fit.3))),
      with_dot_utf8 h.a _ h.fit.0 (with_dot_utf8 h.b _ h.fit.1 (with_dot_utf8 h.c _ h.fit.2 (utf8_decimal h.d h.fit.3))),
    )

pub escape_ipv4 : (octets : List ℕ) → length octets ≡ 4 → ((k : ℕ) → get_or octets k 0 < 256) → (escape (ipv4_text octets) ≡ ipv4_text octets) × IsUtf8 (ipv4_text octets)
escape_ipv4 octets four fits = escape_dotted (ipv4_text octets) octets (IsDotted-ipv4_text octets four fits)
