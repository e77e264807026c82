-- What a JSON value has under a name (RFC 8259 section 4), in the kinds that lines use.
use Rattle.std.specs.Prelude.{⊤, ◌≡◌, ◌≤◌, ℕ, List, [], ◌∷◌, length, Bool, true, false, ◌&&◌, ◌||◌, Option, Some, None, Ok}
use Rattle.std.specs.Str.{bytes_eq}
use Rattle.std.specs.Net.Grammar.{IsDotted}
use Rattle.hex.specs.Hex.{decode_of, decode_sized}
use Rattle.serde_json.specs.Data.{Data, null, boolean, number, unsigned, string, array, object, Members, no_members, member}
use Rattle.serde_json.specs.Find.{get}
use Rattle.ov_base.specs.declared.address.Addr.{Addr}
use Rattle.ov_base.specs.declared.address.Addr.TheVariants.{V4, V6}

-- What may stand for a value of some kind: nothing for none, and for a value what says it.
abbrev pub Given : {A : Type 0} → (Data → A → Type 0) → Option Data → Option A → Type 0
Given kind None None = ⊤
Given kind (Some d) (Some a) = kind d a
Given kind _ _ = ⊥

-- What an object has under a name: nothing, or a value of a kind.
abbrev pub Has : {A : Type 0} → (Data → A → Type 0) → List ℕ → Data → Option A → Type 0
Has kind name d found = Given kind (get name d) found

-- A whole number of at most `most`, without a sign, a fraction or an exponent (RFC 8259 section 6).
abbrev pub IsNumber : ℕ → Data → ℕ → Type 0
IsNumber most d n = (d ≡ number (unsigned n)) × (n ≤ most)

-- The most of a number: 32 bits.
abbrev pub most_number : ℕ
most_number = 4294967295

-- Bytes: a text of an even number of hexadecimal digits of either case, two for each byte, the high four
-- bits first. There are at most `most` bytes.
pub record IsHex (most : ℕ) (d : Data) (bytes : List ℕ) : Type 0 where
  pub text : List ℕ
  pub given : d ≡ string text
  pub digits : decode_of text ≡ Ok bytes
  pub short : length bytes ≤ most

-- The four bytes of an IPv4 address: four decimal numbers from 0 to 255 without leading zeros, with dots
-- between them, the first byte first.
pub record IsIpv4 (d : Data) (octets : List ℕ) : Type 0 where
  pub text : List ℕ
  pub given : d ≡ string text
  pub dotted : IsDotted text octets

-- The sixteen bytes of an IPv6 address: 32 hexadecimal digits of either case.
pub record IsIpv6 (d : Data) (octets : List ℕ) : Type 0 where
  pub text : List ℕ
  pub given : d ≡ string text
  pub digits : decode_sized text 16 ≡ Ok octets

-- An address of either family.
abbrev pub IsAddr : Data → Addr → Type 0
IsAddr d (V4 octets) = IsIpv4 d octets
IsAddr d (V6 octets) = IsIpv6 d octets

-- One of some things, by the word for it.
abbrev pub IsWord : {A : Type 0} → (A → List ℕ) → Data → A → Type 0
IsWord word d a = d ≡ string (word a)

-- whether a name is one of these
abbrev pub is_among : List ℕ → List (List ℕ) → Bool
is_among name [] = false
is_among name (n ∷ names) = bytes_eq name n || is_among name names

-- Whether an object's members have no names but these.
abbrev pub only_members : List (List ℕ) → Members → Bool
only_members names no_members = true
only_members names (member name d ms) = is_among name names && only_members names ms

-- Whether the value is an object that has no names but these.
abbrev pub has_only : List (List ℕ) → Data → Bool
has_only names null = false
has_only names (boolean b) = false
has_only names (number n) = false
has_only names (string s) = false
has_only names (array ds) = false
has_only names (object ms) = only_members names ms
