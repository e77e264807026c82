-- Digits and bytes as the vectors of the first look hold them.
use Rattle.std.specs.Prelude.{⊤, ◌≡◌, ℕ, ◌+◌, ◌*◌, ◌<◌, List, [], ◌∷◌, ◌++◌, unwrap_or}
use Rattle.hex.specs.Hex.{hex_digit_value}

-- What a digit stands for; 255 where it is none.
abbrev pub value_of : ℕ → ℕ
value_of digit = unwrap_or (hex_digit_value digit) 255

-- The digits of bytes, from their high digits and their low ones.
abbrev pub woven : List ℕ → List ℕ → List ℕ
woven [] lows = []
woven (high ∷ highs) [] = []
woven (high ∷ highs) (low ∷ lows) = high ∷ low ∷ woven highs lows

-- The bytes of these values of high digits and of low ones, each of them below 16.
abbrev pub AreJoined : List ℕ → List ℕ → List ℕ → Type 0
AreJoined [] [] [] = ⊤
AreJoined (high ∷ highs) (low ∷ lows) (byte ∷ bytes) = (high < 16) × (low < 16) × (byte ≡ high * 16 + low) × AreJoined highs lows bytes
AreJoined highs lows bytes = ⊥

-- These digits are those of these bytes, two for each, the high one first.
abbrev pub AreDigits : List ℕ → List ℕ → Type 0
AreDigits [] [] = ⊤
AreDigits (high ∷ low ∷ digits) (byte ∷ bytes) = (value_of high < 16) × (value_of low < 16) × (byte ≡ value_of high * 16 + value_of low) × AreDigits digits bytes
AreDigits digits bytes = ⊥

-- Digits were read from the front up to the rest: the bytes are those of the digits in front of
-- the rest.
pub record ReadTo (digits rest bytes : List ℕ) : Type 0 where
  pub done : List ℕ
  pub digits_are : digits ≡ done ++ rest
  pub read : AreDigits done bytes
