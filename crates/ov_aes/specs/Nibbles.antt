-- SubBytes by half bytes: what the look-ups of `nibbles.rt` compute of one byte.
use Rattle.std.specs.Prelude.{◌≡◌, ℕ, ◌/◌, ◌<◌, List, length, if◌then◌else◌, slice_index, bit_and, bit_xor}
use lib.Dec.{leb}
use lib.Lanes.{Each1}
use Rattle.ov_aes.specs.declared.nibbles.TheConstants.{INVERSES, SCALED, INNER_LOW, INNER_HIGH}

-- the list is a state: 16 bytes
abbrev pub AreBytes : List ℕ → Type 0
AreBytes s = (length s ≡ 16) × Each1 (λ x. x < 256) s

-- a table's entry, and 0 at a place from 128 on
abbrev pub entry : List ℕ → ℕ → ℕ
entry table x = if leb 128 x then 0 else slice_index table x

-- the inner form of a byte, a linear map
unfoldable pub inner : ℕ → ℕ
inner x = bit_xor (entry INNER_LOW (bit_and x 15)) (entry INNER_HIGH (x / 16))

-- of a byte t in the inner form with the halves i and k: the inverse in the field of 16 of i's inverse
-- plus k's scaled inverse, plus the sum of the halves
unfoldable pub first_place : ℕ → ℕ
first_place t =
    bit_xor (entry INVERSES (bit_xor (entry INVERSES (t / 16)) (entry SCALED (bit_and t 15))))
    (bit_xor (t / 16) (bit_and t 15))

-- the same with the sum of the halves in the place of i, and i in the place of the sum
unfoldable pub second_place : ℕ → ℕ
second_place t =
    bit_xor (entry INVERSES (bit_xor (entry INVERSES (bit_xor (t / 16) (bit_and t 15))) (entry SCALED (bit_and t 15))))
    (t / 16)

-- the sum of the entries of two tables at the two places of a byte
unfoldable pub nibble_sum : List ℕ → List ℕ → ℕ → ℕ
nibble_sum first second t = bit_xor (entry first (first_place t)) (entry second (second_place t))
