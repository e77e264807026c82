-- The cipher (FIPS 197, 5.1). The state is a list of 16 bytes: byte i stands in row i % 4 and
-- column i / 4 (3.4).
use Rattle.std.specs.Prelude.{ℕ, zero, suc, ◌+◌, ◌-◌, ◌*◌, ◌/◌, ◌%◌, List, [], ◌∷◌, ◌++◌, length, map, slice_index, bit_xor}
use Rattle.std.specs.List.{range_with_len}
use Rattle.ov_aes.specs.Field.{plus, times}
use Rattle.ov_aes.specs.SBox.{sub_bytes}
use Rattle.ov_aes.specs.KeySchedule.{word, key_schedule}

-- ShiftRows: row r is turned left by r places (5.1.2)
unfoldable pub shift_rows : List ℕ → List ℕ
shift_rows s = map (λ i. slice_index s (i % 4 + 4 * ((i / 4 + i % 4) % 4))) (range_with_len 0 16)

-- MixColumns of the column a, b, c, d (5.1.3)
unfoldable pub mix_column : ℕ → ℕ → ℕ → ℕ → List ℕ
mix_column a b c d =
    bit_xor (bit_xor (bit_xor (times 2 a) (times 3 b)) c) d
    ∷ bit_xor (bit_xor (bit_xor a (times 2 b)) (times 3 c)) d
    ∷ bit_xor (bit_xor (bit_xor a b) (times 2 c)) (times 3 d)
    ∷ bit_xor (bit_xor (bit_xor (times 3 a) b) c) (times 2 d) ∷ []

-- MixColumns of column j of the state
abbrev pub mixed_column : List ℕ → ℕ → List ℕ
mixed_column s j =
    mix_column (slice_index s (4 * j)) (slice_index s (4 * j + 1)) (slice_index s (4 * j + 2))
    (slice_index s (4 * j + 3))

-- MixColumns (5.1.3)
unfoldable pub mix_columns : List ℕ → List ℕ
mix_columns s = mixed_column s 0 ++ (mixed_column s 1 ++ (mixed_column s 2 ++ mixed_column s 3))

-- the four words of the key schedule that AddRoundKey adds to the columns in round r (5.1.4)
abbrev pub round_key : List (List ℕ) → ℕ → List ℕ
round_key w r = word w (4 * r) ++ (word w (4 * r + 1) ++ (word w (4 * r + 2) ++ word w (4 * r + 3)))

-- the state s after the first AddRoundKey and n rounds with MixColumns, with the key schedule w (5.1)
unfoldable pub after_round : List (List ℕ) → List ℕ → ℕ → List ℕ
after_round w s zero = plus s (round_key w 0)
after_round w s (suc n) =
    plus (mix_columns (shift_rows (sub_bytes (after_round w s n)))) (round_key w (suc n))

-- the cipher of nr rounds, of which the last has no MixColumns (5.1)
unfoldable pub cipher : List (List ℕ) → ℕ → List ℕ → List ℕ
cipher w nr s = plus (shift_rows (sub_bytes (after_round w s (nr - 1)))) (round_key w nr)

-- AES of a block of 16 bytes under a key of 16, 24 or 32 bytes: 10, 12 or 14 rounds (5)
unfoldable pub aes : List ℕ → List ℕ → List ℕ
aes key block = cipher (key_schedule key) (length key / 4 + 6) block
