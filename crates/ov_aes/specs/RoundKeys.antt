-- The round keys as the code keeps them, against those of the standard.
use Rattle.std.specs.Prelude.{◌≡◌, ℕ, ◌+◌, ◌*◌, ◌/◌, ◌%◌, ◌<◌, ◌≤◌, ◌==◌, if◌then◌else◌, nat_lt, List, map, length, slice_index, bit_xor}
use Rattle.std.specs.Int.{w32, to_be_bytes}
use Rattle.std.specs.List.{range_with_len}
use Rattle.ov_aes.specs.Cipher.{round_key}
use Rattle.ov_aes.specs.Nibbles.{AreBytes, inner}
use Rattle.ov_aes.specs.Words.{words_of}

-- what is kept of a byte of round key r, of nr rounds
unfoldable pub kept_byte : ℕ → ℕ → ℕ → ℕ
kept_byte nr r x = if r == 0 then x else (if nat_lt r nr then inner (bit_xor x 0x63) else bit_xor x 0x63)

-- byte i of the words, high byte first
abbrev pub word_byte : List ℕ → ℕ → ℕ
word_byte words i = slice_index (to_be_bytes w32 (slice_index words (i / 4))) (i % 4)

-- what is kept of the words of a key schedule, round key by round key
unfoldable pub kept_keys : List ℕ → ℕ → List ℕ
kept_keys words nr = map (λ i. kept_byte nr (i / 16) (word_byte words i)) (range_with_len 0 240)

-- what is kept of a key
unfoldable pub keys_of : List ℕ → List ℕ
keys_of key = kept_keys (words_of key) (length key / 4 + 6)

-- the round keys of the key schedule w are kept, each of 16 bytes
abbrev pub HasKeys : List ℕ → List (List ℕ) → ℕ → Type 0
HasKeys keys w nr = (r : ℕ) → r ≤ nr → AreBytes (round_key w r)
    × ((m : ℕ) → m < 16 → slice_index keys (16 * r + m) ≡ kept_byte nr r (slice_index (round_key w r) m))
