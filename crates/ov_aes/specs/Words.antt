-- The words that the code holds, high byte first, against the lists of the standard.
use Rattle.std.specs.Prelude.{◌≡◌, ℕ, ◌<◌, List, ◌++◌, map, slice_index}
use Rattle.std.specs.Int.{w32, to_be_bytes, from_be_bytes}
use Rattle.std.specs.List.{range_with_len}
use Rattle.ov_aes.specs.KeySchedule.{word, key_schedule}

-- byte r of a word
abbrev pub byte_of : ℕ → ℕ → ℕ
byte_of w r = slice_index (to_be_bytes w32 w) r

-- the state that four words hold, a column each
abbrev pub bytes_of : List ℕ → List ℕ
bytes_of s =
    to_be_bytes w32 (slice_index s 0) ++ (to_be_bytes w32 (slice_index s 1)
    ++ (to_be_bytes w32 (slice_index s 2) ++ to_be_bytes w32 (slice_index s 3)))

-- the first n of the words are those of the key schedule w
abbrev pub Begins : List ℕ → List (List ℕ) → ℕ → Type 0
Begins words w n = (i : ℕ) → i < n → to_be_bytes w32 (slice_index words i) ≡ word w i

-- the key schedule of a key as 60 numbers, with 0 past its end
unfoldable pub words_of : List ℕ → List ℕ
words_of key = map (λ i. from_be_bytes w32 (word (key_schedule key) i)) (range_with_len 0 60)
