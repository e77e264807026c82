-- The key expansion (FIPS 197, 5.2). A word is a list of 4 bytes, and nk is the number of words in
-- the key: 4, 6 or 8.
use Rattle.std.specs.Prelude.{ℕ, zero, suc, ◌+◌, ◌-◌, ◌*◌, ◌/◌, ◌%◌, ◌==◌, ◌&&◌, if◌then◌else◌, List, [], ◌∷◌, ◌++◌, length, slice_index, slice_index_or}
use Rattle.ov_aes.specs.Field.{plus, power_of_x}
use Rattle.ov_aes.specs.SBox.{sub_bytes}

-- word i of a key schedule
abbrev pub word : List (List ℕ) → ℕ → List ℕ
word w i = slice_index_or w i []

-- the bytes of the key from byte 4 i on, as a word
abbrev pub key_word : List ℕ → ℕ → List ℕ
key_word key i =
    slice_index key (4 * i) ∷ slice_index key (4 * i + 1) ∷ slice_index key (4 * i + 2)
    ∷ slice_index key (4 * i + 3) ∷ []

-- the first n words of the key
unfoldable pub key_words : List ℕ → ℕ → List (List ℕ)
key_words key zero = []
key_words key (suc n) = key_words key n ++ key_word key n ∷ []

-- RotWord: the word turned left by one byte
abbrev pub rot_word : List ℕ → List ℕ
rot_word t = slice_index t 1 ∷ slice_index t 2 ∷ slice_index t 3 ∷ slice_index t 0 ∷ []

-- Rcon[j]: x to the j - 1 in the first byte, and zeros
abbrev pub round_constant : ℕ → List ℕ
round_constant j = power_of_x (j - 1) ∷ 0 ∷ 0 ∷ 0 ∷ []

-- what word i adds to word i - nk, where t is word i - 1
unfoldable pub changed_word : ℕ → ℕ → List ℕ → List ℕ
changed_word nk i t =
    if i % nk == 0 then plus (sub_bytes (rot_word t)) (round_constant (i / nk))
    else (if (nk == 8) && (i % 8 == 4) then sub_bytes t else t)

-- word i, from the words before it
abbrev pub next_word : ℕ → List (List ℕ) → ℕ → List ℕ
next_word nk w i = plus (word w (i - nk)) (changed_word nk i (word w (i - 1)))

-- the first nk + n words of the key schedule
unfoldable pub schedule : ℕ → List ℕ → ℕ → List (List ℕ)
schedule nk key zero = key_words key nk
schedule nk key (suc n) = schedule nk key n ++ next_word nk (schedule nk key n) (nk + n) ∷ []

-- the whole key schedule: 4 (nr + 1) words, where the number nr of rounds is nk + 6
unfoldable pub key_schedule : List ℕ → List (List ℕ)
key_schedule key = schedule (length key / 4) key (3 * (length key / 4) + 28)
