-- Tables hold what the standard says, by computing each entry.
use Rattle.std.proofs.Common.{◌≡◌, ℕ, ◌<◌, true, List, [], ◌∷◌, map, get_or, bit_and, bit_xor, refl, sym, ◌∙◌, ap, zero-add, ◌/◌}
use Rattle.std.specs.List.{range_with_len}
use Rattle.std.proofs.lemmas.Bool.{ltb-true}
use Rattle.std.proofs.lemmas.List.FromFn.{get_or-map-range_with_len}
use lib.Dec.{ltb}
use Rattle.ov_aes.specs.declared.powers.TheConstants.{POWERS}
use Rattle.ov_aes.specs.declared.nibbles.TheConstants.{INNER_LOW, INNER_HIGH, ONCE_FIRST, ONCE_SECOND, TWICE_FIRST, TWICE_SECOND, LAST_FIRST, LAST_SECOND}
use Rattle.ov_aes.specs.Field.{product, remainder, times, inverse, power_of_x}
use Rattle.ov_aes.specs.SBox.{affine_bit, affine, sub_byte}
use Rattle.ov_aes.specs.Nibbles.{entry, inner, first_place, second_place, nibble_sum}

-- two functions that agree at each number below n, by their lists
pub agree : {X : Type 0} (f g : ℕ → X) (n : ℕ) (d : X) → map f (range_with_len 0 n) ≡ map g (range_with_len 0 n) → (x : ℕ) → x < n → f x ≡ g x
agree f g n d all x below =
    sym (get_or-map-range_with_len f 0 n x x d below (zero-add x))
    ∙ ap (λ xs. get_or xs x d) all ∙ get_or-map-range_with_len g 0 n x x d below (zero-add x)

-- S of every byte (FIPS 197, 5.1.1, figure 7)
s_box : List ℕ
s_box =
    0x63 ∷ 0x7c ∷ 0x77 ∷ 0x7b ∷ 0xf2 ∷ 0x6b ∷ 0x6f ∷ 0xc5 ∷ 0x30 ∷ 0x01 ∷ 0x67 ∷ 0x2b ∷ 0xfe ∷ 0xd7 ∷ 0xab ∷ 0x76 ∷
    0xca ∷ 0x82 ∷ 0xc9 ∷ 0x7d ∷ 0xfa ∷ 0x59 ∷ 0x47 ∷ 0xf0 ∷ 0xad ∷ 0xd4 ∷ 0xa2 ∷ 0xaf ∷ 0x9c ∷ 0xa4 ∷ 0x72 ∷ 0xc0 ∷
    0xb7 ∷ 0xfd ∷ 0x93 ∷ 0x26 ∷ 0x36 ∷ 0x3f ∷ 0xf7 ∷ 0xcc ∷ 0x34 ∷ 0xa5 ∷ 0xe5 ∷ 0xf1 ∷ 0x71 ∷ 0xd8 ∷ 0x31 ∷ 0x15 ∷
    0x04 ∷ 0xc7 ∷ 0x23 ∷ 0xc3 ∷ 0x18 ∷ 0x96 ∷ 0x05 ∷ 0x9a ∷ 0x07 ∷ 0x12 ∷ 0x80 ∷ 0xe2 ∷ 0xeb ∷ 0x27 ∷ 0xb2 ∷ 0x75 ∷
    0x09 ∷ 0x83 ∷ 0x2c ∷ 0x1a ∷ 0x1b ∷ 0x6e ∷ 0x5a ∷ 0xa0 ∷ 0x52 ∷ 0x3b ∷ 0xd6 ∷ 0xb3 ∷ 0x29 ∷ 0xe3 ∷ 0x2f ∷ 0x84 ∷
    0x53 ∷ 0xd1 ∷ 0x00 ∷ 0xed ∷ 0x20 ∷ 0xfc ∷ 0xb1 ∷ 0x5b ∷ 0x6a ∷ 0xcb ∷ 0xbe ∷ 0x39 ∷ 0x4a ∷ 0x4c ∷ 0x58 ∷ 0xcf ∷
    0xd0 ∷ 0xef ∷ 0xaa ∷ 0xfb ∷ 0x43 ∷ 0x4d ∷ 0x33 ∷ 0x85 ∷ 0x45 ∷ 0xf9 ∷ 0x02 ∷ 0x7f ∷ 0x50 ∷ 0x3c ∷ 0x9f ∷ 0xa8 ∷
    0x51 ∷ 0xa3 ∷ 0x40 ∷ 0x8f ∷ 0x92 ∷ 0x9d ∷ 0x38 ∷ 0xf5 ∷ 0xbc ∷ 0xb6 ∷ 0xda ∷ 0x21 ∷ 0x10 ∷ 0xff ∷ 0xf3 ∷ 0xd2 ∷
    0xcd ∷ 0x0c ∷ 0x13 ∷ 0xec ∷ 0x5f ∷ 0x97 ∷ 0x44 ∷ 0x17 ∷ 0xc4 ∷ 0xa7 ∷ 0x7e ∷ 0x3d ∷ 0x64 ∷ 0x5d ∷ 0x19 ∷ 0x73 ∷
    0x60 ∷ 0x81 ∷ 0x4f ∷ 0xdc ∷ 0x22 ∷ 0x2a ∷ 0x90 ∷ 0x88 ∷ 0x46 ∷ 0xee ∷ 0xb8 ∷ 0x14 ∷ 0xde ∷ 0x5e ∷ 0x0b ∷ 0xdb ∷
    0xe0 ∷ 0x32 ∷ 0x3a ∷ 0x0a ∷ 0x49 ∷ 0x06 ∷ 0x24 ∷ 0x5c ∷ 0xc2 ∷ 0xd3 ∷ 0xac ∷ 0x62 ∷ 0x91 ∷ 0x95 ∷ 0xe4 ∷ 0x79 ∷
    0xe7 ∷ 0xc8 ∷ 0x37 ∷ 0x6d ∷ 0x8d ∷ 0xd5 ∷ 0x4e ∷ 0xa9 ∷ 0x6c ∷ 0x56 ∷ 0xf4 ∷ 0xea ∷ 0x65 ∷ 0x7a ∷ 0xae ∷ 0x08 ∷
    0xba ∷ 0x78 ∷ 0x25 ∷ 0x2e ∷ 0x1c ∷ 0xa6 ∷ 0xb4 ∷ 0xc6 ∷ 0xe8 ∷ 0xdd ∷ 0x74 ∷ 0x1f ∷ 0x4b ∷ 0xbd ∷ 0x8b ∷ 0x8a ∷
    0x70 ∷ 0x3e ∷ 0xb5 ∷ 0x66 ∷ 0x48 ∷ 0x03 ∷ 0xf6 ∷ 0x0e ∷ 0x61 ∷ 0x35 ∷ 0x57 ∷ 0xb9 ∷ 0x86 ∷ 0xc1 ∷ 0x1d ∷ 0x9e ∷
    0xe1 ∷ 0xf8 ∷ 0x98 ∷ 0x11 ∷ 0x69 ∷ 0xd9 ∷ 0x8e ∷ 0x94 ∷ 0x9b ∷ 0x1e ∷ 0x87 ∷ 0xe9 ∷ 0xce ∷ 0x55 ∷ 0x28 ∷ 0xdf ∷
    0x8c ∷ 0xa1 ∷ 0x89 ∷ 0x0d ∷ 0xbf ∷ 0xe6 ∷ 0x42 ∷ 0x68 ∷ 0x41 ∷ 0x99 ∷ 0x2d ∷ 0x0f ∷ 0xb0 ∷ 0x54 ∷ 0xbb ∷ 0x16 ∷ []

s_box-all : map (λ x. get_or s_box x 0) (range_with_len 0 256) ≡ map sub_byte (range_with_len 0 256)
unfolding product remainder times inverse affine_bit affine sub_byte s_box
s_box-all = refl

s_box-is : (x : ℕ) → x < 256 → get_or s_box x 0 ≡ sub_byte x
s_box-is x below = agree (λ x. get_or s_box x 0) sub_byte 256 0 s_box-all x below

-- a fact of S at each byte, by the table
by_table : (f : ℕ → ℕ) (g : ℕ → ℕ → ℕ) → map f (range_with_len 0 256) ≡ map (λ x. g x (get_or s_box x 0)) (range_with_len 0 256) → (x : ℕ) → x < 256 → f x ≡ g x (sub_byte x)
by_table f g all x below =
    agree f (λ x. g x (get_or s_box x 0)) 256 0 all x below ∙ ap (g x) (s_box-is x below)

-- ---- the look-ups by half bytes; each leaves the 0x63 of S out

once-all : map (λ x. nibble_sum ONCE_FIRST ONCE_SECOND (inner x)) (range_with_len 0 256) ≡ map (λ x. bit_xor (inner (get_or s_box x 0)) (inner 0x63)) (range_with_len 0 256)
unfolding inner first_place second_place nibble_sum s_box
once-all = refl

pub once-is : (x : ℕ) → x < 256 → nibble_sum ONCE_FIRST ONCE_SECOND (inner x) ≡ bit_xor (inner (sub_byte x)) (inner 0x63)
once-is x below = by_table (λ x. nibble_sum ONCE_FIRST ONCE_SECOND (inner x)) (λ x s. bit_xor (inner s) (inner 0x63)) once-all x below

twice-all : map (λ x. nibble_sum TWICE_FIRST TWICE_SECOND (inner x)) (range_with_len 0 256) ≡ map (λ x. bit_xor (inner (times 2 (get_or s_box x 0))) (inner (times 2 0x63))) (range_with_len 0 256)
unfolding product remainder times inner first_place second_place nibble_sum s_box
twice-all = refl

pub twice-is : (x : ℕ) → x < 256 → nibble_sum TWICE_FIRST TWICE_SECOND (inner x) ≡ bit_xor (inner (times 2 (sub_byte x))) (inner (times 2 0x63))
twice-is x below = by_table (λ x. nibble_sum TWICE_FIRST TWICE_SECOND (inner x)) (λ x s. bit_xor (inner (times 2 s)) (inner (times 2 0x63))) twice-all x below

thrice-all : map (λ x. bit_xor (nibble_sum ONCE_FIRST ONCE_SECOND (inner x)) (nibble_sum TWICE_FIRST TWICE_SECOND (inner x))) (range_with_len 0 256) ≡ map (λ x. bit_xor (inner (times 3 (get_or s_box x 0))) (inner (times 3 0x63))) (range_with_len 0 256)
unfolding product remainder times inner first_place second_place nibble_sum s_box
thrice-all = refl

pub thrice-is : (x : ℕ) → x < 256 → bit_xor (nibble_sum ONCE_FIRST ONCE_SECOND (inner x)) (nibble_sum TWICE_FIRST TWICE_SECOND (inner x)) ≡ bit_xor (inner (times 3 (sub_byte x))) (inner (times 3 0x63))
thrice-is x below =
    by_table (λ x. bit_xor (nibble_sum ONCE_FIRST ONCE_SECOND (inner x)) (nibble_sum TWICE_FIRST TWICE_SECOND (inner x)))
    (λ x s. bit_xor (inner (times 3 s)) (inner (times 3 0x63))) thrice-all x below

last-all : map (λ x. nibble_sum LAST_FIRST LAST_SECOND (inner x)) (range_with_len 0 256) ≡ map (λ x. bit_xor (get_or s_box x 0) 0x63) (range_with_len 0 256)
unfolding inner first_place second_place nibble_sum s_box
last-all = refl

pub last-is : (x : ℕ) → x < 256 → nibble_sum LAST_FIRST LAST_SECOND (inner x) ≡ bit_xor (sub_byte x) 0x63
last-is x below = by_table (λ x. nibble_sum LAST_FIRST LAST_SECOND (inner x)) (λ x s. bit_xor s 0x63) last-all x below

-- what 0x63 adds to a column of MixColumns is 0x63
pub constants-cancel : bit_xor (bit_xor (bit_xor (bit_xor (inner (times 2 0x63)) (inner (times 3 0x63))) (inner 0x63)) (inner 0x63)) (inner 0x63) ≡ 0
unfolding product remainder times inner
constants-cancel = refl

-- ---- bounds

s-all : map (λ x. ltb (get_or s_box x 0) 256) (range_with_len 0 256) ≡ map (λ x. true) (range_with_len 0 256)
unfolding s_box
s-all = refl

pub sub_byte-lt : (x : ℕ) → x < 256 → sub_byte x < 256
sub_byte-lt x below = ltb-true (sub_byte x) 256 (ap (λ (s : ℕ). ltb s 256) (sym (s_box-is x below)) ∙ agree (λ x. ltb (get_or s_box x 0) 256) (λ x. true) 256 true s-all x below)

twice-below : map (λ x. ltb (times 2 x) 256) (range_with_len 0 256) ≡ map (λ x. true) (range_with_len 0 256)
unfolding product remainder times
twice-below = refl

thrice-below : map (λ x. ltb (times 3 x) 256) (range_with_len 0 256) ≡ map (λ x. true) (range_with_len 0 256)
unfolding product remainder times
thrice-below = refl

pub twice-lt : (x : ℕ) → x < 256 → times 2 x < 256
twice-lt x below = ltb-true (times 2 x) 256 (agree (λ x. ltb (times 2 x) 256) (λ x. true) 256 true twice-below x below)

pub thrice-lt : (x : ℕ) → x < 256 → times 3 x < 256
thrice-lt x below = ltb-true (times 3 x) 256 (agree (λ x. ltb (times 3 x) 256) (λ x. true) 256 true thrice-below x below)

-- ---- the inner form is linear

low-all : map (λ p. entry INNER_LOW (bit_xor (p / 16) (bit_and p 15))) (range_with_len 0 256) ≡ map (λ p. bit_xor (entry INNER_LOW (p / 16)) (entry INNER_LOW (bit_and p 15))) (range_with_len 0 256)
low-all = refl

high-all : map (λ p. entry INNER_HIGH (bit_xor (p / 16) (bit_and p 15))) (range_with_len 0 256) ≡ map (λ p. bit_xor (entry INNER_HIGH (p / 16)) (entry INNER_HIGH (bit_and p 15))) (range_with_len 0 256)
high-all = refl

pub low-pair : (p : ℕ) → p < 256 → entry INNER_LOW (bit_xor (p / 16) (bit_and p 15)) ≡ bit_xor (entry INNER_LOW (p / 16)) (entry INNER_LOW (bit_and p 15))
low-pair p below = agree (λ p. entry INNER_LOW (bit_xor (p / 16) (bit_and p 15))) (λ p. bit_xor (entry INNER_LOW (p / 16)) (entry INNER_LOW (bit_and p 15))) 256 0 low-all p below

pub high-pair : (p : ℕ) → p < 256 → entry INNER_HIGH (bit_xor (p / 16) (bit_and p 15)) ≡ bit_xor (entry INNER_HIGH (p / 16)) (entry INNER_HIGH (bit_and p 15))
high-pair p below = agree (λ p. entry INNER_HIGH (bit_xor (p / 16) (bit_and p 15))) (λ p. bit_xor (entry INNER_HIGH (p / 16)) (entry INNER_HIGH (bit_and p 15))) 256 0 high-all p below

-- ---- the round constants

powers-all : map (λ n. get_or POWERS n 0) (range_with_len 0 10) ≡ map power_of_x (range_with_len 0 10)
unfolding product remainder times power_of_x
powers-all = refl

pub power-is : (n : ℕ) → n < 10 → get_or POWERS n 0 ≡ power_of_x n
power-is n below = agree (λ x. get_or POWERS x 0) power_of_x 10 0 powers-all n below
