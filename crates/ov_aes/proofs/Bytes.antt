-- The bytes of a word: of a sum of words, and of a word made of bytes.
use Rattle.std.proofs.Common.{◌≡◌, ℕ, ◌/◌, ◌%◌, ◌^◌, List, refl, ap, ◌∙◌}
use Rattle.std.specs.Prelude.{bit_xor}
use Rattle.std.specs.Int.{w32, to_be_bytes}
use Rattle.std.proofs.lemmas.Nat.{xor_shr, xor_mod}
use Rattle.ov_aes.specs.Field.{plus}

byte_of_xor : (a b k : ℕ) → bit_xor a b / 2 ^ k % 2 ^ 8 ≡ bit_xor (a / 2 ^ k % 2 ^ 8) (b / 2 ^ k % 2 ^ 8)
byte_of_xor a b k = ap (λ (x : ℕ). x % 2 ^ 8) (xor_shr a b k) ∙ xor_mod (a / 2 ^ k) (b / 2 ^ k) 8

-- the bytes of a sum are the sums of the bytes
pub to_be_bytes-xor : (a b : ℕ) → to_be_bytes w32 (bit_xor a b) ≡ plus (to_be_bytes w32 a) (to_be_bytes w32 b)
to_be_bytes-xor a b = rw (byte_of_xor a b 24, byte_of_xor a b 16, byte_of_xor a b 8, xor_mod a b 8) refl

-- the bytes of a sum of five words, of which four are known by their bytes
pub sum-five : (a b c d key : ℕ) (p q r s : List ℕ) → to_be_bytes w32 a ≡ p → to_be_bytes w32 b ≡ q → to_be_bytes w32 c ≡ r → to_be_bytes w32 d ≡ s → to_be_bytes w32 (bit_xor (bit_xor (bit_xor (bit_xor a b) c) d) key) ≡ plus (plus (plus (plus p q) r) s) (to_be_bytes w32 key)
sum-five a b c d key p q r s first second third fourth =
    to_be_bytes-xor (bit_xor (bit_xor (bit_xor a b) c) d) key
    ∙ ap (λ x. plus x (to_be_bytes w32 key)) (to_be_bytes-xor (bit_xor (bit_xor a b) c) d
    ∙ ap (λ x. plus x (to_be_bytes w32 d)) (to_be_bytes-xor (bit_xor a b) c
    ∙ ap (λ x. plus x (to_be_bytes w32 c)) (to_be_bytes-xor a b)))
    ∙ (λ i. plus (plus (plus (plus (first i) (second i)) (third i)) (fourth i)) (to_be_bytes w32 key))

-- the bytes of a sum of two words, of which one is known by its bytes
pub sum-two : (a key : ℕ) (p : List ℕ) → to_be_bytes w32 a ≡ p → to_be_bytes w32 (bit_xor a key) ≡ plus p (to_be_bytes w32 key)
sum-two a key p first = to_be_bytes-xor a key ∙ ap (λ x. plus x (to_be_bytes w32 key)) first
