-- Products bit by bit, from the first coefficient to the last.
use Rattle.std.proofs.Common.{◌≡◌, ℕ, zero, suc, ◌+◌, ◌/◌, ◌%◌, Bool, eqb, [], ◌∷◌, bit_xor, refl, ap, ap₂, ◌∙◌}
use Rattle.std.specs.Int.Bits.{xor_zero_r}
use Rattle.ov_ghash.specs.Block.{bits}
use Rattle.ov_ghash.specs.Turn.{turn, turns, part, horner}
use Rattle.ov_ghash.proofs.Turning.{horner-append}
use Rattle.ov_ghash.proofs.BitLists.{length-bits, bits_split, bits-one}

horner-one : (a : Bool) (y : ℕ) → horner (a ∷ []) y ≡ part a y
unfolding horner turn
horner-one a y = xor_zero_r (part a y)

-- one coefficient more, which is the last bit of n
horner-bit-more : (i n y : ℕ) → horner (bits (i + 1) n) y ≡ bit_xor (horner (bits i (n / 2)) y) (turns i (part (eqb (n % 2) 1) y))
horner-bit-more i n y =
    ap (λ p. horner p y) (bits_split i 1 n) ∙ horner-append (bits i (n / 2)) (bits 1 n) y
    ∙ ap₂ (λ (k v : ℕ). bit_xor (horner (bits i (n / 2)) y) (turns k v)) (length-bits i (n / 2)) (ap (λ p. horner p y) (bits-one n) ∙ horner-one (eqb (n % 2) 1) y)

turns-zero : (k : ℕ) → turns k 0 ≡ 0
unfolding turns turn
turns-zero zero = refl
turns-zero (suc k) = rw (turns-zero k) refl

pub horner-bit_set : (i n y : ℕ) → n % 2 ≡ 1 → horner (bits (i + 1) n) y ≡ bit_xor (horner (bits i (n / 2)) y) (turns i y)
unfolding part
horner-bit_set i n y set =
    horner-bit-more i n y ∙ ap (λ (b : ℕ). bit_xor (horner (bits i (n / 2)) y) (turns i (part (eqb b 1) y))) set

pub horner-bit_clear : (i n y : ℕ) → n % 2 ≡ 0 → horner (bits (i + 1) n) y ≡ horner (bits i (n / 2)) y
unfolding part
horner-bit_clear i n y clear =
    horner-bit-more i n y ∙ ap (λ (b : ℕ). bit_xor (horner (bits i (n / 2)) y) (turns i (part (eqb b 1) y))) clear
    ∙ ap (bit_xor (horner (bits i (n / 2)) y)) (turns-zero i) ∙ xor_zero_r (horner (bits i (n / 2)) y)
