-- A bit that is set or cleared in a list of words: place p is bit p mod 64 of word p / 64.
use Rattle.std.proofs.Common.{◌≡◌, ℕ, ◌*◌, ◌/◌, ◌%◌, ◌^◌, ◌<◌, ◌≢◌, List, length, get_or, set, bit_and, bit_or, w64, inl, inr, refl, sym, ap, ◌∙◌, arith}
use Rattle.std.specs.Int.{bit_at, bit_not}
use Rattle.std.proofs.lemmas.Bool.{cases_eq}
use Rattle.std.proofs.lemmas.Grind.{get_or-set_at}
use Rattle.std.proofs.lemmas.List.{get_or-set_same, get_or-set_other}
use Rattle.std.proofs.lemmas.Nat.Bits.{bit_at_set_same, bit_at_set_other, bit_at_clear_same, bit_at_clear_other}

-- The bit at a place.
abbrev pub place_bit : List ℕ → ℕ → ℕ
place_bit words p = bit_at (get_or words (p / 64) 0) (p % 64)

-- The words after the bit at a place is set or cleared, as the machine computes them.
abbrev pub with_bit : List ℕ → ℕ → List ℕ
with_bit words p = set words (p / 64) (bit_or (get_or words (p / 64) 0) (1 * 2 ^ (p % 64) % 2 ^ 64))

abbrev pub without_bit : List ℕ → ℕ → List ℕ
without_bit words p = set words (p / 64) (bit_and (get_or words (p / 64) 0) (bit_not w64 (1 * 2 ^ (p % 64) % 2 ^ 64)))

pub place_bit-with_same : (words : List ℕ) (p : ℕ) → p / 64 < length words → place_bit (with_bit words p) p ≡ 1
place_bit-with_same words p within =
    rw (get_or-set_same words (p / 64) (bit_or (get_or words (p / 64) 0) (1 * 2 ^ (p % 64) % 2 ^ 64)) 0 within)
    (bit_at_set_same w64 (get_or words (p / 64) 0) (p % 64) (omega arith))

pub place_bit-without_same : (words : List ℕ) (p : ℕ) → p / 64 < length words → place_bit (without_bit words p) p ≡ 0
place_bit-without_same words p within =
    rw (get_or-set_same words (p / 64) (bit_and (get_or words (p / 64) 0) (bit_not w64 (1 * 2 ^ (p % 64) % 2 ^ 64))) 0 within)
    (bit_at_clear_same w64 (get_or words (p / 64) 0) (p % 64) (omega arith))

-- A write to the word of p that keeps its other bits keeps each other place.
other_place : (words : List ℕ) (p q word : ℕ) → p / 64 < length words → q ≢ p
    → ((i : ℕ) → i < 64 → i ≢ p % 64 → bit_at word i ≡ bit_at (get_or words (p / 64) 0) i)
    → place_bit (set words (p / 64) word) q ≡ place_bit words q
other_place words p q word within apart keeps =
    elim (cases_eq (q / 64) (p / 64)) [
      | inl same ↦ ap (λ x. bit_at x (q % 64)) (get_or-set_at words (p / 64) (q / 64) word 0 same within) ∙ keeps (q % 64) (omega arith) (λ e. apart (omega arith)) ∙ ap (λ k. bit_at (get_or words k 0) (q % 64)) (sym same)
      | inr ne ↦ rw (get_or-set_other words (p / 64) (q / 64) word 0 ne) refl
    ]

pub place_bit-with_other : (words : List ℕ) (p q : ℕ) → p / 64 < length words → q ≢ p → place_bit (with_bit words p) q ≡ place_bit words q
place_bit-with_other words p q within apart =
    other_place words p q _ within apart (λ i small ne. bit_at_set_other w64 (get_or words (p / 64) 0) (p % 64) (omega arith) i ne)

pub place_bit-without_other : (words : List ℕ) (p q : ℕ) → p / 64 < length words → q ≢ p → place_bit (without_bit words p) q ≡ place_bit words q
place_bit-without_other words p q within apart =
    other_place words p q _ within apart (λ i small ne. bit_at_clear_other w64 (get_or words (p / 64) 0) (p % 64) (omega arith) i small ne)
