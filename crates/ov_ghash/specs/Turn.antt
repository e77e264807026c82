-- Products in the field, on blocks as numbers: what the code computes.
use Rattle.std.specs.Prelude.{ℕ, zero, suc, ◌*◌, ◌/◌, ◌%◌, ◌^◌, Bool, true, false, List, [], ◌∷◌, map, bit_xor}
use Rattle.std.specs.List.{range_with_len}
use Rattle.ov_ghash.specs.Block.{bits}

-- a block multiplied by x: one step of V in Algorithm 1 of SP 800-38D, section 6.3, with the standard's
-- block R, which is 11100001 and then zeros
unfoldable pub turn : ℕ → ℕ
turn v = bit_xor (v / 2) (v % 2 * (0xe1 * 2 ^ 120))

-- k such steps
unfoldable pub turns : ℕ → ℕ → ℕ
turns zero v = v
turns (suc k) v = turn (turns k v)

-- a block where the coefficient is one
unfoldable pub part : Bool → ℕ → ℕ
part true h = h
part false h = 0

-- the product of a polynomial and a block, by Horner's rule
unfoldable pub horner : List Bool → ℕ → ℕ
horner [] h = 0
horner (a ∷ p) h = bit_xor (part a h) (turn (horner p h))

-- the products of a block with the 16 polynomials of degree below 4, that of the polynomial with the
-- bits of n at place n
unfoldable pub products : ℕ → List ℕ
products h = map (λ n. horner (bits 4 n) h) (range_with_len 0 16)
