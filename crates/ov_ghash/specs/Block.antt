-- GHASH (SP 800-38D, section 6.4) of blocks of 128 bits. A block is the list of its 16 bytes. Its bit 0
-- is the highest bit of its first byte, and bit i is the coefficient of x^i of the polynomial that it
-- stands for (section 6.3).
use Rattle.std.specs.Prelude.{ℕ, zero, suc, ◌+◌, ◌^◌, Bool, true, false, ◌==◌, List, [], ◌∷◌, map, length, replicate}
use Rattle.std.specs.Int.{w128, bit_at, from_be_bytes, to_be_bytes}
use Rattle.ov_ghash.specs.Polynomial.{plus, times, power}

-- the number that a block is the binary representation of (section 4.2.2, int)
unfoldable pub number_of : List ℕ → ℕ
number_of block = from_be_bytes w128 block

-- the lowest n bits of a number, the highest of them first
unfoldable pub bits : ℕ → ℕ → List Bool
bits zero v = []
bits (suc n) v = (bit_at v n == 1) ∷ bits n v

-- the number whose bits these are, the highest first
unfoldable pub number : List Bool → ℕ
number [] = 0
number (true ∷ p) = 2 ^ length p + number p
number (false ∷ p) = number p

-- the polynomial that a block stands for
unfoldable pub polynomial : List ℕ → List Bool
polynomial block = bits 128 (number_of block)

-- the block that stands for a polynomial of 128 coefficients
unfoldable pub block_of : List Bool → List ℕ
block_of p = to_be_bytes w128 (number p)

-- X1 • H^n + X2 • H^(n-1) + .. + Xn • H for the polynomials X1 to Xn
unfoldable pub sum_of_powers : List Bool → List (List Bool) → List Bool
sum_of_powers h [] = replicate 128 false
sum_of_powers h (x ∷ xs) = plus (times x (power h (length xs + 1))) (sum_of_powers h xs)

-- GHASH of the blocks xs under the hash subkey h
unfoldable pub ghash : List ℕ → List (List ℕ) → List ℕ
ghash h xs = block_of (sum_of_powers (polynomial h) (map polynomial xs))
