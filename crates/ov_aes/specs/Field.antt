-- Bytes as the elements of a finite field (FIPS 197, 4). A byte is a number below 256, and stands for
-- the polynomial whose coefficient of x^i is bit i; bit 0 is the lowest.
use Rattle.std.specs.Prelude.{ℕ, zero, suc, ◌+◌, ◌*◌, ◌^◌, ◌==◌, List, bit_xor}
use Rattle.std.specs.Int.{bit_at}
use Rattle.std.specs.List.{range_with_len, find}
use Rattle.std.specs.Option.{unwrap_or}
use lib.Lanes.{zip2}

-- the sum of two lists of bytes, byte by byte: a sum is the exclusive or (4.1)
abbrev pub plus : List ℕ → List ℕ → List ℕ
plus xs ys = zip2 bit_xor xs ys

-- the product of a and the terms of b below x^n, as polynomials
unfoldable pub product : ℕ → ℕ → ℕ → ℕ
product zero a b = 0
product (suc n) a b = bit_xor (product n a b) (bit_at b n * (a * 2 ^ n))

-- what is left of a, which has no term from x^(8 + n) on, after division by x^8 + x^4 + x^3 + x + 1 (4.2)
unfoldable pub remainder : ℕ → ℕ → ℕ
remainder zero a = a
remainder (suc n) a = remainder n (bit_xor a (bit_at a (8 + n) * (0x11b * 2 ^ n)))

-- the product of two bytes in the field (4.2)
unfoldable pub times : ℕ → ℕ → ℕ
times a b = remainder 7 (product 8 a b)

-- the multiplicative inverse of b: the byte whose product with b is 1, and 0 for 0 (4.2)
unfoldable pub inverse : ℕ → ℕ
inverse b = unwrap_or (find (λ c. times b c == 1) (range_with_len 0 256)) 0

-- x to the n, where x is the byte 2 (5.2)
unfoldable pub power_of_x : ℕ → ℕ
power_of_x zero = 1
power_of_x (suc n) = times 2 (power_of_x n)
