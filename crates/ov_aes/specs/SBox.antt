-- The S-box (FIPS 197, 5.1.1).
use Rattle.std.specs.Prelude.{ℕ, zero, suc, ◌+◌, ◌*◌, ◌%◌, ◌^◌, List, map}
use Rattle.std.specs.Int.{bit_at}
use Rattle.ov_aes.specs.Field.{inverse}

-- bit i of the affine map of c: the sum of the bits i, i + 4, i + 5, i + 6 and i + 7 of c, counted
-- modulo 8, and of bit i of 0x63
unfoldable pub affine_bit : ℕ → ℕ → ℕ
affine_bit c i =
    (bit_at c i + bit_at c ((i + 4) % 8) + bit_at c ((i + 5) % 8) + bit_at c ((i + 6) % 8)
    + bit_at c ((i + 7) % 8) + bit_at 0x63 i) % 2

-- the lowest n bits of the affine map of c
unfoldable pub affine : ℕ → ℕ → ℕ
affine zero c = 0
affine (suc n) c = affine n c + affine_bit c n * 2 ^ n

-- S of a byte: its inverse, and then the affine map
unfoldable pub sub_byte : ℕ → ℕ
sub_byte b = affine 8 (inverse b)

-- SubBytes, and SubWord of the key schedule: S of each byte
unfoldable pub sub_bytes : List ℕ → List ℕ
sub_bytes s = map sub_byte s
