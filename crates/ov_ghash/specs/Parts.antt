-- A byte past x^128 as bytes of the remainder: x^128 is 1 + x + x^2 + x^7, the standard's block R.
use Rattle.std.specs.Prelude.{ℕ, ◌*◌, ◌/◌, ◌%◌, bit_xor}

-- what it adds to the byte at its own place
unfoldable pub part_kept : ℕ → ℕ
part_kept b = bit_xor (bit_xor (bit_xor b (b / 2)) (b / 4)) (b / 128)

-- what it adds to the byte one place on, where the bits that the shifts take out of it go
unfoldable pub part_passed : ℕ → ℕ
part_passed b = bit_xor (bit_xor (b * 128 % 256) (b * 64 % 256)) (b * 2 % 256)
