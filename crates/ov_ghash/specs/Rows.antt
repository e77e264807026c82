-- The products of half bytes in rows.
use Rattle.std.specs.Prelude.{ℕ, ◌/◌, ◌%◌, List, map}
use Rattle.std.specs.Int.{byte_at}
use Rattle.std.specs.List.{range_with_len}
use Rattle.ov_ghash.specs.Block.{bits}
use Rattle.ov_ghash.specs.Turn.{horner}

-- the bytes of the products of a block with the 16 polynomials of degree below 4: byte i of product n,
-- counted from the lowest byte, at place 16 i + n
unfoldable pub rows : ℕ → List ℕ
rows h = map (λ k. byte_at (k / 16) (horner (bits 4 (k % 16)) h)) (range_with_len 0 256)
