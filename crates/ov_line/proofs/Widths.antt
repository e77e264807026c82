-- Numbers of 32 bits: what the texts of lines ask of them.
use Rattle.std.proofs.Common.{ℕ, ◌<◌, ◌≤◌, ◌^◌, arith}
use Rattle.ov_line.specs.Values.{most_number}

pub fits_64 : (n : ℕ) → n < 2 ^ 32 → n < 2 ^ 64
fits_64 n h = omega arith

pub is_most : (n : ℕ) → n < 2 ^ 32 → n ≤ most_number
is_most n h = omega arith
