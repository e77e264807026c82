use Rattle.std.proofs.Common.{◌≡◌, ◌<◌, ◌/◌, ◌%◌, ℕ, length, get_or}
use Rattle.std.specs.Int.{byte_at}
use Rattle.ov_ghash.proofs.subkey.rows_of.Given as goal

abbrev pub invariant-loop-n : goal.invariant-loop-n
invariant-loop-n l = record {
  long : length l.rows ≡ 256;
  filled : (k : ℕ) → k < 256 → k % 16 < l.n → get_or l.rows k 0 ≡ byte_at (k / 16) (get_or l.products (k % 16) 0);
}
