use Rattle.std.proofs.Common.{◌≡◌, ◌≢◌, ◌<◌, ◌+◌, ◌*◌, ◌%◌, ℕ, get_or}
use Rattle.ov_ghash.proofs.subkey.put_product.Given as goal

abbrev pub invariant-loop-i : goal.invariant-loop-i
invariant-loop-i l = record {
  put : (k : ℕ) → k < l.i → get_or l.rows (16 * k + l.n) 0 ≡ get_or l.bytes k 0;
  kept : (k : ℕ) → k % 16 ≢ l.n → get_or l.rows k 0 ≡ get_or l.initial.rows k 0;
}
