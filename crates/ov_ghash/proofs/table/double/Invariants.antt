use Rattle.std.proofs.Common.{◌≡◌, ◌<◌, ◌+◌, ℕ, bit_xor, slice_index}
use Rattle.ov_ghash.proofs.table.double.Given as goal

abbrev pub invariant-loop-i : goal.invariant-loop-i
invariant-loop-i l = record {
  kept : (k : ℕ) → k < l.count → slice_index l.table k ≡ slice_index l.initial.table k;
  added : (k : ℕ) → k < l.i → slice_index l.table (l.count + k) ≡ bit_xor (slice_index l.initial.table k) l.product;
}
