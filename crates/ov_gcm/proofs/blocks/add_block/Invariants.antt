use Rattle.std.proofs.Common.{◌≡◌, ℕ, ◌<◌, ◌≤◌, get_or}
use Rattle.std.specs.Prelude.{bit_xor}
use Rattle.ov_gcm.proofs.blocks.add_block.Given as goal

abbrev pub invariant-loop-i : goal.invariant-loop-i
invariant-loop-i l = record {
  front : (k : ℕ) → k < l.i → get_or l.text k 0 ≡ bit_xor (get_or l.initial.text k 0) (get_or l.block k 0);
  rest : (k : ℕ) → l.i ≤ k → get_or l.text k 0 ≡ get_or l.initial.text k 0;
}
