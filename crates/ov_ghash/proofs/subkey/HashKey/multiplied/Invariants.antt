use Rattle.std.proofs.Common.{◌≡◌, ◌≤◌, ◌+◌, ℕ, List, get_or, bit_xor}
use Rattle.ov_ghash.specs.Block.{number_of}
use Rattle.ov_ghash.specs.Turn.{turns}
use Rattle.ov_ghash.specs.Ghash.{IsPrepared}
use Rattle.ov_ghash.proofs.ByBytes.{by_bytes}
use Rattle.ov_ghash.proofs.RowFacts.{vector, row_of}
use Rattle.ov_ghash.proofs.subkey.HashKey.multiplied.Given as goal

abbrev pub invariant-each : goal.invariant-each
invariant-each l = record {
  start : l.place ≡ 0 → get_or l.high 15 0 ≡ 0;
  zeros : (k : ℕ) → l.place ≤ k + 1 → get_or l.low k 0 ≡ 0;
  done : (h : List ℕ) → IsPrepared l.self h →
      bit_xor (vector l.high) (turns 128 (vector l.low)) ≡ by_bytes l.place (row_of (number_of h) l.fn.block);
}
