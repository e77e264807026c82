use Rattle.std.proofs.Common.{◌≡◌, ℕ, List, ◌++◌, map}
use Rattle.std.specs.List.{range_with_len}
use Rattle.ov_ghash.specs.Block.{ghash}
use Rattle.ov_ghash.specs.Ghash.{IsPrepared}
use Rattle.ov_gcm.specs.Gcm.{padded_block}
use Rattle.ov_gcm.proofs.blocks.absorbed.Given as goal

abbrev pub invariant-loop-i : goal.invariant-loop-i
invariant-loop-i l =
    (h : List ℕ) (xs : List (List ℕ)) → IsPrepared l.key h → ghash h xs ≡ l.fn.sum
    → ghash h (xs ++ map (padded_block l.bytes) (range_with_len 0 l.i)) ≡ l.sum
