use Rattle.std.proofs.Common.{◌≡◌, ◌≤◌, ℕ, None, length, get_or}
use Rattle.std.specs.Vec.{vec_capacity}
use Rattle.ov_replay.proofs.parts.no_parts.Given as goal

abbrev pub invariant-loop-shard : goal.invariant-loop-shard
invariant-loop-shard l = record {
  long : length l.parts.items ≡ l._shard;
  none : (s : ℕ) → get_or l.parts.items s None ≡ None;
  capacity : 8 ≤ vec_capacity l.parts;
}
