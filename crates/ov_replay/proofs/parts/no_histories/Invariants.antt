use Rattle.std.proofs.Common.{◌≡◌, ◌≤◌, length}
use Rattle.std.specs.Vec.{vec_capacity}
use Rattle.ov_replay.proofs.parts.no_histories.Given as goal

abbrev pub invariant-loop-shard : goal.invariant-loop-shard
invariant-loop-shard l = record {
  long : length l.shards.items ≡ l._shard;
  capacity : 8 ≤ vec_capacity l.shards;
}
