use Rattle.std.proofs.Common.{◌≡◌, ◌<◌, ◌≤◌, ℕ, None, length, get_or}
use Rattle.std.specs.Prelude.{slice_get}
use Rattle.std.specs.Vec.{vec_capacity}
use Rattle.ov_replay.specs.Desk.{part_in, name_at, is_new, IsOfShard}
use Rattle.ov_replay.proofs.parts.lock_all.Given as goal

abbrev pub invariant-loop-shard : goal.invariant-loop-shard
invariant-loop-shard l = record {
  long : length l.locks.items ≡ l.shard;
  parts : length l.parts.items ≡ 8;
  new : (s : ℕ) → s < l.shard → part_in (get_or l.parts.items s None) ≡ is_new (name_at (slice_get l.locks.items s));
  fit : (s : ℕ) → IsOfShard s (get_or l.parts.items s None);
  capacity : 8 ≤ vec_capacity l.locks;
}
