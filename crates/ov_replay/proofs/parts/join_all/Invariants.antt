use Rattle.std.proofs.Common.{◌≡◌, ◌<◌, ◌≤◌, ℕ, None, length, get_or}
use Rattle.ov_replay.specs.Desk.{part_in, IsJoined, IsOfShard}
use Rattle.ov_replay.proofs.parts.join_all.Given as goal

abbrev pub invariant-loop-shard : goal.invariant-loop-shard
invariant-loop-shard l = record {
  parts : length l.parts.items ≡ length l.locks;
  others : length l.others.items ≡ length l.locks;
  done : (s : ℕ) → s < l.shard → IsJoined (part_in (get_or l.fn.parts.items s None)) (part_in (get_or l.fn.others.items s None)) (part_in (get_or l.parts.items s None));
  fit : (s : ℕ) → s < l.shard → IsOfShard s (get_or l.parts.items s None);
  rest : (s : ℕ) → l.shard ≤ s → get_or l.parts.items s None ≡ get_or l.fn.parts.items s None;
  rest_others : (s : ℕ) → l.shard ≤ s → get_or l.others.items s None ≡ get_or l.fn.others.items s None;
}
