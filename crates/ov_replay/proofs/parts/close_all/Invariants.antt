use Rattle.std.proofs.Common.{◌≡◌, ◌+◌, ◌<◌, ◌≤◌, ℕ, None, [], length, get_or}
use Rattle.std.specs.Prelude.{slice_get}
use Rattle.ov_replay.specs.Desk.{part_in, name_at, IsClosed}
use Rattle.ov_replay.proofs.parts.close_all.Given as goal

abbrev pub invariant-loop-closed : goal.invariant-loop-closed
invariant-loop-closed l = record {
  left : length l.locks.items + l._closed ≡ l.count;
  counted : l.count ≡ length l.fn.locks.items;
  parts : length l.parts.items ≡ length l.fn.parts.items;
  shards : length l.shards.items ≡ length l.fn.shards.items;
  names : (s : ℕ) → s < length l.locks.items → name_at (slice_get l.locks.items s) ≡ name_at (slice_get l.fn.locks.items s);
  rest : (s : ℕ) → s < length l.locks.items → get_or l.parts.items s None ≡ get_or l.fn.parts.items s None;
  done : (s : ℕ) → length l.locks.items ≤ s → s < l.count → IsClosed (part_in (get_or l.fn.parts.items s None)) (get_or l.shards.items s []);
}
