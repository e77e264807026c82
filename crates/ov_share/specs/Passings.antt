-- The passes of a shared table: what contracts see of one, and what all of them share at the end.
use Rattle.std.specs.Prelude.{◌≡◌, ℕ, ◌+◌, ◌<◌, ◌≤◌, List, [], ◌∷◌, ◌++◌, length, map, filter, ◌==◌, get_or, slice_get, Some, Contains}
use Rattle.std.specs.List.{AllByRecursion}
use mathlib.Core.List.{IsPrefix}
use mathlib.Core.Option.{some}
use lib.ListN.{get_elem?}
use Rattle.ov_base.specs.Sums.{total, count_of, between}
use Rattle.ov_draw.specs.Drawer as draws
use Rattle.ov_model.specs.declared.entry.Entry.{Entry}
use Rattle.ov_model.specs.declared.note.Note.{Note}
use Rattle.ov_model.specs.declared.replay.ReplayEntry.{ReplayEntry}
use Rattle.ov_model.specs.Events.{steps_of}
use Rattle.ov_model.specs.Limits.{shard_count}
use Rattle.ov_model.specs.Own.{mine, steps_at}
use Rattle.ov_model.specs.Replay.{ShardJudges}
use Rattle.ov_model.specs.Runs.{IsRun, notes_of}
use Rattle.ov_replay.specs.Desk.{part_at}
use Rattle.ov_share.specs.Shares.{Sharing}

-- A pass: its number, how many of its lines are answered, and its share.
pub record Passing : Type 0 where
  pub number : ℕ
  pub lines : ℕ
  pub share : Sharing

-- What a pass has seen begins the journal, and the entries with its number are exactly its own, in order, each at its
-- position, and so their steps; and so are the replay steps of each shard.
pub record IsPart (journal : List Entry) (shards : List (List ReplayEntry)) (p : Passing) : Type 0 where
  pub seen : IsPrefix p.share.sight.seen journal
  pub own : filter (λ e. e.place.lane == p.number) journal ≡ map (λ e. e.1) p.share.sight.own
  pub at : AllByRecursion (λ e. get_elem? journal e.0 ≡ some e.1) p.share.sight.own
  pub steps : steps_at journal p.share.sight.own ≡ mine p.number (steps_of journal)
  pub judged : (i : ℕ) → i < shard_count → filter (λ r. r.place.lane == p.number) (get_or shards i []) ≡ map (λ e. e.1) (part_at p.share.parts i).own

-- Of a key, the ids that the passes have drawn are the numbers from the first up to an end, each once; where a pass found
-- the key spent, the end is 4294967296.
pub record DrawnOnce (first : ℕ) (passes : List Passing) (key : ℕ) : Type 0 where
  pub end : ℕ
  pub most : end ≤ 4294967296
  pub once : (n : ℕ) → total (λ p. draws.times key n p.share.drawer.drawn) passes ≡ between first end n
  pub spent : AllByRecursion (λ p. Contains p.share.drawer.spent key → end ≡ 4294967296) passes

-- The passes share one history: a run with its notes, of which each has seen a beginning, in which each has its own entries,
-- and which has no others; and so the eight shards, whose steps are the rule's; and the counters, of which each id was drawn
-- once.
pub record OneHistory (first : ℕ) (journal : List Entry) (notes : List Note) (shards : List (List ReplayEntry)) (passes : List Passing) : Type 0 where
  pub run : IsRun journal
  pub notes_are : notes ≡ notes_of journal
  pub eight : length shards ≡ shard_count
  pub judges : (i : ℕ) (rs : List ReplayEntry) → slice_get shards i ≡ Some rs → ShardJudges i rs
  pub each : AllByRecursion (IsPart journal shards) passes
  pub within : AllByRecursion (λ e. 0 < count_of e.place.lane (map (λ p. p.number) passes)) journal
  pub judged_within : AllByRecursion (AllByRecursion (λ r. 0 < count_of r.place.lane (map (λ p. p.number) passes))) shards
  pub drawn : (key : ℕ) → DrawnOnce first passes key
