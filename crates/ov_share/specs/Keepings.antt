-- What a lane's share says of the lane's lines: those that are answered, and the one under way.
use Rattle.std.specs.Prelude.{◌≡◌, ℕ, ◌<◌, ◌≤◌, List, [], ◌∷◌, ◌++◌, length, map}
use Rattle.std.specs.List.{AllByRecursion, AllPairs, range_with_len}
use Rattle.ov_base.specs.Sums.{count_of}
use Rattle.ov_base.specs.declared.address.Addr.{Addr}
use Rattle.ov_model.specs.declared.answer.Answer.{Answer}
use Rattle.ov_model.specs.declared.line.Line.{Line}
use Rattle.ov_model.specs.declared.replay.ReplayEntry.{ReplayEntry}
use Rattle.ov_model.specs.Events.{Event, DrawnId, steps_in, judgements_in, draws_in}
use Rattle.ov_model.specs.Keys.{sealed_in, ids_under}
use Rattle.ov_model.specs.Legal.{LinesRise}
use Rattle.ov_model.specs.Limits.{shard_count}
use Rattle.ov_model.specs.Own.{LaneStands, RiseFrom, positions}
use Rattle.ov_replay.specs.Desk.{Part, part_at}
use Rattle.ov_share.specs.Shares.{Sharing}
use Rattle.ov_share.specs.Makings.{SpendKnown}

-- A lane's own replay steps, shard by shard.
abbrev pub replays_of : Sharing → List (List ReplayEntry)
replays_of s = map (λ i. map (λ e. e.1) (part_at s.parts i).own) (range_with_len 0 shard_count)

-- A draw, as the counters name it.
abbrev pub drawn_as : DrawnId → ℕ × ℕ
drawn_as d = (d.key, d.id)

-- By its own steps alone the lane runs: its first lines have these answers, and the line under way has made these events. It
-- has drawn what it sealed, and what it drew for the line under way; of each key its ids rise. It said of no key that it is
-- spent but of those that it found so.
pub record LaneKept (via : Addr → Addr) (lane : ℕ) (lines : List Line) (answers : List Answer) (events : List Event) (s : Sharing) : Type 0 where
  pub stands : LaneStands via lane s.sight.seen s.sight.own (replays_of s) lines answers (steps_in events) (judgements_in events)
  pub replays : AllByRecursion (LinesRise lane) (replays_of s)
  pub judged_placed : AllByRecursion (AllByRecursion (λ r. r.place.lane ≡ lane)) (replays_of s)
  pub drawn : s.drawer.drawn ≡ map drawn_as (sealed_in answers ++ draws_in events)
  pub rises : (key : ℕ) → AllPairs (λ m n. m < n) (ids_under key (sealed_in answers ++ draws_in events))
  pub spent : AllByRecursion (λ e. SpendKnown s.drawer.spent e.1.call.act) s.sight.own

-- A lane's own replay steps in a shard name the lane, and their positions rise below the length of what it has seen of it.
pub record IsOwnPart (lane : ℕ) (p : Part) : Type 0 where
  pub rise : RiseFrom 0 (positions p.own)
  pub below : AllByRecursion (λ e. e.0 < length p.seen) p.own
  pub placed : AllByRecursion (λ e. e.1.place.lane ≡ lane) p.own

-- A lane's own entries name the lane, and their positions rise below the length of what it has seen; so do its replay steps.
-- It has at least two shares of the lock, one to be handed on, and holds a cell at most once.
pub record IsOrderly (lane : ℕ) (s : Sharing) : Type 0 where
  pub share : 2 ≤ s.sight.share
  pub once : (c : ℕ) → count_of c s.sight.holds ≤ 1
  pub rise : RiseFrom 0 (positions s.sight.own)
  pub below : AllByRecursion (λ e. e.0 < length s.sight.seen) s.sight.own
  pub placed : AllByRecursion (λ e. e.1.place.lane ≡ lane) s.sight.own
  pub parts : (i : ℕ) → i < shard_count → IsOwnPart lane (part_at s.parts i)
