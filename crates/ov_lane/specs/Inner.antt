-- What a share has into which passes were taken, and what is left of one from which passes were cut off.
use Rattle.std.specs.Prelude.{◌≡◌, ℕ, ◌+◌, ◌*◌, ◌<◌, ◌==◌, List, [], map, filter, Contains}
use Rattle.std.specs.List.{AllByRecursion}
use mathlib.Core.List.{IsPrefix}
use Rattle.ov_base.specs.Sums.{total, count_of}
use Rattle.ov_draw.specs.Drawer as draws
use Rattle.ov_model.specs.declared.entry.Entry.{Entry}
use Rattle.ov_model.specs.declared.replay.ReplayEntry.{ReplayEntry}
use Rattle.ov_model.specs.Limits.{shard_count}
use Rattle.ov_replay.specs.Desk.{part_at}
use Rattle.ov_share.specs.Shares.{Common, Sharing, IsShareOf, IsFree}
use Rattle.ov_share.specs.Keepings.{IsOrderly}
use Rattle.ov_share.specs.Passings.{Passing}
use Rattle.ov_lane.specs.Passes.{HasNothing, AreFreshFrom}

-- Of named entries those with a pass's number are that pass's, and no others are there. `lane` says whose an entry is, and
-- `own` what a pass has.
pub record AreTaken {X : Type 0} (lane : X → ℕ) (own : Passing → List (ℕ × X)) (passes : List Passing) (all : List (ℕ × X)) : Type 0 where
  pub each : AllByRecursion (λ p. filter (λ e. lane e.1 == p.number) all ≡ own p) passes
  pub within : AllByRecursion (λ e. 0 < count_of (lane e.1) (map (λ p. p.number) passes)) all

-- Whose an entry of the table is, and what a pass has of them.
abbrev pub entry_lane : Entry → ℕ
entry_lane e = e.place.lane

abbrev pub own_entries : Passing → List (ℕ × Entry)
own_entries p = p.share.sight.own

-- Whose a replay entry is, and what a pass has of a shard.
abbrev pub judged_lane : ReplayEntry → ℕ
judged_lane r = r.place.lane

abbrev pub own_judged : ℕ → Passing → List (ℕ × ReplayEntry)
own_judged i p = (part_at p.share.parts i).own

-- Of these passes the share has all: what each had seen begins what it has seen, and of its own entries those with a
-- pass's number are the pass's; and so of each shard; and it has drawn what they have.
pub record HasTaken (w : Common) (passes : List Passing) (s : Sharing) : Type 0 where
  pub of : IsShareOf w s
  pub free : IsFree s
  pub table : s.sight.share ≡ total (λ p. p.share.sight.share) passes
  pub parts : (i : ℕ) → i < shard_count → (part_at s.parts i).share ≡ total (λ p. (part_at p.share.parts i).share) passes
  pub counters : s.drawer.share ≡ total (λ p. p.share.drawer.share) passes
  pub orderly : AllByRecursion (λ p. IsOrderly p.number p.share) passes
  pub seen : AllByRecursion (λ p. IsPrefix p.share.sight.seen s.sight.seen) passes
  pub own : AreTaken entry_lane own_entries passes s.sight.own
  pub judged : (i : ℕ) → i < shard_count → AreTaken judged_lane (own_judged i) passes (part_at s.parts i).own
  pub drawn : (k n : ℕ) → draws.times k n s.drawer.drawn ≡ total (λ p. draws.times k n p.share.drawer.drawn) passes
  pub spent : AllByRecursion (λ p. (k : ℕ) → Contains p.share.drawer.spent k → Contains s.drawer.spent k) passes

-- So many passes were cut off: two shares of the lock each, and one of each shard and of the counters. The rest has nothing.
pub record IsRest (w : Common) (count : ℕ) (s : Sharing) : Type 0 where
  pub of : IsShareOf w s
  pub nothing : HasNothing s
  pub table : s.sight.share + 2 * count ≡ 4294967296
  pub parts : (i : ℕ) → i < shard_count → (part_at s.parts i).share + count ≡ 4294967296
  pub counters : s.drawer.share + count ≡ 4294967296

-- The passes that were cut off have these shares together.
pub record HaveShares (count : ℕ) (passes : List Passing) : Type 0 where
  pub table : total (λ p. p.share.sight.share) passes ≡ 2 * count
  pub parts : (i : ℕ) → i < shard_count → total (λ p. (part_at p.share.parts i).share) passes ≡ count
  pub counters : total (λ p. p.share.drawer.share) passes ≡ count

-- Passes of the words before their first lines, numbered from 0.
abbrev pub are_fresh : Common → List Passing → Type 0
are_fresh w passes = AreFreshFrom (record { words = w; routes = [] }) 0 passes
