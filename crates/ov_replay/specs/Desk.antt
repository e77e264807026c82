-- The desk of the eight shards, and what a seat of it has of each shard, by the shard's number.
use Rattle.std.specs.Prelude.{◌≡◌, ◌≢◌, ℕ, ◌+◌, ◌%◌, ◌<◌, ◌≤◌, ◌⊎◌, List, [], ◌∷◌, ◌++◌, length, get_or, slice_get, Option, Some, None}
use Rattle.std.specs.List.{AllByRecursion}
use mathlib.Core.List.{IsPrefix}
use Rattle.ov_turn.specs.declared.kept.Kept.{Ghosts}
use Rattle.ov_turn.specs.declared.inside.Inside.{Inside}
use Rattle.ov_turn.specs.declared.lock.LockSeat.{LockSeat}
use Rattle.ov_turn.specs.declared.lock.TicketLock.{TicketLock}
use Rattle.ov_turn.specs.Lists.{IsWhole}
use Rattle.ov_turn.specs.Insides.{IsSame, kept_of, seen_in, own_in, holds_in, owes_in, live_in, dying_in, to_link_in, to_unlink_in}
use Rattle.ov_turn.specs.Seats.{Name, name_of, share_of, seen_of, own_of, holds_of, owes_of, name_of_seat}
use Rattle.ov_model.specs.Limits.{shard_count}
use Rattle.ov_model.specs.Replay.{judged, ShardJudges}
use Rattle.ov_model.specs.declared.place.Place.{Place}
use Rattle.ov_model.specs.declared.replay.ReplayEntry.{ReplayEntry}
use Rattle.ov_model.specs.declared.replay.Verdict.{Verdict}
use Rattle.ov_replay.specs.Course.{EachJudged}

-- What a seat has of one shard: whose it is, its part of the 4294967296 shares, the history that it has seen, and its own entries with their positions there.
pub record Part : Type 0 where
  pub name : Option Name
  pub share : ℕ
  pub seen : List ReplayEntry
  pub own : List (ℕ × ReplayEntry)

-- Nothing, of no shard.
abbrev pub no_part : Part
no_part = record { name = None; share = 0; seen = []; own = [] }

-- A seat's part of a shard, by the shard's number.
abbrev pub part_at : List Part → ℕ → Part
part_at seat s = get_or seat s no_part

-- The seat is one of this desk.
abbrev pub IsDeskSeat : List Name → List Part → Type 0
IsDeskSeat desk seat = (s : ℕ) → s < shard_count → (part_at seat s).name ≡ slice_get desk s

-- The seat has at least so many shares of each shard.
abbrev pub HasShares : ℕ → List Part → Type 0
HasShares n seat = (s : ℕ) → s < shard_count → n ≤ (part_at seat s).share

-- The part that a desk begins with: it has the whole share and nothing else.
abbrev pub is_new : Option Name → Part
is_new name = record { name = name; share = 4294967296; seen = []; own = [] }

-- One share was cut off: the second part has seen what the first has, and has nothing else.
pub record IsCut (old left right : Part) : Type 0 where
  pub share : left.share + 1 ≡ old.share
  pub left_is : left ≡ record old { share = left.share }
  pub right_is : right ≡ record old { share = 1; own = [] }

-- Two parts were put together: what each had seen begins what is seen now, which is the longer of the two, and the entries and shares are those of both.
pub record IsJoined (left right whole : Part) : Type 0 where
  pub name : whole.name ≡ left.name
  pub share : whole.share ≡ left.share + right.share
  pub seen_left : IsPrefix left.seen whole.seen
  pub seen_right : IsPrefix right.seen whole.seen
  pub longer : (whole.seen ≡ left.seen) ⊎ (whole.seen ≡ right.seen)
  pub own : whole.own ≡ left.own ++ right.own

-- A step was made. At that moment the shard's history was `before`, which begins with what the seat had seen: the verdict is the rule's there, and the entry is the last that the seat has seen, and its own.
pub record IsStepped (old new : Part) (place : Place) (key id at : ℕ) (verdict : Verdict) : Type 0 where
  pub before : List ReplayEntry
  pub front : IsPrefix old.seen before
  pub verdict_is : verdict ≡ (judged before place key id at).verdict
  pub new_is : new ≡ record old { seen = before ++ judged before place key id at ∷ []; own = old.own ++ (length before, judged before place key id at) ∷ [] }

-- Nothing was made, though more may have been seen.
pub record HasLooked (old new : Part) : Type 0 where
  pub front : IsPrefix old.seen new.seen
  pub same : new ≡ record old { seen = new.seen }

-- A step of a key was made on the key's shard, and the other shards' parts stay.
pub record HasStepped (old new : List Part) (place : Place) (key id at : ℕ) (verdict : Verdict) : Type 0 where
  pub here : IsStepped (part_at old (key % shard_count)) (part_at new (key % shard_count)) place key id at verdict
  pub others : (s : ℕ) → s ≢ key % shard_count → part_at new s ≡ part_at old s

-- No step was made: more of the key's shard may have been seen, and the other shards' parts stay.
pub record HasNotStepped (old new : List Part) (key : ℕ) : Type 0 where
  pub here : HasLooked (part_at old (key % shard_count)) (part_at new (key % shard_count))
  pub others : (s : ℕ) → s ≢ key % shard_count → part_at new s ≡ part_at old s

-- A shard's whole history: what the part had seen begins it, its own entries are all of it, each once and at its position, and each has the moment and the verdict that follow from its key's earlier steps.
pub record IsShardOf (s : ℕ) (p : Part) (es : List ReplayEntry) : Type 0 where
  pub seen : IsPrefix p.seen es
  pub own : IsWhole es p.own
  pub judged : ShardJudges s es

-- A shard's whole history, but for the keys: what the part had seen begins it, its own entries are all of it, and each is judged.
pub record IsClosed (p : Part) (es : List ReplayEntry) : Type 0 where
  pub seen : IsPrefix p.seen es
  pub own : IsWhole es p.own
  pub judged : EachJudged es

-- A seat inside a shard's lock has seen the whole history, and holds and owes nothing.
pub record IsResting (it : Inside (List ReplayEntry) ReplayEntry) : Type 0 where
  pub history : kept_of it ≡ seen_in it
  pub live : live_in it ≡ []
  pub dying : dying_in it ≡ []
  pub link : to_link_in it ≡ []
  pub unlink : to_unlink_in it ≡ []
  pub holds : holds_in it ≡ []
  pub owes : owes_in it ≡ []

-- A step was made under the shard's lock: its entry is the rule's after all earlier ones, and is the seat's own.
pub record IsJudgedIn (old new : Inside (List ReplayEntry) ReplayEntry) (place : Place) (key id at : ℕ) (verdict : Verdict) : Type 0 where
  pub same : IsSame old new
  pub resting : IsResting new
  pub verdict_is : verdict ≡ (judged (seen_in old) place key id at).verdict
  pub seen : seen_in new ≡ seen_in old ++ judged (seen_in old) place key id at ∷ []
  pub own : own_in new ≡ own_in old ++ (length (seen_in old), judged (seen_in old) place key id at) ∷ []

-- No step was made under the lock.
pub record IsUnjudged (old new : Inside (List ReplayEntry) ReplayEntry) : Type 0 where
  pub same : IsSame old new
  pub resting : IsResting new
  pub seen : seen_in new ≡ seen_in old
  pub own : own_in new ≡ own_in old

module _ {S : Type 0} where
  -- The name of a shard's lock, where there is one.
  abbrev pub name_at : Option (TicketLock S ReplayEntry) → Option Name
  name_at None = None
  name_at (Some lock) = Some (name_of lock)

module _ {S : Type 0} {K : Ghosts S ReplayEntry} where
  -- What a lock's seat has, where there is one.
  abbrev pub part_in : Option (LockSeat S ReplayEntry K) → Part
  part_in None = no_part
  part_in (Some seat) = record { name = Some (name_of_seat seat); share = share_of seat; seen = seen_of seat; own = own_of seat }

  -- It holds no cell and owes none, and its own entries are those of the shard's keys.
  abbrev pub IsOfShard : ℕ → Option (LockSeat S ReplayEntry K) → Type 0
  IsOfShard s None = Unit {0}
  IsOfShard s (Some seat) = (holds_of seat ≡ []) × (owes_of seat ≡ []) × AllByRecursion (λ e. e.1.key % shard_count ≡ s) (own_of seat)
