-- What contracts see of the words that all lanes share and of a lane's share of them, and what each step makes of it.
use Rattle.std.specs.Prelude.{◌≡◌, ⊤, ℕ, ◌+◌, ◌<◌, ◌≤◌, List, [], ◌∷◌, ◌++◌, length, map, Option, Some, None, get_or, Contains}
use mathlib.Core.List.{IsPrefix}
use mathlib.Core.Option.{some}
use lib.ListN.{get_elem?}
use Rattle.ov_base.specs.Sums.{count_of}
use Rattle.ov_draw.specs.Drawer.{Counters, Drawer, IsAbove, IsEnded, AreApart}
use Rattle.ov_model.specs.declared.act.Act.{Act}
use Rattle.ov_model.specs.declared.act.Act.TheVariants as act
use Rattle.ov_model.specs.declared.draw.Drawn.{Drawn}
use Rattle.ov_model.specs.declared.draw.Drawn.TheVariants as drawn
use Rattle.ov_model.specs.declared.entry.Entry.{Entry}
use Rattle.ov_model.specs.declared.note.Note.{Note}
use Rattle.ov_model.specs.declared.replay.ReplayEntry.{ReplayEntry}
use Rattle.ov_model.specs.Limits.{shard_count}
use Rattle.ov_model.specs.Removals.{AllReleased}
use Rattle.ov_model.specs.Runs.{IsRun, notes_of}
use Rattle.ov_replay.specs.Desk.{Part, part_at, is_new, IsDeskSeat, HasShares, IsCut, IsJoined, IsShardOf}
use Rattle.ov_ticket.specs.Tickets.{HasSeen}
use Rattle.ov_turn.specs.Lists.{IsWhole}
use Rattle.ov_turn.specs.Seats.{Name, Sight}

-- The words that all lanes share: the name of the lock over the table, the names of the locks over the eight replay shards,
-- and the send counters.
pub record Common : Type 0 where
  pub name : Name
  pub shards : List Name
  pub counters : Counters

-- What one lane has of them: of which lock its seat is and what that has seen, made, holds and owes, what it has of each
-- replay shard, and what it has drawn.
pub record Sharing : Type 0 where
  pub name : Option Name
  pub sight : Sight Entry
  pub parts : List Part
  pub drawer : Drawer

-- A share is one of these words.
pub record IsShareOf (w : Common) (s : Sharing) : Type 0 where
  pub table : s.name ≡ Some w.name
  pub shards : IsDeskSeat w.shards s.parts
  pub counters : s.drawer.of ≡ w.counters

-- It holds nothing and owes no release.
pub record IsFree (s : Sharing) : Type 0 where
  pub holds : s.sight.holds ≡ []
  pub owes : s.sight.owes ≡ []

-- A seat of the lock that has so many shares and nothing else.
abbrev pub blank_sight : ℕ → Sight Entry
blank_sight share = record { share = share; seen = []; own = []; holds = []; owes = [] }

-- A part of a shard that has so many shares and nothing else.
pub record IsBlankPart (share : ℕ) (p : Part) : Type 0 where
  pub share_is : p.share ≡ share
  pub seen : p.seen ≡ []
  pub own : p.own ≡ []

-- A share before any step: so many shares of the lock, so many of each shard, and so many of the counters.
pub record IsBlank (table each counters : ℕ) (s : Sharing) : Type 0 where
  pub sight : s.sight ≡ blank_sight table
  pub parts : (i : ℕ) → i < shard_count → IsBlankPart each (part_at s.parts i)
  pub drawer : s.drawer ≡ record { of = s.drawer.of; share = counters; drawn = []; spent = [] }

-- It has enough to cut a share off.
pub record HasEnough (s : Sharing) : Type 0 where
  pub table : 3 ≤ s.sight.share
  pub parts : HasShares 2 s.parts
  pub counters : 2 ≤ s.drawer.share

-- A share was cut off: two shares of the lock, so that one may be handed on, and one of all else. It has seen what the first
-- has, and has nothing else.
pub record IsCutOff (old left right : Sharing) : Type 0 where
  pub table : left.sight.share + 2 ≡ old.sight.share
  pub left_sight : left.sight ≡ record old.sight { share = left.sight.share }
  pub right_sight : right.sight ≡ record { share = 2; seen = old.sight.seen; own = []; holds = []; owes = [] }
  pub parts : (i : ℕ) → i < shard_count → IsCut (part_at old.parts i) (part_at left.parts i) (part_at right.parts i)
  pub counters : left.drawer.share + 1 ≡ old.drawer.share
  pub left_drawer : left.drawer ≡ record old.drawer { share = left.drawer.share }
  pub right_drawer : right.drawer ≡ record { of = old.drawer.of; share = 1; drawn = []; spent = [] }

-- Two shares were put together: what each had seen begins what is seen now, and all else is what both had.
pub record IsBoth (left right whole : Sharing) : Type 0 where
  pub share : whole.sight.share ≡ left.sight.share + right.sight.share
  pub seen_left : IsPrefix left.sight.seen whole.sight.seen
  pub seen_right : IsPrefix right.sight.seen whole.sight.seen
  pub own : whole.sight.own ≡ left.sight.own ++ right.sight.own
  pub parts : (i : ℕ) → i < shard_count → IsJoined (part_at left.parts i) (part_at right.parts i) (part_at whole.parts i)
  pub drawer : whole.drawer ≡ record { of = left.drawer.of; share = left.drawer.share + right.drawer.share; drawn = left.drawer.drawn ++ right.drawer.drawn; spent = left.drawer.spent ++ right.drawer.spent }

-- More of the table's history may have been seen; all else is as it was.
pub record OnlySaw (old new : Sharing) : Type 0 where
  pub seen : HasSeen old.sight new.sight
  pub same : new ≡ record old { sight = new.sight }

-- It is the one share that is left, into which every other was put.
pub record IsWholeShare (s : Sharing) : Type 0 where
  pub table : s.sight.share ≡ 4294967296
  pub parts : (i : ℕ) → i < shard_count → (part_at s.parts i).share ≡ 4294967296
  pub counters : s.drawer.share ≡ 4294967296

-- What the words end with, of which a share has all: the journal is a run with its notes, and of the journal and of each
-- shard the share's own entries are all, each once and at its position. Each replay step is the rule's in its shard. Of each
-- key the ids that were drawn are the numbers from the first on, each once, and every peer and key that is gone was let go.
pub record IsEnd (s : Sharing) (journal : List Entry) (notes : List Note) (shards : List (List ReplayEntry)) : Type 0 where
  pub run : IsRun journal
  pub notes_are : notes ≡ notes_of journal
  pub seen : IsPrefix s.sight.seen journal
  pub own : IsWhole journal s.sight.own
  pub eight : length shards ≡ shard_count
  pub each : (i : ℕ) → i < shard_count → IsShardOf i (part_at s.parts i) (get_or shards i [])
  pub ended : IsEnded s.drawer.of.first s.drawer.drawn s.drawer.spent
  pub released : AllReleased journal

-- A counter was asked: an id stands behind those that were drawn, and is above those of its key; or the key stands among
-- the spent ones.
abbrev pub HasDrawn : (old new : Sharing) → (key : ℕ) → Drawn → Type 0
HasDrawn old new key (drawn.Id n) = (new ≡ record old { drawer = record old.drawer { drawn = old.drawer.drawn ++ (key, n) ∷ [] } }) × (old.drawer.of.first ≤ n) × IsAbove key n old.drawer.drawn
HasDrawn old new key drawn.Spent = new ≡ record old { drawer = record old.drawer { spent = old.drawer.spent ++ key ∷ [] } }
