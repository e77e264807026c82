-- The lanes at work: what each has of its lines, and what running some of these leaves of it.
use Rattle.std.specs.Prelude.{◌≡◌, ℕ, ◌+◌, ◌-◌, ◌≤◌, Bool, false, List, [], Some, length, map, slice_get}
use Rattle.std.specs.List.{AllByRecursion}
use Rattle.ov_model.specs.declared.answer.Answer.{Answer}
use Rattle.ov_model.specs.declared.line.Line.{Line}
use Rattle.ov_model.specs.declared.place.Place.{Place}
use Rattle.ov_model.specs.declared.report.LaneLog.{LaneLog}
use Rattle.ov_model.specs.Legal.{lane_lines}
use Rattle.ov_model.specs.Sizes.{Fits}
use Rattle.ov_model.specs.Via.{via_of}
use Rattle.ov_lane.specs.Passes.{Shared, IsPassOf, IsFree, OnlySaw, AreAllPasses}
use Rattle.ov_share.specs.Added.{HasAdded}
use Rattle.ov_share.specs.Keepings.{LaneKept, IsOrderly}
use Rattle.ov_share.specs.Passings.{Passing}
use Rattle.ov_course.specs.Courses.{HasSameShares, IsFrom}
use Rattle.ov_lanes.specs.Heads.{HeadRuns}

-- ---- one lane

-- A lane at a shared table: its pass, its lines, the answers of those that are over, and whether one was stopped by want of
-- memory.
pub record Lane : Type 0 where
  pub table : Shared
  pub pass : Passing
  pub lines : List Line
  pub answers : List Answer
  pub stopped : Bool

-- The place of its next line.
abbrev pub next_of : Lane → Place
next_of lane = record { lane = lane.pass.number; line = lane.pass.lines }

-- Its pass is the table's, orderly, and holds and owes nothing. It has as many answers as its pass has lines, and no more than
-- it has lines, which fit into what a link carries.
pub record IsReady (lane : Lane) : Type 0 where
  pub of : IsPassOf lane.table lane.pass
  pub free : IsFree lane.pass
  pub orderly : IsOrderly lane.pass.number lane.pass.share
  pub answered : lane.pass.lines ≡ length lane.answers
  pub most : length lane.answers ≤ length lane.lines
  pub fits : AllByRecursion (λ line. Fits line.deed) lane.lines

-- By its pass's own steps alone its first lines have its answers.
abbrev pub Stands : Lane → Type 0
Stands lane = LaneKept (via_of lane.table.routes) lane.pass.number lane.lines lane.answers [] lane.pass.share

-- Some of its lines were run, whether they were answered or not: it is ready again, with the same lines and as many shares as
-- before, and its pass made entries of these places only.
pub record StaysReady (kind : Place → Type 0) (old new : Lane) : Type 0 where
  pub table : new.table ≡ old.table
  pub lines : new.lines ≡ old.lines
  pub number : new.pass.number ≡ old.pass.number
  pub shares : HasSameShares old.pass.share new.pass.share
  pub added : HasAdded kind old.pass.share new.pass.share
  pub ready : IsReady new

-- Its next lines, so many, are answered, by its pass's own steps alone.
pub record AnswersMore (count : ℕ) (old new : Lane) : Type 0 where
  pub on : old.stopped ≡ false
  pub answered : length new.answers ≡ length old.answers + count
  pub stands : Stands old → Stands new

-- Its next line was run, and is answered unless it was stopped.
pub record RanNext (old new : Lane) : Type 0 where
  pub stays : StaysReady (λ p. p ≡ next_of old) old new
  pub answers : new.stopped ≡ false → AnswersMore 1 old new

-- Its next lines, so many, were run, and are answered unless one was stopped.
pub record RanSome (count : ℕ) (old new : Lane) : Type 0 where
  pub stays : StaysReady (IsFrom old.pass.number old.pass.lines) old new
  pub answers : new.stopped ≡ false → AnswersMore count old new

-- All its lines were run that were left.
abbrev pub RanOut : (old new : Lane) → Type 0
RanOut old new = RanSome (length old.lines - length old.answers) old new

-- More of the table's history may have been seen, and all else is as it was.
pub record LaneSaw (old new : Lane) : Type 0 where
  pub saw : OnlySaw old.pass new.pass
  pub same : new ≡ record old { pass = new.pass }

-- ---- all lanes

-- The passes of some lanes.
abbrev pub passes_of : List Lane → List Passing
passes_of lanes = map (λ lane. lane.pass) lanes

-- No line of them was stopped.
abbrev pub are_on : List Lane → Type 0
are_on lanes = AllByRecursion (λ lane. lane.stopped ≡ false) lanes

-- Each may have seen more, and all else is as it was.
pub record AllSaw (old new : List Lane) : Type 0 where
  pub count : length new ≡ length old
  pub each : (i : ℕ) (a b : Lane) → slice_get old i ≡ Some a → slice_get new i ≡ Some b → LaneSaw a b

-- These two have seen the same.
abbrev pub HaveMet : (one other : ℕ) → List Lane → Type 0
HaveMet one other lanes = (a b : Lane) → slice_get lanes one ≡ Some a → slice_get lanes other ≡ Some b → a.pass.share.sight.seen ≡ b.pass.share.sight.seen

-- The lanes of a script at their table: each has the script's lines of it, and answered its first ones by its pass's own steps
-- unless one was stopped; and their passes are all of the table's.
pub record AreAtWork (o : Shared) (lines : List Line) (lanes : List Lane) : Type 0 where
  pub all : AreAllPasses o (passes_of lanes)
  pub numbers : (i : ℕ) (lane : Lane) → slice_get lanes i ≡ Some lane → (lane.pass.number ≡ i) × (lane.lines ≡ lane_lines lines i)
  pub ready : AllByRecursion IsReady lanes
  pub tables : AllByRecursion (λ lane. lane.table ≡ o) lanes
  pub stands : AllByRecursion (λ lane. lane.stopped ≡ false → Stands lane) lanes

-- The first lines of the script, so many, are answered one after the other, and a lane has seen them all.
pub record AreAtHead (o : Shared) (lines : List Line) (n last : ℕ) (lanes : List Lane) : Type 0 where
  pub work : AreAtWork o lines lanes
  pub on : are_on lanes
  pub low : ℕ
  pub runs : HeadRuns lines n low (passes_of lanes)
  pub saw : (lane : Lane) → slice_get lanes last ≡ Some lane → low ≤ length lane.pass.share.sight.seen

-- The head is over, and each lane has seen all of it.
pub record AreBehindHead (o : Shared) (lines : List Line) (n : ℕ) (lanes : List Lane) : Type 0 where
  pub work : AreAtWork o lines lanes
  pub on : are_on lanes
  pub low : ℕ
  pub runs : HeadRuns lines n low (passes_of lanes)
  pub saw : AllByRecursion (λ lane. low ≤ length lane.pass.share.sight.seen) lanes

-- Each lane ran its lines out.
pub record AllRanOut (old new : List Lane) : Type 0 where
  pub count : length new ≡ length old
  pub each : (i : ℕ) (a b : Lane) → slice_get old i ≡ Some a → slice_get new i ≡ Some b → RanOut a b

-- The head was run, and then all other lines were.
pub record RanBehind (o : Shared) (lines : List Line) (n : ℕ) (lanes : List Lane) : Type 0 where
  pub before : List Lane
  pub head : AreBehindHead o lines n before
  pub ran : AllRanOut before lanes

-- All lines were run: the lanes are at work still, so many, and unless a line was stopped the head was run and then all others.
pub record HaveRunAll (o : Shared) (lines : List Line) (n count : ℕ) (lanes : List Lane) : Type 0 where
  pub work : AreAtWork o lines lanes
  pub counted : length lanes ≡ count
  pub behind : are_on lanes → RanBehind o lines n lanes

-- What lanes are to run: the script's lines, and how many of these are the head.
pub record Beginning : Type 0 where
  pub lines : List Line
  pub head : ℕ

-- What lanes run: at which table, the script's lines, and how many of these are the head.
pub record Setting : Type 0 where
  pub table : Shared
  pub lines : List Line
  pub head : ℕ

-- ---- the end

-- A lane's log.
abbrev pub log_of : Lane → LaneLog
log_of lane = record { lines = lane.lines; answers = lane.answers; recorded = 0; unsent = [] }
