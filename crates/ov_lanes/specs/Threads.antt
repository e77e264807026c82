-- What the lanes of a script have done, each on a thread of its own, and that the first lines of a script come first.
use Rattle.std.specs.Prelude.{ℕ, ◌≡◌, ◌+◌, ◌<◌, ◌≤◌, List, [], length, take, slice_get, Some}
use Rattle.std.specs.List.{AllByRecursion, AllPairs}
use Rattle.ov_model.specs.declared.line.Line.{Line}
use Rattle.ov_model.specs.declared.line.Script.{Script}
use Rattle.ov_model.specs.declared.place.Place.{Place}
use Rattle.ov_model.specs.declared.report.LaneLog.{LaneLog}
use Rattle.ov_model.specs.declared.report.Report.{Report}
use Rattle.ov_model.specs.Legal.{lane_lines}
use Rattle.ov_model.specs.Limits.{greatest_packet_id}
use Rattle.ov_model.specs.Removals.{AllReleased}
use Rattle.ov_model.specs.Via.{via_of}
use Rattle.ov_share.specs.Keepings.{LaneKept}
use Rattle.ov_share.specs.Passings.{Passing, OneHistory}

-- ---- lanes that are done

-- A lane of the report: the script's lines of it, each answered, by the pass's own steps alone.
pub record LaneDone (script : Script) (report : Report) (p : Passing) (i : ℕ) (log : LaneLog) : Type 0 where
  pub number : p.number ≡ i
  pub lines : log.lines ≡ lane_lines script.lines i
  pub answered : length log.answers ≡ length log.lines
  pub recorded : log.recorded ≡ 0
  pub kept : LaneKept (via_of script.routes) i log.lines log.answers [] p.share

-- All lanes are done, each by a pass of its own, and the passes share one history.
pub record LanesDone (script : Script) (first : ℕ) (report : Report) (passes : List Passing) : Type 0 where
  pub begin : first ≤ greatest_packet_id + 1
  pub history : OneHistory first report.journal report.notes report.shards passes
  pub released : AllReleased report.journal
  pub named : AllByRecursion (λ line. line.lane < length report.lanes) script.lines
  pub count : length passes ≡ length report.lanes
  pub each : (i : ℕ) (p : Passing) (log : LaneLog) → slice_get passes i ≡ Some p → slice_get report.lanes i ≡ Some log → LaneDone script report p i log

-- ---- the head of a script

-- A place is that of the script's line with a number: it is in the line's lane, behind the earlier lines of that lane.
pub record IsPlaceOf (lines : List Line) (n : ℕ) (place : Place) : Type 0 where
  pub line : Line
  pub line_is : slice_get lines n ≡ Some line
  pub lane : place.lane ≡ line.lane
  pub earlier : place.line ≡ length (lane_lines (take n lines) line.lane)

-- A place is that of a line with this number or a lower one.
pub record IsUpTo (lines : List Line) (n : ℕ) (place : Place) : Type 0 where
  pub number : ℕ
  pub most : number ≤ n
  pub is : IsPlaceOf lines number place

-- The entries of the script's first lines, so many, stand before all others and in the order of those lines: before an entry
-- of one of them stand only entries of that line and of lines before it.
abbrev pub HeadFirst : Script → (head : ℕ) → Report → Type 0
HeadFirst script head report = AllPairs (λ e f. (n : ℕ) → n < head → IsPlaceOf script.lines n f.place → IsUpTo script.lines n e.place) report.journal
