-- What every report must be.
use Rattle.std.specs.Prelude.{ℕ, ◌-◌, ◌≡◌, ◌<◌, ◌≤◌, List, [], ◌∷◌, Option, Some, ◌==◌, filter, take, length, slice_get}
use Rattle.std.specs.List.{AllByRecursion}
use Rattle.ov_base.specs.declared.address.Addr.{Addr}
use Rattle.ov_model.specs.declared.line.Line.{Line}
use Rattle.ov_model.specs.declared.line.Script.{Script}
use Rattle.ov_model.specs.declared.answer.Answer.{Answer}
use Rattle.ov_model.specs.declared.replay.ReplayEntry.{ReplayEntry}
use Rattle.ov_model.specs.declared.report.LaneLog.{LaneLog}
use Rattle.ov_model.specs.declared.report.Report.{Report}
use Rattle.ov_model.specs.Limits.{shard_count}
use Rattle.ov_model.specs.Runs.{IsRun, notes_of}
use Rattle.ov_model.specs.Events.{Step, of, shown_in, steps_of}
use Rattle.ov_model.specs.Tables.{Material}
use Rattle.ov_model.specs.Path.{Path}
use Rattle.ov_model.specs.Via.{via_of}
use Rattle.ov_model.specs.Keys.{key_of, IdsCount}
use Rattle.ov_model.specs.Replay.{ShardJudges}
use Rattle.ov_model.specs.Removals.{RemovalsNoted, AllReleased}

-- The script's lines of one lane, in order.
abbrev pub lane_lines : List Line → ℕ → List Line
lane_lines lines lane = filter (λ line. line.lane == lane) lines

-- One lane's log: its lines without those that came from a link are the script's lines of the lane,
-- and there is an answer for each line.
pub record LaneMatches (lines : List Line) (lane : ℕ) (log : LaneLog) : Type 0 where
  pub recorded : log.recorded ≤ length log.lines
  pub lines_are : take (length log.lines - log.recorded) log.lines ≡ lane_lines lines lane
  pub answered : length log.answers ≡ length log.lines

-- Lanes and their lines: each line of the script has a lane of the report, and each log matches.
pub record LanesMatch (script : Script) (report : Report) : Type 0 where
  pub within : AllByRecursion (λ line. line.lane < length report.lanes) script.lines
  pub each : (lane : ℕ) (log : LaneLog) → slice_get report.lanes lane ≡ Some log → LaneMatches script.lines lane log

-- The journal is a run of the serial peer table, and the notes are those of the run.
pub record JournalRuns (report : Report) : Type 0 where
  pub runs : IsRun report.journal
  pub notes : report.notes ≡ notes_of report.journal

-- One answered line of a lane.
pub record Meets (material : ℕ → Option Material) (via : Addr → Addr) (steps : List Step) (shards : List (List ReplayEntry)) (lane : ℕ) (lines : List Line) (answers : List Answer) (i : ℕ) : Type 0 where
  pub line : Line
  pub answer : Answer
  pub line_is : slice_get lines i ≡ Some line
  pub answer_is : slice_get answers i ≡ Some answer
  pub path : Path material via (record { lane = lane; line = i }) line (of steps lane i) (shown_in shards lane i) answer

-- Along the steps, the line numbers of a lane never fall: none after a step of line n is below n.
abbrev pub NeverFall : ℕ → List Step → Type 0
NeverFall lane [] = Unit {0}
NeverFall lane (s ∷ steps) = (s.entry.place.lane ≡ lane → AllByRecursion (λ later. later.entry.place.lane ≡ lane → s.entry.place.line ≤ later.entry.place.line) steps) × NeverFall lane steps

-- A lane whose lines are answered, so many as there are answers: each of its steps and replay steps is of
-- an answered line, its lines' numbers never fall along the steps, and each answered line has a path.
pub record LaneMeets (material : ℕ → Option Material) (via : Addr → Addr) (steps : List Step) (shards : List (List ReplayEntry)) (lane : ℕ) (lines : List Line) (answers : List Answer) : Type 0 where
  pub within : AllByRecursion (λ s. s.entry.place.lane ≡ lane → s.entry.place.line < length answers) steps
  pub judged_within : AllByRecursion (λ shard. AllByRecursion (λ r. r.place.lane ≡ lane → r.place.line < length answers) shard) shards
  pub falls : NeverFall lane steps
  pub each : (i : ℕ) → i < length answers → Meets material via steps shards lane lines answers i

-- Lines and steps: each step has a lane and a line of the report, in each lane the lines' numbers
-- never fall along the journal, and each line has a path.
pub record LinesFollowPath (material : ℕ → Option Material) (via : Addr → Addr) (report : Report) : Type 0 where
  pub within : AllByRecursion (λ s. s.entry.place.lane < length report.lanes) (steps_of report.journal)
  pub each : (lane : ℕ) (log : LaneLog) → slice_get report.lanes lane ≡ Some log → LaneMeets material via (steps_of report.journal) report.shards lane log.lines log.answers

-- Along a shard, the line numbers of a lane rise: a line makes one replay step at most.
abbrev pub LinesRise : ℕ → List ReplayEntry → Type 0
LinesRise lane [] = Unit {0}
LinesRise lane (r ∷ rs) = (r.place.lane ≡ lane → AllByRecursion (λ later. later.place.lane ≡ lane → r.place.line < later.place.line) rs) × LinesRise lane rs

-- Replay shards: there are shard_count of them; each step stands in the shard of its key and has the moment and the
-- verdict that the earlier steps of its key give it; its lane exists (LaneMeets says that its line does);
-- and in each lane the line numbers rise along the shard.
pub record ShardsJudge (report : Report) : Type 0 where
  pub eight : length report.shards ≡ shard_count
  pub judges : (shard : ℕ) (rs : List ReplayEntry) → slice_get report.shards shard ≡ Some rs → ShardJudges shard rs
  pub within : AllByRecursion (λ shard. AllByRecursion (λ r. r.place.lane < length report.lanes) shard) report.shards
  pub rise : (lane : ℕ) → AllByRecursion (λ shard. LinesRise lane shard) report.shards

-- Each removal has its notes, in order, with its reason; no peer is removed twice.
abbrev pub RemovalsAreNoted : Report → Type 0
RemovalsAreNoted report = RemovalsNoted report.journal report.notes

-- A script's report, where all send counters began at `first`. A key's serial stands for the key that the
-- journal installed under it, and the next hop of an address is that of the script's routes.
pub record Legal (script : Script) (first : ℕ) (report : Report) : Type 0 where
  pub lanes : LanesMatch script report
  pub journal : JournalRuns report
  pub lines : LinesFollowPath (key_of report.journal) (via_of script.routes) report
  pub shards : ShardsJudge report
  pub ids : IdsCount first report
  pub removals : RemovalsAreNoted report
  pub released : AllReleased report.journal
