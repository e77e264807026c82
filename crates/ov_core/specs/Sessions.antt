-- A script that runs: lanes and their turns, one after the other or by a schedule, and the report.
use Rattle.std.specs.Prelude.{ℕ, zero, suc, ◌≤◌, ◌≡◌, List, [], ◌∷◌, ◌++◌, length, map, replicate, slice_get, slice_set, Some, ⊤}
use Rattle.std.specs.List.{AllByRecursion, range_with_len}
use Rattle.ov_base.specs.declared.address.Addr.{Addr}
use Rattle.ov_model.specs.declared.place.Place.{Place}
use Rattle.ov_model.specs.declared.answer.Answer.{Answer}
use Rattle.ov_model.specs.declared.line.Line.{Line}
use Rattle.ov_model.specs.declared.line.Script.{Script}
use Rattle.ov_model.specs.declared.report.LaneLog.{LaneLog}
use Rattle.ov_model.specs.declared.report.Report.{Report}
use Rattle.ov_model.specs.Events.{steps_in, judgements_in, draws_in}
use Rattle.ov_model.specs.Keys.{key_of, sealed_ids}
use Rattle.ov_model.specs.Legal.{lane_lines}
use Rattle.ov_model.specs.Next.{Ask, Nil, Over}
use Rattle.ov_model.specs.Path.{Path}
use Rattle.ov_core.specs.Worlds.{World, Seat, lane_count, new_world, no_line, ask_of, happened}

-- A lane's lines in order, and the answers of the first of them.
pub record Lane : Type 0 where
  pub lines : List Line
  pub answers : List Answer

-- A script that runs: the world of its lanes, and the lanes.
pub record Session : Type 0 where
  pub world : World
  pub lanes : List Lane

-- Each lane has the script's lines that name it, none of them answered.
abbrev pub new_lanes : List Line → List Lane
new_lanes lines = map (λ i. record { lines = lane_lines lines i; answers = [] }) (range_with_len 0 lane_count)

-- A script before any turn. Send counters begin at `first`.
abbrev pub begun : Script → ℕ → Session
begun script first = record { world = new_world first; lanes = new_lanes script.lines }

-- The place of a lane's next line.
abbrev pub place_of : ℕ → Lane → Place
place_of i lane = record { lane = i; line = length lane.answers }

-- Lane i has a line that isn't answered yet.
pub record UnderWay (s : Session) (i : ℕ) : Type 0 where
  pub lane : Lane
  pub seat : Seat
  pub line : Line
  pub lane_is : slice_get s.lanes i ≡ Some lane
  pub seat_is : slice_get s.world.seats i ≡ Some seat
  pub line_is : slice_get lane.lines (length lane.answers) ≡ Some line

-- ---- one turn

-- A line asks for nothing more, or is answered without any event.
abbrev pub IsOver : Ask → Type 0
IsOver Nil = ⊤
IsOver Over = ⊤
IsOver _ = ⊥

-- The world after the event that a lane's line asks for next.
abbrev pub world_after : (Addr → Addr) → (s : Session) → (i : ℕ) → UnderWay s i → World
world_after via s i u = happened s.world i u.seat (place_of i u.lane) u.line (ask_of via s.world u.seat u.line)

-- Lane i made its next event, and its line goes on.
pub record Goes (via : Addr → Addr) (i : ℕ) (s after : Session) : Type 0 where
  pub under : UnderWay s i
  pub after_is : after ≡ record s { world = world_after via s i under }
  pub seat : Seat
  pub seat_is : slice_get after.world.seats i ≡ Some seat
  pub more : IsOver (ask_of via after.world seat under.line) → ⊥

-- Lane i's line was answered: the seat is free, and the lane has one answer more.
abbrev pub answered : Session → World → ℕ → Lane → Answer → Session
answered s w i lane a = record {
  world = record w { seats = slice_set w.seats i no_line };
  lanes = slice_set s.lanes i (record lane { answers = lane.answers ++ a ∷ [] });
}

-- Lane i made its next event, or none where it has none, and its line is over: its events and its answer have a
-- path, and what it sealed it sealed under the packet ids that it drew.
pub record Answers (via : Addr → Addr) (i : ℕ) (s after : Session) : Type 0 where
  pub under : UnderWay s i
  pub between : World
  pub between_is : between ≡ world_after via s i under
  pub seat : Seat
  pub seat_is : slice_get between.seats i ≡ Some seat
  pub over : IsOver (ask_of via between seat under.line)
  pub answer : Answer
  pub path : Path (key_of between.table.journal) via (place_of i under.lane) under.line (steps_in seat.events) (judgements_in seat.events) answer
  pub drawn : draws_in seat.events ≡ sealed_ids answer
  pub after_is : after ≡ answered s between i under.lane answer

-- Lane i has no line left and is passed over.
pub record Passes (i : ℕ) (s after : Session) : Type 0 where
  pub none : (lane : Lane) → slice_get s.lanes i ≡ Some lane → length lane.lines ≤ length lane.answers
  pub same : after ≡ s

-- A turn of lane i.
pub data Turn (via : Addr → Addr) (i : ℕ) (s after : Session) : Type 0 where
  goes : Goes via i s after → Turn via i s after
  answers : Answers via i s after → Turn via i s after
  passes : Passes i s after → Turn via i s after

-- ---- reports

-- What a lane did: none of its lines came from a link.
abbrev pub log_of : Lane → LaneLog
log_of lane = record { lines = lane.lines; answers = lane.answers; recorded = 0; unsent = [] }

-- The report of a script that ran.
abbrev pub report_of : Session → Report
report_of s = record { lanes = map log_of s.lanes; journal = s.world.table.journal; notes = s.world.table.notes; shards = s.world.shards }

-- Each line of each lane is answered, and no lane has anything under way.
pub record IsDone (s : Session) : Type 0 where
  pub lanes : AllByRecursion (λ lane. length lane.answers ≡ length lane.lines) s.lanes
  pub seats : AllByRecursion (λ seat. seat ≡ no_line) s.world.seats

-- ---- by a schedule

-- The lanes of a list have a turn each, in the list's order.
abbrev pub Turns : (Addr → Addr) → Session → List ℕ → Session → Type 0
Turns via s [] after = after ≡ s
Turns via s (i ∷ is) after = (m : Session) × Turn via i s m × Turns via m is after

-- So many turns of lane i, so many of the next lane, and so on.
abbrev pub in_order : ℕ → List ℕ → List ℕ
in_order i [] = []
in_order i (n ∷ ns) = replicate n i ++ in_order (suc i) ns

-- By a schedule: its lanes have a turn each, and then the lanes run to their end in number order.
pub record Scheduled (via : Addr → Addr) (script : Script) (first : ℕ) (schedule : List ℕ) (report : Report) : Type 0 where
  pub more : List ℕ
  pub last : Session
  pub turns : Turns via (begun script first) (schedule ++ in_order 0 more) last
  pub end : IsDone last
  pub report_is : report ≡ report_of last

-- ---- one line after the other

-- So many turns of lane i, none of which ends its line.
abbrev pub GoesOn : (Addr → Addr) → ℕ → ℕ → Session → Session → Type 0
GoesOn via i zero s after = after ≡ s
GoesOn via i (suc n) s after = (m : Session) × GoesOn via i n s m × Goes via i m after

-- Lane i's line runs to its end: a last turn answers it.
pub record RunsLine (via : Addr → Addr) (i : ℕ) (s after : Session) : Type 0 where
  pub count : ℕ
  pub between : Session
  pub goes : GoesOn via i count s between
  pub answers : Answers via i between after

-- Each line of a list runs to its end, in the list's order.
abbrev pub RunsLines : (Addr → Addr) → Session → List Line → Session → Type 0
RunsLines via s [] after = after ≡ s
RunsLines via s (line ∷ lines) after = (m : Session) × RunsLine via line.lane s m × RunsLines via m lines after

-- One line after the other, in the order of the script.
pub record Serial (via : Addr → Addr) (script : Script) (first : ℕ) (report : Report) : Type 0 where
  pub last : Session
  pub runs : RunsLines via (begun script first) script.lines last
  pub report_is : report ≡ report_of last
