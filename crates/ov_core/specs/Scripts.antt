-- The courses of all lanes: a script that runs in a world.
use Rattle.std.specs.Prelude.{ℕ, ◌≡◌, ◌+◌, ◌≤◌, ◌<◌, List, [], length, map, replicate, Some, slice_get, slice_set}
use Rattle.std.specs.List.{range_with_len}
use Rattle.ov_base.specs.declared.address.Addr.{Addr}
use Rattle.ov_model.specs.declared.line.Line.{Line}
use Rattle.ov_model.specs.Legal.{lane_lines}
use Rattle.ov_path.specs.declared.stage.Stage.{Stage}
use Rattle.ov_path.specs.declared.stage.Stage.TheVariants as stage
use Rattle.ov_core.specs.declared.course.Turn.{Turn}
use Rattle.ov_core.specs.declared.course.Turn.TheVariants as turn
use Rattle.ov_core.specs.Worlds.{lane_count}
use Rattle.ov_core.specs.Seats.{Seated, via_in}
use Rattle.ov_core.specs.Sessions.{Lane, Session, Turns, in_order, RunsLine, RunsLines}
use Rattle.ov_core.specs.Ready.{Running}
use Rattle.ov_core.specs.Courses.{Coursed, Standing, OnCourse, Passed, lane_of, session_at}

-- The lanes of some courses.
abbrev pub lanes_of : List Coursed → List Lane
lanes_of courses = map lane_of courses

-- The stages at which the lines of some courses stand.
abbrev pub stages_of : List Coursed → List Stage
stages_of courses = map (λ c. c.walk.stage) courses

-- The lanes of some courses, and where their lines stand.
abbrev pub standing_of : (Addr → Addr) → List Coursed → Standing
standing_of via courses = record { lanes = lanes_of courses; stages = stages_of courses; via = via }

-- The script that runs in a world, by the courses of its lanes.
abbrev pub script_at : Seated → List Coursed → Session
script_at d courses = session_at d (lanes_of courses)

-- The courses of all lanes, in the order of their numbers, stand in a script that runs.
pub record AreCourses (d : Seated) (courses : List Coursed) : Type 0 where
  pub running : Running (via_in d) (script_at d courses) (stages_of courses)
  pub count : length courses ≡ lane_count
  pub numbered : (i : ℕ) (c : Coursed) → slice_get courses i ≡ Some c → c.lane ≡ i

-- The lanes once a course became another of its lane, and the stages of their lines.
abbrev pub standing_then : Standing → Coursed → Standing
standing_then all x = record all { lanes = slice_set all.lanes x.lane (lane_of x); stages = slice_set all.stages x.lane x.walk.stage }

-- A line of the lane ran to its end: a last turn answered it.
pub record LineRan (d e : Seated) (all : Standing) (c x : Coursed) : Type 0 where
  pub runs : RunsLine all.via c.lane (session_at d all.lanes) (session_at e (standing_then all x).lanes)
  pub lane : x.lane ≡ c.lane
  pub lines : x.lines ≡ c.lines
  pub answered : length x.answers ≡ length c.answers + 1
  pub on : OnCourse e (standing_then all x) x

-- All lines of the lane ran to their end, by so many turns of it.
pub record LinesRan (d e : Seated) (all : Standing) (c x : Coursed) : Type 0 where
  pub count : ℕ
  pub turns : Turns all.via (session_at d all.lanes) (replicate count c.lane) (session_at e (standing_then all x).lanes)
  pub lane : x.lane ≡ c.lane
  pub lines : x.lines ≡ c.lines
  pub done : length x.lines ≤ length x.answers
  pub on : OnCourse e (standing_then all x) x

-- A lane with some lines, none of them begun.
abbrev pub course_of : List Line → ℕ → Coursed
course_of lines i = record { lane = i; lines = lane_lines lines i; answers = []; walk = record { place = record { lane = i; line = 0 }; stage = stage.Fresh } }

-- All lanes with the lines of a script that name them.
abbrev pub dealt : List Line → List Coursed
dealt lines = map (course_of lines) (range_with_len 0 lane_count)

-- The lanes of a list took a turn each, in its order.
pub record TookTurns (d e : Seated) (before after : List Coursed) (lanes : List ℕ) : Type 0 where
  pub turns : Turns (via_in d) (script_at d before) lanes (script_at e after)
  pub are : AreCourses e after
  pub hops : via_in d ≡ via_in e

-- The first lanes ran to their end, in the order of their numbers, by so many turns each.
pub record RanOut (d e : Seated) (before after : List Coursed) (n : ℕ) : Type 0 where
  pub more : List ℕ
  pub long : length more ≡ n
  pub turns : Turns (via_in d) (script_at d before) (in_order 0 more) (script_at e after)
  pub are : AreCourses e after
  pub hops : via_in d ≡ via_in e
  pub done : (i : ℕ) (c : Coursed) → i < n → slice_get after i ≡ Some c → length c.lines ≤ length c.answers

-- The first lines of a script ran to their end, one after the other. Each lane has its lines of the script, and
-- answers to the first of them.
pub record RanLines (all : List Line) (d e : Seated) (before after : List Coursed) (lines : List Line) : Type 0 where
  pub runs : RunsLines (via_in d) (script_at d before) lines (script_at e after)
  pub are : AreCourses e after
  pub hops : via_in d ≡ via_in e
  pub lines_are : (i : ℕ) (c : Coursed) → slice_get after i ≡ Some c → c.lines ≡ lane_lines all i
  pub answered : (i : ℕ) (c : Coursed) → slice_get after i ≡ Some c → length c.answers ≡ length (lane_lines lines i)

-- A line of the lane ran to its end, or the lane had none left.
abbrev pub RanLine : (d e : Seated) → Standing → (c x : Coursed) → Turn → Type 0
RanLine d e all c x turn.Passed = Passed d e c x
RanLine d e all c x turn.Going = ⊥
RanLine d e all c x turn.Answered = LineRan d e all c x

-- The same, in whichever script the course is its lane's.
abbrev pub RanLineIn : (d e : Seated) → (c x : Coursed) → Turn → Type 0
RanLineIn d e c x r = (all : Standing) → OnCourse d all c → RanLine d e all c x r

-- All lines of the lane ran to their end, in whichever script the course is its lane's.
abbrev pub LinesRanIn : (d e : Seated) → (c x : Coursed) → Type 0
LinesRanIn d e c x = (all : Standing) → OnCourse d all c → LinesRan d e all c x
