-- A lane's course in code: its lines, their answers and the walk of the line under way; and what a turn of it does.
use Rattle.std.specs.Prelude.{ℕ, ◌≡◌, ◌≤◌, ◌<◌, List, [], ◌∷◌, ◌++◌, length, Some, slice_get, slice_set}
use Rattle.std.specs.List.{AllByRecursion}
use Rattle.ov_base.specs.declared.address.Addr.{Addr}
use Rattle.ov_model.specs.declared.answer.Answer.{Answer}
use Rattle.ov_model.specs.declared.line.Line.{Line}
use Rattle.ov_model.specs.Sizes.{Fits}
use Rattle.ov_path.specs.declared.stage.Stage.{Stage}
use Rattle.ov_path.specs.declared.walk.Walk.{Walk}
use Rattle.ov_core.specs.declared.course.Turn.{Turn}
use Rattle.ov_core.specs.declared.course.Turn.TheVariants as turn
use Rattle.ov_core.specs.Seats.{Seated, world_of, via_in}
use Rattle.ov_core.specs.Sessions.{Lane, Session, Goes, Answers}
use Rattle.ov_core.specs.Ready.{Running}

-- A lane's number, its lines, the answers of those that are over, and the walk of the first without one.
pub record Coursed : Type 0 where
  pub lane : ℕ
  pub lines : List Line
  pub answers : List Answer
  pub walk : Walk

-- The walk stands at the first line without an answer, the lane is one of the 64, and its lines have the
-- lengths that lines have.
pub record IsCourse (c : Coursed) : Type 0 where
  pub placed : c.walk.place ≡ record { lane = c.lane; line = length c.answers }
  pub below : c.lane < 64
  pub fits : AllByRecursion (λ line. Fits line.deed) c.lines

-- The lane of a course.
abbrev pub lane_of : Coursed → Lane
lane_of c = record { lines = c.lines; answers = c.answers }

-- The script that runs in a world, with these lanes.
abbrev pub session_at : Seated → List Lane → Session
session_at d lanes = record { world = world_of d; lanes = lanes }

-- All lanes of a script that runs, the stages at which their lines stand, and the next hop of an address.
pub record Standing : Type 0 where
  pub lanes : List Lane
  pub stages : List Stage
  pub via : Addr → Addr

-- The course is that of its lane in a script that runs, and its line stands where the lane's does.
pub record OnCourse (d : Seated) (all : Standing) (c : Coursed) : Type 0 where
  pub running : Running all.via (session_at d all.lanes) all.stages
  pub hops : all.via ≡ via_in d
  pub lane_is : slice_get all.lanes c.lane ≡ Some (lane_of c)
  pub stage_is : slice_get all.stages c.lane ≡ Some c.walk.stage

-- A course is that of its lane in some script that runs.
pub record SomeCourse (d : Seated) (c : Coursed) : Type 0 where
  pub all : Standing
  pub on : OnCourse d all c

-- The lane had no line left, and all is as it was.
pub record Passed (d e : Seated) (c x : Coursed) : Type 0 where
  pub none : length c.lines ≤ length c.answers
  pub world : world_of e ≡ world_of d
  pub hops : via_in e ≡ via_in d
  pub course : x ≡ c

-- The lane's line made its next event and goes on.
pub record Went (d e : Seated) (all : Standing) (c x : Coursed) : Type 0 where
  pub goes : Goes all.via c.lane (session_at d all.lanes) (session_at e all.lanes)
  pub course : x ≡ record c { walk = x.walk }
  pub on : OnCourse e (record all { stages = slice_set all.stages c.lane x.walk.stage }) x

-- The lane's line was answered.
pub record WasAnswered (d e : Seated) (all : Standing) (c x : Coursed) : Type 0 where
  pub answer : Answer
  pub answers : Answers all.via c.lane (session_at d all.lanes) (session_at e (slice_set all.lanes c.lane (lane_of x)))
  pub course : x ≡ record c { answers = c.answers ++ answer ∷ []; walk = x.walk }
  pub on : OnCourse e (record all { lanes = slice_set all.lanes c.lane (lane_of x); stages = slice_set all.stages c.lane x.walk.stage }) x

-- A turn, as it answered.
abbrev pub Turned : (d e : Seated) → Standing → (c x : Coursed) → Turn → Type 0
Turned d e all c x turn.Passed = Passed d e c x
Turned d e all c x turn.Going = Went d e all c x
Turned d e all c x turn.Answered = WasAnswered d e all c x

-- A turn, in whichever script the course is its lane's.
abbrev pub TurnedIn : (d e : Seated) → (c x : Coursed) → Turn → Type 0
TurnedIn d e c x r = (all : Standing) → OnCourse d all c → Turned d e all c x r
