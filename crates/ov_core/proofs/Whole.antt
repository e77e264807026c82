-- A lane's turns up to the end of its line, and its lines up to the last one.
use Rattle.std.proofs.Common.{ℕ, ◌≡◌, ◌+◌, ◌-◌, ◌≤◌, ◌<◌, zero, suc, List, [], ◌∷◌, ◌++◌, length, length-append, refl, sym, ◌∙◌, ap, subst, arith}
use Rattle.std.specs.Prelude.{replicate, Some, slice_get, slice_set}
use Rattle.ov_base.specs.declared.address.Addr.{Addr}
use Rattle.ov_model.specs.declared.line.Line.{Line}
use Rattle.ov_path.specs.declared.stage.Stage.{Stage}
use Rattle.ov_core.specs.declared.course.Turn.{Turn as Did}
use Rattle.ov_core.specs.declared.course.Turn.TheVariants as did
use Rattle.ov_core.specs.Worlds.{World}
use Rattle.ov_core.specs.Seats.{Seated, world_of}
use Rattle.ov_core.specs.Sessions.{Lane, Session, Goes, Answers, GoesOn, Turns}
use Rattle.ov_core.specs.Ready.{Running}
use Rattle.ov_core.specs.Courses.{Coursed, Standing, OnCourse, SomeCourse, Passed, WasAnswered, Turned, TurnedIn, lane_of, session_at}
use Rattle.ov_core.specs.Scripts.{standing_then, LineRan, LinesRan, RanLine, RanLineIn, LinesRanIn}
use Rattle.ov_core.specs.Measure.{turns_left}
use Rattle.ov_core.proofs.Ends.{IsBegun}
use Rattle.ov_core.proofs.Falling.{went_begun, went_falls}
use Rattle.ov_core.proofs.Seats.{same_some, set_set}
use Rattle.ov_core.proofs.Taking.{turns_append, line_turns}

-- ---- the turns of a line

-- The line of the lane stands where the course has it.
abbrev pub standing_on : Standing → (c x : Coursed) → Standing
standing_on all c x = record all { stages = slice_set all.stages c.lane x.walk.stage }

-- The lane's line made so many events and goes on.
pub record GoneOn (d e : Seated) (all : Standing) (c x : Coursed) : Type 0 where
  pub count : ℕ
  pub goes : GoesOn all.via c.lane count (session_at d all.lanes) (session_at e all.lanes)
  pub course : x ≡ record c { walk = x.walk }
  pub begun : IsBegun x.walk.stage
  pub left : length c.answers < length c.lines
  pub on : OnCourse e (standing_on all c x) x

-- How far the lane's line came, by what its last turn did.
abbrev pub RunTo : (d e : Seated) → Standing → (c x : Coursed) → Did → Type 0
RunTo d e all c x did.Passed = Passed d e c x
RunTo d e all c x did.Going = GoneOn d e all c x
RunTo d e all c x did.Answered = LineRan d e all c x

-- The same, in whichever script the course is its lane's.
abbrev pub RunToIn : (d e : Seated) → (c x : Coursed) → Did → Type 0
RunToIn d e c x r = (all : Standing) → OnCourse d all c → RunTo d e all c x r

-- A number that falls with each turn, by what the last one did.
abbrev pub more_left : World → Coursed → Did → ℕ
more_left w x did.Passed = 0
more_left w x did.Going = suc (turns_left w x.lane x.walk.stage)
more_left w x did.Answered = 0

some_below : {X : Type 0} (xs : List X) (n : ℕ) (x : X) → slice_get xs n ≡ Some x → n < length xs
some_below [] n x at = absurd (cc)
some_below (y ∷ ys) zero x at = omega arith
some_below (y ∷ ys) (suc n) x at = let below : n < length ys = some_below ys n x at in omega arith

-- A lane with a line under way has one left.
line_under : (all : Standing) (c : Coursed) (lane : Lane) (line : Line) → slice_get all.lanes c.lane ≡ Some (lane_of c) → slice_get all.lanes c.lane ≡ Some lane → slice_get lane.lines (length lane.answers) ≡ Some line → length c.answers < length c.lines
line_under all c lane line own lane_is line_is =
    let same : lane ≡ lane_of c = same_some (slice_get all.lanes c.lane) lane (lane_of c) lane_is own in
    some_below c.lines (length c.answers) line (subst (λ (l : Lane). slice_get l.lines (length l.answers) ≡ Some line) same line_is)

-- A turn that answers the line ends its run.
answered_ran : (d e f : Seated) (all : Standing) (c x y : Coursed) (n : ℕ) (stages : List Stage) → GoesOn all.via c.lane n (session_at d all.lanes) (session_at e all.lanes) → x ≡ record c { walk = x.walk } → slice_set stages x.lane y.walk.stage ≡ slice_set all.stages x.lane y.walk.stage → WasAnswered e f (record all { stages = stages }) x y → LineRan d f all c y
answered_ran d e f all c x y n stages goes course same was =
    let lane_x : x.lane ≡ c.lane = ap (λ (z : Coursed). z.lane) course in
    let lane_y : y.lane ≡ x.lane = ap (λ (z : Coursed). z.lane) was.course in
    let standing : record all { lanes = slice_set all.lanes x.lane (lane_of y); stages = slice_set stages x.lane y.walk.stage } ≡ standing_then all y = ap (λ (ss : List Stage). record all { lanes = slice_set all.lanes x.lane (lane_of y); stages = ss }) same ∙ ap (λ k. record all { lanes = slice_set all.lanes k (lane_of y); stages = slice_set all.stages k y.walk.stage }) (sym lane_y) in
    let there : Answers all.via x.lane (session_at e all.lanes) (session_at f (standing_then all y).lanes) = subst (λ k. Answers all.via x.lane (session_at e all.lanes) (session_at f (slice_set all.lanes k (lane_of y)))) (sym lane_y) was.answers in
    record {
      runs = record {
        count = n;
        between = session_at e all.lanes;
        goes = goes;
        answers = subst (λ k. Answers all.via k (session_at e all.lanes) (session_at f (standing_then all y).lanes)) lane_x there;
      };
      lane = lane_y ∙ lane_x;
      lines = ap (λ (z : Coursed). z.lines) was.course ∙ ap (λ (z : Coursed). z.lines) course;
      answered = ap (λ (z : Coursed). length z.answers) was.course ∙ length-append x.answers (was.answer ∷ []) ∙ ap (λ (z : Coursed). length z.answers + 1) course;
      on = subst (λ (s : Standing). OnCourse f s y) standing was.on;
    }

-- The first turn.
first_turn : (d e : Seated) (all : Standing) (c x : Coursed) (r : Did) → OnCourse d all c → Turned d e all c x r → RunTo d e all c x r
first_turn d e all c x did.Passed on t = t
first_turn d e all c x did.Going on t =
    let u = t.goes.under in
    record {
      count = suc zero;
      goes = (session_at d all.lanes, refl, t.goes);
      course = t.course;
      begun = went_begun d e all c x on t;
      left = line_under all c u.lane u.line on.lane_is u.lane_is u.line_is;
      on = t.on;
    }
first_turn d e all c x did.Answered on t = answered_ran d d e all c c x zero all.stages refl refl refl t

-- One turn more.
next_turn : (d e f : Seated) (all : Standing) (c x y : Coursed) (r : Did) → GoneOn d e all c x → Turned e f (standing_on all c x) x y r → RunTo d f all c y r
next_turn d e f all c x y did.Passed g t =
    let none : length x.lines ≤ length x.answers = t.none in
    let lines : length x.lines ≡ length c.lines = ap (λ (z : Coursed). length z.lines) g.course in
    let answers : length x.answers ≡ length c.answers = ap (λ (z : Coursed). length z.answers) g.course in
    let left : length c.answers < length c.lines = g.left in
    absurd (omega arith)
next_turn d e f all c x y did.Going g t =
    let lane : x.lane ≡ c.lane = ap (λ (z : Coursed). z.lane) g.course in
    let standing : standing_on (standing_on all c x) x y ≡ standing_on all c y = ap (λ k. record all { stages = slice_set (slice_set all.stages c.lane x.walk.stage) k y.walk.stage }) lane ∙ ap (λ (ss : List Stage). record all { stages = ss }) (set_set all.stages c.lane x.walk.stage y.walk.stage) in
    record {
      count = suc g.count;
      goes = (session_at e all.lanes, g.goes, subst (λ k. Goes all.via k (session_at e all.lanes) (session_at f all.lanes)) lane t.goes);
      course = t.course ∙ ap (λ (z : Coursed). record z { walk = y.walk }) g.course;
      begun = went_begun e f (standing_on all c x) x y g.on t;
      left = g.left;
      on = subst (λ (s : Standing). OnCourse f s y) standing t.on;
    }
next_turn d e f all c x y did.Answered g t =
    let lane : x.lane ≡ c.lane = ap (λ (z : Coursed). z.lane) g.course in
    let same : slice_set (slice_set all.stages c.lane x.walk.stage) x.lane y.walk.stage ≡ slice_set all.stages x.lane y.walk.stage = ap (λ k. slice_set (slice_set all.stages k x.walk.stage) x.lane y.walk.stage) (sym lane) ∙ set_set all.stages x.lane x.walk.stage y.walk.stage in
    answered_ran d e f all c x y g.count (slice_set all.stages c.lane x.walk.stage) g.goes g.course same t

-- It leaves fewer turns.
next_falls : (d e f : Seated) (all : Standing) (c x y : Coursed) (r : Did) → GoneOn d e all c x → Turned e f (standing_on all c x) x y r → more_left (world_of f) y r < more_left (world_of e) x did.Going
next_falls d e f all c x y did.Passed g t = omega arith
next_falls d e f all c x y did.Going g t =
    let less : turns_left (world_of f) y.lane y.walk.stage < turns_left (world_of e) x.lane x.walk.stage = went_falls e f (standing_on all c x) x y g.on t g.begun in
    omega arith
next_falls d e f all c x y did.Answered g t = omega arith

-- ---- as the loop has them

pub turned_first : (d e : Seated) (c x : Coursed) (r : Did) → TurnedIn d e c x r → RunToIn d e c x r
turned_first d e c x r t = λ all on. first_turn d e all c x r on (t all on)

pub turned_next : (d e f : Seated) (c x y : Coursed) (r q : Did) → r ≡ did.Going → RunToIn d e c x r → TurnedIn e f x y q → RunToIn d f c y q
turned_next d e f c x y r q going to t = λ all on.
    let gone : RunToIn d e c x did.Going = subst (λ (z : Did). RunToIn d e c x z) going to in
    let g : GoneOn d e all c x = gone all on in
    next_turn d e f all c x y q g (t (standing_on all c x) g.on)

pub turned_falls : (d e f : Seated) (c x y : Coursed) (r q : Did) → r ≡ did.Going → SomeCourse d c → RunToIn d e c x r → TurnedIn e f x y q → more_left (world_of f) y q < more_left (world_of e) x r
turned_falls d e f c x y r q going some to t =
    let gone : RunToIn d e c x did.Going = subst (λ (z : Did). RunToIn d e c x z) going to in
    let g : GoneOn d e some.all c x = gone some.all some.on in
    subst (λ (z : Did). more_left (world_of f) y q < more_left (world_of e) x z) (sym going) (next_falls d e f some.all c x y q g (t (standing_on some.all c x) g.on))

-- ---- the lines of a lane

-- The lane's first lines ran to their end, by so many turns of it.
pub record OutTo (d e : Seated) (all : Standing) (c x : Coursed) : Type 0 where
  pub count : ℕ
  pub turns : Turns all.via (session_at d all.lanes) (replicate count c.lane) (session_at e (standing_then all x).lanes)
  pub lane : x.lane ≡ c.lane
  pub lines : x.lines ≡ c.lines
  pub on : OnCourse e (standing_then all x) x

-- The same, in whichever script the course is its lane's.
abbrev pub OutToIn : (d e : Seated) → (c x : Coursed) → Type 0
OutToIn d e c x = (all : Standing) → OnCourse d all c → OutTo d e all c x

-- How many lines a lane has left.
abbrev pub lines_left : Coursed → ℕ
lines_left x = length x.lines - length x.answers

put_back : {X : Type 0} (xs : List X) (i : ℕ) (x : X) → slice_get xs i ≡ Some x → slice_set xs i x ≡ xs
put_back [] i x at = refl
put_back (y ∷ xs) zero x at = let its : y ≡ x = cc in ap (λ z. z ∷ xs) (sym its)
put_back (y ∷ xs) (suc i) x at = ap (λ zs. y ∷ zs) (put_back xs i x at)

-- No line yet.
pub out_first : (d : Seated) (c : Coursed) → OutToIn d d c c
out_first d c = λ all on.
    let lanes : slice_set all.lanes c.lane (lane_of c) ≡ all.lanes = put_back all.lanes c.lane (lane_of c) on.lane_is in
    let stages : slice_set all.stages c.lane c.walk.stage ≡ all.stages = put_back all.stages c.lane c.walk.stage on.stage_is in
    let standing : standing_then all c ≡ all = ap (λ (ls : List Lane). record all { lanes = ls; stages = slice_set all.stages c.lane c.walk.stage }) lanes ∙ ap (λ (ss : List Stage). record all { stages = ss }) stages in
    record {
      count = zero;
      turns = ap (session_at d) lanes;
      lane = refl;
      lines = refl;
      on = subst (λ (s : Standing). OnCourse d s c) (sym standing) on;
    }

-- Turns of a lane, and more of them.
replicate_both : (a b i : ℕ) → replicate a i ++ replicate b i ≡ replicate (a + b) i
replicate_both zero b i = ap (λ k. replicate k i) (let same : b ≡ zero + b = omega arith in same)
replicate_both (suc a) b i = ap (λ is. i ∷ is) (replicate_both a b i) ∙ ap (λ k. replicate k i) (let same : suc (a + b) ≡ suc a + b = omega arith in same)

-- One line more.
line_more : (d e f : Seated) (all : Standing) (c x y : Coursed) → OutTo d e all c x → LineRan e f (standing_then all x) x y → OutTo d f all c y
line_more d e f all c x y o ran =
    let standing : standing_then (standing_then all x) y ≡ standing_then all y =
    ap (λ k. record all { lanes = slice_set (slice_set all.lanes k (lane_of x)) y.lane (lane_of y); stages = slice_set (slice_set all.stages k x.walk.stage) y.lane y.walk.stage }) (sym ran.lane)
    ∙ ap (λ (ls : List Lane). record all { lanes = ls; stages = slice_set (slice_set all.stages y.lane x.walk.stage) y.lane y.walk.stage }) (set_set all.lanes y.lane (lane_of x) (lane_of y))
    ∙ ap (λ (ss : List Stage). record all { lanes = slice_set all.lanes y.lane (lane_of y); stages = ss }) (set_set all.stages y.lane x.walk.stage y.walk.stage) in
    let more : Turns all.via (session_at e (standing_then all x).lanes) (replicate (ran.runs.count + 1) c.lane) (session_at f (standing_then all y).lanes) =
    subst (λ k. Turns all.via (session_at e (standing_then all x).lanes) (replicate (ran.runs.count + 1) k) (session_at f (standing_then all y).lanes)) o.lane
    (subst (λ (s : Standing). Turns all.via (session_at e (standing_then all x).lanes) (replicate (ran.runs.count + 1) x.lane) (session_at f s.lanes)) standing
    (line_turns all.via x.lane (session_at e (standing_then all x).lanes) (session_at f (standing_then (standing_then all x) y).lanes) ran.runs)) in
    record {
      count = o.count + (ran.runs.count + 1);
      turns = subst (λ is. Turns all.via (session_at d all.lanes) is (session_at f (standing_then all y).lanes)) (replicate_both o.count (ran.runs.count + 1) c.lane)
          (turns_append all.via (session_at d all.lanes) (session_at e (standing_then all x).lanes) (session_at f (standing_then all y).lanes) (replicate o.count c.lane) (replicate (ran.runs.count + 1) c.lane) o.turns more);
      lane = ran.lane ∙ o.lane;
      lines = ran.lines ∙ o.lines;
      on = subst (λ (s : Standing). OnCourse f s y) standing ran.on;
    }

-- No line is left.
all_ran : (d e f : Seated) (all : Standing) (c x y : Coursed) → OutTo d e all c x → Passed e f x y → LinesRan d f all c y
all_ran d e f all c x y o p =
    let on : OnCourse f (standing_then all x) x = record {
      running = subst (λ (w : World). Running all.via (record { world = w; lanes = (standing_then all x).lanes }) (standing_then all x).stages) (sym p.world) o.on.running;
      hops = o.on.hops ∙ sym p.hops;
      lane_is = o.on.lane_is;
      stage_is = o.on.stage_is;
    } in
    let after : session_at e (standing_then all x).lanes ≡ session_at f (standing_then all y).lanes = ap (λ (w : World). record { world = w; lanes = (standing_then all x).lanes }) (sym p.world) ∙ ap (λ (z : Coursed). session_at f (standing_then all z).lanes) (sym p.course) in
    record {
      count = o.count;
      turns = subst (λ (s : Session). Turns all.via (session_at d all.lanes) (replicate o.count c.lane) s) after o.turns;
      lane = ap (λ (z : Coursed). z.lane) p.course ∙ o.lane;
      lines = ap (λ (z : Coursed). z.lines) p.course ∙ o.lines;
      done = subst (λ (z : Coursed). length z.lines ≤ length z.answers) (sym p.course) p.none;
      on = subst (λ (z : Coursed). OnCourse f (standing_then all z) z) (sym p.course) on;
    }

goes_lanes : (via : Addr → Addr) (i n : ℕ) (s t : Session) → GoesOn via i n s t → t.lanes ≡ s.lanes
goes_lanes via i zero s t goes = ap (λ (z : Session). z.lanes) goes
goes_lanes via i (suc n) s t goes = ap (λ (z : Session). z.lanes) goes.2.after_is ∙ goes_lanes via i n s goes.0 goes.1

-- A line that ran was left before.
ran_left : (d e : Seated) (all : Standing) (c x : Coursed) → OnCourse d all c → LineRan d e all c x → length c.answers < length c.lines
ran_left d e all c x on ran =
    let u = ran.runs.answers.under in
    let lanes : ran.runs.between.lanes ≡ all.lanes = goes_lanes all.via c.lane ran.runs.count (session_at d all.lanes) ran.runs.between ran.runs.goes in
    line_under all c u.lane u.line on.lane_is (subst (λ (ls : List Lane). slice_get ls c.lane ≡ Some u.lane) lanes u.lane_is) u.line_is

line_falls : (d e : Seated) (all : Standing) (c x : Coursed) → OnCourse d all c → LineRan d e all c x → lines_left x < lines_left c
line_falls d e all c x on ran =
    let left : length c.answers < length c.lines = ran_left d e all c x on ran in
    let lines : length x.lines ≡ length c.lines = ap length ran.lines in
    let answers : length x.answers ≡ length c.answers + 1 = ran.answered in
    omega arith

-- ---- as the loop has them

pub out_next : (d e f : Seated) (c x y : Coursed) (r : Did) → r ≡ did.Answered → OutToIn d e c x → RanLineIn e f x y r → OutToIn d f c y
out_next d e f c x y r answered to ran = λ all on.
    let o : OutTo d e all c x = to all on in
    let line : RanLineIn e f x y did.Answered = subst (λ (q : Did). RanLineIn e f x y q) answered ran in
    line_more d e f all c x y o (line (standing_then all x) o.on)

pub out_falls : (d e f : Seated) (c x y : Coursed) (r : Did) → r ≡ did.Answered → SomeCourse d c → OutToIn d e c x → RanLineIn e f x y r → lines_left y < lines_left x
out_falls d e f c x y r answered some to ran =
    let o : OutTo d e some.all c x = to some.all some.on in
    let line : RanLineIn e f x y did.Answered = subst (λ (q : Did). RanLineIn e f x y q) answered ran in
    line_falls e f (standing_then some.all x) x y o.on (line (standing_then some.all x) o.on)

out_over : (d e f : Seated) (all : Standing) (c x y : Coursed) (r : Did) → (r ≡ did.Answered → ⊥) → OutTo d e all c x → RanLine e f (standing_then all x) x y r → LinesRan d f all c y
out_over d e f all c x y did.Passed over o ran = all_ran d e f all c x y o ran
out_over d e f all c x y did.Going over o ran = absurd ran
out_over d e f all c x y did.Answered over o ran = absurd (over refl)

pub out_last : (d e f : Seated) (c x y : Coursed) (r : Did) → (r ≡ did.Answered → ⊥) → OutToIn d e c x → RanLineIn e f x y r → LinesRanIn d f c y
out_last d e f c x y r over to ran = λ all on.
    let o : OutTo d e all c x = to all on in
    out_over d e f all c x y r over o (ran (standing_then all x) o.on)
