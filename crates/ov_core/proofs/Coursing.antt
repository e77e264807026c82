-- The courses of all lanes stay a script that runs, whichever of them takes a turn or runs on.
use Rattle.std.proofs.Common.{◌+◌, arith, length-append, ℕ, ◌≡◌, ◌≢◌, ◌≤◌, zero, suc, List, [], ◌∷◌, ◌++◌, length, refl, sym, ◌∙◌, ap, subst, inl, inr}
use Rattle.std.specs.Prelude.{replicate, Some, slice_get, slice_set}
use Rattle.ov_core.specs.declared.course.Turn.{Turn as Did}
use Rattle.ov_core.specs.declared.course.Turn.TheVariants as did
use Rattle.ov_core.specs.Worlds.{World}
use Rattle.ov_core.specs.Seats.{Seated, via_in}
use Rattle.ov_core.specs.Sessions.{Lane, Goes, Answers, Turn, goes, answers, passes, Turns, in_order, RunsLine}
use Rattle.ov_core.specs.Ready.{Running}
use Rattle.ov_core.specs.Courses.{Coursed, Standing, OnCourse, Passed, Went, WasAnswered, Turned, lane_of, session_at}
use Rattle.ov_core.specs.Scripts.{lanes_of, stages_of, standing_of, script_at, standing_then, AreCourses, LineRan, LinesRan, TookTurns, RanOut}
use Rattle.ov_core.proofs.Taking.{turns_append, turns_more, in_order_more}
use Rattle.ov_core.proofs.Seats.{length-slice_set, same_some, set_case, map_set, map_get}

set_was : {X : Type 0} (xs : List X) (i : ℕ) (x : X) → slice_get xs i ≡ Some x → slice_set xs i x ≡ xs
set_was [] i x at = refl
set_was (y ∷ xs) zero x at = let its : y ≡ x = cc in ap (λ z. z ∷ xs) (sym its)
set_was (y ∷ xs) (suc i) x at = ap (λ zs. y ∷ zs) (set_was xs i x at)

-- Each course is that of its lane.
pub on_course : (d : Seated) (courses : List Coursed) (i : ℕ) (c : Coursed) → AreCourses d courses → slice_get courses i ≡ Some c → OnCourse d (standing_of (via_in d) courses) c
on_course d courses i c are at = record {
  running = are.running;
  hops = refl;
  lane_is = subst (λ n. slice_get (lanes_of courses) n ≡ Some (lane_of c)) (sym (are.numbered i c at)) (map_get lane_of courses i c at);
  stage_is = subst (λ n. slice_get (stages_of courses) n ≡ Some c.walk.stage) (sym (are.numbered i c at)) (map_get (λ (x : Coursed). x.walk.stage) courses i c at);
}

-- One course became another of its lane.
courses_then : (d e : Seated) (courses : List Coursed) (i : ℕ) (c x : Coursed) → AreCourses d courses → slice_get courses i ≡ Some c → x.lane ≡ c.lane → OnCourse e (standing_then (standing_of (via_in d) courses) x) x → AreCourses e (slice_set courses i x)
courses_then d e courses i c x are at lane on =
    let place : x.lane ≡ i = lane ∙ are.numbered i c at in
    let lanes : lanes_of (slice_set courses i x) ≡ slice_set (lanes_of courses) x.lane (lane_of x) = map_set lane_of courses i x ∙ ap (λ n. slice_set (lanes_of courses) n (lane_of x)) (sym place) in
    let stages : stages_of (slice_set courses i x) ≡ slice_set (stages_of courses) x.lane x.walk.stage = map_set (λ (y : Coursed). y.walk.stage) courses i x ∙ ap (λ n. slice_set (stages_of courses) n x.walk.stage) (sym place) in
    record {
      running = subst (λ via. Running via (script_at e (slice_set courses i x)) (stages_of (slice_set courses i x))) on.hops
          (subst (λ ls. Running (via_in d) (session_at e ls) (stages_of (slice_set courses i x))) (sym lanes) (subst (λ ss. Running (via_in d) (session_at e (slice_set (lanes_of courses) x.lane (lane_of x))) ss) (sym stages) on.running));
      count = length-slice_set courses i x ∙ are.count;
      numbered = λ k y y_is. elim (set_case courses i k x y y_is) [
        | inl here ↦ ap (λ (z : Coursed). z.lane) here.1 ∙ place ∙ sym here.0
        | inr there ↦ are.numbered k y there.1
      ];
    }

-- The session after that, as what was said of it names it.
then_session : (d e : Seated) (courses : List Coursed) (i : ℕ) (c x : Coursed) → AreCourses d courses → slice_get courses i ≡ Some c → x.lane ≡ c.lane → session_at e (slice_set (lanes_of courses) x.lane (lane_of x)) ≡ script_at e (slice_set courses i x)
then_session d e courses i c x are at lane =
    let place : x.lane ≡ i = lane ∙ are.numbered i c at in
    ap (session_at e) (ap (λ n. slice_set (lanes_of courses) n (lane_of x)) place ∙ sym (map_set lane_of courses i x))

-- A line of one lane ran to its end.
pub line_ran : (d e : Seated) (courses : List Coursed) (i : ℕ) (c x : Coursed) → AreCourses d courses → slice_get courses i ≡ Some c → LineRan d e (standing_of (via_in d) courses) c x → RunsLine (via_in d) i (script_at d courses) (script_at e (slice_set courses i x)) × AreCourses e (slice_set courses i x) × (via_in d ≡ via_in e)
line_ran d e courses i c x are at ran = (
  subst (λ n. RunsLine (via_in d) n (script_at d courses) (script_at e (slice_set courses i x))) (are.numbered i c at) (subst (RunsLine (via_in d) c.lane (script_at d courses)) (then_session d e courses i c x are at ran.lane) ran.runs),
  courses_then d e courses i c x are at ran.lane ran.on,
  ran.on.hops,
)

-- All lines of one lane ran to their end.
pub lines_ran : (d e : Seated) (courses : List Coursed) (i : ℕ) (c x : Coursed) → AreCourses d courses → slice_get courses i ≡ Some c → (ran : LinesRan d e (standing_of (via_in d) courses) c x) → Turns (via_in d) (script_at d courses) (replicate ran.count i) (script_at e (slice_set courses i x)) × AreCourses e (slice_set courses i x) × (via_in d ≡ via_in e)
lines_ran d e courses i c x are at ran = (
  subst (λ n. Turns (via_in d) (script_at d courses) (replicate ran.count n) (script_at e (slice_set courses i x))) (are.numbered i c at) (subst (Turns (via_in d) (script_at d courses) (replicate ran.count c.lane)) (then_session d e courses i c x are at ran.lane) ran.turns),
  courses_then d e courses i c x are at ran.lane ran.on,
  ran.on.hops,
)

-- ---- one turn

-- A lane had no line left.
passed_turn : (d e : Seated) (courses : List Coursed) (i : ℕ) (c x : Coursed) → AreCourses d courses → slice_get courses i ≡ Some c → Passed d e c x → Turn (via_in d) i (script_at d courses) (script_at e (slice_set courses i x)) × AreCourses e (slice_set courses i x) × (via_in d ≡ via_in e)
passed_turn d e courses i c x are at passed =
    let same : slice_set courses i x ≡ courses = ap (slice_set courses i) passed.course ∙ set_was courses i c at in
    let world : script_at e courses ≡ script_at d courses = ap (λ (w : World). record { world = w; lanes = lanes_of courses }) passed.world in
    let still : AreCourses e courses = record { running = subst (λ via. Running via (script_at e courses) (stages_of courses)) (sym passed.hops) (subst (λ s. Running (via_in d) s (stages_of courses)) (sym world) are.running); count = are.count; numbered = are.numbered } in
    let turn : Turn (via_in d) i (script_at d courses) (script_at e courses) = passes (record {
      none = λ lane lane_is. (let its : lane_of c ≡ lane = same_some (slice_get (lanes_of courses) i) (lane_of c) lane (map_get lane_of courses i c at) lane_is in subst (λ (l : Lane). length l.lines ≤ length l.answers) its passed.none);
      same = world;
    }) in
    (subst (λ cs. Turn (via_in d) i (script_at d courses) (script_at e cs)) (sym same) turn, subst (AreCourses e) (sym same) still, sym passed.hops)

-- Its line goes on: the lane has the answers that it had.
went_turn : (d e : Seated) (courses : List Coursed) (i : ℕ) (c x : Coursed) → AreCourses d courses → slice_get courses i ≡ Some c → Went d e (standing_of (via_in d) courses) c x → Turn (via_in d) i (script_at d courses) (script_at e (slice_set courses i x)) × AreCourses e (slice_set courses i x) × (via_in d ≡ via_in e)
went_turn d e courses i c x are at went =
    let lane : x.lane ≡ c.lane = ap (λ (y : Coursed). y.lane) went.course in
    let own : lane_of x ≡ lane_of c = ap lane_of went.course in
    let lane_at : slice_get (lanes_of courses) c.lane ≡ Some (lane_of c) = (on_course d courses i c are at).lane_is in
    let lanes : lanes_of courses ≡ slice_set (lanes_of courses) x.lane (lane_of x) = sym (ap (λ n. slice_set (lanes_of courses) n (lane_of x)) lane ∙ ap (slice_set (lanes_of courses) c.lane) own ∙ set_was (lanes_of courses) c.lane (lane_of c) lane_at) in
    let standing : record { lanes = lanes_of courses; stages = slice_set (stages_of courses) c.lane x.walk.stage; via = via_in d } ≡ standing_then (standing_of (via_in d) courses) x =
    ap (λ ls. record { lanes = ls; stages = slice_set (stages_of courses) c.lane x.walk.stage; via = via_in d }) lanes ∙ ap (λ n. record { lanes = slice_set (lanes_of courses) x.lane (lane_of x); stages = slice_set (stages_of courses) n x.walk.stage; via = via_in d }) (sym lane) in
    let after : session_at e (lanes_of courses) ≡ script_at e (slice_set courses i x) = ap (session_at e) lanes ∙ then_session d e courses i c x are at lane in (
      goes (subst (λ n. Goes (via_in d) n (script_at d courses) (script_at e (slice_set courses i x))) (are.numbered i c at) (subst (Goes (via_in d) c.lane (script_at d courses)) after went.goes)),
      courses_then d e courses i c x are at lane (subst (λ all. OnCourse e all x) standing went.on),
      went.on.hops,
    )

-- Its line was answered.
answered_turn : (d e : Seated) (courses : List Coursed) (i : ℕ) (c x : Coursed) → AreCourses d courses → slice_get courses i ≡ Some c → WasAnswered d e (standing_of (via_in d) courses) c x → Turn (via_in d) i (script_at d courses) (script_at e (slice_set courses i x)) × AreCourses e (slice_set courses i x) × (via_in d ≡ via_in e)
answered_turn d e courses i c x are at was =
    let lane : x.lane ≡ c.lane = ap (λ (y : Coursed). y.lane) was.course in
    let standing : record { lanes = slice_set (lanes_of courses) c.lane (lane_of x); stages = slice_set (stages_of courses) c.lane x.walk.stage; via = via_in d } ≡ standing_then (standing_of (via_in d) courses) x = ap (λ n. record { lanes = slice_set (lanes_of courses) n (lane_of x); stages = slice_set (stages_of courses) n x.walk.stage; via = via_in d }) (sym lane) in
    let after : session_at e (slice_set (lanes_of courses) c.lane (lane_of x)) ≡ script_at e (slice_set courses i x) = ap (λ n. session_at e (slice_set (lanes_of courses) n (lane_of x))) (sym lane) ∙ then_session d e courses i c x are at lane in (
      answers (subst (λ n. Answers (via_in d) n (script_at d courses) (script_at e (slice_set courses i x))) (are.numbered i c at) (subst (Answers (via_in d) c.lane (script_at d courses)) after was.answers)),
      courses_then d e courses i c x are at lane (subst (λ all. OnCourse e all x) standing was.on),
      was.on.hops,
    )

-- A turn of a course is a turn of its lane, and the courses stay a script that runs.
pub turned : (d e : Seated) (courses : List Coursed) (i : ℕ) (c x : Coursed) (r : Did) → AreCourses d courses → slice_get courses i ≡ Some c → Turned d e (standing_of (via_in d) courses) c x r → Turn (via_in d) i (script_at d courses) (script_at e (slice_set courses i x)) × AreCourses e (slice_set courses i x) × (via_in d ≡ via_in e)
turned d e courses i c x did.Passed are at t = passed_turn d e courses i c x are at t
turned d e courses i c x did.Going are at t = went_turn d e courses i c x are at t
turned d e courses i c x did.Answered are at t = answered_turn d e courses i c x are at t

-- ---- turns in a row

-- One lane more took a turn.
pub took_more : (d e f : Seated) (before mid : List Coursed) (lanes : List ℕ) (i : ℕ) (c x : Coursed) (r : Did) → TookTurns d e before mid lanes → slice_get mid i ≡ Some c → ((all : Standing) → OnCourse e all c → Turned e f all c x r) → TookTurns d f before (slice_set mid i x) (lanes ++ i ∷ [])
took_more d e f before mid lanes i c x r took at did_so =
    let step = turned e f mid i c x r took.are at (did_so (standing_of (via_in e) mid) (on_course e mid i c took.are at)) in
    let next : Turn (via_in d) i (script_at e mid) (script_at f (slice_set mid i x)) = subst (λ via. Turn via i (script_at e mid) (script_at f (slice_set mid i x))) (sym took.hops) step.0 in
    record { turns = turns_more (via_in d) (script_at d before) (script_at e mid) (script_at f (slice_set mid i x)) lanes i took.turns next; are = step.1; hops = took.hops ∙ step.2 }

-- ---- lanes that run to their end, in the order of their numbers

pub out_none : (d : Seated) (courses : List Coursed) → AreCourses d courses → RanOut d d courses courses 0
out_none d courses are = record { more = []; long = refl; turns = refl; are = are; hops = refl; done = λ i c below at. absurd (omega arith) }

-- The next lane ran to its end.
pub out_more : (d e f : Seated) (before mid : List Coursed) (n : ℕ) (c x : Coursed) → RanOut d e before mid n → slice_get mid n ≡ Some c → ((all : Standing) → OnCourse e all c → LinesRan e f all c x) → RanOut d f before (slice_set mid n x) (n + 1)
out_more d e f before mid n c x out at ran_so =
    let ran : LinesRan e f (standing_of (via_in e) mid) c x = ran_so (standing_of (via_in e) mid) (on_course e mid n c out.are at) in
    let step = lines_ran e f mid n c x out.are at ran in
    let next : Turns (via_in d) (script_at e mid) (replicate ran.count n) (script_at f (slice_set mid n x)) = subst (λ via. Turns via (script_at e mid) (replicate ran.count n) (script_at f (slice_set mid n x))) (sym out.hops) step.0 in
    let order : in_order 0 (out.more ++ ran.count ∷ []) ≡ in_order 0 out.more ++ replicate ran.count n = in_order_more 0 out.more ran.count ∙ ap (λ k. in_order 0 out.more ++ replicate ran.count k) (let last : 0 + length out.more ≡ n = omega (arith, out.long) in last) in
    record {
      more = out.more ++ ran.count ∷ [];
      long = length-append out.more (ran.count ∷ []) ∙ ap (λ k. k + 1) out.long;
      turns = subst (λ is. Turns (via_in d) (script_at d before) is (script_at f (slice_set mid n x))) (sym order) (turns_append (via_in d) (script_at d before) (script_at e mid) (script_at f (slice_set mid n x)) (in_order 0 out.more) (replicate ran.count n) out.turns next);
      are = step.1;
      hops = out.hops ∙ step.2;
      done = λ i y below y_is. elim (set_case mid n i x y y_is) [
        | inl here ↦ subst (λ (z : Coursed). length z.lines ≤ length z.answers) (sym here.1) ran.done
        | inr there ↦ out.done i y (let other : i ≢ n = there.0 in omega arith) there.1
      ];
    }
