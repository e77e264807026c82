-- The report of a script that ran by a schedule.
use Rattle.std.proofs.Common.{ℕ, ◌≡◌, ◌≤◌, ◌<◌, List, ◌++◌, length, refl, sym, ◌∙◌, subst, arith}
use Rattle.std.specs.Prelude.{Some, slice_get}
use Rattle.std.specs.List.{AllByRecursion}
use Rattle.std.proofs.lemmas.Option.{slice_get_within}
use Rattle.std.proofs.lemmas.List.{length-map}
use Rattle.ov_base.specs.declared.address.Addr.{Addr}
use Rattle.ov_model.specs.declared.line.Script.{Script}
use Rattle.ov_model.specs.Legal.{Legal}
use Rattle.ov_model.specs.Via.{via_of}
use Rattle.ov_core.specs.Worlds.{lane_count}
use Rattle.ov_core.specs.Seats.{Seated, new_seated}
use Rattle.ov_core.specs.Sessions.{Lane, Turns, in_order, begun, report_of, Scheduled}
use Rattle.ov_core.specs.Ready.{Running}
use Rattle.ov_core.specs.Courses.{Coursed, lane_of}
use Rattle.ov_core.specs.Scripts.{lanes_of, stages_of, script_at, AreCourses, dealt, TookTurns, RanOut}
use Rattle.ov_core.proofs.Seats.{same_some, map_get}
use Rattle.ov_core.proofs.Beginning.{is_begun}
use Rattle.ov_core.proofs.Taking.{turns_append}
use Rattle.ov_core.proofs.Running.{AllAnswered, member_at, turns_are, running_done, running_legal}
use Rattle.ov_core.proofs.Dealing.{dealt_script}

-- All lines are answered where each course is done.
pub all_answered : (d : Seated) (courses : List Coursed) → AreCourses d courses → ((i : ℕ) (c : Coursed) → slice_get courses i ≡ Some c → length c.lines ≤ length c.answers) → AllAnswered (lanes_of courses)
all_answered d courses are done i lane lane_is =
    let within : i < length (lanes_of courses) = slice_get_within (lanes_of courses) i lane lane_is in
    let long : length (lanes_of courses) ≡ length courses = length-map courses lane_of in
    let c = member_at courses i (omega arith) in
    let its : lane_of c.0 ≡ lane = same_some (slice_get (lanes_of courses) i) (lane_of c.0) lane (map_get lane_of courses i c.0 c.1) lane_is in
    subst (λ (l : Lane). length l.lines ≤ length l.answers) its (done i c.0 c.1)

-- Any turns that end with all lines answered give a legal report.
pub legal_by : (script : Script) (first : ℕ) (d : Seated) (courses : List Coursed) (is : List ℕ) → AllByRecursion (λ line. line.lane < lane_count) script.lines → Turns (via_of script.routes) (begun script first) is (script_at d courses) → Running (via_of script.routes) (script_at d courses) (stages_of courses) → AllAnswered (lanes_of courses) → Legal script first (report_of (script_at d courses))
legal_by script first d courses is lanes turns running all = running_legal script first (script_at d courses) (stages_of courses) lanes running (turns_are (via_of script.routes) is turns (is_begun script first)) all

-- The lanes of a schedule took their turns, and then all lanes ran to their end in number order.
pub record RanBy (script : Script) (first : ℕ) (schedule : List ℕ) (d : Seated) (courses : List Coursed) : Type 0 where
  pub scheduled : Scheduled (via_of script.routes) script first schedule (report_of (script_at d courses))
  pub legal : AllByRecursion (λ line. line.lane < lane_count) script.lines → Legal script first (report_of (script_at d courses))

pub ran_by : (script : Script) (first : ℕ) (schedule : List ℕ) (e f : Seated) (mid after : List Coursed) → TookTurns (new_seated first script.routes) e (dealt script.lines) mid schedule → RanOut e f mid after lane_count → RanBy script first schedule f after
ran_by script first schedule e f mid after took out =
    let d : Seated = new_seated first script.routes in
    let via : Addr → Addr = via_of script.routes in
    let later : Turns via (script_at e mid) (in_order 0 out.more) (script_at f after) = subst (λ (v : Addr → Addr). Turns v (script_at e mid) (in_order 0 out.more) (script_at f after)) (sym took.hops) out.turns in
    let whole : Turns via (script_at d (dealt script.lines)) (schedule ++ in_order 0 out.more) (script_at f after) = turns_append via (script_at d (dealt script.lines)) (script_at e mid) (script_at f after) schedule (in_order 0 out.more) took.turns later in
    let turns : Turns via (begun script first) (schedule ++ in_order 0 out.more) (script_at f after) = subst (λ s. Turns via s (schedule ++ in_order 0 out.more) (script_at f after)) (dealt_script script first) whole in
    let running : Running via (script_at f after) (stages_of after) = subst (λ (v : Addr → Addr). Running v (script_at f after) (stages_of after)) (sym (took.hops ∙ out.hops)) out.are.running in
    let all : AllAnswered (lanes_of after) = all_answered f after out.are (λ i c at. out.done i c (let within : i < length after = slice_get_within after i c at in let count : length after ≡ lane_count = out.are.count in omega arith) at) in
    record {
      scheduled = record { more = out.more; last = script_at f after; turns = turns; end = running_done via (script_at f after) (stages_of after) running all; report_is = refl };
      legal = λ lanes. legal_by script first f after (schedule ++ in_order 0 out.more) lanes turns running all;
    }
