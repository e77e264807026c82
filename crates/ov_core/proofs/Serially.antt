-- The report of a script whose lines ran one after the other.
use Rattle.std.proofs.Common.{ℕ, ◌≡◌, ◌+◌, ◌≤◌, ◌<◌, List, [], ◌∷◌, ◌++◌, length, refl, sym, ◌∙◌, ap, subst, arith, inl, inr, length-append, ◌==◌}
use Rattle.std.specs.Prelude.{replicate, Some, slice_get, slice_set}
use Rattle.std.specs.List.{AllByRecursion}
use Rattle.std.proofs.lemmas.Bool.{eq-eqb}
use Rattle.std.proofs.lemmas.List.Elements.{filter-append}
use Rattle.ov_base.specs.declared.address.Addr.{Addr}
use Rattle.ov_model.specs.declared.line.Line.{Line}
use Rattle.ov_model.specs.declared.line.Script.{Script}
use Rattle.ov_model.specs.Legal.{Legal, lane_lines}
use Rattle.ov_model.specs.Via.{via_of}
use Rattle.ov_core.specs.Worlds.{lane_count}
use Rattle.ov_core.specs.Seats.{Seated, via_in, new_seated}
use Rattle.ov_core.specs.Sessions.{Session, RunsLine, RunsLines, Serial, begun, report_of}
use Rattle.ov_core.specs.Ready.{Running}
use Rattle.ov_core.specs.Courses.{Coursed, Standing, OnCourse}
use Rattle.ov_core.specs.Scripts.{lanes_of, stages_of, standing_of, script_at, LineRan, RanLines, course_of, dealt}
use Rattle.ov_core.proofs.Seats.{set_case}
use Rattle.ov_core.specs.Sounds.{IsOf}
use Rattle.ov_core.proofs.Beginning.{get_numbered, is_begun}
use Rattle.ov_core.proofs.Taking.{runs_more, line_turns}
use Rattle.ov_core.proofs.Running.{AllAnswered, turns_are, running_legal}
use Rattle.ov_core.proofs.Scheduling.{all_answered}
use Rattle.ov_core.proofs.Dealing.{own_lines, other_lines, dealt_are, dealt_script}
use Rattle.ov_core.proofs.Coursing.{on_course, line_ran}

-- ---- lines one after the other

-- None yet.
pub lines_none : (script : Script) (first : ℕ) → first ≤ 4294967296 → RanLines script.lines (new_seated first script.routes) (new_seated first script.routes) (dealt script.lines) (dealt script.lines) []
lines_none script first most = record {
  runs = refl;
  are = dealt_are script first most;
  hops = refl;
  lines_are = λ i c at. ap (λ (x : Coursed). x.lines) (get_numbered (course_of script.lines) 0 lane_count i c at) ∙ ap (lane_lines script.lines) (let from_zero : 0 + i ≡ i = omega arith in from_zero);
  answered = λ i c at. ap (λ (x : Coursed). length x.answers) (get_numbered (course_of script.lines) 0 lane_count i c at);
}

-- The next line ran to its end, on its lane.
pub lines_more : (all : List Line) (d e f : Seated) (before mid : List Coursed) (lines : List Line) (line : Line) (c x : Coursed) → RanLines all d e before mid lines → slice_get mid line.lane ≡ Some c → ((standing : Standing) → OnCourse e standing c → LineRan e f standing c x) → RanLines all d f before (slice_set mid line.lane x) (lines ++ line ∷ [])
lines_more all d e f before mid lines line c x ran at ran_so =
    let one : LineRan e f (standing_of (via_in e) mid) c x = ran_so (standing_of (via_in e) mid) (on_course e mid line.lane c ran.are at) in
    let step = line_ran e f mid line.lane c x ran.are at one in
    let next : RunsLine (via_in d) line.lane (script_at e mid) (script_at f (slice_set mid line.lane x)) = subst (λ (v : Addr → Addr). RunsLine v line.lane (script_at e mid) (script_at f (slice_set mid line.lane x))) (sym ran.hops) step.0 in
    record {
      runs = runs_more (via_in d) (script_at d before) (script_at e mid) (script_at f (slice_set mid line.lane x)) lines line ran.runs next;
      are = step.1;
      hops = ran.hops ∙ step.2;
      lines_are = λ i y y_is. elim (set_case mid line.lane i x y y_is) [
        | inl here ↦ ap (λ (z : Coursed). z.lines) here.1 ∙ one.lines ∙ ran.lines_are line.lane c at ∙ ap (lane_lines all) (sym here.0)
        | inr there ↦ ran.lines_are i y there.1
      ];
      answered = λ i y y_is. elim (set_case mid line.lane i x y y_is) [
        | inl here ↦
            let more : length (lane_lines (lines ++ line ∷ []) line.lane) ≡ length (lane_lines lines line.lane) + 1 = ap length (own_lines lines line line.lane refl) ∙ length-append (lane_lines lines line.lane) (line ∷ []) in
            let was : length c.answers ≡ length (lane_lines lines line.lane) = ran.answered line.lane c at in
            let now : length x.answers ≡ length c.answers + 1 = one.answered in
            let own : length x.answers ≡ length (lane_lines (lines ++ line ∷ []) line.lane) = omega arith in
            ap (λ (z : Coursed). length z.answers) here.1 ∙ own ∙ ap (λ n. length (lane_lines (lines ++ line ∷ []) n)) (sym here.0)
        | inr there ↦ ran.answered i y there.1 ∙ sym (ap length (other_lines lines line i (λ same. there.0 (sym same))))
      ];
    }

-- A lane has a line left while one of its lines is to come.
pub line_left : (all : List Line) (d e : Seated) (before mid : List Coursed) (lines later : List Line) (line : Line) (c : Coursed) → all ≡ lines ++ line ∷ later → RanLines all d e before mid lines → slice_get mid line.lane ≡ Some c → length c.answers < length c.lines
line_left all d e before mid lines later line c parts ran at =
    let whole : length c.lines ≡ length (lane_lines (lines ++ line ∷ later) line.lane) = ap length (ran.lines_are line.lane c at) ∙ ap (λ ls. length (lane_lines ls line.lane)) parts in
    let split : lane_lines (lines ++ line ∷ later) line.lane ≡ lane_lines lines line.lane ++ lane_lines (line ∷ later) line.lane = filter-append (λ (l : Line). l.lane == line.lane) lines (line ∷ later) in
    let own : lane_lines (line ∷ later) line.lane ≡ line ∷ lane_lines later line.lane = rw (eq-eqb line.lane line.lane refl) refl in
    let count : length (lane_lines (lines ++ line ∷ later) line.lane) ≡ length (lane_lines lines line.lane) + length (lane_lines (line ∷ later) line.lane) = ap length split ∙ length-append (lane_lines lines line.lane) (lane_lines (line ∷ later) line.lane) in
    let one : length (lane_lines (line ∷ later) line.lane) ≡ length (line ∷ lane_lines later line.lane) = ap length own in
    let was : length c.answers ≡ length (lane_lines lines line.lane) = ran.answered line.lane c at in
    omega arith

-- ---- the report

-- Lines that run leave the script and where its counters began.
runs_are : (via : Addr → Addr) (script : Script) (first : ℕ) (s after : Session) (lines : List Line) → RunsLines via s lines after → IsOf script first s → IsOf script first after
runs_are via script first s after [] runs of = subst (IsOf script first) (sym runs) of
runs_are via script first s after (line ∷ lines) runs of = runs_are via script first runs.0 after lines runs.2 (turns_are via (replicate (runs.1.count + 1) line.lane) (line_turns via line.lane s runs.0 runs.1) of)

-- All lines of the script ran, one after the other.
pub record RanSerially (script : Script) (first : ℕ) (d : Seated) (courses : List Coursed) : Type 0 where
  pub serial : Serial (via_of script.routes) script first (report_of (script_at d courses))
  pub legal : AllByRecursion (λ line. line.lane < lane_count) script.lines → Legal script first (report_of (script_at d courses))

pub ran_serially : (script : Script) (first : ℕ) (e : Seated) (after : List Coursed) → RanLines script.lines (new_seated first script.routes) e (dealt script.lines) after script.lines → RanSerially script first e after
ran_serially script first e after ran =
    let via : Addr → Addr = via_of script.routes in
    let runs : RunsLines via (begun script first) script.lines (script_at e after) = subst (λ s. RunsLines via s script.lines (script_at e after)) (dealt_script script first) ran.runs in
    let running : Running via (script_at e after) (stages_of after) = subst (λ (v : Addr → Addr). Running v (script_at e after) (stages_of after)) (sym ran.hops) ran.are.running in
    let all : AllAnswered (lanes_of after) = all_answered e after ran.are (λ i c at.
    let lines : length c.lines ≡ length (lane_lines script.lines i) = ap length (ran.lines_are i c at) in
    let answers : length c.answers ≡ length (lane_lines script.lines i) = ran.answered i c at in
    omega arith) in
    record {
      serial = record { last = script_at e after; runs = runs; report_is = refl };
      legal = λ lanes. running_legal script first (script_at e after) (stages_of after) lanes running (runs_are via script first (begun script first) (script_at e after) script.lines runs (is_begun script first)) all;
    }
