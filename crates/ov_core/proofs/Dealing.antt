-- The courses once one line more was dealt to its lane, and once all are.
use Rattle.std.proofs.Common.{ℕ, ◌≡◌, ◌≢◌, ◌+◌, ◌<◌, ◌≤◌, zero, suc, List, [], ◌∷◌, ◌++◌, refl, sym, ◌∙◌, ap, subst, arith, append-nil}
use Rattle.std.specs.Prelude.{map, replicate, slice_set, ◌==◌}
use Rattle.std.specs.List.{range_with_len}
use Rattle.std.proofs.lemmas.Bool.{eq-eqb, ne_eqb}
use Rattle.std.proofs.lemmas.List.Elements.{filter-append}
use Rattle.ov_model.specs.declared.line.Line.{Line}
use Rattle.ov_model.specs.Legal.{lane_lines}
use Rattle.ov_core.specs.Worlds.{lane_count}
use Rattle.ov_model.specs.declared.line.Script.{Script}
use Rattle.ov_model.specs.Via.{via_of}
use Rattle.ov_path.specs.declared.stage.Stage.TheVariants as stage
use Rattle.ov_core.specs.Seats.{new_seated}
use Rattle.ov_core.specs.Sessions.{begun}
use Rattle.ov_core.specs.Ready.{Running}
use Rattle.ov_core.specs.Courses.{Coursed, lane_of, session_at}
use Rattle.ov_core.specs.Scripts.{stages_of, script_at, AreCourses, course_of, dealt}
use Rattle.ov_core.proofs.Beginning.{get_numbered}
use Rattle.ov_core.proofs.Running.{running_begun}

module _ {X : Type 0} (f g : ℕ → X) where
  -- Numbers of which two functions say the same.
  numbered_same : (b n : ℕ) → ((k : ℕ) → b ≤ k → g k ≡ f k) → map g (range_with_len b n) ≡ map f (range_with_len b n)
  numbered_same b zero same = refl
  numbered_same b (suc n) same = rw (same b (omega arith), numbered_same (b + 1) n (λ k past. same k (omega arith))) refl

  -- Numbers of which they differ at one.
  pub numbered_set : (b n i : ℕ) → i < n → ((k : ℕ) → k ≢ b + i → g k ≡ f k) → map g (range_with_len b n) ≡ slice_set (map f (range_with_len b n)) i (g (b + i))
  numbered_set b zero i below same = absurd (omega arith)
  numbered_set b (suc n) zero below same =
      let here : b ≡ b + 0 = omega arith in
      let first : g b ≡ g (b + 0) = ap g here in
      rw (numbered_same (b + 1) n (λ k past. same k (λ e. absurd (omega arith)))) (ap (λ x. x ∷ map f (range_with_len (b + 1) n)) first)
  numbered_set b (suc n) (suc i) below same =
      let at : b + 1 + i ≡ b + suc i = omega arith in
      let rest : map g (range_with_len (b + 1) n) ≡ slice_set (map f (range_with_len (b + 1) n)) i (g (b + 1 + i)) = numbered_set (b + 1) n i (omega arith) (λ k other. same k (λ e. other (e ∙ sym at))) in
      rw (same b (λ e. absurd (omega arith))) (ap (λ xs. f b ∷ xs) (rest ∙ ap (λ k. slice_set (map f (range_with_len (b + 1) n)) i (g k)) at))

pub own_lines : (lines : List Line) (line : Line) (lane : ℕ) → line.lane ≡ lane → lane_lines (lines ++ line ∷ []) lane ≡ lane_lines lines lane ++ line ∷ []
own_lines lines line lane same = filter-append (λ (l : Line). l.lane == lane) lines (line ∷ []) ∙ rw (eq-eqb line.lane lane same) refl

pub other_lines : (lines : List Line) (line : Line) (lane : ℕ) → line.lane ≢ lane → lane_lines (lines ++ line ∷ []) lane ≡ lane_lines lines lane
other_lines lines line lane other = filter-append (λ (l : Line). l.lane == lane) lines (line ∷ []) ∙ rw (ne_eqb line.lane lane other) (append-nil (lane_lines lines lane))

-- One line more goes to its course, and the other courses have what they had.
pub dealt_more : (lines : List Line) (line : Line) → line.lane < lane_count → dealt (lines ++ line ∷ []) ≡ slice_set (dealt lines) line.lane (record (course_of lines line.lane) { lines = lane_lines lines line.lane ++ line ∷ [] })
dealt_more lines line below =
    let zeroth : 0 + line.lane ≡ line.lane = omega arith in
    let with : ℕ → List Line → Coursed = λ i ls. record (course_of lines i) { lines = ls } in
    numbered_set (course_of lines) (course_of (lines ++ line ∷ [])) 0 lane_count line.lane below (λ k other. ap (with k) (other_lines lines line k (λ e. other (sym e ∙ sym zeroth))))
    ∙ ap (λ k. slice_set (dealt lines) line.lane (course_of (lines ++ line ∷ []) k)) zeroth ∙ ap (λ ls. slice_set (dealt lines) line.lane (with line.lane ls)) (own_lines lines line line.lane refl)

dealt_lanes_of : (lines : List Line) (b n : ℕ) → map lane_of (map (course_of lines) (range_with_len b n)) ≡ map (λ i. record { lines = lane_lines lines i; answers = [] }) (range_with_len b n)
dealt_lanes_of lines b zero = refl
dealt_lanes_of lines b (suc n) = ap (λ ls. lane_of (course_of lines b) ∷ ls) (dealt_lanes_of lines (b + 1) n)

dealt_stages_of : (lines : List Line) (b n : ℕ) → map (λ (c : Coursed). c.walk.stage) (map (course_of lines) (range_with_len b n)) ≡ replicate n stage.Fresh
dealt_stages_of lines b zero = refl
dealt_stages_of lines b (suc n) = ap (λ ss. stage.Fresh ∷ ss) (dealt_stages_of lines (b + 1) n)

-- Once all lines are dealt, the courses are the script before any turn.
pub dealt_script : (script : Script) (first : ℕ) → script_at (new_seated first script.routes) (dealt script.lines) ≡ begun script first
dealt_script script first = ap (session_at (new_seated first script.routes)) (dealt_lanes_of script.lines 0 lane_count)

pub dealt_are : (script : Script) (first : ℕ) → first ≤ 4294967296 → AreCourses (new_seated first script.routes) (dealt script.lines)
dealt_are script first most = record {
  running = subst (λ ls. Running (via_of script.routes) (session_at (new_seated first script.routes) ls) (stages_of (dealt script.lines))) (sym (dealt_lanes_of script.lines 0 lane_count))
      (subst (λ ss. Running (via_of script.routes) (begun script first) ss) (sym (dealt_stages_of script.lines 0 lane_count)) (running_begun (via_of script.routes) script first most));
  count = refl;
  numbered = λ i c at. ap (λ (x : Coursed). x.lane) (get_numbered (course_of script.lines) 0 lane_count i c at) ∙ (let from_zero : 0 + i ≡ i = omega arith in from_zero);
}

-- One number more.
numbered_next : {X : Type 0} (f : ℕ → X) (b n : ℕ) → map f (range_with_len b (suc n)) ≡ map f (range_with_len b n) ++ f (b + n) ∷ []
numbered_next f b zero = ap (λ k. f k ∷ []) (let same : b ≡ b + 0 = omega arith in same)
numbered_next f b (suc n) = ap (λ xs. f b ∷ xs) (numbered_next f (b + 1) n ∙ ap (λ k. map f (range_with_len (b + 1) n) ++ f k ∷ []) (let same : b + 1 + n ≡ b + suc n = omega arith in same))

-- One lane more, without lines.
pub new_more : (n : ℕ) → map (course_of []) (range_with_len 0 (n + 1)) ≡ map (course_of []) (range_with_len 0 n) ++ course_of [] n ∷ []
new_more n =
    let one_more : n + 1 ≡ suc n = omega arith in
    let zeroth : 0 + n ≡ n = omega arith in
    ap (λ k. map (course_of []) (range_with_len 0 k)) one_more ∙ numbered_next (course_of []) 0 n ∙ ap (λ k. map (course_of []) (range_with_len 0 n) ++ course_of [] k ∷ []) zeroth
