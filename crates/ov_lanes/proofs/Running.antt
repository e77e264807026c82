-- The head's lines, one after the other, and the lines behind it.
use Rattle.std.proofs.Common.{ℕ, zero, suc, ◌≡◌, ◌+◌, ◌<◌, ◌≤◌, List, [], ◌∷◌, ◌++◌, length, set, refl, sym, ◌∙◌, ap, subst, true, false, arith, length-append, inl, inr, ◌==◌, if◌then◌else◌}
use Rattle.std.specs.Prelude.{take, slice_get, Some}
use Rattle.std.specs.List.{AllByRecursion}
use Rattle.std.proofs.lemmas.Bool.{eq-eqb, ne_eqb}
use Rattle.std.proofs.lemmas.List.Elements.{All-from_recursion, recursion_from_All, All-set}
use Rattle.std.proofs.lemmas.Option.{none-some, same_Some, slice_get_within}
use Rattle.ov_model.specs.declared.entry.Entry.{Entry}
use Rattle.ov_model.specs.declared.line.Line.{Line}
use Rattle.ov_model.specs.declared.line.Script.{Script}
use Rattle.ov_model.specs.declared.place.Place.{Place}
use Rattle.ov_model.specs.declared.report.Report.{Report}
use Rattle.ov_model.specs.Legal.{lane_lines}
use Rattle.ov_model.proofs.Lanes.{all_append, all_weaker}
use Rattle.ov_share.specs.Passings.{Passing}
use Rattle.ov_share.specs.Shares.{Sharing}
use Rattle.ov_core.proofs.Ending.{get_below}
use Rattle.ov_core.proofs.Seats.{set_case, all_at}
use Rattle.ov_lanes.specs.Threads.{IsPlaceOf, LanesDone, HeadFirst}
use Rattle.ov_lanes.specs.Heads.{AllInHead, InHead, InTurn, IsNext, IsBehind, IsLater, HaveRun, HeadRuns}
use Rattle.ov_share.specs.Added.{HasAdded}
use Rattle.ov_lanes.proofs.Heads.{head_first, head_more, turns_more}
use Rattle.ov_share.proofs.Adding.{front_length}

-- ---- the lines of a lane, one after the other

-- One line more of the script.
lines_more : (lines : List Line) (n lane : ℕ) (line : Line) → slice_get lines n ≡ Some line → length (lane_lines (take (suc n) lines) lane) ≡ length (lane_lines (take n lines) lane) + (if line.lane == lane then 1 else 0)
lines_more [] n lane line at = absurd (none-some line at)
lines_more (x ∷ lines) zero lane line at =
    let its : x ≡ line = same_Some x line at in
    rw (← its) (elim (x.lane == lane) as (λ b. length (if b then x ∷ [] else []) ≡ 0 + (if b then 1 else 0)) [ true ↦ refl | false ↦ refl ])
lines_more (x ∷ lines) (suc n) lane line at =
    let later = lines_more lines n lane line at in
    elim (x.lane == lane) as (λ b. length (if b then x ∷ lane_lines (take (suc n) lines) lane else lane_lines (take (suc n) lines) lane) ≡ length (if b then x ∷ lane_lines (take n lines) lane else lane_lines (take n lines) lane) + (if line.lane == lane then 1 else 0)) [
      | true ↦ omega (arith, later)
      | false ↦ later
    ]

-- The script's next line is the next of its lane.
pub next_of_lane : (lines : List Line) (n : ℕ) (line : Line) → slice_get lines n ≡ Some line → slice_get (lane_lines lines line.lane) (length (lane_lines (take n lines) line.lane)) ≡ Some line
next_of_lane [] n line at = absurd (none-some line at)
next_of_lane (x ∷ lines) zero line at =
    let its : x ≡ line = same_Some x line at in
    rw (eq-eqb x.lane line.lane (ap (λ (l : Line). l.lane) its)) at
next_of_lane (x ∷ lines) (suc n) line at =
    let later = next_of_lane lines n line at in
    elim (x.lane == line.lane) as (λ b. slice_get (if b then x ∷ lane_lines lines line.lane else lane_lines lines line.lane) (length (if b then x ∷ lane_lines (take n lines) line.lane else lane_lines (take n lines) line.lane)) ≡ Some line) [
      | true ↦ later
      | false ↦ later
    ]

-- The next line stands at the next place of its pass.
pub next_place : (lines : List Line) (n : ℕ) (line : Line) (passes : List Passing) (p : Passing) → HaveRun lines n passes → slice_get lines n ≡ Some line → slice_get passes line.lane ≡ Some p → IsPlaceOf lines n (record { lane = line.lane; line = p.lines })
next_place lines n line passes p run at there = record { line = line; line_is = at; lane = refl; earlier = (run.each line.lane p there).1 }

-- Before any line.
pub none_run : (lines : List Line) (passes : List Passing) → ((i : ℕ) (p : Passing) → slice_get passes i ≡ Some p → (p.number ≡ i) × (p.lines ≡ 0)) → HaveRun lines 0 passes
none_run lines passes new = record { each = λ i p at. new i p at }

-- A pass answered the next line.
pub one_run : (lines : List Line) (n : ℕ) (line : Line) (passes : List Passing) (old new : Passing) → HaveRun lines n passes → slice_get lines n ≡ Some line → slice_get passes line.lane ≡ Some old → new.number ≡ old.number → new.lines ≡ old.lines + 1 → HaveRun lines (n + 1) (set passes line.lane new)
one_run lines n line passes old new run at there number answered = record {
  each = λ i p is.
      let next : n + 1 ≡ suc n = omega arith in
      let one : length (lane_lines (take (n + 1) lines) i) ≡ length (lane_lines (take n lines) i) + (if line.lane == i then 1 else 0) = ap (λ k. length (lane_lines (take k lines) i)) next ∙ lines_more lines n i line at in
      elim (set_case passes line.lane i new p is) [
        | inl here ↦
            let was = run.each line.lane old there in
            let more : ◌≡◌ {A = ℕ} (if line.lane == i then 1 else 0) 1 = rw (eq-eqb line.lane i (sym here.0)) refl in
            let before : old.lines ≡ length (lane_lines (take n lines) i) = was.1 ∙ ap (λ lane. length (lane_lines (take n lines) lane)) (sym here.0) in
            (ap (λ (q : Passing). q.number) here.1 ∙ number ∙ was.0 ∙ sym here.0, ap (λ (q : Passing). q.lines) here.1 ∙ answered ∙ omega arith)
        | inr others ↦
            let was = run.each i p others.1 in
            let none : ◌≡◌ {A = ℕ} (if line.lane == i then 1 else 0) 0 = rw (ne_eqb line.lane i (λ same. others.0 (sym same))) refl in
            (was.0, was.1 ∙ omega arith)
      ];
}

-- ---- the head's entries, and those behind it

-- The next line's entries are the head's next.
next_entries : (lines : List Line) (n : ℕ) (place : Place) (old new : Sharing) (a : HasAdded (λ p. p ≡ place) old new) → IsPlaceOf lines n place → AllByRecursion (IsNext lines n (length old.sight.seen) (length new.sight.seen)) a.more
next_entries lines n place old new a is = all_next a.more a.late a.below a.placed
  where
    all_next : (es : List (ℕ × Entry)) → AllByRecursion (λ e. length old.sight.seen ≤ e.0) es → AllByRecursion (λ e. e.0 < length new.sight.seen) es → AllByRecursion (λ e. e.1.place ≡ place) es → AllByRecursion (IsNext lines n (length old.sight.seen) (length new.sight.seen)) es
    all_next [] late below placed = tt
    all_next (e ∷ es) late below placed = (record { from = late.0; below = below.0; is = subst (IsPlaceOf lines n) (sym placed.0) is }, all_next es late.1 below.1 placed.1)

-- The head goes on: the pass of its next line answered that, and had seen all of the lines before.
pub head_goes_on : (lines : List Line) (ends : List ℕ) (place : Place) (passes : List Passing) (i : ℕ) (old new : Passing) → AllInHead lines ends passes → AllByRecursion (λ x. x ≤ length old.share.sight.seen) ends → slice_get passes i ≡ Some old → IsPlaceOf lines (length ends) place → HasAdded (λ p. p ≡ place) old.share new.share
    → AllInHead lines (ends ++ length new.share.sight.seen ∷ []) (set passes i new) × AllByRecursion (λ x. x ≤ length new.share.sight.seen) (ends ++ length new.share.sight.seen ∷ [])
head_goes_on lines ends place passes i old new were most at is a =
    let wider : length old.share.sight.seen ≤ length new.share.sight.seen = front_length old.share.sight.seen new.share.sight.seen a.front in
    let end : ℕ = length new.share.sight.seen in (
      head_more lines ends (length old.share.sight.seen) end passes i old new a.more were most wider at a.own (next_entries lines (length ends) place old.share new.share a is),
      all_append (λ x. x ≤ end) ends (end ∷ []) (all_weaker (λ x. x ≤ length old.share.sight.seen) (λ x. x ≤ end) (λ x m. omega arith) ends most) (omega arith, tt),
    )

-- Behind the head a pass answered more lines of its lane.
pub goes_on_behind : (lines : List Line) (ends : List ℕ) (lane : ℕ) (old new : Passing) → AllByRecursion (InHead lines ends) old.share.sight.own → AllByRecursion (λ x. x ≤ length old.share.sight.seen) ends → HasAdded (IsLater lines (length ends) lane) old.share new.share → AllByRecursion (InTurn lines ends) new.share.sight.own
goes_on_behind lines ends lane old new were most a = turns_more lines ends (length old.share.sight.seen) old new a.more were most a.own (all_behind a.more a.late a.placed)
  where
    all_behind : (es : List (ℕ × Entry)) → AllByRecursion (λ e. length old.share.sight.seen ≤ e.0) es → AllByRecursion (λ e. IsLater lines (length ends) lane e.1.place) es → AllByRecursion (IsBehind lines (length ends) (length old.share.sight.seen)) es
    all_behind [] late placed = tt
    all_behind (e ∷ es) late placed =
        let its : IsLater lines (length ends) lane e.1.place = placed.0 in
        (record { from = late.0; later = rw its.lane_is its.later }, all_behind es late.1 placed.1)

-- ---- the whole head

-- Before any line, where no pass has made anything.
pub head_begins : (lines : List Line) (low : ℕ) (passes : List Passing) → HaveRun lines 0 passes → AllByRecursion (λ p. p.share.sight.own ≡ []) passes → HeadRuns lines 0 low passes
head_begins lines low passes run fresh = record { ends = []; count = refl; most = tt; turns = all_weaker (λ (p : Passing). p.share.sight.own ≡ []) (λ p. AllByRecursion (InHead lines []) p.share.sight.own) (λ p none. rw none tt) passes fresh; run = run }

-- Passes that met have seen more, and made nothing.
pub head_saw : (lines : List Line) (n low : ℕ) (passes : List Passing) (i : ℕ) (old new : Passing) → HeadRuns lines n low passes → slice_get passes i ≡ Some old → new.share.sight.own ≡ old.share.sight.own → new.number ≡ old.number → new.lines ≡ old.lines → HeadRuns lines n low (set passes i new)
head_saw lines n low passes i old new runs at own number answered =
    let Own : Passing → Type 0 = λ p. AllByRecursion (InHead lines runs.ends) p.share.sight.own in
    record {
      ends = runs.ends;
      count = runs.count;
      most = runs.most;
      turns = recursion_from_All Own (set passes i new) (All-set Own passes i new (rw own (all_at Own passes i old runs.turns at)) (All-from_recursion Own passes runs.turns));
      run = record {
        each = λ k p is. elim (set_case passes i k new p is) [
          | inl here ↦
              let was = runs.run.each i old at in
              (ap (λ (q : Passing). q.number) here.1 ∙ number ∙ was.0 ∙ sym here.0, ap (λ (q : Passing). q.lines) here.1 ∙ answered ∙ was.1 ∙ ap (λ lane. length (lane_lines (take n lines) lane)) (sym here.0))
          | inr others ↦ runs.run.each k p others.1
        ];
      };
    }

-- The pass of the script's next line, which had seen all of the lines before, answered it.
pub head_answers : (lines : List Line) (n low : ℕ) (line : Line) (passes : List Passing) (old new : Passing) → HeadRuns lines n low passes → slice_get lines n ≡ Some line → slice_get passes line.lane ≡ Some old → low ≤ length old.share.sight.seen → new.number ≡ old.number → new.lines ≡ old.lines + 1
    → HasAdded (λ p. p ≡ record { lane = line.lane; line = old.lines }) old.share new.share → HeadRuns lines (n + 1) (length new.share.sight.seen) (set passes line.lane new)
head_answers lines n low line passes old new runs at there saw number answered added =
    let count = runs.count in
    let most : AllByRecursion (λ x. x ≤ length old.share.sight.seen) runs.ends = all_weaker (λ x. x ≤ low) (λ x. x ≤ length old.share.sight.seen) (λ x m. omega arith) runs.ends runs.most in
    let place : IsPlaceOf lines (length runs.ends) (record { lane = line.lane; line = old.lines }) = rw count (next_place lines n line passes old runs.run at there) in
    let on = head_goes_on lines runs.ends (record { lane = line.lane; line = old.lines }) passes line.lane old new runs.turns most there place added in
    record {
      ends = runs.ends ++ length new.share.sight.seen ∷ [];
      count = length-append runs.ends (length new.share.sight.seen ∷ []) ∙ ap (λ k. k + 1) count;
      most = on.1;
      turns = on.0;
      run = one_run lines n line passes old new runs.run at there number answered;
    }

-- Behind the head each pass, which had seen all of it, answered more of its lane's lines: then the head came first.
pub head_done : (script : Script) (first : ℕ) (report : Report) (head low : ℕ) (old new : List Passing) → HeadRuns script.lines head low old → length new ≡ length old
    → ((i : ℕ) (p q : Passing) → slice_get old i ≡ Some p → slice_get new i ≡ Some q → (low ≤ length p.share.sight.seen) × HasAdded (IsLater script.lines head i) p.share q.share) → LanesDone script first report new → HeadFirst script head report
head_done script first report head low old new runs long on all =
    let count : length runs.ends ≡ head = runs.count in
    let turns : AllByRecursion (λ p. AllByRecursion (InTurn script.lines runs.ends) p.share.sight.own) new = all_from (λ (p : Passing). AllByRecursion (InTurn script.lines runs.ends) p.share.sight.own) new (λ i q at.
    (let p = get_below old i (let below = slice_get_within new i q at in omega arith) in
    let its = on i p.x q p.is at in
    let saw : low ≤ length p.x.share.sight.seen = its.0 in
    let added : HasAdded (IsLater script.lines (length runs.ends) i) p.x.share q.share = rw count its.1 in
    goes_on_behind script.lines runs.ends i p.x q (all_at (λ (x : Passing). AllByRecursion (InHead script.lines runs.ends) x.share.sight.own) old i p.x runs.turns p.is) (all_weaker (λ x. x ≤ low) (λ x. x ≤ length p.x.share.sight.seen) (λ x m. omega arith) runs.ends runs.most) added)) in
    subst (λ n. HeadFirst script n report) count (head_first script first report new runs.ends all turns)
  where
    all_from : {X : Type 0} (P : X → Type 0) (xs : List X) → ((i : ℕ) (x : X) → slice_get xs i ≡ Some x → P x) → AllByRecursion P xs
    all_from P [] each = tt
    all_from P (x ∷ xs) each = (each 0 x refl, all_from P xs (λ i y at. each (suc i) y at))
