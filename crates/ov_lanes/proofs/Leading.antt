-- The head's lines run one after the other, and then each lane's.
use Rattle.std.proofs.Common.{ℕ, zero, suc, ◌≡◌, ◌+◌, ◌<◌, ◌≤◌, List, [], ◌∷◌, length, map, set, slice_index_or, refl, sym, ◌∙◌, ap, subst, true, false, arith, inl, inr}
use Rattle.std.specs.Prelude.{slice_get, slice_set, take, Some}
use Rattle.std.specs.List.{AllByRecursion}
use Rattle.std.proofs.lemmas.Option.{none-some, same_Some, slice_get-get_or, slice_get_read, slice_get_within}
use Rattle.ov_model.specs.declared.line.Line.{Line}
use Rattle.ov_model.specs.declared.place.Place.{Place}
use Rattle.ov_model.specs.Legal.{lane_lines}
use Rattle.ov_share.specs.Added.{HasAdded}
use Rattle.ov_lane.specs.Passes.{Shared}
use Rattle.ov_core.proofs.Seats.{set_case, set_here, same_some, all_at, map_set}
use Rattle.ov_lanes.specs.Heads.{HeadRuns}
use Rattle.ov_lanes.specs.Jobs.{Lane, Stands, RanNext, AllSaw, HaveMet, AllRanOut, AreAtWork, AreAtHead, AreBehindHead, HaveRunAll, RanOut, are_on, next_of, passes_of, IsReady}
use Rattle.ov_lanes.proofs.Running.{next_of_lane, head_answers}
use Rattle.ov_lanes.proofs.Keeping.{keeps_ran, all_from, work_kept, work_set}
use Rattle.ov_lanes.proofs.Meeting.{head_met, pass_at}
use Rattle.ov_course.specs.Courses.{IsFrom}

-- ---- the next line of the head

-- The script's line of a number, and its lane.
pub record HasLine (lines : List Line) (n lane : ℕ) : Type 0 where
  pub line : Line
  pub at : slice_get lines n ≡ Some line
  pub lane_is : line.lane ≡ lane

line_in : (lines : List Line) (n lane : ℕ) → slice_get (map (λ (l : Line). l.lane) lines) n ≡ Some lane → HasLine lines n lane
line_in [] n lane at = absurd (none-some lane at)
line_in (l ∷ lines) zero lane at = record { line = l; at = refl; lane_is = same_Some l.lane lane at }
line_in (l ∷ lines) (suc n) lane at = let later = line_in lines n lane at in record { line = later.line; at = later.at; lane_is = later.lane_is }

taken_at : {X : Type 0} (k : ℕ) (xs : List X) (n : ℕ) (x : X) → slice_get (take k xs) n ≡ Some x → slice_get xs n ≡ Some x
taken_at zero xs n x at = absurd (none-some x at)
taken_at (suc k) [] n x at = absurd (none-some x at)
taken_at (suc k) (y ∷ xs) zero x at = at
taken_at (suc k) (y ∷ xs) (suc n) x at = taken_at k xs n x at

-- The head's lines are the script's first.
pub line_at : (head : ℕ) (lines : List Line) (order : List ℕ) (n lane : ℕ) → order ≡ map (λ line. line.lane) (take head lines) → slice_get order n ≡ Some lane → HasLine lines n lane
line_at head lines order n lane order_is at =
    let its : HasLine (take head lines) n lane = line_in (take head lines) n lane (sym (ap (λ o. slice_get o n) order_is) ∙ at) in
    record { line = its.line; at = taken_at head lines n its.line its.at; lane_is = its.lane_is }

-- The same of the lane that is read.
pub line_of : (head : ℕ) (lines : List Line) (order : List ℕ) (n : ℕ) → order ≡ map (λ line. line.lane) (take head lines) → n < length order → HasLine lines n (slice_index_or order n 0)
line_of head lines order n order_is below = line_at head lines order n (slice_index_or order n 0) order_is (slice_get-get_or order n 0 below)

-- Its lane is one of the lanes.
pub lane_below : (count : ℕ) (lines : List Line) (n lane : ℕ) → AllByRecursion (λ line. line.lane < count) lines → HasLine lines n lane → lane < count
lane_below count lines n lane named its = subst (λ k. k < count) its.lane_is (all_at (λ (l : Line). l.lane < count) lines n its.line named its.at)

-- The lane has lines left.
pub head_left : (o : Shared) (lines : List Line) (n lane : ℕ) (lanes : List Lane) (own : Lane) → AreAtHead o lines n lane lanes → HasLine lines n lane → slice_get lanes lane ≡ Some own → length own.answers < length own.lines
head_left o lines n lane lanes own head its at =
    let there = head.work.numbers lane own at in
    let answered : own.pass.lines ≡ length own.answers = (all_at IsReady lanes lane own head.work.ready at).answered in
    let before : own.pass.lines ≡ length (lane_lines (take n lines) lane) = (head.runs.run.each lane own.pass (pass_at lanes lane own at)).1 in
    let next : slice_get (lane_lines lines its.line.lane) (length (lane_lines (take n lines) its.line.lane)) ≡ Some its.line = next_of_lane lines n its.line its.at in
    let within : length (lane_lines (take n lines) lane) < length (lane_lines lines lane) = subst (λ k. length (lane_lines (take n lines) k) < length (lane_lines lines k)) its.lane_is (slice_get_within (lane_lines lines its.line.lane) (length (lane_lines (take n lines) its.line.lane)) its.line next) in
    let all : length own.lines ≡ length (lane_lines lines lane) = ap length there.1 in
    omega arith

-- ---- a lane ran its next line

-- Whether it was answered or not, all are at work.
pub next_work : (o : Shared) (lines : List Line) (lanes : List Lane) (i : ℕ) (own new : Lane) → AreAtWork o lines lanes → are_on lanes → slice_get lanes i ≡ Some own → RanNext own new → AreAtWork o lines (slice_set lanes i new)
next_work o lines lanes i own new work on at ran =
    let stood : Stands own = all_at (λ (l : Lane). l.stopped ≡ false → Stands l) lanes i own work.stands at (all_at (λ (l : Lane). l.stopped ≡ false) lanes i own on at) in
    work_set o lines lanes i own new work at (keeps_ran (λ p. p ≡ next_of own) own new ran.stays, λ still. (ran.answers still).stands stood)

-- Where its line was stopped, not all are on.
pub next_off : (lanes : List Lane) (i : ℕ) (own new : Lane) → slice_get lanes i ≡ Some own → new.stopped ≡ true → are_on (slice_set lanes i new) → ⊥
next_off lanes i own new at stopped on =
    let still : new.stopped ≡ false = all_at (λ (l : Lane). l.stopped ≡ false) (slice_set lanes i new) i new on (set_here lanes i new own at) in
    cc (still, stopped)

-- Where it was answered, one line more of the head is over.
pub head_next : (o : Shared) (lines : List Line) (n lane : ℕ) (lanes : List Lane) (own new : Lane) → AreAtHead o lines n lane lanes → HasLine lines n lane → slice_get lanes lane ≡ Some own → RanNext own new → new.stopped ≡ false → AreAtHead o lines (n + 1) lane (slice_set lanes lane new)
head_next o lines n lane lanes own new head its at ran on =
    let stays = ran.stays in
    let more = (ran.answers on).answered in
    let before : own.pass.lines ≡ length own.answers = (all_at IsReady lanes lane own head.work.ready at).answered in
    let after : new.pass.lines ≡ length new.answers = stays.ready.answered in
    let one : new.pass.lines ≡ own.pass.lines + 1 = omega arith in
    let place : ◌≡◌ {A = Place} (next_of own) (record { lane = its.line.lane; line = own.pass.lines }) = ap (λ k. record { lane = k; line = own.pass.lines }) ((head.work.numbers lane own at).0 ∙ sym its.lane_is) in
    let added : HasAdded (λ p. p ≡ record { lane = its.line.lane; line = own.pass.lines }) own.pass.share new.pass.share = subst (λ (q : Place). HasAdded (λ p. p ≡ q) own.pass.share new.pass.share) place stays.added in
    let own_at : slice_get (passes_of lanes) its.line.lane ≡ Some own.pass = subst (λ k. slice_get (passes_of lanes) k ≡ Some own.pass) (sym its.lane_is) (pass_at lanes lane own at) in
    let runs : HeadRuns lines (n + 1) (length new.pass.share.sight.seen) (set (passes_of lanes) its.line.lane new.pass) = head_answers lines n head.low its.line (passes_of lanes) own.pass new.pass head.runs its.at own_at (head.saw own at) stays.number one added in
    let there : set (passes_of lanes) its.line.lane new.pass ≡ passes_of (slice_set lanes lane new) = ap (λ k. set (passes_of lanes) k new.pass) its.lane_is ∙ sym (map_set (λ (l : Lane). l.pass) lanes lane new) in
    record {
      work = next_work o lines lanes lane own new head.work head.on at ran;
      on = all_from (λ (l : Lane). l.stopped ≡ false) (slice_set lanes lane new) (λ i l is. elim (set_case lanes lane i new l is) [
        | inl here ↦ ap (λ (x : Lane). x.stopped) here.1 ∙ on
        | inr others ↦ all_at (λ (x : Lane). x.stopped ≡ false) lanes i l head.on others.1
      ]);
      low = length new.pass.share.sight.seen;
      runs = subst (HeadRuns lines (n + 1) (length new.pass.share.sight.seen)) there runs;
      saw = λ l is. subst (λ (x : Lane). length new.pass.share.sight.seen ≤ length x.pass.share.sight.seen) (same_some (slice_get (slice_set lanes lane new) lane) new l (set_here lanes lane new own at) is) (omega arith);
    }

-- ---- behind the head

-- All lanes ran out: they are at work as before.
pub work_ran : (o : Shared) (lines : List Line) (old new : List Lane) → AreAtWork o lines old → are_on old → AllRanOut old new → AreAtWork o lines new
work_ran o lines old new work on ran = work_kept o lines old new work ran.count (λ i a b at is.
    let one : RanOut a b = ran.each i a b at is in
    let stood : Stands a = all_at (λ (l : Lane). l.stopped ≡ false → Stands l) old i a work.stands at (all_at (λ (l : Lane). l.stopped ≡ false) old i a on at) in
    (keeps_ran (IsFrom a.pass.number a.pass.lines) a b one.stays, λ still. (one.answers still).stands stood))

-- The head was run, and then all other lines.
pub all_run : (o : Shared) (lines : List Line) (n count : ℕ) (old new : List Lane) → AreBehindHead o lines n old → length old ≡ count → AllRanOut old new → HaveRunAll o lines n count new
all_run o lines n count old new head counted ran = record {
  work = work_ran o lines old new head.work head.on ran;
  counted = ran.count ∙ counted;
  behind = λ on. record { before = old; head = head; ran = ran };
}

-- A line of the head was stopped.
pub none_run_on : (o : Shared) (lines : List Line) (n count : ℕ) (lanes : List Lane) → AreAtWork o lines lanes → length lanes ≡ count → (are_on lanes → ⊥) → HaveRunAll o lines n count lanes
none_run_on o lines n count lanes work counted off = record { work = work; counted = counted; behind = λ on. absurd (off on) }

-- ---- a turn of the head

-- The next line's lane has met that of the line before, and is about to run it.
pub record IsTurn (o : Shared) (lines : List Line) (n lane : ℕ) (lanes : List Lane) (own : Lane) : Type 0 where
  pub line : HasLine lines n lane
  pub here : lane < length lanes
  pub at : slice_get lanes lane ≡ Some own
  pub head : AreAtHead o lines n lane lanes

pub turn : (o : Shared) (lines : List Line) (head count : ℕ) (order : List ℕ) (n last : ℕ) (before lent after lanes : List Lane) (own : Lane) → order ≡ map (λ line. line.lane) (take head lines) → AllByRecursion (λ line. line.lane < count) lines → n < length order → AreAtHead o lines n last before → last < length before → length before ≡ count
    → lent ≡ before → lanes ≡ after → AllSaw lent after → HaveMet last (slice_index_or order n 0) after → own ≡ slice_index_or lanes (slice_index_or order n 0) own → IsTurn o lines n (slice_index_or order n 0) lanes own
turn o lines head count order n last before lent after lanes own order_is named below at_head within counted lent_is lanes_is saw met own_is =
    let its = line_of head lines order n order_is below in
    let lane : ℕ = slice_index_or order n 0 in
    let more : AllSaw before lanes = subst (AllSaw before) (sym lanes_is) (subst (λ (xs : List Lane). AllSaw xs after) lent_is saw) in
    let first : lane < count = lane_below count lines n lane named its in
    let here : lane < length lanes = subst (λ k. lane < k) (sym counted ∙ sym more.count) first in
    record {
      line = its;
      here = here;
      at = slice_get_read lanes (length lanes) lane own refl here own_is;
      head = head_met o lines n last lane before lanes at_head within more (subst (HaveMet last lane) (sym lanes_is) met);
    }

-- The next line's lane is one of the lanes.
pub turn_within : (lines : List Line) (head count : ℕ) (order : List ℕ) (n : ℕ) → order ≡ map (λ line. line.lane) (take head lines) → AllByRecursion (λ line. line.lane < count) lines → n < length order → slice_index_or order n 0 < count
turn_within lines head count order n order_is named below = lane_below count lines n (slice_index_or order n 0) named (line_of head lines order n order_is below)
