-- What a lane's next line, and all its lines, leave of it.
use Rattle.std.proofs.Common.{ℕ, ◌≡◌, ◌+◌, ◌<◌, ◌≤◌, ◌-◌, Bool, true, false, List, [], ◌∷◌, ◌++◌, length, refl, sym, ◌∙◌, ap, subst, arith, length-append}
use Rattle.std.specs.Prelude.{Option, Some, slice_get}
use Rattle.ov_model.specs.declared.answer.Answer.{Answer}
use Rattle.ov_model.specs.declared.entry.Entry.{Entry}
use Rattle.ov_model.specs.declared.line.Line.{Line}
use Rattle.ov_model.specs.declared.place.Place.{Place}
use Rattle.ov_replay.specs.Desk.{IsDeskSeat}
use Rattle.ov_turn.specs.Seats.{Sight}
use Rattle.ov_turn.proofs.Fronts.{prefix_self}
use Rattle.ov_share.specs.Passings.{Passing}
use Rattle.ov_share.specs.Shares.{Sharing, IsShareOf}
use Rattle.ov_share.specs.Keepings.{IsOrderly}
use Rattle.ov_share.proofs.Adding.{added_none, added_then, added_wider}
use Rattle.ov_lane.specs.Passes.{Shared, OnlySaw}
use Rattle.ov_lane.proofs.Ordering.{orderly_saw}
use Rattle.ov_desk.specs.Sittings.{Sitting, at_rest}
use Rattle.ov_course.specs.Courses.{RestsAgain, LineAnswered, IsFrom}
use Rattle.ov_course.proofs.Moving.{shares_itself, shares_on}
use Rattle.ov_lanes.specs.Jobs.{Lane, IsReady, StaysReady, RanNext, RanSome, LaneSaw, next_of}
use Rattle.ov_lanes.specs.Inner.{IsKept, pass_in}

-- ---- two lanes met

-- A lane that saw more is ready as before.
pub ready_saw : (old : Lane) (new : Passing) → OnlySaw old.pass new → IsReady old → IsReady (record old { pass = new })
ready_saw old new saw was =
    let share = saw.seen in
    let number : new.number ≡ old.pass.number = ap (λ (p : Passing). p.number) saw.same in
    record {
      of = record {
        table = ap (λ (s : Sharing). s.name) share.same ∙ was.of.table;
        shards = subst (IsDeskSeat old.table.words.shards) (sym (ap (λ (s : Sharing). s.parts) share.same)) was.of.shards;
        counters = ap (λ (s : Sharing). s.drawer.of) share.same ∙ was.of.counters;
      };
      free = record {
        holds = ap (λ (s : Sight Entry). s.holds) share.seen.same ∙ was.free.holds;
        owes = ap (λ (s : Sight Entry). s.owes) share.seen.same ∙ was.free.owes;
      };
      orderly = subst (λ n. IsOrderly n new.share) (sym number) (orderly_saw old.pass.number old.pass.share new.share share was.orderly);
      answered = ap (λ (p : Passing). p.lines) saw.same ∙ was.answered;
      most = was.most;
      fits = was.fits;
    }

-- A lane of these parts, where its pass may be out.
abbrev pub lane_in : Shared → List Line → List Answer → Bool → Option Passing → Lane
lane_in table lines answers stopped pass = record { table = table; pass = pass_in table.words.counters pass; lines = lines; answers = answers; stopped = stopped }

-- A lane whose pass saw more is kept as before.
pub kept_saw : (table : Shared) (lines : List Line) (answers : List Answer) (stopped : Bool) (room : ℕ) (was : Option Passing) (old new : Passing) → was ≡ Some old → OnlySaw old new → IsKept was room (lane_in table lines answers stopped was) → IsKept (Some new) room (lane_in table lines answers stopped (Some new))
kept_saw table lines answers stopped room was old new is saw kept =
    let its : IsKept (Some old) room (lane_in table lines answers stopped (Some old)) = subst (λ p. IsKept p room (lane_in table lines answers stopped p)) is kept in
    record { there = tt; ready = ready_saw (lane_in table lines answers stopped (Some old)) new saw its.ready; room_is = its.room_is }

-- Only its pass is another.
pub lane_saw : (table : Shared) (lines : List Line) (answers : List Answer) (stopped : Bool) (lane : Lane) (was : Option Passing) (old new : Passing) → was ≡ Some old → OnlySaw old new → lane_in table lines answers stopped was ≡ lane → LaneSaw lane (lane_in table lines answers stopped (Some new))
lane_saw table lines answers stopped lane was old new is saw viewed =
    let its : lane ≡ lane_in table lines answers stopped (Some old) = sym viewed ∙ ap (lane_in table lines answers stopped) is in
    subst (λ l. LaneSaw l (lane_in table lines answers stopped (Some new))) (sym its) (record { saw = saw; same = refl })

-- ---- the next line

-- Whether the line was answered or not: what the desk leaves of the lane, with these answers.
next_stays : (old new : Lane) (desk : Sitting) → IsReady old → RestsAgain old.pass.number (λ p. p ≡ next_of old) (at_rest old.table.words old.table.routes old.pass.share) desk
    → IsShareOf old.table.words desk.share → new.table ≡ old.table → new.lines ≡ old.lines → new.pass ≡ record { number = old.pass.number; lines = length new.answers; share = desk.share } → length new.answers ≤ length old.lines → StaysReady (λ p. p ≡ next_of old) old new
next_stays old new desk was again of table lines pass most =
    let number : new.pass.number ≡ old.pass.number = ap (λ (p : Passing). p.number) pass in
    let share : desk.share ≡ new.pass.share = sym (ap (λ (p : Passing). p.share) pass) in
    record {
      table = table;
      lines = lines;
      number = number;
      shares = rw (← share) again.shares;
      added = rw (← share) again.added;
      ready = record {
        of = rw (table, ← share) of;
        free = rw (← share) again.free;
        orderly = rw (number, ← share) (again.orderly was.orderly);
        answered = ap (λ (p : Passing). p.lines) pass;
        most = rw lines most;
        fits = rw lines was.fits;
      };
    }

-- The line was stopped.
pub next_stopped : (old new : Lane) (desk : Sitting) → IsReady old → RestsAgain old.pass.number (λ p. p ≡ next_of old) (at_rest old.table.words old.table.routes old.pass.share) desk
    → IsShareOf old.table.words desk.share → new ≡ record old { pass = record old.pass { share = desk.share }; stopped = true } → RanNext old new
next_stopped old new desk was again of is =
    subst (RanNext old) (sym is) (record {
      stays = next_stays old (record old { pass = record old.pass { share = desk.share }; stopped = true }) desk was again of refl refl (ap (λ n. record { number = old.pass.number; lines = n; share = desk.share }) was.answered) was.most;
      answers = λ no. absurd (cc (no));
    })

-- The line was answered.
pub next_answered : (old new : Lane) (desk : Sitting) (line : Line) (a : Answer) → IsReady old → length old.answers < length old.lines → slice_get old.lines (length old.answers) ≡ Some line
    → RestsAgain old.pass.number (λ p. p ≡ next_of old) (at_rest old.table.words old.table.routes old.pass.share) desk → LineAnswered (next_of old) line (at_rest old.table.words old.table.routes old.pass.share) desk a
    → IsShareOf old.table.words desk.share → new ≡ record old { pass = record old.pass { share = desk.share; lines = old.pass.lines + 1 }; answers = old.answers ++ a ∷ [] } → RanNext old new
next_answered old new desk line a was left at again answered of is =
    let long : length (old.answers ++ a ∷ []) ≡ length old.answers + 1 = length-append old.answers (a ∷ []) in
    let count : old.pass.lines ≡ length old.answers = was.answered in
    let lines : old.pass.lines + 1 ≡ length (old.answers ++ a ∷ []) = omega arith in
    let most : length (old.answers ++ a ∷ []) ≤ length old.lines = omega arith in
    subst (RanNext old) (sym is) (record {
      stays = next_stays old (record old { pass = record old.pass { share = desk.share; lines = old.pass.lines + 1 }; answers = old.answers ++ a ∷ [] }) desk was again of refl refl (ap (λ n. record { number = old.pass.number; lines = n; share = desk.share }) lines) most;
      answers = λ on. record { on = on; answered = long; stands = λ stood. answered old.lines old.answers count at stood };
    })

-- What is run with, where the pass's parts were taken, its share stands at a desk, and the share comes back from that.
pub record IsSat (table : Shared) (pass : Passing) (number lines : ℕ) (share : Sharing) (sat desk : Sitting) (back : Sharing) : Type 0 where
  pub number_is : number ≡ pass.number
  pub lines_is : lines ≡ pass.lines
  pub share_is : share ≡ pass.share
  pub sat_is : sat ≡ at_rest table.words table.routes share
  pub back_is : back ≡ desk.share
  pub of : IsShareOf desk.common back
  pub rests : RestsAgain number (λ p. p ≡ record { lane = number; line = lines }) sat desk

-- What holds of the parts and of the desk holds of the pass.
sat_same : (P : ℕ → ℕ → Sitting → Type 0) (table : Shared) (pass : Passing) (number lines : ℕ) (share : Sharing) (sat desk : Sitting) (back : Sharing) → IsSat table pass number lines share sat desk back → P number lines sat → P pass.number pass.lines (at_rest table.words table.routes pass.share)
sat_same P table pass number lines share sat desk back its p =
    subst (λ s. P pass.number pass.lines (at_rest table.words table.routes s)) its.share_is
    (subst (λ d. P pass.number pass.lines d) its.sat_is (subst (λ l. P pass.number l sat) its.lines_is (subst (λ n. P n lines sat) its.number_is p)))

sat_rests : (table : Shared) (pass : Passing) (number lines : ℕ) (share : Sharing) (sat desk : Sitting) (back : Sharing) → IsSat table pass number lines share sat desk back → RestsAgain pass.number (λ p. p ≡ record { lane = pass.number; line = pass.lines }) (at_rest table.words table.routes pass.share) desk
sat_rests table pass number lines share sat desk back its = sat_same (λ n l d. RestsAgain n (λ p. p ≡ record { lane = n; line = l }) d desk) table pass number lines share sat desk back its its.rests

sat_of : (table : Shared) (pass : Passing) (number lines : ℕ) (share : Sharing) (sat desk : Sitting) (back : Sharing) → IsSat table pass number lines share sat desk back → IsShareOf table.words desk.share
sat_of table pass number lines share sat desk back its =
    let common : desk.common ≡ table.words = ap (λ (d : Sitting). d.common) (sat_rests table pass number lines share sat desk back its).rests in
    subst (λ w. IsShareOf w desk.share) common (subst (IsShareOf desk.common) its.back_is its.of)

same_lane : (a b : Lane) → a.table ≡ b.table → a.pass ≡ b.pass → a.lines ≡ b.lines → a.answers ≡ b.answers → a.stopped ≡ b.stopped → a ≡ b
same_lane a b table pass lines answers stopped =
    ap (λ x. record { table = x; pass = a.pass; lines = a.lines; answers = a.answers; stopped = a.stopped }) table
    ∙ ap (λ x. record { table = b.table; pass = x; lines = a.lines; answers = a.answers; stopped = a.stopped }) pass
    ∙ ap (λ x. record { table = b.table; pass = b.pass; lines = x; answers = a.answers; stopped = a.stopped }) lines
    ∙ ap (λ x. record { table = b.table; pass = b.pass; lines = b.lines; answers = x; stopped = a.stopped }) answers
    ∙ ap (λ x. record { table = b.table; pass = b.pass; lines = b.lines; answers = b.answers; stopped = x }) stopped

same_pass : (number lines lines' : ℕ) (share share' : Sharing) (pass new : Passing) → number ≡ pass.number → lines ≡ lines' → share ≡ share' → new ≡ record { number = number; lines = lines; share = share } → new ≡ record { number = pass.number; lines = lines'; share = share' }
same_pass number lines lines' share share' pass new number_is lines_is share_is is =
    is ∙ ap (λ n. record { number = n; lines = lines; share = share }) number_is
    ∙ ap (λ l. record { number = pass.number; lines = l; share = share }) lines_is
    ∙ ap (λ s. record { number = pass.number; lines = lines'; share = s }) share_is

-- The lane before, whose pass was there.
there : (table : Shared) (lines : List Line) (answers : List Answer) (stopped : Bool) (lane : Lane) (was : Option Passing) (pass : Passing) → was ≡ Some pass → lane_in table lines answers stopped was ≡ lane → lane_in table lines answers stopped (Some pass) ≡ lane
there table lines answers stopped lane was pass is viewed = ap (lane_in table lines answers stopped) (sym is) ∙ viewed

-- The line was stopped: its pass is put together again.
pub parts_stopped : (table : Shared) (lines : List Line) (answers : List Answer) (stopped : Bool) (room : ℕ) (lane new : Lane) (was : Option Passing) (pass : Passing) (number count after : ℕ) (share : Sharing) (sat desk : Sitting) (back : Sharing) → was ≡ Some pass → lane_in table lines answers stopped was ≡ lane
    → IsKept was room (lane_in table lines answers stopped was) → IsSat table pass number count share sat desk back → after ≡ count → new.pass ≡ record { number = number; lines = after; share = back } → new.table ≡ table → new.lines ≡ lines → new.answers ≡ answers → new.stopped ≡ true → RanNext lane new
parts_stopped table lines answers stopped room lane new was pass number count after share sat desk back is viewed kept its after_is pass_is table_is lines_is answers_is stopped_is =
    let old : Lane = lane_in table lines answers stopped (Some pass) in
    let ready : IsReady old = (subst (λ p. IsKept p room (lane_in table lines answers stopped p)) is kept).ready in
    let now : new.pass ≡ record { number = pass.number; lines = pass.lines; share = desk.share } = same_pass number after pass.lines back desk.share pass new.pass its.number_is (after_is ∙ its.lines_is) its.back_is pass_is in
    let all : new ≡ record old { pass = record old.pass { share = desk.share }; stopped = true } = same_lane new (record old { pass = record old.pass { share = desk.share }; stopped = true }) table_is now lines_is answers_is stopped_is in
    subst (λ l. RanNext l new) (there table lines answers stopped lane was pass is viewed) (next_stopped old new desk ready (sat_rests table pass number count share sat desk back its) (sat_of table pass number count share sat desk back its) all)

-- The line was answered: its pass is put together again, with one line more.
pub parts_answered : (table : Shared) (lines : List Line) (answers : List Answer) (stopped : Bool) (room : ℕ) (lane new : Lane) (was : Option Passing) (pass : Passing) (number count after : ℕ) (share : Sharing) (sat desk : Sitting) (back : Sharing) (line : Line) (a : Answer) → was ≡ Some pass → lane_in table lines answers stopped was ≡ lane
    → IsKept was room (lane_in table lines answers stopped was) → IsSat table pass number count share sat desk back → after ≡ count + 1 → new.pass ≡ record { number = number; lines = after; share = back } → new.table ≡ table → new.lines ≡ lines → new.answers ≡ answers ++ a ∷ [] → new.stopped ≡ stopped
    → length lane.answers < length lane.lines → slice_get lines (length answers) ≡ Some line → LineAnswered (record { lane = number; line = count }) line sat desk a → RanNext lane new
parts_answered table lines answers stopped room lane new was pass number count after share sat desk back line a is viewed kept its after_is pass_is table_is lines_is answers_is stopped_is left at answered =
    let old : Lane = lane_in table lines answers stopped (Some pass) in
    let same : old ≡ lane = there table lines answers stopped lane was pass is viewed in
    let ready : IsReady old = (subst (λ p. IsKept p room (lane_in table lines answers stopped p)) is kept).ready in
    let now : new.pass ≡ record { number = pass.number; lines = pass.lines + 1; share = desk.share } = same_pass number after (pass.lines + 1) back desk.share pass new.pass its.number_is (after_is ∙ ap (λ n. n + 1) its.lines_is) its.back_is pass_is in
    let all : new ≡ record old { pass = record old.pass { share = desk.share; lines = old.pass.lines + 1 }; answers = old.answers ++ a ∷ [] } = same_lane new (record old { pass = record old.pass { share = desk.share; lines = old.pass.lines + 1 }; answers = old.answers ++ a ∷ [] }) table_is now lines_is answers_is stopped_is in
    let said : LineAnswered (next_of old) line (at_rest table.words table.routes pass.share) desk a = sat_same (λ n l d. LineAnswered (record { lane = n; line = l }) line d desk a) table pass number count share sat desk back its answered in
    subst (λ l. RanNext l new) same (next_answered old new desk line a ready (subst (λ (l : Lane). length l.answers < length l.lines) (sym same) left) at (sat_rests table pass number count share sat desk back its) said (sat_of table pass number count share sat desk back its) all)

-- ---- all lines that are left

-- Before the first of them.
pub none_ran : (lane : Lane) → IsReady lane → RanSome 0 lane lane
none_ran lane ready = record {
  stays = record {
    table = refl;
    lines = refl;
    number = refl;
    shares = shares_itself lane.pass.share;
    added = added_none (IsFrom lane.pass.number lane.pass.lines) lane.pass.share lane.pass.share (prefix_self lane.pass.share.sight.seen) refl;
    ready = ready;
  };
  answers = λ on. record { on = on; answered = omega arith; stands = λ stood. stood };
}

-- One more of them was run, behind lines that are all answered.
pub one_ran : (count : ℕ) (old mid new : Lane) → IsReady old → mid.stopped ≡ false → RanSome count old mid → RanNext mid new → RanSome (count + 1) old new
one_ran count old mid new was on ran next =
    let some = ran.stays in
    let more = next.stays in
    let first = ran.answers on in
    let before : old.pass.lines ≡ length old.answers = was.answered in
    let between : mid.pass.lines ≡ length mid.answers = some.ready.answered in
    let long : length mid.answers ≡ length old.answers + count = first.answered in
    let from : old.pass.lines ≤ mid.pass.lines = omega arith in
    record {
      stays = record {
        table = more.table ∙ some.table;
        lines = more.lines ∙ some.lines;
        number = more.number ∙ some.number;
        shares = shares_on old.pass.share mid.pass.share new.pass.share some.shares more.shares;
        added = added_then old.pass.share mid.pass.share new.pass.share some.added (added_wider mid.pass.share new.pass.share (λ p its. record { lane_is = ap (λ (x : Place). x.lane) its ∙ some.number; from = subst (λ n. old.pass.lines ≤ n) (sym (ap (λ (x : Place). x.line) its)) from }) more.added);
        ready = more.ready;
      };
      answers = λ still.
          let last = next.answers still in
          let one : length new.answers ≡ length mid.answers + 1 = last.answered in
          record { on = first.on; answered = (let all : length new.answers ≡ length old.answers + (count + 1) = omega arith in all); stands = λ stood. last.stands (first.stands stood) };
    }

-- Where one was stopped, it makes no difference how many were asked for.
pub ran_stopped : (count wanted : ℕ) (old new : Lane) → new.stopped ≡ true → RanSome count old new → RanSome wanted old new
ran_stopped count wanted old new stopped ran = record { stays = ran.stays; answers = λ on. absurd (cc (on, stopped)) }

-- While lines are left, there is a next one.
pub next_left : (count : ℕ) (old mid : Lane) → mid.stopped ≡ false → count < length old.lines - length old.answers → RanSome count old mid → length mid.answers < length mid.lines
next_left count old mid on below ran =
    let long : length mid.answers ≡ length old.answers + count = (ran.answers on).answered in
    let lines : length mid.lines ≡ length old.lines = ap length ran.stays.lines in
    omega arith
