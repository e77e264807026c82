-- A lane's lines, one after the other.
use Rattle.std.proofs.Common.{ℕ, ◌≡◌, ◌+◌, ◌≤◌, true, false, List, [], ◌∷◌, ◌++◌, length, refl, sym, ◌∙◌, ap, subst, arith, append-nil, append_assoc, length-append}
use Rattle.std.specs.Prelude.{Some, slice_get}
use Rattle.ov_model.specs.declared.answer.Answer.{Answer}
use Rattle.ov_model.specs.declared.line.Line.{Line}
use Rattle.ov_model.specs.declared.place.Place.{Place}
use Rattle.ov_model.specs.Via.{via_of}
use Rattle.ov_share.specs.Shares.{IsFree}
use Rattle.ov_share.specs.Keepings.{LaneKept}
use Rattle.ov_share.proofs.Adding.{added_none, added_then, added_wider}
use Rattle.ov_turn.proofs.Fronts.{prefix_self}
use Rattle.ov_desk.specs.Sittings.{Sitting, at_rest}
use Rattle.ov_course.specs.Courses.{RestsAgain, LineAnswered, LinesAnswered, IsFrom, LinesRan}
use Rattle.ov_course.proofs.Moving.{shares_itself, shares_on}

-- ---- the desk between two lines

rests_itself : (lane : ℕ) (kind : Place → Type 0) (old new : Sitting) → old ≡ at_rest old.common old.routes old.share → new ≡ record old { events = [] } → IsFree new.share → RestsAgain lane kind old new
rests_itself lane kind old new rests is free =
    let same : new ≡ old = is ∙ ap (λ (d : Sitting). record d { events = [] }) rests ∙ sym rests in
    let share : new.share ≡ old.share = ap (λ (d : Sitting). d.share) same in
    subst (RestsAgain lane kind old) (sym same) (record {
      rests = rests;
      free = subst IsFree share free;
      shares = shares_itself old.share;
      orderly = λ orderly. orderly;
      added = added_none kind old.share old.share (prefix_self old.share.sight.seen) refl;
    })

-- A desk that rests again can take the next line.
pub rests_on : (lane : ℕ) (kind : Place → Type 0) (old new : Sitting) → RestsAgain lane kind old new → new ≡ at_rest new.common new.routes new.share
rests_on lane kind old new again =
    let common : new.common ≡ old.common = ap (λ (d : Sitting). d.common) again.rests in
    let routes : new.routes ≡ old.routes = ap (λ (d : Sitting). d.routes) again.rests in
    again.rests ∙ ap (λ c. at_rest c old.routes new.share) (sym common) ∙ ap (λ r. at_rest new.common r new.share) (sym routes)

rests_then : (lane first number : ℕ) (old mid new : Sitting) → first ≤ number → RestsAgain lane (IsFrom lane first) old mid → RestsAgain lane (λ p. p ≡ record { lane = lane; line = number }) mid new → RestsAgain lane (IsFrom lane first) old new
rests_then lane first number old mid new from again then =
    let common : mid.common ≡ old.common = ap (λ (d : Sitting). d.common) again.rests in
    let routes : mid.routes ≡ old.routes = ap (λ (d : Sitting). d.routes) again.rests in
    record {
      rests = then.rests ∙ ap (λ c. at_rest c mid.routes new.share) common ∙ ap (λ r. at_rest old.common r new.share) routes;
      free = then.free;
      shares = shares_on old.share mid.share new.share again.shares then.shares;
      orderly = λ orderly. then.orderly (again.orderly orderly);
      added = added_then old.share mid.share new.share again.added (added_wider mid.share new.share (λ p its. record { lane_is = ap (λ (x : Place). x.lane) its; from = subst (λ n. first ≤ n) (sym (ap (λ (x : Place). x.line) its)) from }) then.added);
    }

-- ---- from line to line

-- So many of the lines are answered, and this is the number of the next one.
pub record RunTo (lane first : ℕ) (lines : List Line) (old new : Sitting) (before now : List Answer) (n number : ℕ) : Type 0 where
  pub more : List Answer
  pub answers : now ≡ before ++ more
  pub count : length more ≡ n
  pub numbered : number ≡ first + n
  pub kept : LinesAnswered lane first lines old new more
  pub rests : RestsAgain lane (IsFrom lane first) old new

pub run_none : (lane first : ℕ) (lines : List Line) (old new : Sitting) (before : List Answer) → old ≡ at_rest old.common old.routes old.share → new ≡ record old { events = [] } → IsFree new.share → RunTo lane first lines old new before before 0 first
run_none lane first lines old new before rests is free = record {
  more = [];
  answers = sym (append-nil before);
  count = refl;
  numbered = omega arith;
  kept = λ all answers at stand kept. rw (append-nil answers) (subst (LaneKept (via_of old.routes) lane all answers []) (sym (ap (λ (d : Sitting). d.share) is)) kept);
  rests = rests_itself lane (IsFrom lane first) old new rests is free;
}

pub run_more : (lane first : ℕ) (lines : List Line) (old mid new : Sitting) (before now after : List Answer) (n number : ℕ) (line : Line) (a : Answer) → RunTo lane first lines old mid before now n number → slice_get lines n ≡ Some line → after ≡ now ++ a ∷ []
    → LineAnswered (record { lane = lane; line = number }) line mid new a → RestsAgain lane (λ p. p ≡ record { lane = lane; line = number }) mid new → RunTo lane first lines old new before after (n + 1) (number + 1)
run_more lane first lines old mid new before now after n number line a run line_is pushed answered again =
    let count : length run.more ≡ n = run.count in
    let numbered : number ≡ first + n = run.numbered in
    let routes : mid.routes ≡ old.routes = ap (λ (d : Sitting). d.routes) run.rests.rests in
    record {
      more = run.more ++ a ∷ [];
      answers = pushed ∙ ap (λ xs. xs ++ a ∷ []) run.answers ∙ append_assoc before run.more (a ∷ []);
      count = length-append run.more (a ∷ []) ∙ ap (λ k. k + 1) count;
      numbered = (let next : number + 1 ≡ first + (n + 1) = omega arith in next);
      kept = λ all answers at stand kept.
          let long : length (answers ++ run.more) ≡ length answers + length run.more = length-append answers run.more in
          let here : length (answers ++ run.more) ≡ first + n = omega arith in
          let its : number ≡ length (answers ++ run.more) = numbered ∙ sym here in
          let line_at : slice_get all (length (answers ++ run.more)) ≡ Some line = subst (λ i. slice_get all i ≡ Some line) (sym here) (stand n line line_is) in
          let was : LaneKept (via_of mid.routes) lane all (answers ++ run.more) [] mid.share = subst (λ r. LaneKept (via_of r) lane all (answers ++ run.more) [] mid.share) (sym routes) (run.kept all answers at stand kept) in
          let done : LaneKept (via_of mid.routes) lane all ((answers ++ run.more) ++ a ∷ []) [] new.share = answered all (answers ++ run.more) its line_at was in
          subst (λ r. LaneKept (via_of r) lane all (answers ++ (run.more ++ a ∷ [])) [] new.share) routes (subst (λ xs. LaneKept (via_of mid.routes) lane all xs [] new.share) (append_assoc answers run.more (a ∷ [])) done);
      rests = rests_then lane first number old mid new (omega arith) run.rests again;
    }

-- All lines are answered.
pub run_whole : (lane first : ℕ) (lines : List Line) (old new : Sitting) (before after : List Answer) (n number : ℕ) → RunTo lane first lines old new before after n number → n ≡ length lines → LinesRan lane first lines old new before after true
run_whole lane first lines old new before after n number run end = record { more = run.more; answers = run.answers; whole = λ _. run.count ∙ end; kept = λ _. run.kept; rests = run.rests }

-- There was no memory for a line.
pub run_stopped : (lane first : ℕ) (lines : List Line) (old mid new : Sitting) (before now after : List Answer) (n number : ℕ) → RunTo lane first lines old mid before now n number → after ≡ now → RestsAgain lane (λ p. p ≡ record { lane = lane; line = number }) mid new → LinesRan lane first lines old new before after false
run_stopped lane first lines old mid new before now after n number run same again =
    let numbered : number ≡ first + n = run.numbered in
    record {
      more = run.more;
      answers = same ∙ run.answers;
      whole = λ no. absurd (cc (no));
      kept = λ no. absurd (cc (no));
      rests = rests_then lane first number old mid new (omega arith) run.rests again;
    }

-- There was no room for a line's answer.
pub run_full : (lane first : ℕ) (lines : List Line) (old new : Sitting) (before now after : List Answer) (n number : ℕ) → RunTo lane first lines old new before now n number → after ≡ now → LinesRan lane first lines old new before after false
run_full lane first lines old new before now after n number run same = record {
  more = run.more;
  answers = same ∙ run.answers;
  whole = λ no. absurd (cc (no));
  kept = λ no. absurd (cc (no));
  rests = run.rests;
}
