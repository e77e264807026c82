-- What the windows of some keys stand for, and what they stand for after a step.
use Rattle.std.proofs.Common.{◌≡◌, ℕ, ◌%◌, ◌<◌, zero, suc, max, false, List, [], ◌∷◌, ◌++◌, length, Option, None, Some, Result, Ok, Err, refl, sym, ◌∙◌, ◌⊎◌, inl, inr, subst, true≢false, arith}
use Rattle.std.specs.List.{slice_get}
use Rattle.std.proofs.lemmas.List.{take-append-le}
use Rattle.std.proofs.Math.Seq.{take-append_seam}
use Rattle.std.specs.Result.{IsOk, OnOk, OnErr}
use Rattle.std.specs.BTreeMap.{BTreeMap, get, IsUnchanged, Updates, is_at}
use Rattle.std.specs.Ordering.{nat_cmp}
use Rattle.std.proofs.lemmas.Bool.{cases_eq, eq-eqb, ne_eqb}
use Rattle.std.proofs.lemmas.Bool.Decides.{nat_tests}
use Rattle.ov_model.specs.Replay.{verdict_of, accepted_by, steps_of, moment_of, accepts_of, judged, IsJudged, ShardJudges}
use Rattle.ov_model.proofs.ReplayLemmas.{steps_of-push, moment_of-push, accepts_of-push, ShardJudges-push, IsJudged-judged}
use Rattle.ov_model.specs.declared.place.Place.{Place}
use Rattle.ov_model.specs.declared.replay.ReplayEntry.{ReplayEntry}
use Rattle.ov_model.specs.declared.replay.Verdict.{Verdict}
use Rattle.ov_replay.specs.Course.{IsCourse, EachJudged, WindowStands, WindowJudges, Judges}
use Rattle.ov_replay.specs.Window.{Stands}
use Rattle.ov_replay.specs.declared.window.Window.{Window}

-- The window that a key has, and the new one that it gets where it has none, stand for the key's steps.
pub stood_found : (found : Option Window) (w : Window) → found ≡ Some w → (steps : List ReplayEntry) → WindowStands found steps → Stands w (accepts_of steps) (moment_of steps)
stood_found found w here steps stands = rw here at stands

pub stood_new : (found : Option Window) (w : Window) → found ≡ None → Stands w [] 0 → (steps : List ReplayEntry) → WindowStands found steps → Stands w (accepts_of steps) (moment_of steps)
stood_new found w none fresh steps stands =
    let empty : steps ≡ [] = rw none at stands in
    rw empty fresh

-- What is always Ok is never an error.
pub OnErr-from_ok : {T E : Type 0} (r : Result T E) (P : Type 0) → IsOk r → OnErr r P
OnErr-from_ok (Ok x) P ok = tt
OnErr-from_ok (Err y) P ok = absurd (true≢false (sym ok))

-- A step on a key's window, where it lies among the others.
pub Judges-in_place : (before after : BTreeMap ℕ Window) (key id at : ℕ) (was now : Window) (verdict : Verdict) (moment : ℕ)
    → get nat_cmp before key ≡ Some was → Updates nat_cmp before after key (Some now)
    → WindowJudges was now id at verdict moment → Judges before after key id at verdict moment
Judges-in_place before after key id at was now verdict moment here updates judged =
    record { was = was; now = now; stood = stood_found _ was here; judged = judged; updates = updates }

-- A member of a list with one more at its end.
slice_get-push : (es : List ReplayEntry) (e : ReplayEntry) (i : ℕ) (x : ReplayEntry) → slice_get (es ++ e ∷ []) i ≡ Some x → ((i < length es) × (slice_get es i ≡ Some x)) ⊎ ((i ≡ length es) × (x ≡ e))
slice_get-push [] e zero x at = inr (refl, cc)
slice_get-push [] e (suc i) x at = cc
slice_get-push (y ∷ es) e zero x at = inl (omega arith, at)
slice_get-push (y ∷ es) e (suc i) x at =
    elim (slice_get-push es e i x at) [ inl w ↦ inl (omega (arith, w.0), w.1) | inr w ↦ inr (omega (arith, w.0), w.1) ]

-- A step more, judged after those that are there.
EachJudged-push : (es : List ReplayEntry) (e : ReplayEntry) → EachJudged es → IsJudged (e.key % 8) es e → EachJudged (es ++ e ∷ [])
EachJudged-push es e earlier last i x at =
    elim (slice_get-push es e i x at) [
      | inl w ↦ rw (take-append-le i es (e ∷ []) (omega (arith, w.0))) (earlier i x w.1)
      | inr w ↦ rw (w.0, w.1, take-append_seam es (e ∷ [])) last
    ]

-- The same entries of the map are the same windows.
pub IsCourse-unchanged : (windows after : BTreeMap ℕ Window) (entries : List ReplayEntry) → IsUnchanged windows after → IsCourse windows entries → IsCourse after entries
IsCourse-unchanged windows after entries same course =
    record { judged = course.judged; standing = λ key. rw same (course.standing key) }

-- A key's steps after one more of it, and after one more of another.
own_steps : (q : ℕ) (es : List ReplayEntry) (e : ReplayEntry) → e.key ≡ q → steps_of q (es ++ e ∷ []) ≡ steps_of q es ++ e ∷ []
own_steps q es e same = steps_of-push q es e ∙ rw (eq-eqb e.key q same) refl

other_steps : (q : ℕ) (es : List ReplayEntry) (e : ReplayEntry) → (e.key ≡ q → ⊥) → steps_of q (es ++ e ∷ []) ≡ steps_of q es
other_steps q es e apart = steps_of-push q es e ∙ rw (ne_eqb e.key q apart) refl

-- The window of a key whose steps have one more.
stands_on : (w : Window) (steps : List ReplayEntry) (e : ReplayEntry) → Stands w (accepts_of steps ++ accepted_by e.verdict e.id e.moment) (max (moment_of steps) e.at) → Stands w (accepts_of (steps ++ e ∷ [])) (moment_of (steps ++ e ∷ []))
stands_on w steps e stands = rw (accepts_of-push steps e, moment_of-push steps e) stands

-- A step more: its key's window is the one after the step, and the others stay.
pub IsCourse-push : (windows after : BTreeMap ℕ Window) (entries : List ReplayEntry) (w : Window) (e : ReplayEntry)
    → IsCourse windows entries → IsJudged (e.key % 8) entries e
    → Updates nat_cmp windows after e.key (Some w)
    → Stands w (accepts_of (steps_of e.key entries) ++ accepted_by e.verdict e.id e.moment) (max (moment_of (steps_of e.key entries)) e.at)
    → IsCourse after (entries ++ e ∷ [])
IsCourse-push windows after entries w e course last updates stands =
    record {
      judged = EachJudged-push entries e course.judged last;
      standing = λ q. elim (cases_eq e.key q) [
        | inl same ↦
            let P : ℕ → Type 0 = λ key. WindowStands (get nat_cmp after key) (steps_of key (entries ++ e ∷ [])) in
            subst P same (rw (updates.1, own_steps e.key entries e refl) (stands_on w (steps_of e.key entries) e stands))
        | inr apart ↦
            let other : is_at (nat_cmp e.key) q ≡ false = grind (arith, nat_tests) in
            rw (updates.2 q other, other_steps q entries e apart) (course.standing q)
      ];
    }

-- The entry of a step, field by field.
pub entry_is_judged : (entries : List ReplayEntry) (place : Place) (key id at moment : ℕ) (verdict : Verdict)
    → moment ≡ max (moment_of (steps_of key entries)) at
    → verdict ≡ verdict_of (accepts_of (steps_of key entries)) id (max (moment_of (steps_of key entries)) at)
    → judged entries place key id at ≡ record { place = place; key = key; id = id; at = at; moment = moment; verdict = verdict }
unfolding judged
entry_is_judged entries place key id at moment verdict m v = rw (m, v) refl

-- A shard's steps after a call that made one more, or had no memory for it.
pub judges_on : {E : Type 0} {T : Type 0} (number : ℕ) (before after : List ReplayEntry) (place : Place) (key id at : ℕ) (r : Result T E) → key % 8 ≡ number → ShardJudges number before
    → OnOk r (after ≡ before ++ judged before place key id at ∷ []) → OnErr r (after ≡ before) → ShardJudges number after
judges_on number before after place key id at (Ok v) belongs judges ok err = subst (ShardJudges number) (sym ok) (ShardJudges-push number before (judged before place key id at) judges (IsJudged-judged number before place key id at belongs))
judges_on number before after place key id at (Err e) belongs judges ok err = subst (ShardJudges number) (sym err) judges
