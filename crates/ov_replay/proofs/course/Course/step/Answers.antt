use Rattle.std.proofs.Common.{◌≡◌, ◌++◌, ◌%◌, max, refl, ◌∙◌}
use Rattle.ov_model.specs.declared.replay.ReplayEntry.{ReplayEntry}
use Rattle.ov_model.specs.Replay.{judged, IsJudged, accepts_of, accepted_by, steps_of, moment_of, verdict_of}
use Rattle.ov_replay.specs.Window.{Stands}
use Rattle.ov_replay.proofs.CourseLemmas.{IsCourse-unchanged, IsCourse-push, entry_is_judged}
use Rattle.ov_replay.proofs.course.Course.step.Goals as goal

-- The window that the step found stands for the key's steps.
found : (c : goal.After-push_reserved) → Stands c.in_ok-verdict.ensures.ok.was (accepts_of (steps_of c.args.key c.self.inside.entries.items)) (moment_of (steps_of c.args.key c.self.inside.entries.items))
found c = c.in_ok-verdict.ensures.ok.stood _ (c.self.invariant.standing c.args.key)

moment_is : (c : goal.After-push_reserved) → c.in_ok-verdict.moment ≡ max (moment_of (steps_of c.args.key c.self.inside.entries.items)) c.args.at
moment_is c = (c.in_ok-verdict.ensures.ok.judged _ _ (found c)).0

verdict_at : (c : goal.After-push_reserved) → c.in_ok-verdict.verdict ≡ verdict_of (accepts_of (steps_of c.args.key c.self.inside.entries.items)) c.args.id c.in_ok-verdict.moment
verdict_at c = (c.in_ok-verdict.ensures.ok.judged _ _ (found c)).1

verdict_is : (c : goal.After-push_reserved) → c.in_ok-verdict.verdict ≡ verdict_of (accepts_of (steps_of c.args.key c.self.inside.entries.items)) c.args.id (max (moment_of (steps_of c.args.key c.self.inside.entries.items)) c.args.at)
verdict_is c = verdict_at c ∙ rw (moment_is c) refl

pub invariant_of-self-in_err-verdict : goal.invariant_of-self-in_err-verdict
invariant_of-self-in_err-verdict c = rw c.reserve.ensures.items (IsCourse-unchanged c.self.inside.windows _ _ c.in_err-verdict.ensures.err c.self.invariant)

-- The entry that was stored.
stored : (c : goal.After-push_reserved) → ReplayEntry
stored c = record { place = c.args.place; key = c.args.key; id = c.args.id; at = c.args.at; moment = c.in_ok-verdict.moment; verdict = c.in_ok-verdict.verdict }

pub invariant_of-self-2 : goal.invariant_of-self-2
unfolding stored
invariant_of-self-2 c =
    let judged_one : IsJudged (c.args.key % 8) c.self.inside.entries.items (stored c) = record { key = refl; moment = moment_is c; verdict = verdict_at c } in
    let now = (c.in_ok-verdict.ensures.ok.judged _ _ (found c)).2 in
    let stands : Stands c.in_ok-verdict.ensures.ok.now (accepts_of (steps_of c.args.key c.self.inside.entries.items) ++ accepted_by (stored c).verdict c.args.id (stored c).moment) (max (moment_of (steps_of c.args.key c.self.inside.entries.items)) c.args.at) =
    rw (← moment_is c) now in
    rw (c.push_reserved.ensures.items, c.reserve.ensures.items)
    (IsCourse-push c.self.inside.windows c.judge.new.windows c.self.inside.entries.items c.in_ok-verdict.ensures.ok.now (stored c) c.self.invariant judged_one c.in_ok-verdict.ensures.ok.updates stands)

pub returns-clause-verdict : goal.returns-clause-verdict
unfolding judged
returns-clause-verdict c = rw (← c.self.view_is) (verdict_is c)

pub returns-clause-ok : goal.returns-clause-ok
returns-clause-ok c =
    let entry = entry_is_judged c.self.inside.entries.items c.args.place c.args.key c.args.id c.args.at _ _ (moment_is c) (verdict_is c) in
    rw (← c.self.view_is, entry, c.push_reserved.ensures.items, c.reserve.ensures.items) refl
