use Rattle.std.proofs.Common.{◌≡◌, Some, rules}
use Rattle.std.specs.BTreeMap.{get, Updates}
use Rattle.std.specs.Ordering.{nat_cmp}
use Rattle.std.proofs.lemmas.Result.{IfOk-weaker}
use Rattle.ov_replay.proofs.CourseLemmas.{Judges-in_place, OnErr-from_ok}
use Rattle.ov_replay.proofs.course.judge.Goals as goal

-- The window that was found is the key's.
here : (c : goal.After-windows-in-Some-1) → get nat_cmp c.args.windows.now c.args.key ≡ Some c.in-Some.window.now
here c = search rules

-- After the step the map has the changed window at the key, and at the other keys what it had.
updates : (c : goal.After-windows-in-Some-1) → Updates nat_cmp c.args.windows.now (c.get_mut.follows.lender c.step_on.new.window) c.args.key (Some c.step_on.new.window)
updates c = (c.get_mut.follows.holds c.step_on.new.window).3 (search rules)

pub returns-in-Some-clause-ok : goal.returns-in-Some-clause-ok
returns-in-Some-clause-ok c =
    IfOk-weaker c.step_on.result _ _
    (λ made judged. Judges-in_place _ _ c.args.key c.args.id c.args.at c.in-Some.window.now c.step_on.new.window made.0 made.1 (here c) (updates c) judged)
    c.step_on.ensures.ok

pub returns-in-Some-clause-err : goal.returns-in-Some-clause-err
returns-in-Some-clause-err c = OnErr-from_ok c.step_on.result _ c.step_on.ensures.memory
