use Rattle.std.proofs.Common.{subst, ◌∙◌}
use Rattle.ov_replay.specs.Desk.{IsOfShard}
use Rattle.ov_replay.proofs.Sides.{rests, own_fits}
use Rattle.ov_replay.proofs.parts.judge_once.Goals as goal

pub returns-clause-fit : goal.returns-clause-fit
returns-clause-fit g c s belongs was =
    let it = c.enter-inside.result in
    let judged = c.judge_inside-verdict.ensures in
    let at_rest = rests it c.judge_inside-verdict.new.inside c.args.place c.args.key c.args.id c.args.at c.judge_inside-verdict.result judged.ok judged.err in
    let fit = subst (IsOfShard s) c.in-Some.is was in (
      c.leave.ensures.holds ∙ at_rest.holds,
      c.leave.ensures.owes ∙ at_rest.owes,
      own_fits s _ _ it c.judge_inside-verdict.new.inside c.args.place c.args.key c.args.id c.args.at c.judge_inside-verdict.result belongs judged.ok judged.err c.enter-inside.ensures.own c.leave.ensures.own fit.2,
    )
