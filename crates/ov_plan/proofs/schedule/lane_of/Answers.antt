-- The number of a lane is read as that lane, so what isn't read so is none.
use Rattle.std.proofs.Common.{◌≡◌, ◌∙◌, ap, sym, arith, decimal}
use Rattle.std.proofs.lemmas.Fmt.{parse-decimal}
use Rattle.ov_plan.proofs.Texts.{unequal}
use Rattle.ov_plan.proofs.schedule.lane_of.Goals.{else-lane-lt-LANES-via-then-lane-lt-LANES+else-eq, else-lane-lt-LANES-via-else-lane-lt-LANES}
use Rattle.ov_plan.proofs.schedule.lane_of.Goals as goal

pub returns-in_default-clause-none : goal.returns-in_default-clause-none
returns-in_default-clause-none c = λ is lane.
    c.in_default.not-Ok lane.lane (parse-decimal 32 lane.lane c.args.text.now c.parse.result (omega (arith, lane.below)) (omega (arith, lane.below)) lane.is c.parse.ensures.value.0)

pub returns-else-lane-lt-LANES-clause-none : goal.returns-else-lane-lt-LANES-clause-none
returns-else-lane-lt-LANES-clause-none c = λ is lane.
    let same = parse-decimal 32 lane.lane c.args.text.now c.parse.result (omega (arith, lane.below)) (omega (arith, lane.below)) lane.is c.parse.ensures.value.0 in
    let lanes : c.in-Ok.lane ≡ lane.lane = cc (c.in-Ok.is, same) in
    elim c.else-lane-lt-LANES.branch [
      | else-lane-lt-LANES-via-then-lane-lt-LANES+else-eq w ↦ unequal _ c.args.text.now _ w.eq.ensures w.if-eq.false (w.format.ensures.text ∙ ap decimal lanes ∙ sym lane.is)
      | else-lane-lt-LANES-via-else-lane-lt-LANES w ↦ grind (arith, lanes, lane.below)
    ]
