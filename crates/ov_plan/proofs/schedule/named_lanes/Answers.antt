-- A lane more is read, or the part before a comma is none, and so the text is no schedule's.
use Rattle.std.proofs.Common.{◌∙◌, refl, arith, rules}
use Rattle.ov_plan.proofs.Schedules.{read_more, no_schedule_first, no_schedule_last, has_schedule, kept_schedule, pushed, not_both}
use Rattle.ov_plan.proofs.Texts.{no_usage}
use Rattle.ov_plan.proofs.schedule.named_lanes.Goals as goal

pub returns-in_default-lane_of-clause-usage : goal.returns-in_default-lane_of-clause-usage
returns-in_default-lane_of-clause-usage c =
    let cut = c.in-Some.ensures.byte (omega arith) (λ w o f. f) in
    let none = no_schedule_first c.args.text.now c.parts.rest.now c.parts.lanes.items c.in-Some.part.now c.parts.full c.requires.some c.parts.invariant.1 cut.2 cut.0 (c.in_default-lane_of.ensures.none refl) in
    ((λ is. none), (λ unread. refl))

pub parts-preserved-then-full : goal.parts-preserved-then-full
parts-preserved-then-full c =
    let cut = c.in-Some.ensures.byte (omega arith) (λ w o f. f) in
    let lane = c.in-Some-lane_of.ensures.some in (
      search rules,
      read_more c.args.text.now c.parts.rest.now c.in-Some.part.now c.in-Some.behind.now c.parts.lanes.items c.parts.lanes.items c.parts.full c.parts.full c.in-Some-lane_of.lane c.parts.invariant.1 cut.2 cut.0 cut.1 lane.0 lane.1
          (λ calm. absurd (not_both c.parts.full c.if-full.true calm)),
    )

pub parts-preserved : goal.parts-preserved
parts-preserved c =
    let cut = c.in-Some.ensures.byte (omega arith) (λ w o f. f) in
    let lane = c.in-Some-lane_of.ensures.some in (
      search rules,
      read_more c.args.text.now c.parts.rest.now c.in-Some.part.now c.in-Some.behind.now c.parts.lanes.items c.push.new.self.items c.parts.full c.is_err-full.result c.in-Some-lane_of.lane c.parts.invariant.1 cut.2 cut.0 cut.1 lane.0 lane.1
          (λ calm. (c.if-full.false, pushed _ _ _ _ _ c.push.ensures.items c.is_err-full.ensures.negation calm)),
    )

pub returns-in_default-lane_of-2-clause-usage : goal.returns-in_default-lane_of-2-clause-usage
returns-in_default-lane_of-2-clause-usage c =
    let last = c.in_default.ensures.byte (omega arith) (λ w o f. f) in
    let none = no_schedule_last c.args.text.now c.parts.rest.now c.parts.lanes.items c.parts.full c.requires.some c.parts.invariant.1 last (c.in_default-lane_of-2.ensures.none refl) in
    ((λ is. none), (λ unread. refl))

pub returns-then-full-2-clause-usage : goal.returns-then-full-2-clause-usage
returns-then-full-2-clause-usage c =
    let last = c.in_default.ensures.byte (omega arith) (λ w o f. f) in
    let lane = c.in-Some-lane_of-2.ensures.some in
    let has = has_schedule c.args.text.now c.parts.rest.now c.parts.lanes.items c.parts.full c.in-Some-lane_of-2.lane c.parts.invariant.1 last lane.0 lane.1 in
    ((λ is one. no_usage is), (λ unread. absurd (unread has)))

pub returns-clause-lanes : goal.returns-clause-lanes
returns-clause-lanes c =
    let last = c.in_default.ensures.byte (omega arith) (λ w o f. f) in
    let lane = c.in-Some-lane_of-2.ensures.some in
    kept_schedule c.args.text.now c.parts.rest.now c.parts.lanes.items c.of_vec.result c.parts.full c.in-Some-lane_of-2.lane c.parts.invariant.1 last lane.0 lane.1 c.if-full-2.false
    (c.of_vec.ensures ∙ pushed _ _ _ _ _ c.push-else-full-2.ensures.items c.is_err.ensures.negation c.if-is_err.false)
