-- The datagrams of one lane more, and of all lanes.
use Rattle.std.proofs.Common.{◌≡◌, ◌∙◌, ap, sum_by, rules}
use Rattle.ov_model.specs.declared.report.LaneLog.{LaneLog}
use Rattle.ov_report.specs.Summary.{sealed_by}
use Rattle.ov_report.proofs.Counting.{member_counted}
use Rattle.ov_report.proofs.counts.sealed.Goals as goal

pub loop-log-preserved : goal.loop-log-preserved
loop-log-preserved c =
    let counted : c.in_ok-in_lane.in_lane ≡ sum_by sealed_by c.log-item.result.answers = c.in_ok-in_lane.ensures sealed_by (λ answer n told. search rules) ∙ ap (sum_by sealed_by) c.as_slice.ensures in
    member_counted (λ (log : LaneLog). sum_by sealed_by log.answers) c.args.lanes.now c.loop-log.log-index _ c.loop-log.sum c.in-Some.more c.in_ok-in_lane.in_lane c.loop-log-test.true
    c.loop-log.invariant (counted ∙ ap (λ (log : LaneLog). sum_by sealed_by log.answers) c.log-item.is) c.in-Some.ensures.1
