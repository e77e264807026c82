use Rattle.std.proofs.Common.{◌≡◌, take, sum_by}
use Rattle.ov_model.specs.declared.report.LaneLog.{LaneLog}
use Rattle.ov_report.specs.Summary.{sealed_by}
use Rattle.ov_report.proofs.counts.sealed.Given as goal

abbrev pub invariant-loop-log : goal.invariant-loop-log
invariant-loop-log l = l.sum ≡ sum_by (λ (log : LaneLog). sum_by sealed_by log.answers) (take l.log-index l.lanes)
