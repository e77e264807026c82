-- The answers of each lane that pass are counted.
use Rattle.std.proofs.Common.{count_by, rules}
use Rattle.ov_model.specs.declared.report.LaneLog.{LaneLog}
use Rattle.ov_report.specs.Summary.{is_delivered}
use Rattle.ov_report.proofs.counts.delivered.Goals as goal

pub returns : goal.returns
returns c = c.total.ensures (λ (log : LaneLog). count_by is_delivered log.answers) (λ log n counted. search rules)
