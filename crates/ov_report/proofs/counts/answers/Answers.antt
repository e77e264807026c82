-- The answers of each lane are counted.
use Rattle.std.proofs.Common.{length, rules}
use Rattle.ov_model.specs.declared.report.LaneLog.{LaneLog}
use Rattle.ov_report.proofs.counts.answers.Goals as goal

pub returns : goal.returns
returns c = c.total.ensures (λ (log : LaneLog). length log.answers) (λ log n counted. search rules)
