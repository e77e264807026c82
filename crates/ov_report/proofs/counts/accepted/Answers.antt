-- The steps of each shard that pass are counted.
use Rattle.std.proofs.Common.{count_by, rules}
use Rattle.ov_report.specs.Summary.{is_accept}
use Rattle.ov_report.proofs.counts.accepted.Goals as goal

pub returns : goal.returns
returns c = c.total.ensures (count_by (λ r. is_accept r.verdict)) (λ shard n counted. search rules)
