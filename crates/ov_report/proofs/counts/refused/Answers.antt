-- The steps of each shard that pass are counted.
use Rattle.std.proofs.Common.{count_by, rules}
use Rattle.ov_report.specs.Summary.{is_refused}
use Rattle.ov_report.proofs.counts.refused.Goals as goal

pub returns : goal.returns
returns c = c.total.ensures (count_by (λ r. is_refused r.verdict)) (λ shard n counted. search rules)
