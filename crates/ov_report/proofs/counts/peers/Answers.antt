-- The count is that of the filter's items. The search that is tried of itself has more in its list, and breaks off.
use Rattle.std.proofs.Common.{rules}
use Rattle.ov_report.proofs.counts.peers.Goals as goal

pub returns : goal.returns
returns c = search rules
