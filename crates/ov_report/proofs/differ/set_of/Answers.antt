-- The set is made of the pairs.
use Rattle.std.specs.BTreeSet.{IsFromIterResult}
use Rattle.std.proofs.lemmas.Iterator.{YieldsList-from_slice}
use Rattle.std.proofs.lemmas.Iterator.Adapters.{fact_from_collect}
use Rattle.std.proofs.lemmas.Iterator.Consumers.{YieldsList-from_copied}
use Rattle.ov_report.specs.Sealing.{pair_cmp}
use Rattle.ov_report.proofs.differ.set_of.Goals as goal

pub returns : goal.returns
returns c = fact_from_collect (IsFromIterResult pair_cmp) c.collect.result c.collect.ensures.ran (YieldsList-from_copied (YieldsList-from_slice c.args.pairs.now cc))
