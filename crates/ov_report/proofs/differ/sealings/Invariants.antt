use Rattle.std.proofs.Common.{◌≡◌, map, take}
use Rattle.ov_model.specs.Keys.{sealing_in}
use Rattle.ov_report.specs.Sealing.{pair_of, pair_read}
use Rattle.ov_report.proofs.differ.sealings.Given as goal

abbrev pub invariant-loop-entry : goal.invariant-loop-entry
invariant-loop-entry l = map pair_read l.pairs.items ≡ map pair_of (sealing_in (take l.entry-index l.journal))
