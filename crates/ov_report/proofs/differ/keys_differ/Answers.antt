-- The two numbers tell whether the keys differ.
use Rattle.std.proofs.Common.{◌∙◌, ap, sym, map, length}
use Rattle.ov_report.specs.Sealing.{pair_read}
use Rattle.ov_report.proofs.Sets.{tells, valued}
use Rattle.ov_report.proofs.differ.keys_differ.Goals as goal

pub returns-clause-law : goal.returns-clause-law
returns-clause-law c = tells c.args.journal.now c.as_slice.result.now c.in_ok-set.set c.len.result (length c.as_slice-2.result.now) c.len.ensures.len
    (ap length (c.as_slice-2.ensures.value ∙ sym c.as_slice.ensures.value)) c.in_ok-set.ensures
    (ap (map pair_read) c.as_slice.ensures.value ∙ c.in_ok-pairs.ensures)

pub returns-clause-value : goal.returns-clause-value
returns-clause-value c = valued c.args.journal.now _ (returns-clause-law c)
