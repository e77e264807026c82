-- The pairs of one entry more.
use Rattle.std.proofs.Common.{◌∙◌, ◌++◌, ap, map}
use Rattle.ov_report.specs.Sealing.{pair_of, pair_read, sealing_by}
use Rattle.ov_report.proofs.Sets.{one_more}
use Rattle.ov_report.proofs.differ.sealings.Goals as goal

pub loop-entry-preserved : goal.loop-entry-preserved
loop-entry-preserved c = one_more (map pair_read c.loop-entry.pairs.items) (map pair_read c.add_sealing.new.pairs.items) c.args.journal.now c.loop-entry.entry-index c.entry-item.result c.loop-entry-test.true c.loop-entry.invariant
    (c.in_ok-add_sealing.ensures ∙ ap (λ e. map pair_read c.loop-entry.pairs.items ++ map pair_of (sealing_by e)) c.entry-item.is)
