-- The five parts of the text, one after the other, up to the one that didn't pass.
use Rattle.std.proofs.lemmas.Result.{IfErr-weaker, IfOk-weaker}
use Rattle.ov_report.proofs.Passing.{handed_on, stopped_in, stopped_then, passed_then}
use Rattle.ov_report.proofs.Texts.{report_parts}
use Rattle.ov_report.proofs.text.print_lines.Goals as goal

pub returns-in_err-print_list-clause-stopped : goal.returns-in_err-print_list-clause-stopped
returns-in_err-print_list-clause-stopped g c = handed_on _ _ _ c.from_residual.ensures
    (rw (report_parts c.args.report.now) (stopped_in _ _ _ _ _ _ _ _ (rw c.as_slice.ensures at c.in_err-print_list.ensures.stopped)))

pub returns-in_err-print_shards-clause-stopped : goal.returns-in_err-print_shards-clause-stopped
returns-in_err-print_shards-clause-stopped g c = handed_on _ _ _ c.from_residual-in_err-print_shards.ensures
    (rw (report_parts c.args.report.now)
    (stopped_then _ _ _ _ _ _ _ _ _ _ _ (rw c.as_slice.ensures at c.in_ok-print_list.ensures.passed) c.print_list.ensures.later
    (stopped_in _ _ _ _ _ _ _ _ (rw c.as_slice-2.ensures at c.in_err-print_shards.ensures.stopped))))

pub returns-in_err-print_lanes-clause-stopped : goal.returns-in_err-print_lanes-clause-stopped
returns-in_err-print_lanes-clause-stopped g c =
    handed_on _ _ _ c.from_residual-in_err-print_lanes.ensures
    (rw (report_parts c.args.report.now)
    (stopped_then _ _ _ _ _ _ _ _ _ _ _ (rw c.as_slice.ensures at c.in_ok-print_list.ensures.passed) c.print_list.ensures.later
    (stopped_then _ _ _ _ _ _ _ _ _ _ _ (rw c.as_slice-2.ensures at c.in_ok-print_shards.ensures.passed) c.print_shards.ensures.later
    (stopped_in _ _ _ _ _ _ _ _ (rw c.as_slice-3.ensures at c.in_err-print_lanes.ensures.stopped)))))

pub returns-in_err-print_list-2-clause-stopped : goal.returns-in_err-print_list-2-clause-stopped
returns-in_err-print_list-2-clause-stopped g c =
    handed_on _ _ _ c.from_residual-in_err-print_list-2.ensures
    (rw (report_parts c.args.report.now)
    (stopped_then _ _ _ _ _ _ _ _ _ _ _ (rw c.as_slice.ensures at c.in_ok-print_list.ensures.passed) c.print_list.ensures.later
    (stopped_then _ _ _ _ _ _ _ _ _ _ _ (rw c.as_slice-2.ensures at c.in_ok-print_shards.ensures.passed) c.print_shards.ensures.later
    (stopped_then _ _ _ _ _ _ _ _ _ _ _ (rw c.as_slice-3.ensures at c.in_ok-print_lanes.ensures.passed) c.print_lanes.ensures.later
    (stopped_in _ _ _ _ _ _ _ _ (rw c.as_slice-4.ensures at c.in_err-print_list-2.ensures.stopped))))))

pub returns-clause-passed : goal.returns-clause-passed
returns-clause-passed g c =
    IfOk-weaker c.print_summary.result _ _ (λ done passed.
    (rw (report_parts c.args.report.now)
    (passed_then _ _ _ _ _ _ _ _ (rw c.as_slice.ensures at c.in_ok-print_list.ensures.passed)
    (passed_then _ _ _ _ _ _ _ _ (rw c.as_slice-2.ensures at c.in_ok-print_shards.ensures.passed)
    (passed_then _ _ _ _ _ _ _ _ (rw c.as_slice-3.ensures at c.in_ok-print_lanes.ensures.passed)
    (passed_then _ _ _ _ _ _ _ _ (rw c.as_slice-4.ensures at c.in_ok-print_list-2.ensures.passed) passed)))))) c.print_summary.ensures.passed

pub returns-clause-stopped : goal.returns-clause-stopped
returns-clause-stopped g c =
    IfErr-weaker c.print_summary.result _ _ (λ why stopped.
    (rw (report_parts c.args.report.now)
    (stopped_then _ _ _ _ _ _ _ _ _ _ _ (rw c.as_slice.ensures at c.in_ok-print_list.ensures.passed) c.print_list.ensures.later
    (stopped_then _ _ _ _ _ _ _ _ _ _ _ (rw c.as_slice-2.ensures at c.in_ok-print_shards.ensures.passed) c.print_shards.ensures.later
    (stopped_then _ _ _ _ _ _ _ _ _ _ _ (rw c.as_slice-3.ensures at c.in_ok-print_lanes.ensures.passed) c.print_lanes.ensures.later
    (stopped_then _ _ _ _ _ _ _ _ _ _ _ (rw c.as_slice-4.ensures at c.in_ok-print_list-2.ensures.passed) c.print_list-2.ensures.later stopped)))))) c.print_summary.ensures.stopped
