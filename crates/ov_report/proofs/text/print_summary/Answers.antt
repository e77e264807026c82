-- The line of the summary isn't empty, so a page that couldn't take it holds less than both.
use Rattle.std.proofs.lemmas.Result.{IfOk-weaker, IfErr-weaker}
use Rattle.ov_report.proofs.Passing.{handed_on, no_memory, line_some, refilled, refilled_stop}
use Rattle.ov_report.proofs.text.print_summary.Goals as goal

pub returns-in_err-append_summary-clause-stopped : goal.returns-in_err-append_summary-clause-stopped
returns-in_err-append_summary-clause-stopped g c = handed_on _ _ _ c.from_residual.ensures (no_memory _ _ _ _ _ (line_some _))

pub returns-clause-passed : goal.returns-clause-passed
returns-clause-passed g c = IfOk-weaker c.pass.result _ _ (λ done passed. refilled _ _ _ _ _ _ c.in_ok-append_summary.ensures passed) c.pass.ensures.passed

pub returns-clause-stopped : goal.returns-clause-stopped
returns-clause-stopped g c = IfErr-weaker c.pass.result _ _ (λ why stopped. refilled_stop _ _ _ _ _ _ _ _ c.in_ok-append_summary.ensures stopped) c.pass.ensures.stopped
