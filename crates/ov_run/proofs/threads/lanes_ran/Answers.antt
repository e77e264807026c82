use Rattle.std.proofs.Common.{ℕ, IfOk, subst}
use Rattle.ov_lanes.specs.Threads.{HeadFirst}
use Rattle.ov_run.specs.Clauses.{Threaded}
use Rattle.ov_run.proofs.Reporting.{if_report, threaded}
use Rattle.ov_run.proofs.threads.lanes_ran.Goals as goal

pub returns-clause-threaded : goal.returns-clause-threaded
returns-clause-threaded g c =
    let e = c.report_on_threads-report.ensures in
    if_report (Threaded c.args.script c.args.plan.first_id c.args.plan.lanes c.args.plan.head) c.report_on_threads-report.result c.ended_by.result.report c.ended_by.ensures.report (threaded c.args.script c.args.plan.first_id c.args.plan.lanes c.args.plan.head c.report_on_threads-report.result e.legal (subst (λ (n : ℕ). IfOk c.report_on_threads-report.result (HeadFirst c.args.script n)) c.from-head.ensures e.head) e.lanes e.plain)
