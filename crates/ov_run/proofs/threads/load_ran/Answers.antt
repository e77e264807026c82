use Rattle.std.proofs.Common.{subst}
use Rattle.std.specs.Prelude.{IfSome}
use Rattle.ov_model.specs.declared.line.Script.{Script}
use Rattle.ov_run.specs.Clauses.{Threaded, load_lanes, load_head}
use Rattle.ov_run.proofs.Reporting.{if_report, threaded}
use Rattle.ov_run.proofs.threads.load_ran.Goals as goal

pub returns-clause-threaded : goal.returns-clause-threaded
returns-clause-threaded g c =
    let e = c.report_on_threads-report.ensures in
    subst (λ (s : Script). IfSome c.ended_by.result.report (Threaded s 1 load_lanes load_head)) c.in-Ok.ensures.exactly
    (if_report (Threaded c.in-Ok.script 1 load_lanes load_head) c.report_on_threads-report.result c.ended_by.result.report c.ended_by.ensures.report (threaded c.in-Ok.script 1 load_lanes load_head c.report_on_threads-report.result e.legal e.head e.lanes e.plain))
