use Rattle.std.proofs.Common.{sym, subst}
use Rattle.ov_model.specs.declared.report.Report.{Report}
use Rattle.ov_lanes.specs.Threads.{HeadFirst}
use Rattle.ov_run.proofs.threads.report_on_threads.Goals as goal

pub returns-clause-head : goal.returns-clause-head
returns-clause-head g c = subst (HeadFirst c.args.script c.args.head) (sym c.gather.ensures) c.in_ok-ran.ensures.head
