-- The lanes of the schedule took their turns, and all lanes ran to their end.
use Rattle.std.proofs.Common.{◌≡◌, ◌∙◌, ap, sym, subst, arith}
use Rattle.ov_model.specs.declared.report.Report.{Report}
use Rattle.ov_model.specs.Legal.{Legal}
use Rattle.ov_model.specs.Via.{via_of}
use Rattle.ov_core.specs.Sessions.{Scheduled}
use Rattle.ov_core.specs.Scripts.{dealt}
use Rattle.ov_core.proofs.Scheduling.{RanBy}
use Rattle.ov_core.proofs.Loops.{if_ok, start_are, scheduled_at}
use Rattle.ov_core.proofs.session.run_schedule.Goals as goal

pub take_turns-requires-clause-are : goal.take_turns-requires-clause-are
take_turns-requires-clause-are c =
    let all_dealt : c.in_ok-courses.courses.items ≡ dealt c.args.script.lines = c.in_ok-courses.ensures ∙ ap dealt c.into_vec.ensures in
    start_are c.args.script c.args.first c.in_ok-world.world c.in_ok-courses.courses.items c.in_ok-world.ensures all_dealt (omega (arith, c.ranges.first.fits))

ran : (c : goal.After-report) → RanBy c.args.script c.args.first c.args.schedule.now c.run_all.new.world c.run_all.new.courses.items
ran c =
    let all_dealt : c.in_ok-courses.courses.items ≡ dealt c.args.script.lines = c.in_ok-courses.ensures ∙ ap dealt c.into_vec.ensures in
    scheduled_at c.args.script c.args.first c.args.schedule.now c.in_ok-world.world c.take_turns.new.world c.run_all.new.world c.in_ok-courses.courses.items c.take_turns.new.courses.items c.run_all.new.courses.items c.in_ok-world.ensures all_dealt c.in_ok-take_turns.ensures c.in_ok-run_all.ensures

pub returns-clause-scheduled : goal.returns-clause-scheduled
returns-clause-scheduled c = if_ok c.report.result c.report.ensures (λ r is. subst (λ (x : Report). Scheduled (via_of c.args.script.routes) c.args.script c.args.first c.args.schedule.now x) (sym is) (ran c).scheduled)

pub returns-clause-legal : goal.returns-clause-legal
returns-clause-legal c = if_ok c.report.result c.report.ensures (λ r is. subst (λ (x : Report). Legal c.args.script c.args.first x) (sym is) ((ran c).legal c.requires.lanes))
