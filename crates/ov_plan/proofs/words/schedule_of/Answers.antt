-- The schedule's text in the matches.
use Rattle.std.proofs.Common.{◌≡◌, ◌↔◌, IfErr}
use Rattle.std.specs.Result.{IfOk}
use Rattle.clap.specs.Words.{found_of}
use Rattle.ov_plan.specs.Plan.{HasSchedule, IsSchedule}
use Rattle.ov_plan.specs.declared.words.PlanStop.TheVariants as stop
use Rattle.ov_plan.proofs.Matches.{none_given, text_given}
use Rattle.ov_plan.proofs.words.schedule_of.Goals as goal

pub returns-in-Some-clause-lanes : goal.returns-in-Some-clause-lanes
returns-in-Some-clause-lanes c = text_given (found_of c.args.matches.now) c.in-Some.text.now (λ t. IfOk c.lanes_of.result (IsSchedule t)) c.in-Some.ensures c.lanes_of.ensures.lanes

pub returns-in-Some-clause-usage : goal.returns-in-Some-clause-usage
returns-in-Some-clause-usage c = text_given (found_of c.args.matches.now) c.in-Some.text.now (λ t. IfErr c.lanes_of.result (λ why. (why ≡ stop.Usage) ↔ ¬ (HasSchedule t))) c.in-Some.ensures c.lanes_of.ensures.usage

pub returns-in-None-clause-lanes : goal.returns-in-None-clause-lanes
returns-in-None-clause-lanes c = none_given (found_of c.args.matches.now) c.new.result c.in-None.ensures c.new.ensures
