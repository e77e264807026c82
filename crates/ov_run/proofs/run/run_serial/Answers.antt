-- The script was read whole, or made, and run: its report is legal. Where nothing was read, there is no stop to tell.
use Rattle.std.proofs.Common.{[], refl, sym, ap, ◌∙◌}
use Rattle.std.proofs.KnownBytes.{Consumes-nil}
use Rattle.ov_script.proofs.Judging.{early_stops, gave_some, none_given}
use Rattle.ov_script.specs.Reading.{counted_lines}
use Rattle.ov_made.specs.Made.{made}
use Rattle.ov_run.specs.Clauses.{lanes_read, makes}
use Rattle.ov_run.proofs.Reporting.{serial_plain, of_serial, reads, reported, was_given, was_made, asked, wrote_part, all_counted, none_counted, stop_counted, stop_named, cause_told, was_read}
use Rattle.ov_run.proofs.run.run_serial.Goals as goal

pub returns-in-Err-Usage-clause-taken : goal.returns-in-Err-Usage-clause-taken
returns-in-Err-Usage-clause-taken g c = gave_some _ _ [] (Consumes-nil (g.S.Source.left c.args.source.now))

pub returns-in-Err-Usage-clause-early : goal.returns-in-Err-Usage-clause-early
returns-in-Err-Usage-clause-early g c = λ event taken gave early. absurd (none_given lanes_read _ taken gave event (early_stops lanes_read taken event early))

pub returns-in-Err-Usage-clause-told : goal.returns-in-Err-Usage-clause-told
returns-in-Err-Usage-clause-told g c = λ calm event taken gave first. absurd (none_given lanes_read _ taken gave event first)

pub returns-in-Err-Memory-clause-taken : goal.returns-in-Err-Memory-clause-taken
returns-in-Err-Memory-clause-taken g c = gave_some _ _ [] (Consumes-nil (g.S.Source.left c.args.source.now))

pub returns-in-Err-clause-stops : goal.returns-in-Err-clause-stops
returns-in-Err-clause-stops g c = λ event is. (rw c.in-Err.is at c.read_script-good.ensures.stops) event (stop_named c.in-Err.stop event (sym c.cause_of.ensures ∙ is))

pub returns-in-Err-clause-early : goal.returns-in-Err-clause-early
returns-in-Err-clause-early g c =
    let told = rw c.in-Err.is at c.read_script-good.ensures.told_early in
    λ event taken gave early. rw c.cause_of.ensures (cause_told c.in-Err.stop event (told event taken gave early))

pub returns-in-Err-clause-told : goal.returns-in-Err-clause-told
returns-in-Err-clause-told g c =
    let told = rw c.in-Err.is at c.read_script-good.ensures.told_stop in
    λ calm event taken gave first. rw c.cause_of.ensures (cause_told c.in-Err.stop event (told calm event taken gave first))

pub returns-in-Ok-outcome-clause-early : goal.returns-in-Ok-outcome-clause-early
returns-in-Ok-outcome-clause-early g c =
    let none = rw c.in-Ok-outcome.is at c.read_script-good.ensures.no_stop in
    λ event taken gave early. absurd (none taken gave event (early_stops lanes_read taken event early))

pub returns-in-Ok-outcome-clause-told : goal.returns-in-Ok-outcome-clause-told
returns-in-Ok-outcome-clause-told g c =
    let none = rw c.in-Ok-outcome.is at c.read_script-good.ensures.no_stop in
    λ calm event taken gave first. absurd (none taken gave event first)

pub returns-in-Err-clause-not_early : goal.returns-in-Err-clause-not_early
returns-in-Err-clause-not_early g c =
    let early = rw c.in-Err.is at c.read_script-good.ensures.not_early in
    λ is. early (was_read c.in-Err.stop (sym c.cause_of.ensures ∙ is))

pub returns-in-Err-clause-counted : goal.returns-in-Err-clause-counted
returns-in-Err-clause-counted g c = λ taken gave. rw c.cause_of.ensures (stop_counted lanes_read taken c.read_script-good.result.good c.in-Err.stop ((rw c.in-Err.is at c.read_script-good.ensures.counted) taken gave))

pub returns-in-Ok-outcome-clause-outcome : goal.returns-in-Ok-outcome-clause-outcome
returns-in-Ok-outcome-clause-outcome g c = reported _ c.in-Ok.plan _ _ c.ran.result.report c.in-Ok-outcome.script c.in-Ok.ensures.plan c.ran.ensures.ran c.ran.ensures.legal c.ran.ensures.lanes (serial_plain c.in-Ok.plan c.in-Ok-outcome.script c.ran.result.report (c.requires.serial c.in-Ok.plan c.in-Ok.ensures.plan) c.ran.ensures.ran)
    (was_given c.in-Ok.plan lanes_read _ _ c.in-Ok-outcome.script (reads c.in-Ok.plan.mode (c.requires.serial c.in-Ok.plan c.in-Ok.ensures.plan) c.in_default.not-Make) (of_serial c.in-Ok.plan (c.requires.serial c.in-Ok.plan c.in-Ok.ensures.plan))
    (rw c.in-Ok-outcome.is at c.read_script-good.ensures.ended) (rw c.in-Ok-outcome.is at c.read_script-good.ensures.script) (rw c.in-Ok-outcome.is at c.read_script-good.ensures.no_stop))

pub returns-in-Ok-outcome-clause-counted : goal.returns-in-Ok-outcome-clause-counted
returns-in-Ok-outcome-clause-counted g c = λ taken gave. all_counted lanes_read taken c.in-Ok-outcome.script c.read_script-good.result.good c.ran.result.read_lines c.ran.result.report c.ran.result.cause _ _ _ _ _
    ((rw c.in-Ok-outcome.is at c.read_script-good.ensures.script) taken gave).1 ((rw c.in-Ok-outcome.is at c.read_script-good.ensures.counted) taken gave) c.ran.ensures.lines c.ran.ensures.cause

pub returns-in-Ok-outcome-clause-write_fault : goal.returns-in-Ok-outcome-clause-write_fault
returns-in-Ok-outcome-clause-write_fault g c = λ is. wrote_part c.ran.result.cause _ _ _ _ _ _ c.ran.result.report (asked _ c.in-Ok.plan c.in-Ok.ensures.plan) c.ran.ensures.cause is

pub returns-in-Make-clause-taken : goal.returns-in-Make-clause-taken
returns-in-Make-clause-taken g c = gave_some _ _ [] (Consumes-nil (g.S.Source.left c.args.source.now))

pub returns-in-Make-clause-early : goal.returns-in-Make-clause-early
returns-in-Make-clause-early g c = λ event taken gave early. absurd (none_given lanes_read _ taken gave event (early_stops lanes_read taken event early))

pub returns-in-Make-clause-told : goal.returns-in-Make-clause-told
returns-in-Make-clause-told g c = λ calm event taken gave first. absurd (none_given lanes_read _ taken gave event first)

pub returns-in-Make-clause-outcome : goal.returns-in-Make-clause-outcome
returns-in-Make-clause-outcome g c = reported _ c.in-Ok.plan _ _ c.made_ran.result.report (made c.in-Ok.plan.seed c.in-Ok.plan.count) c.in-Ok.ensures.plan c.made_ran.ensures.ran c.made_ran.ensures.legal c.made_ran.ensures.lanes
    (serial_plain c.in-Ok.plan (made c.in-Ok.plan.seed c.in-Ok.plan.count) c.made_ran.result.report (c.requires.serial c.in-Ok.plan c.in-Ok.ensures.plan) c.made_ran.ensures.ran) (was_made c.in-Ok.plan _ (made c.in-Ok.plan.seed c.in-Ok.plan.count) (ap makes c.in-Make.is) refl)

pub returns-in-Make-clause-read_lines : goal.returns-in-Make-clause-read_lines
returns-in-Make-clause-read_lines g c = λ taken gave used. record { good = []; others = counted_lines taken; pieces_are = refl; number = c.made_ran.ensures.lines; all_good = ([], tt) }

pub returns-in-Make-clause-counted : goal.returns-in-Make-clause-counted
returns-in-Make-clause-counted g c = λ taken gave. none_counted lanes_read _ taken c.made_ran.result.read_lines c.made_ran.result.report c.made_ran.result.cause _ _ _ _ _ gave c.made_ran.ensures.lines c.made_ran.ensures.cause
