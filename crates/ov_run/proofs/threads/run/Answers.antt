-- The words' plan ran on one thread, as run_serial says, or its lanes on threads: the script was read whole, or made.
use Rattle.std.proofs.Common.{rules, ◌≡◌, ℕ, [], refl, sym, ap, subst, ◌∙◌, true}
use Rattle.std.proofs.KnownBytes.{Consumes-nil}
use Rattle.ov_script.proofs.Judging.{early_stops, gave_some, none_given}
use Rattle.ov_script.specs.Reading.{AreGood, Early, Stop, counted_lines}
use Rattle.ov_run.specs.Clauses.{Counted, is_serial, lanes_asked, lanes_in, lanes_read, makes}
use Rattle.ov_run.proofs.Reporting.{reported_lanes, reported_load, was_given, asked, asked_serial, asked_lanes, both_serial, wrote_part, all_counted, none_counted, stop_counted, stop_named, cause_told, was_read}
use Rattle.ov_run.proofs.threads.run.Goals as goal

pub returns-in-Err-Usage-clause-taken : goal.returns-in-Err-Usage-clause-taken
returns-in-Err-Usage-clause-taken g c = gave_some _ _ [] (Consumes-nil (g.S.Source.left c.args.source.now))

pub returns-in-Err-Usage-clause-early : goal.returns-in-Err-Usage-clause-early
returns-in-Err-Usage-clause-early g c = λ event taken gave early. absurd (none_given _ _ taken gave event (early_stops _ taken event early))

pub returns-in-Err-Usage-clause-told : goal.returns-in-Err-Usage-clause-told
returns-in-Err-Usage-clause-told g c = λ calm event taken gave first. absurd (none_given _ _ taken gave event first)

pub returns-in-Trace : goal.returns-in-Trace
returns-in-Trace g c =
    let e = c.run_serial.ensures in
    let serial : is_serial c.in-Ok.plan.mode ≡ true = search rules in
    let same = asked_serial _ c.in-Ok.plan c.in-Ok.ensures.plan serial in
    record {
      usage = e.usage;
      no_plan = e.no_plan;
      unread = e.unread;
      generated = e.generated;
      taken = e.taken;
      ended = e.ended;
      kept = e.kept;
      sink_kept = e.sink_kept;
      stops = λ event is. rw same (e.stops event is);
      read_fault = e.read_fault;
      early = λ event taken gave early. e.early event taken gave (subst (λ (n : ℕ). Early taken n event) same early);
      told = λ calm event taken gave first. e.told calm event taken gave (subst (λ (n : ℕ). Stop taken n event) same first);
      not_early = λ is taken gave event early. e.not_early is taken gave event (subst (λ (n : ℕ). Early taken n event) same early);
      unrun = e.unrun;
      outcome = e.outcome;
      fine = e.fine;
      write_fault = e.write_fault;
      memory = e.memory;
      read_lines = λ taken gave used. subst (λ (n : ℕ). AreGood n (counted_lines taken) c.run_serial.result.read_lines) (sym same) (e.read_lines taken gave used);
      counted = λ taken gave. subst (λ (n : ℕ). Counted n taken c.run_serial.result.read_lines c.run_serial.result.report c.run_serial.result.cause) (sym same) (e.counted taken gave);
    }

pub returns-in-Load-clause-taken : goal.returns-in-Load-clause-taken
returns-in-Load-clause-taken g c = gave_some _ _ [] (Consumes-nil (g.S.Source.left c.args.source.now))

pub returns-in-Load-clause-early : goal.returns-in-Load-clause-early
returns-in-Load-clause-early g c = λ event taken gave early. absurd (none_given _ _ taken gave event (early_stops _ taken event early))

pub returns-in-Load-clause-told : goal.returns-in-Load-clause-told
returns-in-Load-clause-told g c = λ calm event taken gave first. absurd (none_given _ _ taken gave event first)

pub returns-in-Load-clause-outcome : goal.returns-in-Load-clause-outcome
returns-in-Load-clause-outcome g c = reported_load _ c.in-Ok.plan _ c.load_ran.result.report c.in-Ok.ensures.plan c.in-Load.is c.load_ran.ensures.threaded

pub returns-in-Load-clause-read_lines : goal.returns-in-Load-clause-read_lines
returns-in-Load-clause-read_lines g c = λ taken gave used. record { good = []; others = counted_lines taken; pieces_are = refl; number = c.load_ran.ensures.lines; all_good = ([], tt) }

pub returns-in-Load-clause-counted : goal.returns-in-Load-clause-counted
returns-in-Load-clause-counted g c = λ taken gave. none_counted _ _ taken c.load_ran.result.read_lines c.load_ran.result.report c.load_ran.result.cause _ _ _ _ _ gave c.load_ran.ensures.lines c.load_ran.ensures.cause

pub returns-in-Err-clause-stops : goal.returns-in-Err-clause-stops
returns-in-Err-clause-stops g c =
    let same = asked_lanes _ c.in-Ok.plan c.in-Ok.ensures.plan c.in-Lanes.is in
    λ event is. rw same ((rw c.in-Err.is at c.read_script-good.ensures.stops) event (stop_named c.in-Err.stop event (sym c.cause_of.ensures ∙ is)))

pub returns-in-Err-clause-early : goal.returns-in-Err-clause-early
returns-in-Err-clause-early g c =
    let same = asked_lanes _ c.in-Ok.plan c.in-Ok.ensures.plan c.in-Lanes.is in
    let told = rw c.in-Err.is at c.read_script-good.ensures.told_early in
    λ event taken gave early. rw c.cause_of.ensures (cause_told c.in-Err.stop event (told event taken gave (subst (λ (n : ℕ). Early taken n event) same early)))

pub returns-in-Err-clause-told : goal.returns-in-Err-clause-told
returns-in-Err-clause-told g c =
    let same = asked_lanes _ c.in-Ok.plan c.in-Ok.ensures.plan c.in-Lanes.is in
    let told = rw c.in-Err.is at c.read_script-good.ensures.told_stop in
    λ calm event taken gave first. rw c.cause_of.ensures (cause_told c.in-Err.stop event (told calm event taken gave (subst (λ (n : ℕ). Stop taken n event) same first)))

pub returns-in-Err-clause-not_early : goal.returns-in-Err-clause-not_early
returns-in-Err-clause-not_early g c =
    let same = asked_lanes _ c.in-Ok.plan c.in-Ok.ensures.plan c.in-Lanes.is in
    let early = rw c.in-Err.is at c.read_script-good.ensures.not_early in
    λ is taken gave event shown. early (was_read c.in-Err.stop (sym c.cause_of.ensures ∙ is)) taken gave event (subst (λ (n : ℕ). Early taken n event) same shown)

pub returns-in-Err-clause-counted : goal.returns-in-Err-clause-counted
returns-in-Err-clause-counted g c =
    let same = asked_lanes _ c.in-Ok.plan c.in-Ok.ensures.plan c.in-Lanes.is in
    λ taken gave. rw c.cause_of.ensures (rw same (stop_counted c.in-Ok.plan.lanes taken c.read_script-good.result.good c.in-Err.stop ((rw c.in-Err.is at c.read_script-good.ensures.counted) taken gave)))

pub returns-in-Ok-outcome-clause-early : goal.returns-in-Ok-outcome-clause-early
returns-in-Ok-outcome-clause-early g c =
    let same = asked_lanes _ c.in-Ok.plan c.in-Ok.ensures.plan c.in-Lanes.is in
    let none = rw c.in-Ok-outcome.is at c.read_script-good.ensures.no_stop in
    λ event taken gave early. absurd (none taken gave event (early_stops c.in-Ok.plan.lanes taken event (subst (λ (n : ℕ). Early taken n event) same early)))

pub returns-in-Ok-outcome-clause-told : goal.returns-in-Ok-outcome-clause-told
returns-in-Ok-outcome-clause-told g c =
    let same = asked_lanes _ c.in-Ok.plan c.in-Ok.ensures.plan c.in-Lanes.is in
    let none = rw c.in-Ok-outcome.is at c.read_script-good.ensures.no_stop in
    λ calm event taken gave first. absurd (none taken gave event (subst (λ (n : ℕ). Stop taken n event) same first))

pub returns-in-Ok-outcome-clause-outcome : goal.returns-in-Ok-outcome-clause-outcome
returns-in-Ok-outcome-clause-outcome g c = reported_lanes _ c.in-Ok.plan _ _ c.lanes_ran.result.report c.in-Ok-outcome.script c.in-Ok.ensures.plan c.in-Lanes.is c.lanes_ran.ensures.threaded
    (was_given c.in-Ok.plan c.in-Ok.plan.lanes _ _ c.in-Ok-outcome.script (ap makes c.in-Lanes.is) (ap (λ m. lanes_in m c.in-Ok.plan.lanes) c.in-Lanes.is)
    (rw c.in-Ok-outcome.is at c.read_script-good.ensures.ended) (rw c.in-Ok-outcome.is at c.read_script-good.ensures.script) (rw c.in-Ok-outcome.is at c.read_script-good.ensures.no_stop))

pub returns-in-Ok-outcome-clause-counted : goal.returns-in-Ok-outcome-clause-counted
returns-in-Ok-outcome-clause-counted g c =
    let same = asked_lanes _ c.in-Ok.plan c.in-Ok.ensures.plan c.in-Lanes.is in
    λ taken gave. rw same (all_counted c.in-Ok.plan.lanes taken c.in-Ok-outcome.script c.read_script-good.result.good c.lanes_ran.result.read_lines c.lanes_ran.result.report c.lanes_ran.result.cause _ _ _ _ _
    ((rw c.in-Ok-outcome.is at c.read_script-good.ensures.script) taken gave).1 ((rw c.in-Ok-outcome.is at c.read_script-good.ensures.counted) taken gave) c.lanes_ran.ensures.lines c.lanes_ran.ensures.cause)
