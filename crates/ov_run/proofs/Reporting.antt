-- What is known of a run's report, and of the lines that were counted.
use Rattle.std.proofs.Common.{ℕ, suc, true, false, Ok, if◌then◌else◌, ◌≡◌, ◌≢◌, List, map, slice_get, [], ◌∷◌, ◌++◌, append-nil, subst, length, refl, sym, ap, ◌∙◌, arith, inl, inr, Bool}
use Rattle.std.specs.Prelude.{Option, Some, None, Result, Err, IfSome, IfOk, ◌||◌}
use Rattle.std.specs.List.{AllByRecursion}
use Rattle.std.specs.Io.KnownBytes.{IsAtEnd}
use Rattle.std.proofs.lemmas.List.{append_cancel_right}
use Rattle.ov_base.specs.Outside.{Rose}
use Rattle.ov_model.specs.declared.line.Line.{Line}
use Rattle.ov_model.specs.declared.line.Script.{Script}
use Rattle.ov_model.specs.declared.report.Report.{Report}
use Rattle.ov_model.specs.declared.report.LaneLog.{LaneLog}
use Rattle.ov_model.specs.Legal.{Legal}
use Rattle.ov_core.specs.Sessions.{Lane, log_of}
use Rattle.ov_script.specs.Reading as reading
use Rattle.ov_script.specs.Reading.{AreLines, Gave, GaveSome, IsScript, HasNoStop, Counts, whole_lines, Event, bad_line, passed, stop_of}
use Rattle.ov_plan.specs.declared.words.Mode.{Mode}
use Rattle.ov_plan.specs.declared.words.Mode.TheVariants.{Trace, Steps, Lanes, Make, Load}
use Rattle.ov_plan.specs.declared.words.RunPlan.{RunPlan}
use Rattle.ov_plan.specs.Plan.{IsPlan, lanes_given, mode_name}
use Rattle.ov_plan.proofs.Matches.{mode_word_is}
use Rattle.ov_made.specs.Made.{made}
use Rattle.ov_lanes.specs.Threads.{HeadFirst}
use Rattle.std.specs.Str.{bytes_eq}
use Rattle.ov_lanes.specs.Rans.{ArePlain}
use Rattle.ov_run.specs.Clauses.{Answered, Threaded, Read, IsRead, IsGiven, IsGivenIn, Reported, Runs, RunsIn, EndsBy, WrotePart, Counted, CountedRun, is_made, is_serial, makes, first_id, cause_of, cause_of_stop, IsTold, lanes_read, lanes_of, lanes_asked, load_lanes, load_head}
use Rattle.ov_script.specs.declared.script.ReadStop.{ReadStop}
use Rattle.ov_script.specs.declared.script.ReadStop.TheVariants as stop
use Rattle.ov_run.specs.declared.ended.Cause.{Cause}
use Rattle.ov_run.specs.declared.ended.Cause.TheVariants as cause

-- No line of a log that a lane made came from a link, and no link refused a part.
logs_plain : (lanes : List Lane) → ArePlain (map log_of lanes)
logs_plain [] = tt
logs_plain (lane ∷ lanes) = ((refl, refl), logs_plain lanes)

plain_in : (mode : Mode) (first : ℕ) (schedule : List ℕ) (head : ℕ) (script : Script) (report : Report) → is_serial mode ≡ true → RunsIn mode first schedule head script report → ArePlain report.lanes
plain_in Trace first schedule head script report serial runs = rw runs.report_is (logs_plain runs.last.lanes)
plain_in Steps first schedule head script report serial runs = rw runs.report_is (logs_plain runs.last.lanes)
plain_in Lanes first schedule head script report serial runs = absurd (cc serial)
plain_in Make first schedule head script report serial runs = rw runs.report_is (logs_plain runs.last.lanes)
plain_in Load first schedule head script report serial runs = absurd (cc serial)

-- So are the logs of a run on one thread.
pub serial_plain : (plan : RunPlan) (script : Script) (report : Option Report) → is_serial plan.mode ≡ true → IfSome report (Runs plan script) → IfSome report (λ r. ArePlain r.lanes)
serial_plain plan script None serial runs = tt
serial_plain plan script (Some r) serial runs = plain_in plan.mode (first_id plan) plan.schedule plan.head script r serial runs

-- What holds of an answer that is a report holds of the report that a run ends with.
pub if_report : {E : Type 0} (P : Report → Type 0) (r : Result Report E) (o : Option Report) → IfSome o (λ x. r ≡ Ok x) → IfOk r P → IfSome o P
if_report P r None is holds = tt
if_report P (Ok x) (Some y) is holds = let same : ◌≡◌ {A = Report} x y = cc is in subst P same holds
if_report P (Err e) (Some y) is holds = absurd (cc is)

-- A report of threads, as the plan's.
pub threads_parts : (script : Script) (first lanes head : ℕ) (report : Option Report) → IfSome report (Threaded script first lanes head) → IfSome report (Legal script first) × IfSome report (λ r. length r.lanes ≡ lanes) × IfSome report (λ r. ArePlain r.lanes)
threads_parts script first lanes head None is = (tt, tt, tt)
threads_parts script first lanes head (Some r) is = (is.legal, is.count, is.plain)

-- A log with as many answers as lines, none of which came from a link.
all_answered : (logs : List LaneLog) → ArePlain logs → ((lane : ℕ) (log : LaneLog) → slice_get logs lane ≡ Some log → length log.answers ≡ length log.lines) → AllByRecursion Answered logs
all_answered [] plain each = tt
all_answered (log ∷ logs) plain each = (
  record { answered = each 0 log refl; recorded = plain.0.0; unsent = plain.0.1 },
  all_answered logs plain.1 (λ lane l at. each (suc lane) l at),
)

-- Whether words ask for a made script is what their plan's mode says.
made_by : (mode : Mode) → (bytes_eq (mode_name mode) (mode_name Make) || bytes_eq (mode_name mode) (mode_name Load)) ≡ makes mode
made_by Trace = refl
made_by Steps = refl
made_by Lanes = refl
made_by Make = refl
made_by Load = refl

pub asked : (words : List (List ℕ)) (plan : RunPlan) → IsPlan words plan → is_made words ≡ makes plan.mode
asked words plan is = ap (λ (w : List ℕ). bytes_eq w (mode_name Make) || bytes_eq w (mode_name Load)) (mode_word_is words plan is) ∙ made_by plan.mode

-- Whether they ask for one thread is so too: so two plans of the same words agree on it.
abbrev serial_word : List ℕ → Bool
serial_word w = bytes_eq w (mode_name Trace) || (bytes_eq w (mode_name Steps) || bytes_eq w (mode_name Make))

serial_by : (mode : Mode) → serial_word (mode_name mode) ≡ is_serial mode
serial_by Trace = refl
serial_by Steps = refl
serial_by Lanes = refl
serial_by Make = refl
serial_by Load = refl

pub both_serial : (words : List (List ℕ)) (plan other : RunPlan) → IsPlan words plan → IsPlan words other → is_serial plan.mode ≡ true → is_serial other.mode ≡ true
both_serial words plan other is also serial = sym (serial_by other.mode) ∙ ap serial_word (sym (mode_word_is words other also) ∙ mode_word_is words plan is) ∙ serial_by plan.mode ∙ serial

-- How many lanes words ask to be read is what their plan says: 64 where the mode isn't lanes.
abbrev asked_in : List ℕ → ℕ → ℕ
asked_in w lanes = if bytes_eq w (mode_name Lanes) then lanes else lanes_read

serial_lanes : (mode : Mode) (lanes : ℕ) → is_serial mode ≡ true → asked_in (mode_name mode) lanes ≡ lanes_read
serial_lanes Trace lanes serial = refl
serial_lanes Steps lanes serial = refl
serial_lanes Lanes lanes serial = absurd (cc serial)
serial_lanes Make lanes serial = refl
serial_lanes Load lanes serial = absurd (cc serial)

pub asked_serial : (words : List (List ℕ)) (plan : RunPlan) → IsPlan words plan → is_serial plan.mode ≡ true → lanes_asked words ≡ lanes_read
asked_serial words plan is serial = ap (λ (w : List ℕ). asked_in w (lanes_given words)) (mode_word_is words plan is) ∙ serial_lanes plan.mode (lanes_given words) serial

pub asked_lanes : (words : List (List ℕ)) (plan : RunPlan) → IsPlan words plan → plan.mode ≡ Lanes → lanes_asked words ≡ plan.lanes
asked_lanes words plan is mode = ap (λ (w : List ℕ). asked_in w (lanes_given words)) (mode_word_is words plan is ∙ ap mode_name mode) ∙ sym is.plans.lanes

-- The script of a mode that reads it.
read_in : (mode : Mode) (lanes seed count : ℕ) (before now : Option (List ℕ)) (script : Script) → makes mode ≡ false → IsRead lanes before now script → IsGivenIn mode lanes seed count before now script
read_in Trace lanes seed count before now script other read = read
read_in Steps lanes seed count before now script other read = read
read_in Lanes lanes seed count before now script other read = read
read_in Make lanes seed count before now script other read = absurd (cc other)
read_in Load lanes seed count before now script other read = absurd (cc other)

-- The script of bytes that were read to their end.
pub was_given : (plan : RunPlan) (lanes : ℕ) (before now : Option (List ℕ)) (script : Script) → makes plan.mode ≡ false → lanes_of plan ≡ lanes → IsAtEnd now → ((taken : List ℕ) → Gave before now taken → (now ≡ Some []) × IsScript taken lanes script) → ((taken : List ℕ) → Gave before now taken → HasNoStop taken lanes) → IsGiven plan before now script
was_given plan lanes before now script other same ended read no_stop = read_in plan.mode (lanes_of plan) plan.seed plan.count before now script other (subst (λ (n : ℕ). IsRead n before now script) (sym same) (record {
  ended = ended;
  read = λ taken gave. let its : (now ≡ Some []) × IsScript taken lanes script = read taken gave in
      (its.0, record { no_stop = no_stop taken gave; is_script = its.1 });
}))

-- A mode on one thread that isn't make reads its script, on 64 lanes.
pub reads : (mode : Mode) → is_serial mode ≡ true → mode ≢ Make → makes mode ≡ false
reads Trace serial other = refl
reads Steps serial other = refl
reads Lanes serial other = refl
reads Make serial other = absurd (other refl)
reads Load serial other = absurd (cc serial)

lanes_serial : (plan : RunPlan) (mode : Mode) → plan.mode ≡ mode → is_serial mode ≡ true → lanes_of plan ≡ lanes_read
lanes_serial plan Trace is serial = rw is refl
lanes_serial plan Steps is serial = rw is refl
lanes_serial plan Lanes is serial = absurd (cc serial)
lanes_serial plan Make is serial = rw is refl
lanes_serial plan Load is serial = absurd (cc serial)

pub of_serial : (plan : RunPlan) → is_serial plan.mode ≡ true → lanes_of plan ≡ lanes_read
of_serial plan serial = lanes_serial plan plan.mode refl serial

-- The script that a plan's seed and count stand for, where nothing was read.
pub was_made : (plan : RunPlan) (held : Option (List ℕ)) (script : Script) → makes plan.mode ≡ true → script ≡ made plan.seed plan.count → IsGiven plan held held script
was_made plan held script make is = made_in plan.mode make
  where
    made_in : (mode : Mode) → makes mode ≡ true → IsGivenIn mode (lanes_of plan) plan.seed plan.count held held script
    made_in Trace make = absurd (cc make)
    made_in Steps make = absurd (cc make)
    made_in Lanes make = absurd (cc make)
    made_in Make make = (is, refl)
    made_in Load make = (is, refl)

-- What is known of a report, as one fact, with where its script is from.
pub reported : (words : List (List ℕ)) (plan : RunPlan) (before now : Option (List ℕ)) (report : Option Report) (script : Script) → IsPlan words plan → IfSome report (Runs plan script) → IfSome report (Legal script (first_id plan)) → IfSome report (λ r. length r.lanes ≡ lanes_of plan)
    → IfSome report (λ r. ArePlain r.lanes) → IsGiven plan before now script → IfSome report (Reported words before now)
reported words plan before now None script is_plan runs legal lanes plain given = tt
reported words plan before now (Some r) script is_plan runs legal lanes plain given = record {
  plan = plan;
  is_plan = is_plan;
  script = script;
  runs = runs;
  legal = legal;
  lanes = lanes;
  answered = all_answered r.lanes plain (λ lane log at. (legal.lanes.each lane log at).answered);
  given = given;
}

-- The same of threads, whose script was read, or made.
pub reported_lanes : (words : List (List ℕ)) (plan : RunPlan) (before now : Option (List ℕ)) (report : Option Report) (script : Script) → IsPlan words plan → plan.mode ≡ Lanes → IfSome report (Threaded script plan.first_id plan.lanes plan.head) → IsGiven plan before now script → IfSome report (Reported words before now)
reported_lanes words plan before now None script is_plan mode is given = tt
reported_lanes words plan before now (Some r) script is_plan mode is given = record {
  plan = plan;
  is_plan = is_plan;
  script = script;
  runs = rw mode is.headed;
  legal = rw mode is.legal;
  lanes = rw mode is.count;
  answered = all_answered r.lanes is.plain (λ lane log at. (is.legal.lanes.each lane log at).answered);
  given = given;
}

pub reported_load : (words : List (List ℕ)) (plan : RunPlan) (held : Option (List ℕ)) (report : Option Report) → IsPlan words plan → plan.mode ≡ Load → IfSome report (Threaded (made plan.seed plan.count) 1 load_lanes load_head) → IfSome report (Reported words held held)
reported_load words plan held None is_plan mode is = tt
reported_load words plan held (Some r) is_plan mode is = record {
  plan = plan;
  is_plan = is_plan;
  script = made plan.seed plan.count;
  runs = rw mode is.headed;
  legal = rw mode is.legal;
  lanes = rw mode is.count;
  answered = all_answered r.lanes is.plain (λ lane log at. (is.legal.lanes.each lane log at).answered);
  given = was_made plan held (made plan.seed plan.count) (ap makes mode) refl;
}

-- As many lines were read as the stream has.
lengths : (lanes : ℕ) (pieces : List (List ℕ)) (lines : List Line) → AreLines lanes pieces lines → length lines ≡ length pieces
lengths lanes [] [] are = refl
lengths lanes [] (line ∷ lines) are = absurd are
lengths lanes (piece ∷ pieces) [] are = absurd are
lengths lanes (piece ∷ pieces) (line ∷ lines) are = let rest : length lines ≡ length pieces = lengths lanes pieces lines are.1 in omega arith

counted_run : (taken : List ℕ) (good : ℕ) (report : Option Report) → good ≡ length (whole_lines taken) → CountedRun taken good report
counted_run taken good None is = tt
counted_run taken good (Some report) is = is

counted_by : (lanes : ℕ) (taken : List ℕ) (good : ℕ) (report : Option Report) (c : Cause) (b : Bool) (old new : Option (List ℕ)) (before now : ℕ) → EndsBy b old new before now report c → good ≡ length (whole_lines taken) → Counted lanes taken good report c
counted_by lanes taken good report cause.Fine b old new before now ends is = is
counted_by lanes taken good report cause.WriteFault b old new before now ends is = is
counted_by lanes taken good report cause.Memory b old new before now ends is = counted_run taken good report is
counted_by lanes taken good report cause.Usage b old new before now ends is = absurd ends
counted_by lanes taken good report (cause.BadLine n) b old new before now ends is = absurd ends
counted_by lanes taken good report (cause.Limit l) b old new before now ends is = absurd ends
counted_by lanes taken good report cause.ReadFault b old new before now ends is = absurd ends

-- A script that was read whole and run has as many good lines as the stream has lines.
pub all_counted : (among : ℕ) (taken : List ℕ) (script : Script) (good lines : ℕ) (report : Option Report) (c : Cause) (b : Bool) (old new : Option (List ℕ)) (before now : ℕ) → IsScript taken among script → good ≡ length script.lines → lines ≡ good → EndsBy b old new before now report c → Counted among taken lines report c
all_counted among taken script good lines report c b old new before now is_script count same ends =
    counted_by among taken lines report c b old new before now ends (same ∙ count ∙ lengths among (whole_lines taken) script.lines is_script.lines)

-- Where a source has what it had, it gave nothing, which has no line.
pub none_counted : (lanes : ℕ) (held : Option (List ℕ)) (taken : List ℕ) (lines : ℕ) (report : Option Report) (c : Cause) (b : Bool) (old new : Option (List ℕ)) (before now : ℕ) → Gave held held taken → lines ≡ 0 → EndsBy b old new before now report c → Counted lanes taken lines report c
none_counted lanes held taken lines report c b old new before now gave none ends =
    let P : List ℕ → Type 0 = λ l. lines ≡ length (whole_lines l) in
    let same : taken ++ gave.left ≡ gave.left = cc (gave.had, gave.has) in
    let nothing : taken ≡ [] = append_cancel_right taken [] gave.left same in
    counted_by lanes taken lines report c b old new before now ends (subst P (sym nothing) none)

-- What was written in part, by the words: they ask for the text that the run's mode has.
pub wrote_part : (c : Cause) (b d : Bool) (old new : Option (List ℕ)) (before now : ℕ) (report : Option Report) → d ≡ b → EndsBy b old new before now report c → c ≡ cause.WriteFault → Rose before now × WrotePart d old new report
wrote_part c b d old new before now report same ends is =
    let e : EndsBy b old new before now report cause.WriteFault = subst (λ (k : Cause). EndsBy b old new before now report k) is ends in
    subst (λ (x : Bool). Rose before now × WrotePart x old new report) (sym same) e

-- What is counted where reading stopped.
pub stop_counted : (lanes : ℕ) (taken : List ℕ) (good : ℕ) (s : ReadStop) → Counts lanes taken (Err s) good → Counted lanes taken good None (cause_of_stop s)
stop_counted lanes taken good stop.Read is = is
stop_counted lanes taken good (stop.Bad n) is = is
stop_counted lanes taken good (stop.Limit l) is = is
stop_counted lanes taken good stop.Memory is = tt

-- A cause that names an event is that of the stop that names it.
pub stop_named : (s : ReadStop) (event : Event) → cause_of_stop s ≡ cause_of event → s ≡ stop_of event
stop_named stop.Read (bad_line n) is = absurd (cc is)
stop_named stop.Read (passed l) is = absurd (cc is)
stop_named (stop.Bad n) (bad_line m) is = let same : n ≡ m = cc in ap stop.Bad same
stop_named (stop.Bad n) (passed l) is = absurd (cc is)
stop_named (stop.Limit l) (bad_line n) is = absurd (cc is)
stop_named (stop.Limit l) (passed m) is = let same : l ≡ m = cc in ap stop.Limit same
stop_named stop.Memory (bad_line n) is = absurd (cc is)
stop_named stop.Memory (passed l) is = absurd (cc is)

event_cause : (event : Event) → cause_of_stop (stop_of event) ≡ cause_of event
event_cause (bad_line n) = refl
event_cause (passed l) = refl

err_same : (s t : ReadStop) → ◌≡◌ {A = Result Script ReadStop} (Err s) (Err t) → s ≡ t
err_same s t is = cc

-- What a stop tells, its cause tells.
pub cause_told : (s : ReadStop) (event : Event) → reading.IsTold event (Err s) → IsTold event (cause_of_stop s)
cause_told s event (inl own) = inl (ap cause_of_stop (err_same s (stop_of event) own) ∙ event_cause event)
cause_told s event (inr memory) = inr (ap cause_of_stop (err_same s stop.Memory memory))

-- A cause of a read fault is that of a failed read.
pub was_read : (s : ReadStop) → cause_of_stop s ≡ cause.ReadFault → s ≡ stop.Read
was_read stop.Read is = refl
was_read (stop.Bad n) is = cc
was_read (stop.Limit l) is = cc
was_read stop.Memory is = cc

-- A source that told what it held, and is at its end, gave all of it: so a script that was read is the script of it.
read_held : (lanes : ℕ) (held now : List ℕ) (script : Script) → GaveSome (Some held) (Some now) → IsRead lanes (Some held) (Some now) script → Read lanes held script
read_held lanes held now script gave is =
    let P : List ℕ → Type 0 = λ b. Read lanes b script in
    let had : held ≡ gave.0 ++ gave.1.left = cc (gave.1.had) in
    let left : gave.1.left ≡ [] = cc (gave.1.has, is.ended) in
    let all : gave.0 ≡ held = sym (append-nil gave.0) ∙ ap (λ (l : List ℕ). gave.0 ++ l) (sym left) ∙ sym had in
    subst P all (is.read gave.0 gave.1).1

read_unless : (mode : Mode) (lanes seed count : ℕ) (before now : Option (List ℕ)) (script : Script) → makes mode ≡ false → IsGivenIn mode lanes seed count before now script → IsRead lanes before now script
read_unless Trace lanes seed count before now script other is = is
read_unless Steps lanes seed count before now script other is = is
read_unless Lanes lanes seed count before now script other is = is
read_unless Make lanes seed count before now script other is = absurd (cc other)
read_unless Load lanes seed count before now script other is = absurd (cc other)

-- So a report is legal for the script of what the source held, unless the script was made.
pub read_all : (words : List (List ℕ)) (held now : List ℕ) (report : Option Report) → GaveSome (Some held) (Some now) → IfSome report (Reported words (Some held) (Some now)) → IfSome report (λ r. (plan : RunPlan) × IsPlan words plan × ((script : Script) × (makes plan.mode ≡ false → Read (lanes_of plan) held script) × Legal script (first_id plan) r))
read_all words held now None gave is = tt
read_all words held now (Some r) gave is =
    (is.plan, is.is_plan, (is.script, (λ other. read_held (lanes_of is.plan) held now is.script gave (read_unless is.plan.mode (lanes_of is.plan) is.plan.seed is.plan.count (Some held) (Some now) is.script other is.given)), is.legal))

-- What is known of a report of threads, as one fact.
pub threaded : {E : Type 0} (script : Script) (first lanes head : ℕ) (r : Result Report E) → IfOk r (Legal script first) → IfOk r (HeadFirst script head) → IfOk r (λ report. length report.lanes ≡ lanes) → IfOk r (λ report. ArePlain report.lanes) → IfOk r (Threaded script first lanes head)
threaded script first lanes head (Ok r) legal headed count plain = record { legal = legal; headed = headed; count = count; plain = plain }
threaded script first lanes head (Err e) legal headed count plain = tt
