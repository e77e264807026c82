-- What the program promises of one run. A clause on the bytes that were read, or on the script that they
-- are, holds where the source tells what it holds; one on the bytes that were written, where the sink does.
use Rattle.std.specs.Prelude.{None, ℕ, ◌+◌, ◌<◌, ◌≡◌, ◌⊎◌, List, [], length, Option, Some, ⊤, Bool, true, false, ◌||◌, if◌then◌else◌}
use Rattle.std.specs.List.{AllByRecursion}
use Rattle.std.specs.Io.KnownBytes.{Appends, IsAtEnd, Keeps}
use Rattle.std.specs.Str.{bytes_eq}
use Rattle.ov_base.specs.Outside.{Rose}
use Rattle.ov_base.specs.Loops.{AppendsPart}
use Rattle.ov_model.specs.declared.line.Script.{Script}
use Rattle.ov_model.specs.declared.report.Report.{Report}
use Rattle.ov_model.specs.declared.report.LaneLog.{LaneLog}
use Rattle.ov_model.specs.Legal.{Legal}
use Rattle.ov_model.specs.Via.{via_of}
use Rattle.ov_core.specs.Sessions.{Serial, Scheduled}
use Rattle.ov_plan.specs.declared.words.Mode.{Mode}
use Rattle.ov_plan.specs.declared.words.Mode.TheVariants.{Trace, Steps, Lanes, Make, Load}
use Rattle.ov_plan.specs.declared.words.RunPlan.{RunPlan}
use Rattle.ov_plan.specs.Plan.{IsPlan, lanes_given, mode_name, mode_word}
use Rattle.ov_lanes.specs.Rans.{ArePlain}
use Rattle.ov_lanes.specs.Threads.{HeadFirst}
use Rattle.ov_made.specs.Made.{made}
use Rattle.ov_script.specs.Reading.{Gave, IsScript, HasNoStop, Early, Stop, Event, bad_line, passed, cut, whole_lines, CountsTo}
use Rattle.ov_script.specs.declared.script.ReadStop.{ReadStop}
use Rattle.ov_script.specs.declared.script.ReadStop.TheVariants as stop
use Rattle.ov_report.specs.Summary.{report_text, summary_text}
use Rattle.ov_report.specs.Printing.{full_page}
use Rattle.ov_run.specs.declared.ended.Cause.{Cause}
use Rattle.ov_run.specs.declared.ended.Cause.TheVariants as cause
use Rattle.ov_run.specs.declared.ended.Ended.{Ended}

-- The number of lanes where lines run on one thread: a line's lane is below it, and a report has a log for each.
abbrev pub lanes_read : ℕ
lanes_read = 64

-- The number of lanes on which a made script runs, each on a thread of its own.
abbrev pub load_lanes : ℕ
load_lanes = 8

-- How many lines of a made script run before its lanes run side by side: those that make the peers and their keys.
abbrev pub load_head : ℕ
load_head = 256

-- How the events that stop a script are answered.
abbrev pub cause_of : Event → Cause
cause_of (bad_line n) = cause.BadLine n
cause_of (passed limit) = cause.Limit limit

-- An event is told: the cause is that event, or want of memory, which is free.
abbrev pub IsTold : Event → Cause → Type 0
IsTold event told = (told ≡ cause_of event) ⊎ (told ≡ cause.Memory)

-- The cause of a stop in reading.
abbrev pub cause_of_stop : ReadStop → Cause
cause_of_stop stop.Read = cause.ReadFault
cause_of_stop (stop.Bad n) = cause.BadLine n
cause_of_stop (stop.Limit l) = cause.Limit l
cause_of_stop stop.Memory = cause.Memory

-- Whether reading stopped the run.
abbrev pub IsStop : Cause → Type 0
IsStop cause.Fine = ⊥
IsStop cause.Usage = ⊥
IsStop (cause.BadLine n) = ⊤
IsStop (cause.Limit l) = ⊤
IsStop cause.ReadFault = ⊤
IsStop cause.WriteFault = ⊥
IsStop cause.Memory = ⊥

-- Whether a mode makes its script. All others read it.
abbrev pub makes : Mode → Bool
makes Trace = false
makes Steps = false
makes Lanes = false
makes Make = true
makes Load = true

-- Whether words ask for a script that is made: MODE is the word of a mode that makes its script.
abbrev pub is_made : List (List ℕ) → Bool
is_made words = bytes_eq (mode_word words) (mode_name Make) || bytes_eq (mode_word words) (mode_name Load)

-- Whether a mode runs its lines on one thread.
abbrev pub is_serial : Mode → Bool
is_serial Trace = true
is_serial Steps = true
is_serial Lanes = false
is_serial Make = true
is_serial Load = false

-- How many lanes a mode has, whose option says so many: each line's lane is below it, and its report has a log for each.
abbrev pub lanes_in : Mode → ℕ → ℕ
lanes_in Trace lanes = lanes_read
lanes_in Steps lanes = lanes_read
lanes_in Lanes lanes = lanes
lanes_in Make lanes = lanes_read
lanes_in Load lanes = load_lanes

-- How many lanes a plan has.
abbrev pub lanes_of : RunPlan → ℕ
lanes_of plan = lanes_in plan.mode plan.lanes

-- How many lanes the lines of a script may name that words ask to be read: those of the option where MODE is lanes, else 64.
abbrev pub lanes_asked : List (List ℕ) → ℕ
lanes_asked words = if bytes_eq (mode_word words) (mode_name Lanes) then lanes_given words else lanes_read

-- The first packet id of every key in a mode: the words', and 1 where the script is made.
abbrev pub first_in : Mode → ℕ → ℕ
first_in Trace first = first
first_in Steps first = first
first_in Lanes first = first
first_in Make first = 1
first_in Load first = 1

-- The first packet id of every key by a plan.
abbrev pub first_id : RunPlan → ℕ
first_id plan = first_in plan.mode plan.first_id

-- The report of a mode. On threads nothing is said of the order of lanes but that the head comes first.
abbrev pub RunsIn : Mode → ℕ → List ℕ → ℕ → Script → Report → Type 0
RunsIn Trace first schedule head script report = Serial (via_of script.routes) script first report
RunsIn Steps first schedule head script report = Scheduled (via_of script.routes) script first schedule report
RunsIn Lanes first schedule head script report = HeadFirst script head report
RunsIn Make first schedule head script report = Serial (via_of script.routes) script first report
RunsIn Load first schedule head script report = HeadFirst script load_head report

-- A report of lanes on threads: it is legal, its head comes first, it has a log for each lane, and nothing came from links.
pub record Threaded (script : Script) (first lanes head : ℕ) (report : Report) : Type 0 where
  pub legal : Legal script first report
  pub headed : HeadFirst script head report
  pub count : length report.lanes ≡ lanes
  pub plain : ArePlain report.lanes

-- The report is that of the plan's mode: each line to its end in the script's order, or by the plan's
-- schedule, or each lane on a thread of its own, behind the head. The first packet id of every key is the plan's, or 1 where
-- the script is made, and the routes are the script's.
abbrev pub Runs : RunPlan → Script → Report → Type 0
Runs plan script report = RunsIn plan.mode (first_id plan) plan.schedule plan.head script report

-- The script of the bytes that were read, whose lines name so many lanes.
pub record Read (lanes : ℕ) (taken : List ℕ) (script : Script) : Type 0 where
  pub no_stop : HasNoStop taken lanes
  pub is_script : IsScript taken lanes script

-- A lane's log of a run without links: each line has its answer, none came from a link, and no link refused
-- a part.
pub record Answered (log : LaneLog) : Type 0 where
  pub answered : length log.answers ≡ length log.lines
  pub recorded : log.recorded ≡ 0
  pub unsent : log.unsent ≡ []

-- A script that was read: the source is at its end, and where it tells what it holds, the script is that of what
-- it gave.
pub record IsRead (lanes : ℕ) (before now : Option (List ℕ)) (script : Script) : Type 0 where
  pub ended : IsAtEnd now
  pub read : (taken : List ℕ) → Gave before now taken → (now ≡ Some []) × Read lanes taken script

-- Where the script of a mode comes from: it was read, or it is made from a seed and a count, and the source has
-- what it had.
abbrev pub IsGivenIn : Mode → ℕ → ℕ → ℕ → Option (List ℕ) → Option (List ℕ) → Script → Type 0
IsGivenIn Trace lanes seed count before now script = IsRead lanes before now script
IsGivenIn Steps lanes seed count before now script = IsRead lanes before now script
IsGivenIn Lanes lanes seed count before now script = IsRead lanes before now script
IsGivenIn Make lanes seed count before now script = (script ≡ made seed count) × (now ≡ before)
IsGivenIn Load lanes seed count before now script = (script ≡ made seed count) × (now ≡ before)

-- The script is that of the plan's mode: the one that was read, or the one of the plan's seed and count.
abbrev pub IsGiven : RunPlan → Option (List ℕ) → Option (List ℕ) → Script → Type 0
IsGiven plan before now script = IsGivenIn plan.mode (lanes_of plan) plan.seed plan.count before now script

-- A report: it is that of the words' plan and of a script, legal for it, and has the plan's lanes, each of whose lines
-- has its answer. The script is the one that was read, or, by the plan's mode, the one that its seed and its count
-- stand for.
pub record Reported (words : List (List ℕ)) (before now : Option (List ℕ)) (report : Report) : Type 0 where
  pub plan : RunPlan
  pub is_plan : IsPlan words plan
  pub script : Script
  pub runs : Runs plan script report
  pub legal : Legal script (first_id plan) report
  pub lanes : length report.lanes ≡ lanes_of plan
  pub answered : AllByRecursion Answered report.lanes
  pub given : IsGiven plan before now script

-- The text that is written of a report: all of its text, or where the script was made the summary's line alone.
abbrev pub text_if : Bool → Report → List ℕ
text_if was_made report = if was_made then summary_text report else report_text report

-- The text of a report was written whole.
pub record Wrote (was_made : Bool) (before now : Option (List ℕ)) (report : Option Report) : Type 0 where
  pub it : Report
  pub is : report ≡ Some it
  pub whole : Appends before now (text_if was_made it)

-- The text of a report was written in part.
pub record WrotePart (was_made : Bool) (before now : Option (List ℕ)) (report : Option Report) : Type 0 where
  pub it : Report
  pub is : report ≡ Some it
  pub part : AppendsPart before now (text_if was_made it)

-- Where a stop came from: the bytes that were read show it while the source may go on, or the source is
-- at its end and all its bytes have it.
abbrev pub ComesFrom : ℕ → Option (List ℕ) → Option (List ℕ) → Event → Type 0
ComesFrom lanes before now event = (taken : List ℕ) → Gave before now taken → Early taken lanes event ⊎ ((now ≡ Some []) × Stop taken lanes event)

-- What was written where memory was wanting: nothing before there was a report, and then a part of its
-- text, from the front and not to the end, which is nothing of a text that fills no page.
abbrev pub WroteNoMore : Bool → Option (List ℕ) → Option (List ℕ) → Option Report → Type 0
WroteNoMore was_made old new None = new ≡ old
WroteNoMore was_made old new (Some report) = AppendsPart old new (text_if was_made report) × (length (text_if was_made report) < full_page → Keeps old new)

-- What a run that has its script ended with: all of the report's text was written, or a part of it
-- where a write failed or memory was wanting, or nothing where there was no memory for the report.
abbrev pub EndsBy : Bool → Option (List ℕ) → Option (List ℕ) → ℕ → ℕ → Option Report → Cause → Type 0
EndsBy was_made old new before now report cause.Fine = Wrote was_made old new report
EndsBy was_made old new before now report cause.WriteFault = Rose before now × WrotePart was_made old new report
EndsBy was_made old new before now report cause.Memory = WroteNoMore was_made old new report
EndsBy was_made old new before now report cause.Usage = ⊥
EndsBy was_made old new before now report (cause.BadLine n) = ⊥
EndsBy was_made old new before now report (cause.Limit l) = ⊥
EndsBy was_made old new before now report cause.ReadFault = ⊥

-- How a run that has its script ended, by its cause.
abbrev pub Ran : Bool → Option (List ℕ) → Option (List ℕ) → ℕ → ℕ → Ended → Type 0
Ran was_made old new before now ended = EndsBy was_made old new before now ended.report ended.cause

-- How many lines were found good, where memory was wanting: all of them where the script was run; before
-- that nothing is said.
abbrev pub CountedRun : List ℕ → ℕ → Option Report → Type 0
CountedRun taken good None = ⊤
CountedRun taken good (Some report) = good ≡ length (whole_lines taken)

-- How many lines were taken and found good, by the cause: all lines where the script was run, those before
-- a bad one, those that were ended where a read failed, those that were ended before a limit was passed, and
-- none where nothing was read.
abbrev pub Counted : ℕ → List ℕ → ℕ → Option Report → Cause → Type 0
Counted lanes taken good report cause.Fine = good ≡ length (whole_lines taken)
Counted lanes taken good report cause.WriteFault = good ≡ length (whole_lines taken)
Counted lanes taken good report cause.Memory = CountedRun taken good report
Counted lanes taken good report cause.Usage = good ≡ 0
Counted lanes taken good report (cause.BadLine n) = n ≡ good + 1
Counted lanes taken good report (cause.Limit l) = CountsTo lanes taken l good
Counted lanes taken good report cause.ReadFault = good ≡ length (cut taken).ended
