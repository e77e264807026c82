-- All lines were run and the table is closed: the report is legal, and the head came first in it.
use Rattle.std.proofs.Common.{ℕ, ◌≡◌, ◌+◌, ◌-◌, ◌<◌, ◌≤◌, List, [], ◌∷◌, length, length-take, map, option_map, min, take, refl, sym, ◌∙◌, ap, subst, false, arith}
use Rattle.std.specs.Prelude.{slice_get, Some}
use Rattle.std.specs.List.{AllByRecursion}
use Rattle.std.proofs.lemmas.List.{length-map}
use Rattle.std.proofs.lemmas.Option.{same_Some, slice_get-map, slice_get_within}
use Rattle.ov_model.specs.declared.line.Line.{Line}
use Rattle.ov_model.specs.declared.line.Script.{Script}
use Rattle.ov_model.specs.declared.place.Place.{Place}
use Rattle.ov_model.specs.declared.report.LaneLog.{LaneLog}
use Rattle.ov_model.specs.declared.report.Report.{Report}
use Rattle.ov_model.specs.Legal.{lane_lines, Legal}
use Rattle.ov_model.specs.Limits.{greatest_packet_id}
use Rattle.ov_model.specs.Removals.{AllReleased}
use Rattle.ov_model.specs.Via.{via_of}
use Rattle.ov_share.specs.Added.{HasAdded}
use Rattle.ov_share.specs.Keepings.{LaneKept}
use Rattle.ov_share.specs.Passings.{Passing, OneHistory}
use Rattle.ov_share.proofs.Adding.{added_wider}
use Rattle.ov_lane.specs.Passes.{Shared}
use Rattle.ov_core.proofs.Ending.{get_below}
use Rattle.ov_core.proofs.Seats.{all_at}
use Rattle.ov_course.specs.Courses.{IsFrom}
use Rattle.ov_lanes.specs.Heads.{IsLater}
use Rattle.ov_lanes.specs.Jobs.{Lane, IsReady, RanOut, RanBehind, HaveRunAll, Stands, are_on, log_of, passes_of}
use Rattle.ov_lanes.specs.Rans.{ArePlain}
use Rattle.ov_lanes.specs.Threads.{LanesDone, LaneDone, HeadFirst}
use Rattle.ov_lanes.proofs.Heads.{head_capped}
use Rattle.ov_lanes.proofs.Meeting.{pass_at, lane_of}
use Rattle.ov_lanes.proofs.Running.{head_done}
use Rattle.ov_lanes.proofs.Together.{lanes_legal}

-- What a run ends with: all lanes ran at their table, and no line was stopped; the table had the script's routes, and was closed
-- with their passes; and the report has their logs.
pub record IsOver (script : Script) (first head n count : ℕ) (o : Shared) (lanes : List Lane) (report : Report) : Type 0 where
  pub all : HaveRunAll o script.lines n count lanes
  pub on : are_on lanes
  pub routes : o.routes ≡ script.routes
  pub begin : first ≤ greatest_packet_id + 1
  pub named : AllByRecursion (λ line. line.lane < count) script.lines
  pub history : OneHistory first report.journal report.notes report.shards (passes_of lanes)
  pub released : AllReleased report.journal
  pub logs : report.lanes ≡ map log_of lanes
  pub headed : n ≡ length (take head script.lines)

-- The log of the lane at a place.
log_at : (lanes : List Lane) (i : ℕ) (lane : Lane) (log : LaneLog) → slice_get lanes i ≡ Some lane → slice_get (map log_of lanes) i ≡ Some log → log ≡ log_of lane
log_at lanes i lane log at is = same_Some log (log_of lane) (sym is ∙ slice_get-map log_of lanes i ∙ ap (option_map log_of) at)

-- A lane that ran out behind the head is done.
lane_done : (script : Script) (first head n count : ℕ) (o : Shared) (lanes : List Lane) (report : Report) → IsOver script first head n count o lanes report → (i : ℕ) (lane : Lane) → slice_get lanes i ≡ Some lane → LaneDone script report lane.pass i (log_of lane)
lane_done script first head n count o lanes report over i lane at =
    let work = over.all.work in
    let behind : RanBehind o script.lines n lanes = over.all.behind over.on in
    let on : lane.stopped ≡ false = all_at (λ (l : Lane). l.stopped ≡ false) lanes i lane over.on at in
    let was = get_below behind.before i (let below = slice_get_within lanes i lane at in let long = behind.ran.count in omega arith) in
    let ran : RanOut was.x lane = behind.ran.each i was.x lane was.is at in
    let answers : length lane.answers ≡ length was.x.answers + (length was.x.lines - length was.x.answers) = (ran.answers on).answered in
    let most : length was.x.answers ≤ length was.x.lines = (all_at IsReady behind.before i was.x behind.head.work.ready was.is).most in
    let lines : length lane.lines ≡ length was.x.lines = ap length ran.stays.lines in
    let numbers = work.numbers i lane at in
    let table : lane.table ≡ o = all_at (λ (l : Lane). l.table ≡ o) lanes i lane work.tables at in
    let stands : Stands lane = all_at (λ (l : Lane). l.stopped ≡ false → Stands l) lanes i lane work.stands at on in
    record {
      number = numbers.0;
      lines = numbers.1;
      answered = omega arith;
      recorded = refl;
      kept = subst (λ r. LaneKept (via_of r) i lane.lines lane.answers [] lane.pass.share) (ap (λ (s : Shared). s.routes) table ∙ over.routes) (subst (λ k. LaneKept (via_of lane.table.routes) k lane.lines lane.answers [] lane.pass.share) numbers.0 stands);
    }

-- All are done.
all_done : (script : Script) (first head n count : ℕ) (o : Shared) (lanes : List Lane) (report : Report) → IsOver script first head n count o lanes report → LanesDone script first report (passes_of lanes)
all_done script first head n count o lanes report over =
    let long : length report.lanes ≡ length lanes = ap length over.logs ∙ length-map lanes log_of in
    let counted : length lanes ≡ count = over.all.counted in
    let same : count ≡ length report.lanes = sym (long ∙ counted) in
    record {
      begin = over.begin;
      history = over.history;
      released = over.released;
      named = subst (λ k. AllByRecursion (λ (line : Line). line.lane < k) script.lines) same over.named;
      count = length-map lanes (λ (l : Lane). l.pass) ∙ sym long;
      each = λ i p log at is.
          let its = lane_of lanes i p at in
          let log_is : log ≡ log_of its.lane = log_at lanes i its.lane log its.at (ap (λ ls. slice_get ls i) (sym over.logs) ∙ is) in
          subst (LaneDone script report p i) (sym log_is) (subst (λ q. LaneDone script report q i (log_of its.lane)) its.is (lane_done script first head n count o lanes report over i its.lane its.at));
    }

-- The report is legal.
pub over_legal : (script : Script) (first head n count : ℕ) (o : Shared) (lanes : List Lane) (report : Report) → IsOver script first head n count o lanes report → Legal script first report
over_legal script first head n count o lanes report over = lanes_legal script first report (passes_of lanes) (all_done script first head n count o lanes report over)

-- Behind the head a lane's lines are later ones of it.
later_of : (lines : List Line) (n i first : ℕ) (place : Place) → first ≡ length (lane_lines (take n lines) i) → IsFrom i first place → IsLater lines n i place
later_of lines n i first place is from = record { lane_is = from.lane_is; later = subst (λ k. k ≤ place.line) is from.from }

-- The head came first.
pub over_headed : (script : Script) (first head n count : ℕ) (o : Shared) (lanes : List Lane) (report : Report) → IsOver script first head n count o lanes report → HeadFirst script head report
over_headed script first head n count o lanes report over =
    let behind : RanBehind o script.lines n lanes = over.all.behind over.on in
    let before = behind.head in
    let long : length (passes_of lanes) ≡ length (passes_of behind.before) = length-map lanes (λ (l : Lane). l.pass) ∙ behind.ran.count ∙ sym (length-map behind.before (λ (l : Lane). l.pass)) in
    let done : HeadFirst script n report = head_done script first report n before.low (passes_of behind.before) (passes_of lanes) before.runs long (λ i p q at is.
    let a = lane_of behind.before i p at in
    let b = lane_of lanes i q is in
    let ran : RanOut a.lane b.lane = behind.ran.each i a.lane b.lane a.at b.at in
    let number : a.lane.pass.number ≡ i = (before.work.numbers i a.lane a.at).0 in
    let lines : a.lane.pass.lines ≡ length (lane_lines (take n script.lines) i) = (before.runs.run.each i a.lane.pass (pass_at behind.before i a.lane a.at)).1 in
    let saw : before.low ≤ length a.lane.pass.share.sight.seen = all_at (λ (l : Lane). before.low ≤ length l.pass.share.sight.seen) behind.before i a.lane before.saw a.at in
    let added : HasAdded (IsLater script.lines n i) a.lane.pass.share b.lane.pass.share = added_wider a.lane.pass.share b.lane.pass.share (λ place from. later_of script.lines n i a.lane.pass.lines place lines (subst (λ k. IsFrom k a.lane.pass.lines place) number from)) ran.stays.added in
    (subst (λ (x : Passing). before.low ≤ length x.share.sight.seen) a.is saw, subst (λ (x : Passing). HasAdded (IsLater script.lines n i) x.share q.share) a.is (subst (λ (x : Passing). HasAdded (IsLater script.lines n i) a.lane.pass.share x.share) b.is added)))
    (all_done script first head n count o lanes report over) in
    head_capped script report head n (capped script.lines head n over.headed) done
  where
    capped : (lines : List Line) (head n : ℕ) → n ≡ length (take head lines) → min head (length lines) ≤ n
    capped lines head n is = let short : length (take head lines) ≡ min head (length lines) = length-take head lines in omega arith

-- No line came from a link.
pub logs_plain : (lanes : List Lane) → ArePlain (map log_of lanes)
logs_plain [] = tt
logs_plain (l ∷ lanes) = ((refl, refl), logs_plain lanes)
