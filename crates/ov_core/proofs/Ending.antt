-- A script whose lanes are done has a legal report.
use Rattle.std.proofs.Common.{ℕ, zero, suc, ◌≡◌, ◌+◌, ◌-◌, ◌≤◌, ◌<◌, List, [], ◌∷◌, length, refl, ◌∙◌, ap, arith, inl, inr, true, length-append}
use Rattle.std.specs.Prelude.{Some, slice_get}
use Rattle.std.specs.List.{AllByRecursion, AllPairs, list_any}
use Rattle.std.proofs.lemmas.Bool.{cases_lt}
use Rattle.std.proofs.lemmas.List.{take_all}
use Rattle.ov_base.specs.Sums.{total, between}
use Rattle.ov_model.specs.declared.line.Script.{Script}
use Rattle.ov_model.specs.declared.replay.ReplayEntry.{ReplayEntry}
use Rattle.ov_model.specs.declared.report.LaneLog.{LaneLog}
use Rattle.ov_model.specs.declared.report.Report.{Report}
use Rattle.ov_model.specs.Events.{steps_of}
use Rattle.ov_model.specs.Keys.{key_of, ids_of, ids_in, spends, KeyCounts}
use Rattle.ov_model.specs.Legal.{lane_lines, LaneMatches, LaneMeets, LinesRise, Legal}
use Rattle.ov_model.specs.Own.{mine, mine_shards}
use Rattle.ov_model.specs.Removals.{times, AllReleased}
use Rattle.ov_model.specs.Replay.{ShardJudges}
use Rattle.ov_model.specs.Runs.{IsRun, notes_of}
use Rattle.ov_model.proofs.Lanes.{all_weaker}
use Rattle.ov_model.specs.Via.{via_of}
use Rattle.ov_model.proofs.Mine.{lane_whole, rise_mine}
use Rattle.ov_model.proofs.Noted.{removals_noted}
use Rattle.ov_model.proofs.Times.{times-append}

-- ---- the parts of a finished run

-- A lane by its own steps is done: its lines are those of the script and are all answered, and it made nothing
-- else.
pub record LaneParts (script : Script) (report : Report) (i : ℕ) (log : LaneLog) : Type 0 where
  pub lines : log.lines ≡ lane_lines script.lines i
  pub answered : length log.answers ≡ length log.lines
  pub recorded : log.recorded ≡ 0
  pub meets : LaneMeets (key_of report.journal) (via_of script.routes) (mine i (steps_of report.journal)) (mine_shards i report.shards) i log.lines log.answers
  pub rise : AllByRecursion (LinesRise i) (mine_shards i report.shards)

-- A key's counter at the end gave the ids that the lanes sealed.
pub record KeyParts (first : ℕ) (report : Report) (key : ℕ) : Type 0 where
  pub next : ℕ
  pub once : (n : ℕ) → total (λ log. times n (ids_of log.answers key)) report.lanes ≡ between first next n
  pub count : first + total (λ log. length (ids_of log.answers key)) report.lanes ≡ next
  pub most : next ≤ 4294967296
  pub dry : list_any (spends key) report.journal ≡ true → next ≡ 4294967296
  pub rise : (i : ℕ) (log : LaneLog) → slice_get report.lanes i ≡ Some log → AllPairs (λ m n. m < n) (ids_of log.answers key)

-- What a finished run gives, however its lanes ran.
pub record Parts (script : Script) (first : ℕ) (report : Report) : Type 0 where
  pub runs : IsRun report.journal
  pub notes : report.notes ≡ notes_of report.journal
  pub named : AllByRecursion (λ line. line.lane < length report.lanes) script.lines
  pub within : AllByRecursion (λ s. s.entry.place.lane < length report.lanes) (steps_of report.journal)
  pub lanes : (i : ℕ) (log : LaneLog) → slice_get report.lanes i ≡ Some log → LaneParts script report i log
  pub eight : length report.shards ≡ 8
  pub judges : (shard : ℕ) (rs : List ReplayEntry) → slice_get report.shards shard ≡ Some rs → ShardJudges shard rs
  pub judged_within : AllByRecursion (AllByRecursion (λ r. r.place.lane < length report.lanes)) report.shards
  pub keys : (key : ℕ) → KeyParts first report key
  pub released : AllReleased report.journal

-- ---- the lanes

lane_matches : (script : Script) (report : Report) (i : ℕ) (log : LaneLog) → LaneParts script report i log → LaneMatches script.lines i log
lane_matches script report i log parts = record {
  recorded = rw parts.recorded (omega arith);
  lines_are = rw parts.recorded (take_all (length log.lines - 0) log.lines (omega arith) ∙ parts.lines);
  answered = parts.answered;
}

-- A lane that the report doesn't have made no replay step.
none_rises : (lane n : ℕ) (rs : List ReplayEntry) → n ≤ lane → AllByRecursion (λ r. r.place.lane < n) rs → LinesRise lane rs
none_rises lane n [] past within = tt
none_rises lane n (r ∷ rs) past within = ((λ own. absurd (let below = within.0 in omega arith)), none_rises lane n rs past within.1)

shards_mine : (lane : ℕ) (shards : List (List ReplayEntry)) → AllByRecursion (LinesRise lane) (mine_shards lane shards) → AllByRecursion (LinesRise lane) shards
shards_mine lane [] rise = tt
shards_mine lane (rs ∷ shards) rise = (rise_mine lane rs rise.0, shards_mine lane shards rise.1)

-- What stands at a place that a list has.
pub record At {X : Type 0} (xs : List X) (i : ℕ) : Type 0 where
  pub x : X
  pub is : slice_get xs i ≡ Some x

pub get_below : {X : Type 0} (xs : List X) (i : ℕ) → i < length xs → At xs i
get_below [] i below = absurd (omega arith)
get_below (x ∷ xs) zero below = record { x = x; is = refl }
get_below (x ∷ xs) (suc i) below = let later = get_below xs i (omega arith) in record { x = later.x; is = later.is }

all_rise : (script : Script) (first : ℕ) (report : Report) → Parts script first report → (lane : ℕ) → AllByRecursion (LinesRise lane) report.shards
all_rise script first report parts lane = elim (cases_lt lane (length report.lanes)) [
  | inl below ↦ let log = get_below report.lanes lane below in shards_mine lane report.shards (parts.lanes lane log.x log.is).rise
  | inr past ↦ all_weaker (AllByRecursion (λ r. r.place.lane < length report.lanes)) (LinesRise lane) (λ rs within. none_rises lane (length report.lanes) rs (omega arith) within) report.shards parts.judged_within
]

-- ---- the packet ids

pub times_in : (n key : ℕ) (logs : List LaneLog) → times n (ids_in logs key) ≡ total (λ log. times n (ids_of log.answers key)) logs
times_in n key [] = refl
times_in n key (log ∷ logs) = times-append n (ids_of log.answers key) (ids_in logs key) ∙ ap (λ m. times n (ids_of log.answers key) + m) (times_in n key logs)

pub length_in : (key : ℕ) (logs : List LaneLog) → length (ids_in logs key) ≡ total (λ log. length (ids_of log.answers key)) logs
length_in key [] = refl
length_in key (log ∷ logs) = length-append (ids_of log.answers key) (ids_in logs key) ∙ ap (λ m. length (ids_of log.answers key) + m) (length_in key logs)

key_counts : (first : ℕ) (report : Report) (key : ℕ) → KeyParts first report key → KeyCounts first report key
key_counts first report key parts =
    let end : first + length (ids_in report.lanes key) ≡ parts.next = ap (λ m. first + m) (length_in key report.lanes) ∙ parts.count in
    record {
      once = λ n. rw end (times_in n key report.lanes ∙ parts.once n);
      most = rw end (let most = parts.most in omega arith);
      spent = λ spent. end ∙ parts.dry spent;
    }

-- ---- the report

pub legal : (script : Script) (first : ℕ) (report : Report) → Parts script first report → Legal script first report
legal script first report parts = record {
  lanes = record { within = parts.named; each = λ lane log at. lane_matches script report lane log (parts.lanes lane log at) };
  journal = record { runs = parts.runs; notes = parts.notes };
  lines = record { within = parts.within; each = λ lane log at. lane_whole (steps_of report.journal) report.shards lane log.lines log.answers (parts.lanes lane log at).meets };
  shards = record { eight = parts.eight; judges = parts.judges; within = parts.judged_within; rise = all_rise script first report parts };
  ids = record { each = λ key. key_counts first report key (parts.keys key); rise = λ lane log key at. (parts.keys key).rise lane log at };
  removals = rw parts.notes (removals_noted report.journal parts.runs);
  released = parts.released;
}
