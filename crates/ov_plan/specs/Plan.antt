-- The plan of the words of the command line.
use Rattle.std.specs.Prelude.{ℕ, ◌<◌, ◌≤◌, ◌≡◌, List, [], Some, map, codes, decimal, unwrap_or}
use Rattle.std.specs.List.{AllByRecursion, join_with_byte}
use Rattle.clap.specs.Words.{Row, fault_of, first_of, matches_of}
use Rattle.ov_plan.specs.Command.{command, number_of}
use Rattle.ov_plan.specs.declared.words.Mode.{Mode}
use Rattle.ov_plan.specs.declared.words.Mode.TheVariants.{Trace, Steps, Lanes, Make, Load}
use Rattle.ov_plan.specs.declared.words.RunPlan.{RunPlan}

-- A text is the decimal number of one of the 64 lanes.
pub record IsLane (text : List ℕ) : Type 0 where
  pub lane : ℕ
  pub below : lane < 64
  pub is : text ≡ decimal lane

-- The text of a schedule: the decimal numbers of its lanes, joined by commas.
pub record IsSchedule (text lanes : List ℕ) : Type 0 where
  pub is : text ≡ join_with_byte 44 (map decimal lanes)
  pub below : AllByRecursion (λ lane. lane < 64) lanes

-- A text is that of a schedule.
abbrev pub HasSchedule : List ℕ → Type 0
HasSchedule text = (lanes : List ℕ) × IsSchedule text lanes

-- The word of a mode.
abbrev pub mode_name : Mode → List ℕ
mode_name Trace = codes "trace"
mode_name Steps = codes "steps"
mode_name Lanes = codes "lanes"
mode_name Make = codes "make"
mode_name Load = codes "load"

-- MODE is the mode's word in the matches.
abbrev pub IsMode : List Row → Mode → Type 0
IsMode rows mode = first_of (codes "mode") rows ≡ Some (mode_name mode)

-- The schedule's text in the matches: empty where the words give none.
abbrev pub schedule_text : List Row → List ℕ
schedule_text rows = unwrap_or (first_of (codes "schedule") rows) []

-- The plan that the command's matches have: MODE is the mode's word, the schedule is that of its text, and each
-- number that of its option, or the option's default.
pub record Plans (rows : List Row) (plan : RunPlan) : Type 0 where
  pub mode : IsMode rows plan.mode
  pub schedule : IsSchedule (schedule_text rows) plan.schedule
  pub lanes : plan.lanes ≡ number_of (codes "lanes") 4 rows
  pub head : plan.head ≡ number_of (codes "head") 0 rows
  pub first_id : plan.first_id ≡ number_of (codes "first-id") 1 rows
  pub seed : plan.seed ≡ number_of (codes "seed") 1 rows
  pub count : plan.count ≡ number_of (codes "count") 1000 rows
  pub turns : plan.turns ≡ number_of (codes "turns") 1000 rows
  pub port : plan.port ≡ number_of (codes "port") 1194 rows

-- The plan of words: clap finds no fault in them, and it is the plan of their matches.
pub record IsPlan (words : List (List ℕ)) (plan : RunPlan) : Type 0 where
  pub matched : fault_of command words ≡ []
  pub plans : Plans (matches_of command words) plan

-- The word that words have as MODE, and the empty one where they have none.
abbrev pub mode_word : List (List ℕ) → List ℕ
mode_word words = unwrap_or (first_of (codes "mode") (matches_of command words)) []

-- How many lanes words give by their option.
abbrev pub lanes_given : List (List ℕ) → ℕ
lanes_given words = number_of (codes "lanes") 4 (matches_of command words)

-- Words are those of a plan.
abbrev pub HasPlan : List (List ℕ) → Type 0
HasPlan words = (plan : RunPlan) × IsPlan words plan

-- Each number of a plan lies in the range of its option.
pub record IsInRange (plan : RunPlan) : Type 0 where
  pub lanes : (1 ≤ plan.lanes) × (plan.lanes ≤ 64)
  pub head : plan.head ≤ 262144
  pub first_id : 1 ≤ plan.first_id
  pub count : (1 ≤ plan.count) × (plan.count ≤ 100000)
  pub turns : 1 ≤ plan.turns
  pub port : (1 ≤ plan.port) × (plan.port ≤ 65344)
