-- What the windows of some keys stand for, and what is true of the history of their steps.
use Rattle.std.specs.Prelude.{◌≡◌, ℕ, ◌%◌, max, List, [], ◌++◌, Option, None, Some, slice_get, take}
use Rattle.std.specs.BTreeMap.{BTreeMap, get, Updates}
use Rattle.std.specs.Ordering.{nat_cmp}
use Rattle.ov_model.specs.Limits.{shard_count}
use Rattle.ov_model.specs.Replay.{Accepted, IsJudged, steps_of, accepts_of, accepted_by, moment_of, verdict_of}
use Rattle.ov_model.specs.declared.replay.ReplayEntry.{ReplayEntry}
use Rattle.ov_model.specs.declared.replay.Verdict.{Verdict}
use Rattle.ov_replay.specs.Window.{Stands}
use Rattle.ov_replay.specs.declared.window.Window.{Window}

-- Each step of any keys has the moment and the verdict that follow from its key's earlier steps.
abbrev pub EachJudged : List ReplayEntry → Type 0
EachJudged es = (i : ℕ) (e : ReplayEntry) → slice_get es i ≡ Some e → IsJudged (e.key % shard_count) (take i es) e

-- A key's window stands for what its steps accepted; a key without a window has made no step.
abbrev pub WindowStands : Option Window → List ReplayEntry → Type 0
WindowStands None steps = steps ≡ []
WindowStands (Some w) steps = Stands w (accepts_of steps) (moment_of steps)

-- The steps are judged, and each key's window stands for its steps.
pub record IsCourse (windows : BTreeMap ℕ Window) (entries : List ReplayEntry) : Type 0 where
  pub judged : EachJudged entries
  pub standing : (key : ℕ) → WindowStands (get nat_cmp windows key) (steps_of key entries)

-- A step on a window: whatever list it stood for, the verdict is the rule's at the later moment, and the window stands for the list with what the verdict adds.
abbrev pub WindowJudges : (was now : Window) → (id at : ℕ) → Verdict → (moment : ℕ) → Type 0
WindowJudges was now id at verdict moment = (l : List Accepted) (m : ℕ) → Stands was l m
    → (moment ≡ max m at) × (verdict ≡ verdict_of l id moment) × Stands now (l ++ accepted_by verdict id moment) moment

-- A step of a key: the key's window, or a new one where it had none, made the step and lies in its place, and no other key's window changed.
pub record Judges (before after : BTreeMap ℕ Window) (key id at : ℕ) (verdict : Verdict) (moment : ℕ) : Type 0 where
  pub was : Window
  pub now : Window
  pub stood : (steps : List ReplayEntry) → WindowStands (get nat_cmp before key) steps → Stands was (accepts_of steps) (moment_of steps)
  pub judged : WindowJudges was now id at verdict moment
  pub updates : Updates nat_cmp before after key (Some now)
