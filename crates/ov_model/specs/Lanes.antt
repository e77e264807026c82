-- A lane that runs: the form of LaneMeets that holds while its next line is under way, and shards with one more step.
use Rattle.std.specs.Prelude.{ℕ, ◌≡◌, ◌<◌, ◌≤◌, zero, suc, List, [], ◌∷◌, ◌++◌, Option, length}
use Rattle.std.specs.List.{AllByRecursion}
use Rattle.ov_base.specs.declared.address.Addr.{Addr}
use Rattle.ov_model.specs.declared.line.Line.{Line}
use Rattle.ov_model.specs.declared.answer.Answer.{Answer}
use Rattle.ov_model.specs.declared.replay.ReplayEntry.{ReplayEntry}
use Rattle.ov_model.specs.Events.{Step, Judgement, of, shown_in}
use Rattle.ov_model.specs.Tables.{Material}
use Rattle.ov_model.specs.Legal.{Meets, NeverFall}

-- The first lines of the lane are answered, and the next one, if it began, has made the steps `now` and the
-- replay steps `judged` so far. No step is of a later line.
pub record LaneRuns (material : ℕ → Option Material) (via : Addr → Addr) (steps : List Step) (shards : List (List ReplayEntry)) (lane : ℕ) (lines : List Line) (answers : List Answer) (now : List Step) (judged : List Judgement) : Type 0 where
  pub within : AllByRecursion (λ s. s.entry.place.lane ≡ lane → s.entry.place.line ≤ length answers) steps
  pub judged_within : AllByRecursion (λ shard. AllByRecursion (λ r. r.place.lane ≡ lane → r.place.line ≤ length answers) shard) shards
  pub falls : NeverFall lane steps
  pub each : (i : ℕ) → i < length answers → Meets material via steps shards lane lines answers i
  pub under_way : of steps lane (length answers) ≡ now
  pub judging : shown_in shards lane (length answers) ≡ judged

-- The shards with one more step at the end of one of them.
abbrev pub judged_in : List (List ReplayEntry) → ℕ → ReplayEntry → List (List ReplayEntry)
judged_in [] k r = []
judged_in (rs ∷ shards) zero r = (rs ++ r ∷ []) ∷ shards
judged_in (rs ∷ shards) (suc k) r = rs ∷ judged_in shards k r
