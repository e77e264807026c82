-- How many turns a lane's line may still have.
use Rattle.std.specs.Prelude.{ℕ, ◌+◌, ◌*◌, length, get_or}
use Rattle.ov_model.specs.declared.stand.Stand.{Stand}
use Rattle.ov_model.specs.declared.stand.Stand.TheVariants as stand
use Rattle.ov_path.specs.declared.stage.Stage.{Stage}
use Rattle.ov_path.specs.Stages.{stand_at, left_at}
use Rattle.ov_core.specs.Worlds.{World, no_line}

-- How many kinds of events may still come, by the stand.
abbrev pub stages_left : Stand → ℕ
stages_left stand.Fresh = 5
stages_left (stand.Looked h) = 4
stages_left (stand.Drew h d) = 3
stages_left (stand.Judged h) = 3
stages_left (stand.Used h u) = 2
stages_left (stand.KeyGiven h u) = 1
stages_left stand.Replied = 0
stages_left stand.Missed = 0
stages_left (stand.PeerGiven h u) = 0

-- A number that falls with each turn of lane i's line, which stands at a stage, from its second turn on: a release
-- takes one of those that are owed, the look-up of a due peer leaves one less of them, and each other event goes to
-- a later stage; but for a release, an event leaves at most one release owed.
abbrev pub turns_left : World → ℕ → Stage → ℕ
turns_left w i at = 10 * length (left_at at) + 2 * stages_left (stand_at at) + length (get_or w.seats i no_line).owing
