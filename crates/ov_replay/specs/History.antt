-- What callers see of a shard.
use Rattle.std.specs.Prelude.{ℕ, List}
use Rattle.ov_model.specs.declared.replay.ReplayEntry.{ReplayEntry}

-- A shard's number and its steps so far.
pub record History : Type 0 where
  pub number : ℕ
  pub entries : List ReplayEntry
