-- What two threads have done that made a command each at one table.
use Rattle.std.specs.Prelude.{List, [], ◌∷◌}
use Rattle.ov_model.specs.declared.command.Command.{Command}
use Rattle.ov_model.specs.declared.entry.Entry.{Entry}
use Rattle.ov_model.specs.declared.note.Note.{Note}
use Rattle.ov_model.specs.declared.replay.ReplayEntry.{ReplayEntry}
use Rattle.ov_model.specs.declared.reply.Reply.{Reply}
use Rattle.ov_share.specs.Passings.{Passing, OneHistory}
use Rattle.ov_lane.specs.Passes.{Shared, IsFresh, CallDone, LastReleases}

-- Pass 0, of two, made the first command at moment 0 and pass 1 the second, each with the serial table's reply at its place in
-- the one history that both share.
pub record AreCalls (first second : Command) (journal : List Entry) (notes : List Note) (shards : List (List ReplayEntry)) (r s : Reply) : Type 0 where
  pub table : Shared
  pub one_new : Passing
  pub two_new : Passing
  pub one : Passing
  pub two : Passing
  pub fresh : IsFresh table 0 one_new
  pub also_fresh : IsFresh table 1 two_new
  pub called : CallDone one_new one 0 first r
  pub also : CallDone two_new two 0 second s
  pub history : OneHistory 1 journal notes shards (one ∷ two ∷ [])
  pub releases : LastReleases journal
