-- The list of the notes so far, with the room that was made for more.
use Rattle.std.specs.Prelude.{ℕ, List}
use Rattle.ov_model.specs.declared.note.Note.{Note}

-- The notes so far in their order, and how many more may be added before room has to be made again.
pub record Noted : Type 0 where
  pub notes : List Note
  pub room : ℕ
