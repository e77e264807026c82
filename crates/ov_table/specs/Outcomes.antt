-- What one step of the lists of peers and keys gives besides the lists.
use Rattle.std.specs.Prelude.{ℕ, List, [], ◌∷◌, ◌++◌, Option, Some, None}
use Rattle.ov_model.specs.declared.reply.Reply.{Reply}
use Rattle.ov_model.specs.declared.note.NoteBody.{NoteBody}
use Rattle.ov_model.specs.Tables.{Table}
use Rattle.ov_model.specs.Step as model
use Rattle.ov_table.specs.declared.outcome.Outcome.{Outcome}

-- The note of a step, or none.
abbrev pub note_list : Option NoteBody → List NoteBody
note_list None = []
note_list (Some body) = body ∷ []

-- The serial of a key that was taken, or none.
abbrev pub serial_list : Option ℕ → List ℕ
serial_list None = []
serial_list (Some key) = key ∷ []

-- The outcome of a step that takes at most two keys out of their slots.
abbrev pub outcome_with : Table → Reply → Option NoteBody → (first second : Option ℕ) → model.Outcome
outcome_with after reply note first second = record { after = after; reply = reply; taken = serial_list first ++ serial_list second; notes = note_list note }

-- The outcome of a step that takes at most two keys out of their slots.
abbrev pub outcome : Table → Outcome → model.Outcome
outcome after o = outcome_with after o.reply o.note o.first o.second
