-- A journal as a run of the serial peer table from the empty one.
use Rattle.std.specs.Prelude.{ℕ, ◌+◌, ◌≡◌, List, [], ◌∷◌, ◌++◌, map}
use Rattle.ov_model.specs.declared.entry.Entry.{Entry}
use Rattle.ov_model.specs.declared.note.Note.{Note}
use Rattle.ov_model.specs.declared.note.NoteBody.{NoteBody}
use Rattle.ov_model.specs.Tables.{Table, empty_table}
use Rattle.ov_model.specs.Step.{step, May}

-- The table after the calls of some entries.
abbrev pub table_after : Table → List Entry → Table
table_after t [] = t
table_after t (e ∷ es) = table_after (step t e.call).after es

-- Each entry was allowed where it stands and has the reply of the serial step.
abbrev pub Follows : Table → List Entry → Type 0
Follows t [] = Unit {0}
Follows t (e ∷ es) = May t e.call × ((step t e.call).reply ≡ e.reply) × Follows (step t e.call).after es

-- The notes of one step, each with its entry's number.
abbrev pub numbered : ℕ → List NoteBody → List Note
numbered n bodies = map (λ b. record { entry = n; body = b }) bodies

-- The notes of all steps in order, each with its entry's number.
abbrev pub notes_after : ℕ → Table → List Entry → List Note
notes_after n t [] = []
notes_after n t (e ∷ es) = numbered n (step t e.call).notes ++ notes_after (n + 1) (step t e.call).after es

-- A journal is a run where it follows from the empty table.
abbrev pub IsRun : List Entry → Type 0
IsRun journal = Follows empty_table journal

-- The last table of a run.
abbrev pub last_table : List Entry → Table
last_table journal = table_after empty_table journal

-- The notes of a run.
abbrev pub notes_of : List Entry → List Note
notes_of journal = notes_after 0 empty_table journal
