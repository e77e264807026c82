-- The peer table together with its record: what it is now, its journal and its notes.
use Rattle.std.specs.Prelude.{ℕ, ◌+◌, ◌≡◌, List, [], ◌∷◌, ◌++◌, length, Bool, true, false, Option, Some, None}
use Rattle.ov_model.specs.declared.place.Place.{Place}
use Rattle.ov_model.specs.declared.act.Act.{Act}
use Rattle.ov_model.specs.declared.act.Act.TheVariants as act
use Rattle.ov_model.specs.declared.command.Command.TheVariants as command
use Rattle.ov_model.specs.declared.act.Call.{Call}
use Rattle.ov_model.specs.declared.entry.Entry.{Entry}
use Rattle.ov_model.specs.declared.note.Note.{Note}
use Rattle.ov_model.specs.declared.hold.Owed.{Owed}
use Rattle.ov_model.specs.declared.hold.Owed.TheVariants as owed
use Rattle.ov_model.specs.Tables.{Key, Peer, Table, empty_table}
use Rattle.ov_model.specs.Step.{step}
use Rattle.ov_model.specs.Runs.{IsRun, last_table, notes_of, numbered}

-- The peer table with its record: `now` is the table after all steps so far, `journal` their entries,
-- `notes` their notifications, `taken` the serials of the keys that the last step took out of a slot, in
-- order.
pub record Recorded : Type 0 where
  pub now : Table
  pub journal : List Entry
  pub notes : List Note
  pub taken : List ℕ

-- No step was made yet.
abbrev pub no_steps : Recorded
no_steps = record { now = empty_table; journal = []; notes = []; taken = [] }

-- The entry of a call that is made at some table.
abbrev pub entry_of : Table → Place → Call → Entry
entry_of t place call = record { place = place; call = call; reply = (step t call).reply }

-- One step further: the serial step, its one entry, and its notes with the entry's number.
abbrev pub stepped : Recorded → Place → Call → Recorded
stepped r place call = record { now = (step r.now call).after; journal = r.journal ++ entry_of r.now place call ∷ []; notes = r.notes ++ numbered (length r.journal) (step r.now call).notes; taken = (step r.now call).taken }

-- The journal is a run, the table is the run's last one, and the notes are the run's.
pub record IsTold (r : Recorded) : Type 0 where
  pub run : IsRun r.journal
  pub last : last_table r.journal ≡ r.now
  pub notes : r.notes ≡ notes_of r.journal

-- Whether an act lets a removed peer or a retired key go.
abbrev pub is_release : Act → Bool
is_release (act.Released serial) = true
is_release (act.KeyReleased serial) = true
is_release _ = false

-- Whether an act may remove many peers at once.
abbrev pub is_sweep : Act → Bool
is_sweep (act.Do command.Tick) = true
is_sweep (act.Do command.Down) = true
is_sweep _ = false

-- How many releases may come before another step: of the peers, and of the keys that are out of their slots.
abbrev pub unreleased : Table → ℕ
unreleased t = length t.live + length t.dying + length t.retired

-- What may be let go first: the first of the retired keys, or else the first of the dying peers.
abbrev pub waiting_of : List Key → List Peer → Option Owed
waiting_of (k ∷ keys) peers = Some (owed.Key k.serial)
waiting_of [] (p ∷ peers) = Some (owed.Peer p.serial)
waiting_of [] [] = None

-- What a table may let go first.
abbrev pub first_waiting : Table → Option Owed
first_waiting t = waiting_of t.retired t.dying
