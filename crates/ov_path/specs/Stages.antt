-- The stages of a line's code: the stand of each, the due peers that are left, and the answer at the last ones.
use Rattle.std.specs.Prelude.{ℕ, List, [], Bool, true, false, if◌then◌else◌, ◌&&◌, is_none, drop, Result, Ok, Err}
use Rattle.ov_model.specs.declared.answer.Answer.{Answer}
use Rattle.ov_model.specs.declared.answer.Answer.TheVariants as answer
use Rattle.ov_model.specs.declared.reply.Reply.{Reply}
use Rattle.ov_model.specs.declared.reply.Reply.TheVariants as reply
use Rattle.ov_model.specs.declared.stand.Stand.{Stand}
use Rattle.ov_model.specs.declared.stand.Stand.TheVariants as stand
use Rattle.ov_path.specs.Desks.{first_of}
use Rattle.ov_path.specs.declared.stage.Pinging.{Pinging}
use Rattle.ov_path.specs.declared.stage.Pinging.TheVariants as pinging
use Rattle.ov_path.specs.declared.stage.Pings.{Pings}
use Rattle.ov_path.specs.declared.stage.Stage.{Stage}
use Rattle.ov_path.specs.declared.stage.Stage.TheVariants as stage

-- ---- a tick

-- The stand that the events of a tick's line have.
abbrev pub stand_in : Pinging → Stand
stand_in pinging.Ticked = stand.Replied
stand_in pinging.Skipped = stand.Missed
stand_in (pinging.Looked peer h) = stand.Looked h
stand_in (pinging.Drew peer h d) = stand.Drew h d
stand_in (pinging.Used h u) = stand.Used h u
stand_in (pinging.KeyGiven h u) = stand.KeyGiven h u
stand_in (pinging.PeerGiven h u) = stand.PeerGiven h u

-- The due peers that weren't looked at yet.
abbrev pub left_in : Pings → List ℕ
left_in p = drop p.next p.due

-- A tick that has made no ping yet.
abbrev pub ticked : (expired due : List ℕ) → Pings
ticked expired due = record { expired = expired; due = due; next = 0; outs = [] }

-- Whether a tick holds nothing.
abbrev pub is_pause : Pinging → Bool
is_pause pinging.Ticked = true
is_pause pinging.Skipped = true
is_pause (pinging.PeerGiven h u) = true
is_pause _ = false

-- Whether a tick holds nothing and has no due peer left.
abbrev pub is_ended : Pinging → (left : List ℕ) → Bool
is_ended at left = is_pause at && is_none (first_of left)

-- ---- all stages

-- Where a command's reply leaves its line.
abbrev pub replied_at : Reply → Stage
replied_at (reply.Ticked expired due) = stage.Ticking pinging.Ticked (ticked expired due)
replied_at r = stage.Replied (answer.Reply r)

-- The stand that the events of a line at a stage have.
abbrev pub stand_at : Stage → Stand
stand_at stage.Fresh = stand.Fresh
stand_at (stage.Replied a) = stand.Replied
stand_at (stage.Looked h p) = stand.Looked h
stand_at (stage.Drew h d) = stand.Drew h d
stand_at (stage.Judged h packet) = stand.Judged h
stand_at (stage.Used h u a) = stand.Used h u
stand_at (stage.KeyGiven h u a) = stand.KeyGiven h u
stand_at (stage.PeerGiven h u a) = stand.PeerGiven h u
stand_at (stage.Ticking at p) = stand_in at

-- The due peers that a line at a stage hasn't looked at yet: none but in a tick's.
abbrev pub left_at : Stage → List ℕ
left_at (stage.Ticking at p) = left_in p
left_at _ = []

-- A line's last stages have its answer.
abbrev pub ends : Stage → Result Answer Stage
ends (stage.Replied a) = Ok a
ends (stage.PeerGiven h u a) = Ok a
ends stage.Fresh = Err stage.Fresh
ends (stage.Looked h p) = Err (stage.Looked h p)
ends (stage.Drew h d) = Err (stage.Drew h d)
ends (stage.Judged h packet) = Err (stage.Judged h packet)
ends (stage.Used h u a) = Err (stage.Used h u a)
ends (stage.KeyGiven h u a) = Err (stage.KeyGiven h u a)
ends (stage.Ticking at p) = if is_ended at (left_in p) then Ok (answer.Ticked p.expired p.outs) else Err (stage.Ticking at p)
