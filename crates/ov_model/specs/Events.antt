-- What happens while a line runs: steps of the peer table and of the replay shards.
use Rattle.std.specs.Prelude.{ℕ, List, [], ◌∷◌, ◌++◌, Bool, ◌==◌, ◌&&◌, filter, map}
use Rattle.ov_model.specs.declared.place.Place.{Place}
use Rattle.ov_model.specs.declared.act.Act.{Act}
use Rattle.ov_model.specs.declared.act.Act.TheVariants as act
use Rattle.ov_model.specs.declared.entry.Entry.{Entry}
use Rattle.ov_model.specs.declared.draw.Drawn.{Drawn}
use Rattle.ov_model.specs.declared.draw.Drawn.TheVariants as drawn
use Rattle.ov_model.specs.declared.hold.Given.{Given}
use Rattle.ov_model.specs.declared.hold.Owed.{Owed}
use Rattle.ov_model.specs.declared.hold.Owed.TheVariants as owed
use Rattle.ov_model.specs.declared.reply.Reply.{Reply}
use Rattle.ov_model.specs.declared.reply.Reply.TheVariants as reply
use Rattle.ov_model.specs.declared.replay.Verdict.{Verdict}
use Rattle.ov_model.specs.declared.replay.ReplayEntry.{ReplayEntry}
use Rattle.ov_model.specs.Tables.{Table, empty_table}
use Rattle.ov_model.specs.Step.{step}

-- An entry of the journal with the serials of the keys that its step took out of a slot.
pub record Step : Type 0 where
  pub entry : Entry
  pub taken : List ℕ

-- A replay step as the line that made it sees it: the window's own moment isn't the line's business.
pub record Judgement : Type 0 where
  pub place : Place
  pub key : ℕ
  pub id : ℕ
  pub at : ℕ
  pub verdict : Verdict

-- What happens while a line runs, in its order: a step of the table, a replay step, a draw of a packet
-- id, and the two give-backs of a hold.
pub data Event : Type 0 where
  Stepped : Step → Event
  Judged : Judgement → Event
  Drew : (key : ℕ) → Drawn → Event
  GaveKey : (key : ℕ) → Given → Event
  GavePeer : (peer : ℕ) → Given → Event

-- The table's steps among some events.
abbrev pub steps_in : List Event → List Step
steps_in [] = []
steps_in (Stepped s ∷ es) = s ∷ steps_in es
steps_in (Judged j ∷ es) = steps_in es
steps_in (Drew key d ∷ es) = steps_in es
steps_in (GaveKey key g ∷ es) = steps_in es
steps_in (GavePeer peer g ∷ es) = steps_in es

-- The replay steps among some events.
abbrev pub judgements_in : List Event → List Judgement
judgements_in [] = []
judgements_in (Stepped s ∷ es) = judgements_in es
judgements_in (Judged j ∷ es) = j ∷ judgements_in es
judgements_in (Drew key d ∷ es) = judgements_in es
judgements_in (GaveKey key g ∷ es) = judgements_in es
judgements_in (GavePeer peer g ∷ es) = judgements_in es

-- A packet id that was drawn of a key.
pub record DrawnId : Type 0 where
  pub key : ℕ
  pub id : ℕ

-- What a draw gave: an id, or none of a spent key.
abbrev pub drawn_id : ℕ → Drawn → List DrawnId
drawn_id key (drawn.Id n) = record { key = key; id = n } ∷ []
drawn_id key drawn.Spent = []

-- The draws among some events.
abbrev pub draws_in : List Event → List DrawnId
draws_in [] = []
draws_in (Stepped s ∷ es) = draws_in es
draws_in (Judged j ∷ es) = draws_in es
draws_in (Drew key d ∷ es) = drawn_id key d ++ draws_in es
draws_in (GaveKey key g ∷ es) = draws_in es
draws_in (GavePeer peer g ∷ es) = draws_in es

-- The steps of a run, each with what it took.
abbrev pub steps_after : Table → List Entry → List Step
steps_after t [] = []
steps_after t (e ∷ es) = record { entry = e; taken = (step t e.call).taken } ∷ steps_after (step t e.call).after es

-- The steps of a journal from the empty table on.
abbrev pub steps_of : List Entry → List Step
steps_of journal = steps_after empty_table journal

-- A replay step as its line sees it.
abbrev pub judgement_of : ReplayEntry → Judgement
judgement_of r = record { place = r.place; key = r.key; id = r.id; at = r.at; verdict = r.verdict }

-- Whether a place is a lane's line.
abbrev pub is_at : ℕ → ℕ → Place → Bool
is_at lane line p = (p.lane == lane) && (p.line == line)

-- The steps that one line made, in order.
abbrev pub of : List Step → ℕ → ℕ → List Step
of steps lane line = filter (λ s. is_at lane line s.entry.place) steps

-- The replay steps that one line made in one shard, in their order.
abbrev pub shown : List ReplayEntry → ℕ → ℕ → List Judgement
shown shard lane line = map judgement_of (filter (λ r. is_at lane line r.place) shard)

-- The replay steps that one line made in all shards, those of each shard in turn.
abbrev pub shown_in : List (List ReplayEntry) → ℕ → ℕ → List Judgement
shown_in [] lane line = []
shown_in (shard ∷ shards) lane line = shown shard lane line ++ shown_in shards lane line

-- The step of a call with its reply.
abbrev pub step_of : Place → ℕ → Act → Reply → List ℕ → Step
step_of place at a r taken = record { entry = record { place = place; call = record { at = at; act = a }; reply = r }; taken = taken }

-- The step that lets a peer or a key go.
abbrev pub release_of : Place → ℕ → Owed → Step
release_of place at (owed.Peer p) = step_of place at (act.Released p) (reply.Released p) []
release_of place at (owed.Key k) = step_of place at (act.KeyReleased k) (reply.KeyReleased k) []

-- The releases that a line made, in order.
abbrev pub releases : Place → ℕ → List Owed → List Step
releases place at os = map (release_of place at) os
