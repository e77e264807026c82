-- What contracts see of a seat that took a ticket of the lock: what was made under it, and what was seen.
use Rattle.std.specs.Prelude.{◌≡◌, ℕ, List, [], ◌∷◌, ◌++◌, length, map}
use mathlib.Core.List.{IsPrefix}
use Rattle.ov_turn.specs.Seats.{Sight}
use Rattle.ov_model.specs.declared.act.Act.TheVariants as act
use Rattle.ov_model.specs.declared.act.Call.{Call}
use Rattle.ov_model.specs.declared.command.Command.{Command}
use Rattle.ov_model.specs.declared.entry.Entry.{Entry}
use Rattle.ov_model.specs.declared.hold.Owed.{Owed}
use Rattle.ov_model.specs.declared.place.Place.{Place}
use Rattle.ov_model.specs.declared.reply.Reply.{Reply}
use Rattle.ov_model.specs.Step.{step, May}
use Rattle.ov_model.specs.Events.{Event, Stepped, release_of}
use Rattle.ov_model.specs.Path.{SomeOwed, removed}
use Rattle.ov_model.specs.Runs.{IsRun, last_table}
use Rattle.ov_path.specs.Desks.{stepped_as}
use Rattle.ov_table.specs.Recorded.{entry_of}
use Rattle.ov_ticket.specs.Within.{cell_of, release_call, from_position, entries_of, made_by}
use Rattle.ov_ticket.specs.Asks.{got_cells, GotLow, Joined}

-- The call that makes a command.
abbrev pub call_of : ℕ → Command → Call
call_of at command = record { at = at; act = act.Do command }

-- A command was served at some place. At its entry the history was `before`, which begins with what the seat
-- had seen: the reply is the serial table's there. What the seat has seen now ends with this call's entry and
-- the releases `os` that it owed, and these are its new entries, each once.
pub record IsCalled (old new : Sight Entry) (place : Place) (at : ℕ) (command : Command) (r : Reply) : Type 0 where
  pub before : List Entry
  pub os : List Owed
  pub front : IsPrefix old.seen before
  pub run : IsRun new.seen
  pub reply : r ≡ (step (last_table before) (call_of at command)).reply
  pub some : SomeOwed (step (last_table before) (call_of at command)).taken (removed r) os
  pub seen : new.seen ≡ before ++ entries_of (made_by (last_table before) place at command os)
  pub own : new.own ≡ old.own ++ from_position (length before) (entries_of (made_by (last_table before) place at command os))
  pub share : new.share ≡ old.share
  pub holds : new.holds ≡ old.holds
  pub owes : new.owes ≡ []

-- Nothing was made, though more may have been seen.
pub record HasSeen (old new : Sight Entry) : Type 0 where
  pub front : IsPrefix old.seen new.seen
  pub same : new ≡ record old { seen = new.seen }

-- A step was made at some place, under a ticket of its own. At its entry the history was `before`, which begins with what the
-- seat had seen: the reply is the serial table's there. What the seat has seen now is `before` and this entry, which is its
-- own, once more, and the event tells it. It holds what a look-up found, and owes the releases `joined` that the step leaves to it, which are
-- listed behind the others.
pub record StepAt (old new : Sight Entry) (place : Place) (call : Call) (r : Reply) (event : Event) (listed listed' : List Owed) : Type 0 where
  pub before : List Entry
  pub front : IsPrefix old.seen before
  pub run : IsRun before
  pub may : May (last_table before) call
  pub reply : r ≡ (step (last_table before) call).reply
  pub event_is : event ≡ stepped_as place call r (step (last_table before) call).taken
  pub joined : List Owed
  pub joins : Joined call.act r (step (last_table before) call).taken joined
  pub listed_are : listed' ≡ listed ++ joined
  pub seen : new.seen ≡ before ++ entry_of (last_table before) place call ∷ []
  pub own : new.own ≡ old.own ++ (length before, entry_of (last_table before) place call) ∷ []
  pub share : new.share ≡ old.share
  pub holds : new.holds ≡ old.holds ++ got_cells call.act r
  pub owes : new.owes ≡ old.owes ++ map cell_of joined
  pub low : GotLow call.act r

-- The release that is listed first was made at some place, under a ticket of its own, and is listed and owed no more.
pub record ReleasedAt (old new : Sight Entry) (place : Place) (at : ℕ) (event : Event) (listed listed' : List Owed) : Type 0 where
  pub first : Owed
  pub listed_was : listed ≡ first ∷ listed'
  pub before : List Entry
  pub front : IsPrefix old.seen before
  pub run : IsRun before
  pub may : May (last_table before) (release_call at first)
  pub event_is : event ≡ Stepped (release_of place at first)
  pub seen : new.seen ≡ before ++ (release_of place at first).entry ∷ []
  pub own : new.own ≡ old.own ++ (length before, (release_of place at first).entry) ∷ []
  pub share : new.share ≡ old.share
  pub holds : new.holds ≡ old.holds
  pub owes : new.owes ≡ map cell_of listed'
