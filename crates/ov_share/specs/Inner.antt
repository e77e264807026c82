-- What a share's seat of the lock is, where there is one: it is out only while a step has it.
use Rattle.std.specs.Prelude.{[], Option, Some, None}
use Rattle.ov_turn.specs.declared.kept.Kept.{Ghosts}
use Rattle.ov_turn.specs.declared.lock.LockSeat.{LockSeat}
use Rattle.ov_turn.specs.Seats.{Name, Sight, name_of_seat, sight_of}
use Rattle.ov_model.specs.declared.entry.Entry.{Entry}

module _ {S : Type 0} {K : Ghosts S Entry} where
  -- What the seat has.
  abbrev pub sight_in : Option (LockSeat S Entry K) → Sight Entry
  sight_in (Some seat) = sight_of seat
  sight_in None = record { share = 0; seen = []; own = []; holds = []; owes = [] }

  -- Whose seat it is.
  abbrev pub name_in : Option (LockSeat S Entry K) → Option Name
  name_in (Some seat) = Some (name_of_seat seat)
  name_in None = None

  -- There is a seat.
  abbrev pub IsThere : Option (LockSeat S Entry K) → Type 0
  IsThere (Some seat) = Unit {0}
  IsThere None = ⊥
