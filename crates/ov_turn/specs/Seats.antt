-- What contracts see of a seat outside the lock.
use Rattle.std.specs.Prelude.{◌≡◌, ℕ, List, []}
use Rattle.atomic_table.specs.Seated.{TableId}
use Rattle.ov_turn.specs.declared.kept.Kept.{Ghosts}
use Rattle.ov_turn.specs.declared.lock.TicketLock.{TicketLock}
use Rattle.ov_turn.specs.declared.lock.LockSeat.{LockSeat}

-- which lock it is: no two locks have one name
abbrev pub Name : Type 0
Name = TableId

-- what a seat has, all at once
pub record Sight (I : Type 0) : Type 0 where
  pub share : ℕ
  pub seen : List I
  pub own : List (ℕ × I)
  pub holds : List ℕ
  pub owes : List ℕ

module _ {S I : Type 0} where
  -- the lock's name
  abbrev pub name_of : TicketLock S I → Name
  name_of lock = lock.table.shared.table_id

  -- the number of cells
  abbrev pub cells_of : TicketLock S I → ℕ
  cells_of lock = lock.table.shared.key

module _ {S I : Type 0} {K : Ghosts S I} where
  -- the seat is one of this lock's
  abbrev pub IsSeatOf : TicketLock S I → LockSeat S I K → Type 0
  IsSeatOf lock seat = seat.seat.table_id ≡ lock.table.shared.table_id

  -- the seat's part of the 4294967296 shares
  abbrev pub share_of : LockSeat S I K → ℕ
  share_of seat = seat.seat.me.0.share

  -- the history that the seat has seen
  abbrev pub seen_of : LockSeat S I K → List I
  seen_of seat = seat.seat.me.0.seen

  -- its own entries, each with its position in the history
  abbrev pub own_of : LockSeat S I K → List (ℕ × I)
  own_of seat = seat.seat.me.0.own

  -- the cells that it holds
  abbrev pub holds_of : LockSeat S I K → List ℕ
  holds_of seat = seat.seat.me.0.holds

  -- the cells whose release it owes
  abbrev pub owes_of : LockSeat S I K → List ℕ
  owes_of seat = seat.seat.me.0.owes

  -- the name of the lock whose seat it is
  abbrev pub name_of_seat : LockSeat S I K → Name
  name_of_seat seat = seat.seat.table_id

  -- all that it has
  abbrev pub sight_of : LockSeat S I K → Sight I
  sight_of seat = record { share = share_of seat; seen = seen_of seat; own = own_of seat; holds = holds_of seat; owes = owes_of seat }

  -- the seat that a lock begins with: it has the whole share and nothing else
  abbrev pub IsNew : LockSeat S I K → Type 0
  IsNew seat = (share_of seat ≡ 4294967296) × (seen_of seat ≡ []) × (own_of seat ≡ []) × (holds_of seat ≡ []) × (owes_of seat ≡ [])
