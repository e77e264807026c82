-- What contracts see of a seat inside the lock, and the kept value that it has.
use Rattle.std.specs.Prelude.{◌≡◌, ℕ, List, refl}
use Rattle.atomic_table.specs.Lent.{seat_with}
use Rattle.ov_turn.specs.declared.kept.Kept.{Ghosts}
use Rattle.ov_turn.specs.declared.lock.TicketLock.{TicketLock}
use Rattle.ov_turn.specs.declared.lock.LockSeat.{LockSeat}
use Rattle.ov_turn.specs.declared.inside.Inside.{Inside}
use Rattle.ov_turn.specs.Slots.{kept_in}

module _ {S I : Type 0} where
  -- the seat is inside this lock
  abbrev pub IsIn : TicketLock S I → Inside S I → Type 0
  IsIn lock it = it.seat.table_id ≡ lock.table.shared.table_id

  -- the seat's part of the 4294967296 shares
  abbrev pub share_in : Inside S I → ℕ
  share_in it = it.seat.me.0.share

  -- the history at the last append, or at enter where there was none
  abbrev pub seen_in : Inside S I → List I
  seen_in it = it.seat.me.0.seen

  -- its own entries, each with its position in the history
  abbrev pub own_in : Inside S I → List (ℕ × I)
  own_in it = it.seat.me.0.own

  -- the cells that it holds
  abbrev pub holds_in : Inside S I → List ℕ
  holds_in it = it.seat.me.0.holds

  -- the cells whose release it owes
  abbrev pub owes_in : Inside S I → List ℕ
  owes_in it = it.seat.me.0.owes

  -- the cells that were live at the last append, or at enter where there was none
  abbrev pub live_in : Inside S I → List ℕ
  live_in it = it.seat.me.0.live

  -- the cells that were dying at the last append, or at enter where there was none
  abbrev pub dying_in : Inside S I → List ℕ
  dying_in it = it.seat.me.0.dying

  -- the cells that are left to link
  abbrev pub to_link_in : Inside S I → List ℕ
  to_link_in it = it.seat.me.0.to_link

  -- the cells that are left to unlink
  abbrev pub to_unlink_in : Inside S I → List ℕ
  to_unlink_in it = it.seat.me.0.to_unlink

  -- the number of the lock's cells
  abbrev pub cells_in : Inside S I → ℕ
  cells_in it = it.seat.me.0.cells

  -- the kept value
  abbrev pub kept_of : Inside S I → S
  kept_of it = kept_in it.seat.me.1 it.slot.0

  -- the same seat with the kept value w
  abbrev pub inside_with : Inside S I → S → Inside S I
  inside_with it w = record { lock = it.lock; seat = seat_with it.seat 0 w; here = it.here; slot = (refl, it.slot.1); place = it.place; fit = it.fit }

  -- the same lock, with the same share
  abbrev pub IsSame : Inside S I → Inside S I → Type 0
  IsSame old new = (new.seat.table_id ≡ old.seat.table_id) × (share_in new ≡ share_in old) × (cells_in new ≡ cells_in old)

  -- the same but for the holds, the owed cells and what is left to link and to unlink
  abbrev pub IsSteady : Inside S I → Inside S I → Type 0
  IsSteady old new =
      IsSame old new
      × (kept_of new ≡ kept_of old)
      × (seen_in new ≡ seen_in old)
      × (own_in new ≡ own_in old)
      × (live_in new ≡ live_in old)
      × (dying_in new ≡ dying_in old)

module _ {S I : Type 0} {K : Ghosts S I} where
  -- the seat is one of the lock that it was inside
  abbrev pub IsBackFrom : Inside S I → LockSeat S I K → Type 0
  IsBackFrom it seat = seat.seat.table_id ≡ it.seat.table_id
