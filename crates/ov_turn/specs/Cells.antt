-- What a step on a cell asks, and what it tells: for the crate of holds alone.
use Rattle.std.specs.Prelude.{◌≡◌, ℕ, ◌+◌, ◌-◌, ◌%◌, ◌^◌, true, List}
use mathlib.Core.Option.{none}
use Rattle.atomic_table.specs.Table.{Me, Step, step, Allows}
use Rattle.ov_turn.specs.declared.kept.Kept.{Ghosts}
use Rattle.ov_turn.specs.declared.view.View.{View}
use Rattle.ov_turn.specs.declared.lock.TicketLock.{TicketLock}
use Rattle.ov_turn.specs.declared.lock.LockSeat.{LockSeat}
use Rattle.ov_turn.specs.declared.inside.Inside.{Inside}
use Rattle.ov_turn.specs.Views.{holds_fit, lists_fit}
use Rattle.ov_turn.specs.TurnRule.{IsTurned}
use Rattle.ov_turn.specs.Steps.{holding}

-- what a step tells
abbrev pub Told : Type 0 → Type 0 → Type 1
Told S I = Step S → Me S (View I) → ℕ → Me S (View I) → Type 0

module _ {S I : Type 0} where
  -- the same seat with other holds, other owed cells and other cells to link and to unlink, all of which are cells of the table
  abbrev pub stays_inside : Told S I → Told S I
  stays_inside then st m n w =
      (w ≡ (holding m.0 w.0.holds w.0.owes w.0.to_link w.0.to_unlink, m.1))
      × (holds_fit w.0 ≡ true)
      × (lists_fit w.0 ≡ true)
      × then st m n w

  -- the same seat with other holds and other owed cells
  abbrev pub stays_outside : Told S I → Told S I
  stays_outside then st m n w =
      (w ≡ (holding m.0 w.0.holds w.0.owes m.0.to_link m.0.to_unlink, m.1))
      × (holds_fit w.0 ≡ true)
      × then st m n w

  -- the step on a cell's word, by k
  abbrev pub on_cell : TicketLock S I → ℕ → ℕ → Step S
  on_cell lock cell k = step lock.table.shared.table_id.slots (3 + cell) k 0 none

  -- the step told this of the seat inside that added to the cell's word
  abbrev pub added : Told S I → Inside S I → ℕ → ℕ → ℕ → Inside S I → Type 0
  added then old cell k n new = then (on_cell old.lock.now cell k) old.seat.me n new.seat.me

  -- the step told this of the seat inside that subtracted from the cell's word
  abbrev pub subtracted : Told S I → Inside S I → ℕ → ℕ → ℕ → Inside S I → Type 0
  subtracted then old cell k n new = then (on_cell old.lock.now cell k) old.seat.me n new.seat.me

module _ {S I : Type 0} (history : S → List I) (live dying : S → List ℕ) (then : Told S I) where
  -- a step that adds keeps the rule, and tells this
  abbrev pub MayAdd : Inside S I → ℕ → ℕ → Type 0
  MayAdd it cell k = Allows (IsTurned history live dying it.lock.now.table.shared.key) it.lock.now.table.shared.table_id.slots it.seat.id it.seat.me (3 + cell) (λ n. (n + k) % 2 ^ 64) (stays_inside then (on_cell it.lock.now cell k) it.seat.me)

  -- a step that subtracts keeps the rule, and tells this
  abbrev pub MaySubtract : Inside S I → ℕ → ℕ → Type 0
  MaySubtract it cell k = Allows (IsTurned history live dying it.lock.now.table.shared.key) it.lock.now.table.shared.table_id.slots it.seat.id it.seat.me (3 + cell) (λ n. (n + (2 ^ 64 - k)) % 2 ^ 64) (stays_inside then (on_cell it.lock.now cell k) it.seat.me)

module _ {S I : Type 0} {K : Ghosts S I} where
  -- a step that a seat outside subtracts by keeps the rule, and tells this
  abbrev pub MayReturn : (S → List I) → (S → List ℕ) → (S → List ℕ) → Told S I → TicketLock S I → LockSeat S I K → ℕ → ℕ → Type 0
  MayReturn history live dying then lock seat cell k = Allows (IsTurned history live dying lock.table.shared.key) lock.table.shared.table_id.slots seat.seat.id seat.seat.me (3 + cell) (λ n. (n + (2 ^ 64 - k)) % 2 ^ 64) (stays_outside then (on_cell lock cell k) seat.seat.me)

  -- the step told this of the seat outside that subtracted from the cell's word
  abbrev pub returned : Told S I → TicketLock S I → LockSeat S I K → ℕ → ℕ → ℕ → LockSeat S I K → Type 0
  returned then lock old cell k n new = then (on_cell lock cell k) old.seat.me n new.seat.me
