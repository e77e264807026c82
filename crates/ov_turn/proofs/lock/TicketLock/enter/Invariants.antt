use Rattle.std.proofs.Common.{◌≡◌, ℕ, ◌%◌, ◌^◌, []}
use Rattle.ov_turn.specs.Steps.{in_line}
use Rattle.ov_turn.proofs.lock.TicketLock.enter.Given as goal

-- the seat stands in line with its ticket
abbrev pub invariant-loop : goal.invariant-loop
invariant-loop g l = (l.seat.table_id ≡ l.fn.seat.seat.table_id) × (l.seat.me.1 ≡ []) × ((t : ℕ) × (l.ticket ≡ t % 2 ^ 64) × (l.seat.me.0 ≡ in_line l.fn.seat.seat.me.0 t))
