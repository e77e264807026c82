use Rattle.std.proofs.Common.{◌≡◌, ◌+◌, ◌≤◌, length, get_or}
use Rattle.std.specs.Prelude.{map, drop}
use Rattle.ov_model.specs.declared.hold.Owed.TheVariants as owed
use Rattle.ov_core.specs.Seats as spec
use Rattle.ov_core.proofs.world.owe_taken.Given as goal

abbrev pub invariant-loop-key : goal.invariant-loop-key
invariant-loop-key l = record {
  rest : spec.owe_each l.seats.items l.turn (map owed.Key (drop l.key-index l.taken)) ≡ spec.owe_each l.fn.seats.items l.turn (map owed.Key l.taken);
  long : length l.seats.items ≡ length l.fn.seats.items;
  room : length l.taken ≤ l.key-index + (get_or l.seats.items l.turn spec.empty_seat).spare;
}
