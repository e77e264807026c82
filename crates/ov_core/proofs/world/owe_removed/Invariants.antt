use Rattle.std.proofs.Common.{◌≡◌, ◌+◌, ◌≤◌, length, get_or}
use Rattle.std.specs.Prelude.{map, drop}
use Rattle.ov_model.specs.declared.hold.Owed.TheVariants as owed
use Rattle.ov_core.specs.Seats as spec
use Rattle.ov_core.proofs.world.owe_removed.Given as goal

abbrev pub invariant-loop-peer : goal.invariant-loop-peer
invariant-loop-peer l = record {
  rest : spec.owe_each l.seats.items l.turn (map owed.Peer (drop l.peer-index l.gone)) ≡ spec.owe_each l.fn.seats.items l.turn (map owed.Peer l.gone);
  long : length l.seats.items ≡ length l.fn.seats.items;
  room : length l.gone ≤ l.peer-index + (get_or l.seats.items l.turn spec.empty_seat).spare;
}
