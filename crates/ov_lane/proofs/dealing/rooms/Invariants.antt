use Rattle.std.proofs.Common.{◌≡◌, length}
use Rattle.std.specs.List.{AllByRecursion}
use Rattle.ov_ticket.specs.Within.{HasRoom}
use Rattle.ov_lane.proofs.dealing.rooms.Given as goal

abbrev pub invariant-loop-number : goal.invariant-loop-number
invariant-loop-number l = record {
  long : length l.rooms.items ≡ l._number;
  each : AllByRecursion (λ r. HasRoom r.0) l.rooms.items;
}
