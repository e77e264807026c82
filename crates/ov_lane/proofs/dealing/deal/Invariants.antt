use Rattle.std.proofs.Common.{◌≡◌, ◌+◌, length}
use Rattle.std.specs.List.{AllByRecursion}
use Rattle.std.specs.Vec.{vec_capacity}
use Rattle.ov_ticket.specs.Within.{HasRoom}
use Rattle.ov_lane.specs.Inner.{IsRest, HaveShares, are_fresh}
use Rattle.ov_lane.proofs.dealing.deal.Given as goal

abbrev pub invariant-loop-number : goal.invariant-loop-number
invariant-loop-number l = record {
  rest : IsRest l.words l.number l.whole;
  left : length l.rooms.items + l.number ≡ l.count;
  each : AllByRecursion (λ r. HasRoom r.0) l.rooms.items;
  long : length l.passes.items ≡ l.number;
  fresh : are_fresh l.words l.passes.items;
  shares : HaveShares l.number l.passes.items;
  capacity : vec_capacity l.passes ≡ vec_capacity l.fn.passes;
}
