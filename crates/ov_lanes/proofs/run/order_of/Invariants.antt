use Rattle.std.proofs.Common.{◌≡◌, ◌≤◌}
use Rattle.std.specs.Prelude.{map, take}
use Rattle.ov_lanes.proofs.run.order_of.Given as goal

abbrev pub invariant-loop-line : goal.invariant-loop-line
invariant-loop-line l = (l.order.items ≡ map (λ line. line.lane) (take l.line-index l.lines)) × (l.line-index ≤ l.fn.head)
