use Rattle.std.proofs.Common.{[], ◌≤◌}
use Rattle.ov_lanes.specs.Dealt.{AreDealt}
use Rattle.ov_lanes.proofs.run.deal.Given as goal

abbrev pub invariant-loop-lane : goal.invariant-loop-lane
invariant-loop-lane l = AreDealt [] l._lane l.dealt.items × (l._lane ≤ l.lanes)

abbrev pub invariant-loop-line : goal.invariant-loop-line
invariant-loop-line l = AreDealt l.yielded l.lanes l.dealt.items
