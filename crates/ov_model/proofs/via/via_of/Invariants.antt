use Rattle.std.proofs.Common.{◌≡◌}
use Rattle.std.specs.Prelude.{None, drop}
use Rattle.ov_model.specs.Via as via
use Rattle.ov_model.proofs.via.via_of.Given as goal

-- What is left makes of the best so far what all routes make of none.
abbrev pub invariant-loop-route : goal.invariant-loop-route
invariant-loop-route l = record {
  rest : via.longest l.addr l.best (drop l.route-index l.routes) ≡ via.longest l.addr None l.routes;
}
