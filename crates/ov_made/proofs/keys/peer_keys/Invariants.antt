use Rattle.std.proofs.Common.{◌≡◌}
use Rattle.ov_made.specs.Made.{peer_keys}
use Rattle.ov_made.proofs.keys.peer_keys.Given as goal

abbrev pub invariant-loop-p : goal.invariant-loop-p
invariant-loop-p l = l.keys.items ≡ peer_keys l.seed l.p
