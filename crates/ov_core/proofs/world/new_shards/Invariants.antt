use Rattle.std.proofs.Common.{◌≡◌}
use Rattle.ov_core.specs.Seats.{shards_to}
use Rattle.ov_core.proofs.world.new_shards.Given as goal

abbrev pub invariant-loop-number : goal.invariant-loop-number
invariant-loop-number l = l.shards.items ≡ shards_to l.number
