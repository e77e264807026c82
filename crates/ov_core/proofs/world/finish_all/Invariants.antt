use Rattle.std.proofs.Common.{◌≡◌}
use Rattle.ov_core.specs.Seats as spec
use Rattle.ov_core.proofs.world.finish_all.Given as goal

abbrev pub invariant-loop-shard : goal.invariant-loop-shard
invariant-loop-shard l = l.histories.items ≡ spec.histories l.yielded
