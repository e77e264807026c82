-- One shard more.
use Rattle.std.proofs.Common.{rules}
use Rattle.ov_core.proofs.Newest.{shards_more}
use Rattle.ov_core.proofs.world.new_shards.Goals as goal

pub loop-number-preserved : goal.loop-number-preserved
loop-number-preserved c = rw (shards_more c.loop-number.number) (search rules)
