use Rattle.std.proofs.Common.{rules}
use Rattle.ov_made.proofs.More.{keys_more}
use Rattle.ov_made.proofs.keys.peer_keys.Goals as goal

pub loop-p-preserved : goal.loop-p-preserved
loop-p-preserved c = rw (keys_more c.args.seed c.loop-p.p) (search rules)
