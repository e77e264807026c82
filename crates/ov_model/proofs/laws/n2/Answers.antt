-- The replay law, shard by shard.
use Rattle.ov_model.proofs.ReplayLaw.{accepts_once}
use Rattle.ov_model.proofs.laws.n2.Goals as goal

pub returns : goal.returns
returns c = record { once = λ script first report legal. accepts_once report legal.shards }
