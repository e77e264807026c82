-- By the delivery law's parts and the replay law.
use Rattle.ov_model.proofs.ReplayLaw.{accepts_once}
use Rattle.ov_model.proofs.DeliveryLaw.{delivers_once}
use Rattle.ov_model.proofs.laws.delivered_once.Goals as goal

pub returns : goal.returns
returns c = record { once = λ script first report legal. delivers_once script first report legal (accepts_once report legal.shards) }
