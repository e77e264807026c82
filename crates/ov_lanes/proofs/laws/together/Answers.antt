use Rattle.ov_lanes.proofs.Together.{lanes_legal}
use Rattle.ov_lanes.proofs.laws.together.Goals as goal

pub returns : goal.returns
returns c = record { legal = lanes_legal }
