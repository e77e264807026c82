use Rattle.ov_ghash.specs.Turn.{turns}
use Rattle.ov_ghash.proofs.table.turned_by_four.Goals as goal

pub returns : goal.returns
unfolding turns
returns c = cc
