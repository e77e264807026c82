use Rattle.ov_ghash.proofs.Field.{turns-are-times}
use Rattle.ov_ghash.proofs.laws.turning_multiplies.Goals as goal

pub returns : goal.returns
returns c = record { by_any = turns-are-times; by_four = turns-are-times 4; by_eight = turns-are-times 8 }
