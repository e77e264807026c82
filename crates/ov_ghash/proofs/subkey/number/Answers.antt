use Rattle.ov_ghash.specs.Block.{number_of}
use Rattle.ov_ghash.proofs.subkey.number.Goals as goal

pub returns : goal.returns
unfolding number_of
returns c = c.from_be_bytes.ensures
