use Rattle.ov_aes.proofs.Lengths.{length-aes}
use Rattle.ov_aes.proofs.laws.blocks_have_sixteen_bytes.Goals as goal

pub returns : goal.returns
returns c = length-aes
