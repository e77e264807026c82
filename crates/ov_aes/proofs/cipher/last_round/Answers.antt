use Rattle.ov_aes.proofs.RoundFacts.{last_round-is}
use Rattle.ov_aes.proofs.cipher.last_round.Goals as goal

pub returns : goal.returns
returns c = λ s k bytes_s bytes_k state_is key_is.
    last_round-is s k c.args.state c.summed.result c.args.key bytes_s bytes_k state_is
    (c.summed.ensures c.args.state c.places.ensures.first c.places.ensures.second) key_is
