use Rattle.ov_aes.proofs.RoundFacts.{round-is}
use Rattle.ov_aes.proofs.cipher.round.Goals as goal

pub returns : goal.returns
returns c = λ s k bytes_s bytes_k state_is key_is.
    round-is s k c.args.state c.summed-once.result c.summed-twice.result c.args.key bytes_s bytes_k state_is
    (c.summed-once.ensures c.args.state c.places-found.ensures.first c.places-found.ensures.second)
    (c.summed-twice.ensures c.args.state c.places-found.ensures.first c.places-found.ensures.second) key_is
