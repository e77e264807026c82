use Rattle.ov_aes.proofs.KeptFacts.{four-at}
use Rattle.ov_aes.proofs.round_keys.key_at.Goals as goal

pub returns : goal.returns
returns c = four-at c.args.words.now c.args.r
