use Rattle.ov_aes.proofs.NibbleFacts.{bytes-of}
use Rattle.ov_aes.proofs.RoundFacts.{last-bytes}
use Rattle.ov_aes.proofs.nibbles.substituted.Goals as goal

pub returns : goal.returns
returns c =
    last-bytes c.args.bytes c.inner_form.result c.summed.result (bytes-of c.args.bytes c.fits-bytes.0 c.fits-bytes.1)
    c.inner_form.ensures (c.summed.ensures c.inner_form.result c.places.ensures.first c.places.ensures.second)
