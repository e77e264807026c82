use Rattle.std.proofs.Common.{ℕ, List, ap, ◌∙◌}
use Rattle.ov_aes.specs.Aes.{key_list}
use Rattle.ov_aes.specs.Cipher.{aes}
use Rattle.ov_gcm.proofs.stream.crypt_block.Goals as goal

pub returns : goal.returns
returns c = λ p same before.
    let key : List ℕ = key_list c.args.key.now in
    c.add_at.ensures key c.args.nonce p same (c.encrypt.ensures ∙ ap (aes key) c.counter_block.ensures) before
