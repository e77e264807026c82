use Rattle.std.proofs.Common.{◌≡◌, ℕ, ◌+◌, List, ap, ◌∙◌, subst, arith}
use Rattle.ov_aes.specs.Aes.{key_list}
use Rattle.ov_aes.specs.Cipher.{aes}
use Rattle.ov_gcm.specs.Steps.{IsCryptedUpTo}
use Rattle.ov_gcm.proofs.stream.crypt_two.Goals as goal

pub returns : goal.returns
returns c = λ p same before.
    let key : List ℕ = key_list c.args.key.now in
    let i : ℕ = c.args.i in
    let two : i + 1 + 1 ≡ i + 2 = omega arith in
    let first = c.encrypt_two.ensures.first ∙ ap (aes key) c.counter_block.ensures in
    let second = c.encrypt_two.ensures.second ∙ ap (aes key) c.counter_block-2.ensures in
    let one = c.add_at.ensures key c.args.nonce p same first before in
    subst (λ n. IsCryptedUpTo key c.args.nonce p n c.add_at-2.new.text) two
    (c.add_at-2.ensures key c.args.nonce p (omega arith) second one)
