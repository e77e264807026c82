use Rattle.std.proofs.Common.{◌≡◌, ℕ, ◌+◌, ◌*◌, ◌-◌, List, length, subst, arith}
use Rattle.ov_aes.specs.Aes.{key_list}
use Rattle.ov_gcm.specs.Gcm.{block_count}
use Rattle.ov_gcm.specs.Steps.{IsCryptedUpTo}
use Rattle.ov_gcm.proofs.Steps.{crypted-none, crypted-all}
use Rattle.ov_gcm.proofs.stream.crypt.Goals as goal

pub loop-turn-init : goal.loop-turn-init
loop-turn-init c = crypted-none (key_list c.args.key.now) c.args.nonce c.args.text.now

pub loop-turn-preserved : goal.loop-turn-preserved
loop-turn-preserved c =
    let next : 2 * c.loop-turn.turn + 2 ≡ 2 * (c.loop-turn.turn + 1) = omega arith in
    subst (λ n. IsCryptedUpTo (key_list c.args.key.now) c.args.nonce c.args.text.now n c.crypt_two.new.text) next
    (c.crypt_two.ensures c.args.text.now (omega arith) c.loop-turn.invariant)

pub returns-then-blocks-eq1 : goal.returns-then-blocks-eq1
returns-then-blocks-eq1 c =
    let text : List ℕ = c.args.text.now in
    let key : List ℕ = key_list c.args.key.now in
    let blocks : ℕ = c.div_ceil-blocks.result in
    let all : blocks ≡ block_count (length text) = omega arith in
    let left : 2 * c.loop-turn.turn ≡ blocks - 1 = omega arith in
    let whole : blocks - 1 + 1 ≡ blocks = omega arith in
    let before = subst (λ n. IsCryptedUpTo key c.args.nonce text n c.loop-turn.text) left c.loop-turn.invariant in
    let after = subst (λ n. IsCryptedUpTo key c.args.nonce text n c.crypt_block.new.text) whole (c.crypt_block.ensures text (omega arith) before) in
    crypted-all key c.args.nonce text c.crypt_block.new.text blocks all after

pub returns-else-blocks-eq1 : goal.returns-else-blocks-eq1
returns-else-blocks-eq1 c =
    let text : List ℕ = c.args.text.now in
    let all : 2 * c.loop-turn.turn ≡ block_count (length text) = omega arith in
    crypted-all (key_list c.args.key.now) c.args.nonce text c.loop-turn.text (2 * c.loop-turn.turn) all c.loop-turn.invariant
