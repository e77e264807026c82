use Rattle.std.proofs.Common.{◌≡◌, ℕ, ◌+◌, ◌-◌, ◌*◌, min, List, ◌++◌, take, drop, length, ap, ◌∙◌, subst, sym, arith, rules}
use Rattle.ov_gcm.specs.Steps.{IsCryptedUpTo}
use Rattle.ov_gcm.proofs.Steps.{crypted-more}
use Rattle.ov_gcm.proofs.stream.add_at.Goals as goal

pub returns : goal.returns
returns c = λ key nonce p same block before.
    let text : List ℕ = c.args.text.now in
    let start : ℕ = 16 * c.args.i in
    let end : ℕ = c.min-end.result in
    let long : length c.args.block ≡ 16 = search rules in
    let ends = c.min-end.ensures ∙ ap (λ n. min n (start + 16)) (sym same) in
    subst
    (λ (t : List ℕ). IsCryptedUpTo key nonce p (c.args.i + 1) (take start text ++ (t ++ drop (end - start) (drop start text))))
    (sym c.add_block.ensures)
    (crypted-more key nonce p text c.args.block c.args.i end (omega arith) long block ends before)
