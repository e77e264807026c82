use Rattle.std.proofs.Common.{◌≡◌, ℕ, ◌-◌, length, subst, arith, rules}
use Rattle.ov_aes.specs.Cipher.{cipher, after_round, round_key}
use Rattle.ov_aes.proofs.States.{IsAfter, first-key, middle-key, last-key, begun, one-more}
use Rattle.ov_aes.proofs.cipher.encrypted.Goals as goal

pub loop-r-init : goal.loop-r-init
loop-r-init c = λ w has.
    let long : length c.kept_at.result ≡ 16 = search rules in
    begun w c.args.block c.vector_of.result c.kept_at.result c.inner_form-state.result c.vector_of.ensures.same c.vector_of.ensures.bytes
    (has 0 (omega arith)).0 (first-key c.args.keys.now c.kept_at.result w c.args.rounds has (long, c.kept_at.ensures)) c.inner_form-state.ensures

pub loop-r-preserved : goal.loop-r-preserved
loop-r-preserved c = λ w has.
    let long : length c.kept_at-in-loop-r.result ≡ 16 = search rules in
    let key = middle-key c.args.keys.now c.kept_at-in-loop-r.result w c.args.rounds c.loop-r.r (omega arith) (omega arith) has (long, c.kept_at-in-loop-r.ensures) in
    one-more w c.args.block c.loop-r.state c.kept_at-in-loop-r.result c.round-next.result c.loop-r.r (omega arith)
    (has c.loop-r.r (omega arith)).0 key c.round-next.ensures (c.loop-r.invariant w has)

pub returns : goal.returns
unfolding cipher
returns c = λ w has.
    let nr : ℕ = c.args.rounds in
    let last : c.loop-r.r ≡ nr = omega arith in
    let state = subst (λ r. IsAfter w c.args.block (r - 1) c.loop-r.state) last (c.loop-r.invariant w has) in
    let long : length c.kept_at-2.result ≡ 16 = search rules in
    let key = last-key c.args.keys.now c.kept_at-2.result w nr (omega arith) has (long, c.kept_at-2.ensures) in
    c.last_round.ensures (after_round w c.args.block (nr - 1)) (round_key w nr) state.0 (has nr (omega arith)).0 state.1 key
