use Rattle.std.proofs.Common.{◌≡◌, ℕ, ◌-◌, ◌<◌, ◌≤◌, length, subst, arith, rules}
use Rattle.ov_aes.specs.Cipher.{cipher, after_round, round_key}
use Rattle.ov_aes.proofs.States.{IsAfter, first-key, middle-key, last-key, begun, one-more}
use Rattle.ov_aes.proofs.cipher.encrypted_two.Goals as goal

pub loop-r-init : goal.loop-r-init
loop-r-init c =
    let long : length c.kept_at-begin.result ≡ 16 = search rules in record {
      one = λ w has.
          begun w c.args.first c.vector_of.result c.kept_at-begin.result c.inner_form-one.result c.vector_of.ensures.same c.vector_of.ensures.bytes
          (has 0 (omega arith)).0 (first-key c.args.keys.now c.kept_at-begin.result w c.args.rounds has (long, c.kept_at-begin.ensures)) c.inner_form-one.ensures;
      other = λ w has.
          begun w c.args.second c.vector_of-2.result c.kept_at-begin.result c.inner_form-other.result c.vector_of-2.ensures.same c.vector_of-2.ensures.bytes
          (has 0 (omega arith)).0 (first-key c.args.keys.now c.kept_at-begin.result w c.args.rounds has (long, c.kept_at-begin.ensures)) c.inner_form-other.ensures;
    }

pub loop-r-preserved : goal.loop-r-preserved
loop-r-preserved c =
    let long : length c.kept_at-key.result ≡ 16 = search rules in
    let least : 1 ≤ c.loop-r.r = omega arith in
    let below : c.loop-r.r < c.args.rounds = omega arith in record {
      one = λ w has.
          one-more w c.args.first c.loop-r.one c.kept_at-key.result c.round-next_one.result c.loop-r.r least (has c.loop-r.r (omega arith)).0
          (middle-key c.args.keys.now c.kept_at-key.result w c.args.rounds c.loop-r.r least below has (long, c.kept_at-key.ensures))
          c.round-next_one.ensures (c.loop-r.invariant.one w has);
      other = λ w has.
          one-more w c.args.second c.loop-r.other c.kept_at-key.result c.round-next_other.result c.loop-r.r least (has c.loop-r.r (omega arith)).0
          (middle-key c.args.keys.now c.kept_at-key.result w c.args.rounds c.loop-r.r least below has (long, c.kept_at-key.ensures))
          c.round-next_other.ensures (c.loop-r.invariant.other w has);
    }

pub returns-clause-first : goal.returns-clause-first
unfolding cipher
returns-clause-first c = λ w has.
    let nr : ℕ = c.args.rounds in
    let last : c.loop-r.r ≡ nr = omega arith in
    let state = subst (λ r. IsAfter w c.args.first (r - 1) c.loop-r.one) last (c.loop-r.invariant.one w has) in
    let long : length c.kept_at-end.result ≡ 16 = search rules in
    let key = last-key c.args.keys.now c.kept_at-end.result w nr (omega arith) has (long, c.kept_at-end.ensures) in
    c.last_round.ensures (after_round w c.args.first (nr - 1)) (round_key w nr) state.0 (has nr (omega arith)).0 state.1 key

pub returns-clause-second : goal.returns-clause-second
unfolding cipher
returns-clause-second c = λ w has.
    let nr : ℕ = c.args.rounds in
    let last : c.loop-r.r ≡ nr = omega arith in
    let state = subst (λ r. IsAfter w c.args.second (r - 1) c.loop-r.other) last (c.loop-r.invariant.other w has) in
    let long : length c.kept_at-end.result ≡ 16 = search rules in
    let key = last-key c.args.keys.now c.kept_at-end.result w nr (omega arith) has (long, c.kept_at-end.ensures) in
    c.last_round-2.ensures (after_round w c.args.second (nr - 1)) (round_key w nr) state.0 (has nr (omega arith)).0 state.1 key
