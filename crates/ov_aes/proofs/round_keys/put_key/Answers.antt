use Rattle.std.proofs.Common.{ℕ, ◌≡◌, ◌≢◌, ◌+◌, ◌*◌, length, get_or, refl, ◌∙◌, arith, rules, below_more, get_or-set_same, get_or-set_other}
use Rattle.ov_aes.proofs.round_keys.put_key.Goals as goal

pub loop-m-init : goal.loop-m-init
loop-m-init c = record { put = λ k below. absurd (omega arith); same = λ k before. refl }

pub loop-m-preserved : goal.loop-m-preserved
loop-m-preserved c =
    let place : ℕ = 16 * c.args.r + c.loop-m.m in
    let value : ℕ = get_or c.args.key c.loop-m.m 0 in
    let long : length c.loop-m.keys ≡ 240 = search rules in
    record {
      put =
          below_more _ _
          (λ k lt. let other : 16 * c.args.r + k ≢ place = omega arith in
          get_or-set_other c.loop-m.keys place (16 * c.args.r + k) value 0 other ∙ c.loop-m.invariant.put k lt)
          (get_or-set_same c.loop-m.keys place value 0 (omega arith));
      same = λ k before.
          let other : k ≢ place = omega arith in
          get_or-set_other c.loop-m.keys place k value 0 other ∙ c.loop-m.invariant.same k before;
    }

pub returns-clause-put : goal.returns-clause-put
returns-clause-put c = λ m below. c.loop-m.invariant.put m (omega arith)
