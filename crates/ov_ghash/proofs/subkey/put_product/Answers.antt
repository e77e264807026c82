use Rattle.std.proofs.Common.{ℕ, ◌≡◌, ◌≢◌, ◌+◌, ◌*◌, length, get_or, refl, ◌∙◌, arith, rules, below_more, get_or-set_same, get_or-set_other}
use Rattle.ov_ghash.proofs.subkey.put_product.Goals as goal

pub loop-i-init : goal.loop-i-init
loop-i-init c = record { put = λ k below. absurd (omega arith); kept = λ k other. refl }

pub loop-i-preserved : goal.loop-i-preserved
loop-i-preserved c =
    let place : ℕ = 16 * c.loop-i.i + c.args.n in
    let value : ℕ = get_or c.args.bytes c.loop-i.i 0 in
    let long : length c.loop-i.rows ≡ 256 = search rules in
    record {
      put =
          below_more _ _
          (λ k lt. let other : 16 * k + c.args.n ≢ place = omega arith in
          get_or-set_other c.loop-i.rows place (16 * k + c.args.n) value 0 other ∙ c.loop-i.invariant.put k lt)
          (get_or-set_same c.loop-i.rows place value 0 (omega arith));
      kept = λ k apart.
          let other : k ≢ place = omega arith in
          get_or-set_other c.loop-i.rows place k value 0 other ∙ c.loop-i.invariant.kept k apart;
    }

pub returns-clause-put : goal.returns-clause-put
returns-clause-put c = λ i below. c.loop-i.invariant.put i (omega arith)
