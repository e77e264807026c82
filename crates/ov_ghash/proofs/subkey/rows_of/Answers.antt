use Rattle.std.proofs.Common.{ℕ, ◌≡◌, ◌≢◌, ◌+◌, ◌*◌, ◌/◌, ◌%◌, List, get_or, refl, sym, ap, ◌∙◌, arith, rules, ⊎_elim}
use Rattle.std.specs.Int.{byte_at}
use Rattle.std.proofs.lemmas.Bool.{cases_lt}
use Rattle.ov_ghash.proofs.Tables.{get_or-products}
use Rattle.ov_ghash.proofs.RowFacts.{rows-are, get_or-low_first}
use Rattle.ov_ghash.proofs.subkey.rows_of.Goals as goal

pub loop-n-init : goal.loop-n-init
loop-n-init c = record { long = refl; filled = λ k below none. absurd (omega arith) }

pub loop-n-preserved : goal.loop-n-preserved
loop-n-preserved c =
    let n : ℕ = c.loop-n.n in
    let product : ℕ = get_or c.products_of-products.result n 0 in
    record {
      long = search rules;
      filled = λ k below within.
          ⊎_elim
          (λ before. let other : k % 16 ≢ n = omega arith in
          c.put_product.ensures.kept k other ∙ c.loop-n.invariant.filled k below before)
          (λ after.
          let here : k % 16 ≡ n = omega arith in
          let place : k ≡ 16 * (k / 16) + n = omega arith in
          ap (λ (x : ℕ). get_or c.put_product.new.rows x 0) place
          ∙ c.put_product.ensures.put (k / 16) (omega arith)
          ∙ ap (λ (bs : List ℕ). get_or bs (k / 16) 0) c.to_le_bytes.ensures
          ∙ get_or-low_first product (k / 16) (omega arith)
          ∙ ap (λ (x : ℕ). byte_at (k / 16) (get_or c.products_of-products.result x 0)) (sym here))
          (cases_lt (k % 16) n);
    }

pub returns : goal.returns
returns c =
    rows-are c.args.h c.loop-n.rows c.loop-n.invariant.long
    (λ k below. c.loop-n.invariant.filled k below (omega arith)
    ∙ ap (byte_at (k / 16)) (ap (λ (xs : List ℕ). get_or xs (k % 16) 0) (sym c.products_of-products.ensures)
    ∙ get_or-products c.args.h (k % 16) (omega arith)))
