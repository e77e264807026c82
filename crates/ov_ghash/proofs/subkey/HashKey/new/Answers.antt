use Rattle.std.proofs.Common.{sym, ap, ◌∙◌, arith}
use Rattle.ov_ghash.specs.Turn.{turns}
use Rattle.ov_ghash.specs.Rows.{rows}
use Rattle.ov_ghash.specs.Ghash.{IsPrepared, prepared}
use Rattle.ov_ghash.proofs.subkey.HashKey.new.Goals as goal

pub returns-clause-prepared : goal.returns-clause-prepared
unfolding IsPrepared prepared
returns-clause-prepared c =
    let first = ap rows (sym c.number-h.ensures) ∙ c.rows_of.ensures in
    let second = ap rows (ap (turns 4) (sym c.number-h.ensures) ∙ sym c.turned_by_four.ensures) ∙ c.rows_of-2.ensures in
    (omega (arith, c.number-h.ensures, c.number-h.type_inv), λ i. record { first = first i; second = second i })

pub returns-clause-value : goal.returns-clause-value
unfolding prepared
returns-clause-value c =
    let first = ap rows (sym c.number-h.ensures) ∙ c.rows_of.ensures in
    let second = ap rows (ap (turns 4) (sym c.number-h.ensures) ∙ sym c.turned_by_four.ensures) ∙ c.rows_of-2.ensures in
    λ i. record { first = sym first i; second = sym second i }
