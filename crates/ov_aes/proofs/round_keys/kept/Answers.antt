use Rattle.std.proofs.Common.{sym, ◌∙◌, arith}
use Rattle.ov_aes.proofs.KeptFacts.{kept_first, kept_middle, kept_last}
use Rattle.ov_aes.proofs.round_keys.kept.Goals as goal
use Rattle.ov_aes.proofs.round_keys.kept.Goals.{then-r-eq0, else-r-eq0, then-r-rounds, else-r-rounds}

pub returns : goal.returns
returns c =
    elim c.if-r-eq0.branch [
      | then-r-eq0 w ↦ w.result-is ∙ sym (kept_first c.args.rounds c.args.r c.args.key w.if-r-eq0.true)
      | else-r-eq0 w ↦
          w.result-is
          ∙ elim w.if-r-rounds.branch [
            | then-r-rounds v ↦
                v.result-is ∙ v.inner_form.ensures
                ∙ sym (kept_middle c.args.rounds c.args.r c.args.key c.fits-key.0 (omega arith) (omega arith))
            | else-r-rounds v ↦
                v.result-is ∙ sym (kept_last c.args.rounds c.args.r c.args.key c.fits-key.0 (omega arith) (omega arith))
          ]
    ]
