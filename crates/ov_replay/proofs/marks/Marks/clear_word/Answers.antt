use Rattle.std.proofs.Common.{◌%◌, ◌/◌, eqb, ap, ◌∙◌, arith}
use Rattle.std.specs.Int.{bit_at}
use Rattle.std.proofs.lemmas.Grind.{get_or-set_at}
use Rattle.std.proofs.lemmas.List.{get_or-set_other}
use Rattle.std.proofs.lemmas.Nat.Bits.{bit_at-zero}
use Rattle.ov_replay.specs.Marks.{is_marked}
use Rattle.ov_replay.proofs.marks.Marks.clear_word.Goals as goal

pub returns-clause-cleared : goal.returns-clause-cleared
unfolding is_marked
returns-clause-cleared c other same =
    ap (λ word. eqb (bit_at word (other % 2048 % 64)) 1) (get_or-set_at c.args.self.now.words (c.args.id % 2048 / 64) (other % 2048 / 64) 0 0 same (omega arith))
    ∙ ap (λ b. eqb b 1) (bit_at-zero (other % 2048 % 64))

pub returns-clause-others : goal.returns-clause-others
unfolding is_marked
returns-clause-others c other apart =
    ap (λ word. eqb (bit_at word (other % 2048 % 64)) 1) (get_or-set_other c.args.self.now.words (c.args.id % 2048 / 64) (other % 2048 / 64) 0 0 apart)
