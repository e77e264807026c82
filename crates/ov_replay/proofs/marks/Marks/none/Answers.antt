use Rattle.std.proofs.Common.{◌%◌, ◌/◌, arith, ap, ◌∙◌, eqb}
use Rattle.std.specs.Int.{bit_at}
use Rattle.std.proofs.lemmas.Nat.Bits.{bit_at-zero}
use Rattle.ov_replay.specs.Marks.{is_marked}
use Rattle.std.proofs.lemmas.List.{get_or-replicate}
use Rattle.ov_replay.proofs.marks.Marks.none.Goals as goal

pub returns : goal.returns
unfolding is_marked
returns c id =
    ap (λ word. eqb (bit_at word (id % 2048 % 64)) 1) (get_or-replicate 32 (id % 2048 / 64) 0 0 (omega arith)) ∙ ap (λ b. eqb b 1) (bit_at-zero (id % 2048 % 64))
