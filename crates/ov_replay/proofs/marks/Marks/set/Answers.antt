use Rattle.std.proofs.Common.{◌%◌, eqb, ap, arith}
use Rattle.ov_replay.specs.Marks.{is_marked}
use Rattle.ov_replay.proofs.RingLemmas.{place_bit-with_same, place_bit-with_other}
use Rattle.ov_replay.proofs.marks.Marks.set.Goals as goal

pub returns-clause-set : goal.returns-clause-set
unfolding is_marked
returns-clause-set c =
    ap (λ b. eqb b 1) (place_bit-with_same c.args.self.now.words (c.args.id % 2048) (omega arith))

pub returns-clause-others : goal.returns-clause-others
unfolding is_marked
returns-clause-others c other apart =
    ap (λ b. eqb b 1) (place_bit-with_other c.args.self.now.words (c.args.id % 2048) (other % 2048) (omega arith) apart)
