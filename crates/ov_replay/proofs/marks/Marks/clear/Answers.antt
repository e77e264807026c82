use Rattle.std.proofs.Common.{◌%◌, eqb, ap, arith}
use Rattle.ov_replay.specs.Marks.{is_marked}
use Rattle.ov_replay.proofs.RingLemmas.{place_bit-without_same, place_bit-without_other}
use Rattle.ov_replay.proofs.marks.Marks.clear.Goals as goal

pub returns-clause-cleared : goal.returns-clause-cleared
unfolding is_marked
returns-clause-cleared c =
    ap (λ b. eqb b 1) (place_bit-without_same c.args.self.now.words (c.args.id % 2048) (omega arith))

pub returns-clause-others : goal.returns-clause-others
unfolding is_marked
returns-clause-others c other apart =
    ap (λ b. eqb b 1) (place_bit-without_other c.args.self.now.words (c.args.id % 2048) (other % 2048) (omega arith) apart)
