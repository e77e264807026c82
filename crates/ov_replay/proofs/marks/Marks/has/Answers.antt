use Rattle.std.proofs.Common.{◌%◌, ◌/◌, eqb, get_or, ap}
use Rattle.std.proofs.lemmas.Nat.Bits.{shr_and_one}
use Rattle.ov_replay.specs.Marks.{is_marked}
use Rattle.ov_replay.proofs.marks.Marks.has.Goals as goal

pub returns : goal.returns
unfolding is_marked
returns c =
    let place = c.args.id % 2048 in
    ap (λ b. eqb b 1) (shr_and_one (get_or c.args.self.now.words (place / 64) 0) (place % 64))
