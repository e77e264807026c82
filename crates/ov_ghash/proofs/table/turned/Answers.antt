use Rattle.std.proofs.Common.{◌≡◌, ◌/◌, ◌%◌, ◌*◌, ◌^◌, bit_and, bit_xor, ap}
use Rattle.std.proofs.lemmas.Nat.{and_mask}
use Rattle.ov_ghash.specs.Turn.{turn}
use Rattle.ov_ghash.proofs.table.turned.Goals as goal

pub returns : goal.returns
unfolding turn
returns c =
    let lowest : bit_and c.args.z 1 ≡ c.args.z % 2 = and_mask c.args.z 1 in
    ap (λ (b : _). bit_xor (c.args.z / 2) (b * (0xe1 * 2 ^ 120))) lowest
