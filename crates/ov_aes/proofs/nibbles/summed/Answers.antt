use Rattle.std.proofs.Common.{bit_xor}
use Rattle.std.proofs.lemmas.Simd.{zip2_of_maps}
use Rattle.ov_aes.specs.Nibbles.{entry, first_place, second_place, nibble_sum}
use Rattle.ov_aes.proofs.NibbleFacts.{through}
use Rattle.ov_aes.proofs.nibbles.summed.Goals as goal

pub returns : goal.returns
unfolding nibble_sum
returns c = λ s first second.
    zip2_of_maps bit_xor (λ x. entry c.args.first (first_place x)) (λ x. entry c.args.second (second_place x)) s
    (through c.args.first first_place s c.looked_up.ensures first)
    (through c.args.second second_place s c.looked_up-2.ensures second)
