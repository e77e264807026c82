use Rattle.std.proofs.Common.{refl, [], ◌∷◌}
use Rattle.ov_ghash.specs.Block.{number, block_of, sum_of_powers, ghash}
use Rattle.ov_ghash.specs.Ghash.{Holds, fresh}
use Rattle.ov_ghash.proofs.Ghash.new.Goals as goal

pub returns-clause-holds : goal.returns-clause-holds
unfolding Holds ghash block_of number sum_of_powers
returns-clause-holds c = (c.new.ensures.prepared, refl)

pub returns-clause-value : goal.returns-clause-value
unfolding fresh
returns-clause-value c = λ i. record { key = c.new.ensures.value i; sum = 0 ∷ 0 ∷ 0 ∷ 0 ∷ 0 ∷ 0 ∷ 0 ∷ 0 ∷ 0 ∷ 0 ∷ 0 ∷ 0 ∷ 0 ∷ 0 ∷ 0 ∷ 0 ∷ [] }
