use Rattle.std.proofs.Common.{sym}
use Rattle.ov_ghash.specs.Block.{sum_of_powers}
use Rattle.ov_ghash.proofs.BitLists.{bits-zero}
use Rattle.ov_ghash.proofs.Field.{sum_of_powers_step}
use Rattle.ov_ghash.proofs.laws.blocks_are_taken_in_turn.Goals as goal

pub returns : goal.returns
unfolding sum_of_powers
returns c = record { none = λ h. sym (bits-zero 128); more = λ h x xs. sum_of_powers_step h xs x }
