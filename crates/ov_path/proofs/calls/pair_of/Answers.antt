use Rattle.std.proofs.Common.{refl, true, false, ◌≡◌}
use Rattle.std.specs.Prelude.{is_some}
use Rattle.ov_path.proofs.calls.pair_of.Goals as goal

pub unreachable-requires : goal.unreachable-requires
unreachable-requires g c = let there : is_some c.pair.result ≡ true = c.pair.ensures.some c.requires.held c.requires.unused in let none : is_some c.pair.result ≡ false = rw c.in-None.is refl in cc

pub returns : goal.returns
returns g c = record { has = c.pair.ensures.is _ (rw c.in-Some.is refl) }
