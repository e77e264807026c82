use Rattle.std.proofs.Common.{ℕ, ◌<◌, List, length, subst, sym}
use Rattle.ov_made.proofs.More.{sealed_some}
use Rattle.ov_made.proofs.crossing.deed_of.Goals as goal

pub changed-requires : goal.changed-requires
changed-requires c = subst (λ (bs : List ℕ). 0 < length bs) (sym c.requires.sealed) (sealed_some c.args.seed c.args.q)
