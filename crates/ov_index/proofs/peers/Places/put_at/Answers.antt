use Rattle.std.proofs.Common.{◌∙◌, ap, length}
use Rattle.std.specs.Prelude.{Some, slice_set}
use Rattle.ov_index.specs.Index.{present}
use Rattle.ov_index.proofs.peers.Places.put_at.Goals as goal

pub invariant_of-self : goal.invariant_of-self
invariant_of-self c = rw c.put_at.ensures (c.count_with-self-inside.ensures c.args.peer ∙ ap (λ xs. length (present (slice_set xs c.args.place (Some c.args.peer)))) c.deref.ensures.value)
