use Rattle.std.proofs.Common.{rules, arith, ◌≡◌, ◌≤◌, refl, length}
use Rattle.ov_index.specs.Index.{present}
use Rattle.ov_index.proofs.Listed.{present_within}
use Rattle.ov_index.proofs.Counted.{one_more}
use Rattle.ov_index.proofs.peers.Places.push.Goals as goal

pub overflow_add-self : goal.overflow_add-self
overflow_add-self c =
    let within : length (present c.self.inside.slots.items) ≤ length c.self.inside.slots.items = present_within c.self.inside.slots.items in
    let standing : c.self.inside.standing ≡ length (present c.self.inside.slots.items) = c.self.invariant in
    search (rules, arith)

pub invariant_of-self : goal.invariant_of-self
invariant_of-self c = rw (c.push_reserved.ensures.items, one_more c.self.inside.slots.items c.args.peer, c.self.invariant) refl
