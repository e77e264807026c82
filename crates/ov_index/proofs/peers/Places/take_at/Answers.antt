use Rattle.std.proofs.Common.{rules, arith, ◌≡◌, ◌+◌, length}
use Rattle.std.specs.Prelude.{None, slice_set}
use Rattle.ov_index.specs.Index.{present, standing}
use Rattle.ov_index.proofs.Slots.{hole_where_none, standing_at}
use Rattle.ov_index.proofs.Listed.{fewer}
use Rattle.ov_index.proofs.peers.Places.take_at.Goals as goal

pub invariant_of-self : goal.invariant_of-self
invariant_of-self c =
    let none : standing c.self.inside.slots.items c.args.place ≡ None = search rules in
    rw (c.take_at.ensures.now, hole_where_none c.self.inside.slots.items c.args.place none) c.self.invariant

pub overflow_sub-self : goal.overflow_sub-self
overflow_sub-self c =
    let all : c.self.inside.standing ≡ length (present c.self.inside.slots.items) = c.self.invariant in
    let less : length (present (slice_set c.self.inside.slots.items c.args.place None)) + 1 ≡ length (present c.self.inside.slots.items) = fewer c.self.inside.slots.items c.args.place c.in_ok-peer.peer (standing_at c.self.inside.slots.items c.args.place c.in_ok-peer.peer (search rules)) in
    omega arith

pub invariant_of-self-2 : goal.invariant_of-self-2
invariant_of-self-2 c =
    let all : c.self.inside.standing ≡ length (present c.self.inside.slots.items) = c.self.invariant in
    let less : length (present (slice_set c.self.inside.slots.items c.args.place None)) + 1 ≡ length (present c.self.inside.slots.items) = fewer c.self.inside.slots.items c.args.place c.in_ok-peer.peer (standing_at c.self.inside.slots.items c.args.place c.in_ok-peer.peer (search rules)) in
    rw c.take_at.ensures.now (omega arith)
