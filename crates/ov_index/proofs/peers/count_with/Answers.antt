use Rattle.std.proofs.Common.{rules, arith, ◌≡◌, ◌≤◌, ◌+◌, ◌∙◌, refl, sym, ap, length}
use Rattle.std.specs.Prelude.{Some, None, slice_get}
use Rattle.std.proofs.lemmas.Option.{slice_get_read}
use Rattle.ov_index.specs.Index.{present}
use Rattle.ov_index.proofs.Counted.{filled, replaced, hole_within, hole_of, one_of}
use Rattle.ov_index.proofs.peers.count_with.Goals as goal

hole : (c : goal.Then-is_none) → slice_get c.args.slots.now c.args.place ≡ Some None
hole c = slice_get_read c.args.slots.now (length c.args.slots.now) c.args.place c.index-slots-place.result refl c.requires.place c.index-slots-place.is ∙ ap Some (hole_of c.index-slots-place.result (c.if-is_none.ensures))

pub overflow_add-result : goal.overflow_add-result
overflow_add-result c =
    let all : c.args.standing ≡ length (present c.args.slots.now) = c.requires.standing in
    let within : length (present c.args.slots.now) + 1 ≤ length c.args.slots.now = hole_within c.args.slots.now c.args.place (hole c) in
    search (rules, arith)

pub returns-then-is_none : goal.returns-then-is_none
returns-then-is_none c = λ peer. rw (filled c.args.slots.now c.args.place peer (hole c), c.requires.standing) refl

pub returns-else-is_none : goal.returns-else-is_none
returns-else-is_none c = λ peer.
    let one = one_of c.index-slots-place.result (c.if-is_none.ensures) in
    let at : slice_get c.args.slots.now c.args.place ≡ Some (Some one.0) = slice_get_read c.args.slots.now (length c.args.slots.now) c.args.place c.index-slots-place.result refl c.requires.place c.index-slots-place.is ∙ ap Some one.1 in
    c.requires.standing ∙ sym (replaced c.args.slots.now c.args.place peer one.0 at)
