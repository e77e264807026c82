use Rattle.std.proofs.Common.{arith, ◌≤◌, ◌≡◌, ◌<◌, ◌∙◌, refl, ap, length}
use Rattle.std.specs.Prelude.{Some, None, slice_get}
use Rattle.std.proofs.lemmas.Option.{slice_get_read}
use Rattle.ov_index.specs.Gone.{holes_in_front}
use Rattle.ov_index.proofs.Counted.{hole_of, one_of}
use Rattle.ov_index.proofs.Listed.{front_hole, front_there, front_within}
use Rattle.ov_index.proofs.places.count_front.Goals as goal

pub loop-place-preserved : goal.loop-place-preserved
loop-place-preserved g c =
    let within : c.loop-place.place ≤ holes_in_front c.args.slots.now = c.loop-place.invariant in
    let at : slice_get c.args.slots.now c.loop-place.place ≡ Some c.index-slots-place.result = slice_get_read c.args.slots.now (length c.args.slots.now) c.loop-place.place c.index-slots-place.result refl c.loop-place-test.true c.index-slots-place.is in
    let hole : c.index-slots-place.result ≡ None = hole_of c.index-slots-place.result (c.if-is_none.ensures) in
    let below : c.loop-place.place < holes_in_front c.args.slots.now = front_hole c.args.slots.now c.loop-place.place within (at ∙ ap Some hole) in
    omega arith

pub returns-else-is_none : goal.returns-else-is_none
returns-else-is_none g c =
    let within : c.loop-place.place ≤ holes_in_front c.args.slots.now = c.loop-place.invariant in
    let at : slice_get c.args.slots.now c.loop-place.place ≡ Some c.index-slots-place.result = slice_get_read c.args.slots.now (length c.args.slots.now) c.loop-place.place c.index-slots-place.result refl c.loop-place-test.true c.index-slots-place.is in
    let one = one_of c.index-slots-place.result (c.if-is_none.ensures) in
    let above : holes_in_front c.args.slots.now ≤ c.loop-place.place = front_there c.args.slots.now c.loop-place.place one.0 (at ∙ ap Some one.1) in
    omega arith

pub returns-after-loop-place : goal.returns-after-loop-place
returns-after-loop-place g c = let within : holes_in_front c.args.slots.now ≤ length c.args.slots.now = front_within c.args.slots.now in omega arith
