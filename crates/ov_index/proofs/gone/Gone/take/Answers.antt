use Rattle.std.proofs.Common.{rules, arith, ◌≡◌, ◌≤◌, ◌+◌, ◌-◌, ◌∙◌, refl, sym, ap, length, []}
use Rattle.std.specs.Prelude.{Some, None, slice_set, find, vec_len}
use Rattle.std.specs.Vec.{vec_capacity}
use Rattle.ov_model.specs.Tables.{without_first}
use Rattle.ov_index.specs.Index.{present}
use Rattle.ov_index.specs.Gone.{has_number, place_in, holes_in_front}
use Rattle.ov_index.proofs.Listed.{placed, not_placed, taken, front_taken, all_holes}
use Rattle.ov_index.proofs.gone.Gone.take.Goals as goal

pub returns-in_err-place-clause-was : goal.returns-in_err-place-clause-was
returns-in_err-place-clause-was g c =
    let items : present c.self.inside.slots.items ≡ c.args.self.now.items = ap (λ x. x.items) c.self.view_is in
    let none : place_in g.T.Numbered.serial_of c.self.inside.places.items c.self.inside.slots.items c.args.serial ≡ None = search rules in
    rw (sym items, (not_placed g.T.Numbered.serial_of c.self.inside.places.items c.self.inside.slots.items c.self.inside.front c.self.inside.holes c.args.serial c.self.invariant none).found) (search rules)

pub returns-in_err-place-clause-now : goal.returns-in_err-place-clause-now
returns-in_err-place-clause-now g c =
    let items : present c.self.inside.slots.items ≡ c.args.self.now.items = ap (λ x. x.items) c.self.view_is in
    let none : place_in g.T.Numbered.serial_of c.self.inside.places.items c.self.inside.slots.items c.args.serial ≡ None = search rules in
    rw (sym items, (not_placed g.T.Numbered.serial_of c.self.inside.places.items c.self.inside.slots.items c.self.inside.front c.self.inside.holes c.args.serial c.self.invariant none).without) (search rules)

pub count_front-self-inside-requires : goal.count_front-self-inside-requires
count_front-self-inside-requires g c =
    let less : holes_in_front c.self.inside.slots.items ≤ holes_in_front (slice_set c.self.inside.slots.items c.in_ok-place.place None) = front_taken c.self.inside.slots.items c.in_ok-place.place in
    rw (c.deref-3.ensures.value, c.take_at-item.ensures.now, c.self.invariant.leading) less

pub invariant_of-self-else-self-len : goal.invariant_of-self-else-self-len
invariant_of-self-else-self-len g c =
    let there : place_in g.T.Numbered.serial_of c.self.inside.places.items c.self.inside.slots.items c.args.serial ≡ Some c.in_ok-place.place = search rules in
    let who = placed g.T.Numbered.serial_of c.self.inside.places.items c.self.inside.slots.items c.self.inside.front c.self.inside.holes c.args.serial c.in_ok-place.place c.self.invariant there in
    let now : c.count_front-self-inside.result ≡ holes_in_front (slice_set c.self.inside.slots.items c.in_ok-place.place None) = c.count_front-self-inside.ensures ∙ ap holes_in_front (c.deref-3.ensures.value ∙ c.take_at-item.ensures.now) in
    let is = taken g.T.Numbered.serial_of c.self.inside.places.items c.self.inside.slots.items c.self.inside.front c.self.inside.holes c.in_ok-place.place c.count_front-self-inside.result (c.self.inside.holes + 1) who.item c.self.invariant who.stands now refl in
    rw c.take_at-item.ensures.now is

pub returns-then-self-len-clause-was : goal.returns-then-self-len-clause-was
returns-then-self-len-clause-was g c =
    let items : present c.self.inside.slots.items ≡ c.args.self.now.items = ap (λ x. x.items) c.self.view_is in
    let there : place_in g.T.Numbered.serial_of c.self.inside.places.items c.self.inside.slots.items c.args.serial ≡ Some c.in_ok-place.place = search rules in
    let who = placed g.T.Numbered.serial_of c.self.inside.places.items c.self.inside.slots.items c.self.inside.front c.self.inside.holes c.args.serial c.in_ok-place.place c.self.invariant there in
    c.take_at-item.ensures.was ∙ who.stands ∙ sym who.at.found ∙ ap (find (has_number g.T.Numbered.serial_of c.args.serial)) items

pub returns-then-self-len-clause-now : goal.returns-then-self-len-clause-now
returns-then-self-len-clause-now g c =
    let items : present c.self.inside.slots.items ≡ c.args.self.now.items = ap (λ x. x.items) c.self.view_is in
    let there : place_in g.T.Numbered.serial_of c.self.inside.places.items c.self.inside.slots.items c.args.serial ≡ Some c.in_ok-place.place = search rules in
    let who = placed g.T.Numbered.serial_of c.self.inside.places.items c.self.inside.slots.items c.self.inside.front c.self.inside.holes c.args.serial c.in_ok-place.place c.self.invariant there in
    let now : c.count_front-self-inside.result ≡ holes_in_front (slice_set c.self.inside.slots.items c.in_ok-place.place None) = c.count_front-self-inside.ensures ∙ ap holes_in_front (c.deref-3.ensures.value ∙ c.take_at-item.ensures.now) in
    let is = taken g.T.Numbered.serial_of c.self.inside.places.items c.self.inside.slots.items c.self.inside.front c.self.inside.holes c.in_ok-place.place c.count_front-self-inside.result (c.self.inside.holes + 1) who.item c.self.invariant who.stands now refl in
    let all : c.self.inside.holes + 1 ≡ length (slice_set c.self.inside.slots.items c.in_ok-place.place None) = rw (sym c.take_at-item.ensures.now) (search rules) in
    let none : present (slice_set c.self.inside.slots.items c.in_ok-place.place None) ≡ [] = all_holes g.T.Numbered.serial_of c.self.inside.places.items (slice_set c.self.inside.slots.items c.in_ok-place.place None) c.count_front-self-inside.result (c.self.inside.holes + 1) is all in
    ap present c.clear.ensures.items ∙ sym none ∙ sym who.at.without ∙ ap (without_first (has_number g.T.Numbered.serial_of c.args.serial)) items

pub returns-then-self-len-clause-room : goal.returns-then-self-len-clause-room
returns-then-self-len-clause-room g c =
    let room : vec_capacity c.self.inside.slots - vec_len c.self.inside.slots ≡ c.args.self.now.room = ap (λ x. x.room) c.self.view_is in
    let capacity : vec_capacity c.self.inside.slots ≤ vec_capacity c.take_at-item.new.slots = c.take_at-item.ensures.capacity in
    let cleared : vec_len c.clear.new.self ≡ 0 = c.clear.ensures.len in
    let kept : vec_capacity c.clear.new.self ≡ vec_capacity c.take_at-item.new.slots = c.clear.ensures.capacity in
    omega arith

pub returns-else-self-len-clause-was : goal.returns-else-self-len-clause-was
returns-else-self-len-clause-was g c =
    let items : present c.self.inside.slots.items ≡ c.args.self.now.items = ap (λ x. x.items) c.self.view_is in
    let there : place_in g.T.Numbered.serial_of c.self.inside.places.items c.self.inside.slots.items c.args.serial ≡ Some c.in_ok-place.place = search rules in
    let who = placed g.T.Numbered.serial_of c.self.inside.places.items c.self.inside.slots.items c.self.inside.front c.self.inside.holes c.args.serial c.in_ok-place.place c.self.invariant there in
    c.take_at-item.ensures.was ∙ who.stands ∙ sym who.at.found ∙ ap (find (has_number g.T.Numbered.serial_of c.args.serial)) items

pub returns-else-self-len-clause-now : goal.returns-else-self-len-clause-now
returns-else-self-len-clause-now g c =
    let items : present c.self.inside.slots.items ≡ c.args.self.now.items = ap (λ x. x.items) c.self.view_is in
    let there : place_in g.T.Numbered.serial_of c.self.inside.places.items c.self.inside.slots.items c.args.serial ≡ Some c.in_ok-place.place = search rules in
    let who = placed g.T.Numbered.serial_of c.self.inside.places.items c.self.inside.slots.items c.self.inside.front c.self.inside.holes c.args.serial c.in_ok-place.place c.self.invariant there in
    ap present c.take_at-item.ensures.now ∙ sym who.at.without ∙ ap (without_first (has_number g.T.Numbered.serial_of c.args.serial)) items

pub returns-else-self-len-clause-room : goal.returns-else-self-len-clause-room
returns-else-self-len-clause-room g c =
    let room : vec_capacity c.self.inside.slots - vec_len c.self.inside.slots ≡ c.args.self.now.room = ap (λ x. x.room) c.self.view_is in
    let capacity : vec_capacity c.self.inside.slots ≤ vec_capacity c.take_at-item.new.slots = c.take_at-item.ensures.capacity in
    let long : vec_len c.take_at-item.new.slots ≡ vec_len c.self.inside.slots = search rules in
    omega arith
