-- A step of the table.
use Rattle.std.proofs.Common.{List, ◌≡◌, ◌<◌, ◌≤◌, sym, refl, subst, ◌∙◌, ap, slice_set, get_or, length, map, ◌++◌}
use Rattle.ov_model.specs.declared.hold.Owed.TheVariants as owed
use Rattle.ov_model.specs.Lifetime.{key_made_by}
use Rattle.ov_model.specs.Path.{removed}
use Rattle.ov_model.specs.Step.{step}
use Rattle.ov_path.specs.Desks.{MayCall}
use Rattle.ov_table.specs.Recorded.{Recorded}
use Rattle.ov_core.specs.contracts.world.World.{the_view}
use Rattle.ov_core.specs.Seats.{Seated, Sitting, Kept, shown_of, via_in, seat_of, begun_at, seen, world_of, owe_each, empty_seat, after_call}
use Rattle.ov_core.proofs.Leaving.{same_world, seen_at}
use Rattle.ov_core.proofs.Asking.{read_seat}
use Rattle.ov_core.proofs.Mays.{call_may}
use Rattle.ov_core.proofs.Calling.{CallDone, call_done, called_at, begun, begun_so, readies, called_seats, called_below}
use Rattle.ov_core.proofs.world.WorldDesk.table.Goals as goal

pub step-requires : goal.step-requires
step-requires c =
    let d : Seated = the_view c.self.inside in
    let kept_d : Kept d = c.self.invariant in
    call_may (via_in d) (world_of d) d.turn (seen (seat_of d)) c.args.call.now kept_d.sound (seen_at d kept_d) (subst (λ (x : Seated). MayCall (shown_of x) c.args.call.now.act) (sym c.self.view_is) c.requires.may)

pub invariant_of-self-in_err-reply : goal.invariant_of-self-in_err-reply
invariant_of-self-in_err-reply c =
    let d : Seated = the_view c.self.inside in
    let now : Seated = record { table = c.step.new.self; shards = d.shards; first = d.first; next = c.reserve.new.self.items; seats = slice_set d.seats d.turn c.begin.new.self; turn = d.turn; routes = d.routes } in
    let is : now ≡ record d { seats = slice_set d.seats d.turn (begun_at d.table.now c.args.call.now.act (seat_of d)) } =
    same_world now (record d { seats = slice_set d.seats d.turn (begun_at d.table.now c.args.call.now.act (seat_of d)) }) refl c.in_err-reply.ensures.memory refl refl c.in_ok-reserve.ensures.items
    (ap (λ (s : Sitting). slice_set d.seats d.turn s) (begun_so d.table.now c.args.call.now.act c.room_of-room.result c.index_mut.result.now c.begin.new.self c.room_of-room.ensures c.in_ok-begin.ensures.ok ∙ ap (λ (s : Sitting). begun_at d.table.now c.args.call.now.act s) (read_seat d c.index_mut.result.now c.self.invariant c.index_mut.ensures.value))) refl in
    (begun d now c.args.call.now.act c.self.invariant is).kept

pub owe_taken-requires-clause-spare : goal.owe_taken-requires-clause-spare
owe_taken-requires-clause-spare c =
    let d : Seated = the_view c.self.inside in
    let taken_is : c.taken.result.now ≡ (step d.table.now c.args.call.now).taken = c.taken.ensures ∙ ap (λ (r : Recorded). r.taken) c.in_ok-reply.ensures.stepped in
    (readies d c.args.place c.args.call.now c.index_mut.result.now c.begin.new.self c.taken.result.now (removed (step d.table.now c.args.call.now).reply) c.self.invariant (subst (λ (x : Seated). MayCall (shown_of x) c.args.call.now.act) (sym c.self.view_is) c.requires.may) c.index_mut.ensures.value (begun_so d.table.now c.args.call.now.act c.room_of-room.result c.index_mut.result.now c.begin.new.self c.room_of-room.ensures c.in_ok-begin.ensures.ok) taken_is refl).first_spare

pub owe_removed-requires-clause-turn : goal.owe_removed-requires-clause-turn
owe_removed-requires-clause-turn c =
    let d : Seated = the_view c.self.inside in
    let taken_is : c.taken.result.now ≡ (step d.table.now c.args.call.now).taken = c.taken.ensures ∙ ap (λ (r : Recorded). r.taken) c.in_ok-reply.ensures.stepped in
    subst (λ (x : List Sitting). d.turn < length x) (sym c.owe_taken.ensures)
    (readies d c.args.place c.args.call.now c.index_mut.result.now c.begin.new.self c.taken.result.now (removed (step d.table.now c.args.call.now).reply) c.self.invariant (subst (λ (x : Seated). MayCall (shown_of x) c.args.call.now.act) (sym c.self.view_is) c.requires.may) c.index_mut.ensures.value (begun_so d.table.now c.args.call.now.act c.room_of-room.result c.index_mut.result.now c.begin.new.self c.room_of-room.ensures c.in_ok-begin.ensures.ok) taken_is refl).long

pub owe_removed-requires-clause-spare : goal.owe_removed-requires-clause-spare
owe_removed-requires-clause-spare c =
    let d : Seated = the_view c.self.inside in
    let taken_is : c.taken.result.now ≡ (step d.table.now c.args.call.now).taken = c.taken.ensures ∙ ap (λ (r : Recorded). r.taken) c.in_ok-reply.ensures.stepped in
    let gone_is : c.removed_by.result.now ≡ removed (step d.table.now c.args.call.now).reply = c.removed_by.ensures ∙ ap removed c.in_ok-reply.ensures.reply in
    subst (λ (x : List Sitting). length c.removed_by.result.now ≤ (get_or x d.turn empty_seat).spare) (sym c.owe_taken.ensures)
    (readies d c.args.place c.args.call.now c.index_mut.result.now c.begin.new.self c.taken.result.now c.removed_by.result.now c.self.invariant (subst (λ (x : Seated). MayCall (shown_of x) c.args.call.now.act) (sym c.self.view_is) c.requires.may) c.index_mut.ensures.value (begun_so d.table.now c.args.call.now.act c.room_of-room.result c.index_mut.result.now c.begin.new.self c.room_of-room.ensures c.in_ok-begin.ensures.ok) taken_is gone_is).second_spare

pub index_mut-requires-2 : goal.index_mut-requires-2
index_mut-requires-2 c =
    let d : Seated = the_view c.self.inside in
    let taken_is : c.taken.result.now ≡ (step d.table.now c.args.call.now).taken = c.taken.ensures ∙ ap (λ (r : Recorded). r.taken) c.in_ok-reply.ensures.stepped in
    let gone_is : c.removed_by.result.now ≡ removed (step d.table.now c.args.call.now).reply = c.removed_by.ensures ∙ ap removed c.in_ok-reply.ensures.reply in
    let ready = readies d c.args.place c.args.call.now c.index_mut.result.now c.begin.new.self c.taken.result.now c.removed_by.result.now c.self.invariant (subst (λ (x : Seated). MayCall (shown_of x) c.args.call.now.act) (sym c.self.view_is) c.requires.may) c.index_mut.ensures.value (begun_so d.table.now c.args.call.now.act c.room_of-room.result c.index_mut.result.now c.begin.new.self c.room_of-room.ensures c.in_ok-begin.ensures.ok) taken_is gone_is in
    rw c.owe_removed.new.seats.ok.0 (called_below d c.args.call.now c.begin.new.self c.taken.result.now c.removed_by.result.now c.owe_removed.new.seats.items c.self.invariant ready
    (c.owe_removed.ensures ∙ ap (λ (x : List Sitting). owe_each x d.turn (map owed.Peer c.removed_by.result.now)) c.owe_taken.ensures))

abbrev was : (c : goal.After-self-2-1) → Seated
was c = the_view c.self.inside

abbrev now : (c : goal.After-self-2-1) → Seated
now c = record {
  table = c.step.new.self;
  shards = (was c).shards;
  first = (was c).first;
  next = c.count_key.new.next.items;
  seats = slice_set c.owe_removed.new.seats.items (was c).turn c.stepped.new.self;
  turn = (was c).turn;
  routes = (was c).routes;
}

may : (c : goal.After-self-2-1) → MayCall (shown_of (was c)) c.args.call.now.act
may c = subst (λ (x : Seated). MayCall (shown_of x) c.args.call.now.act) (sym c.self.view_is) c.requires.may

done : (c : goal.After-self-2-1) → CallDone (was c) c.args.place c.args.call.now c.in_ok-reply.reply
done c = call_done (was c) c.args.place c.args.call.now c.in_ok-reply.reply c.self.invariant (may c) c.in_ok-reply.ensures.reply

taken_is : (c : goal.After-self-2-1) → c.taken.result.now ≡ (step (was c).table.now c.args.call.now).taken
taken_is c = c.taken.ensures ∙ ap (λ (r : Recorded). r.taken) c.in_ok-reply.ensures.stepped

is : (c : goal.After-self-2-1) → now c ≡ after_call (was c) c.args.place c.args.call.now c.in_ok-reply.reply
is c = same_world (now c) (after_call (was c) c.args.place c.args.call.now c.in_ok-reply.reply) refl c.in_ok-reply.ensures.stepped refl refl
    (c.count_key.ensures ∙ ap (λ ns. ns ++ map (λ _. (was c).first) (key_made_by c.args.call.now.act c.in_ok-reply.reply)) c.in_ok-reserve.ensures.items)
    (called_seats (was c) c.args.place c.args.call.now c.in_ok-reply.reply c.begin.new.self c.index_mut-2.result.now c.stepped.new.self c.taken.result.now c.removed_by.result.now c.owe_removed.new.seats.items c.step.new.self c.self.invariant
    (readies (was c) c.args.place c.args.call.now c.index_mut.result.now c.begin.new.self c.taken.result.now c.removed_by.result.now c.self.invariant (may c) c.index_mut.ensures.value (begun_so (was c).table.now c.args.call.now.act c.room_of-room.result c.index_mut.result.now c.begin.new.self c.room_of-room.ensures c.in_ok-begin.ensures.ok) (taken_is c) (c.removed_by.ensures ∙ ap removed c.in_ok-reply.ensures.reply))
    (taken_is c) c.removed_by.ensures
    (c.owe_removed.ensures ∙ ap (λ (x : List Sitting). owe_each x (was c).turn (map owed.Peer c.removed_by.result.now)) c.owe_taken.ensures) c.index_mut-2.ensures.value c.in_ok-reply.ensures.stepped c.stepped.ensures)
    refl

pub invariant_of-self-2 : goal.invariant_of-self-2
invariant_of-self-2 c = subst Kept (sym (is c)) (done c).kept

pub returns-clause-ok : goal.returns-clause-ok
returns-clause-ok c = called_at c.self.view_is (is c) (done c).called
