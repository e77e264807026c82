-- A release.
use Rattle.std.proofs.Common.{◌≡◌, sym, refl, subst, ◌∙◌, ap, slice_set}
use Rattle.std.specs.Prelude.{Some}
use Rattle.ov_model.specs.declared.act.Call.{Call}
use Rattle.ov_model.specs.Events.{Stepped, release_of}
use Rattle.ov_model.specs.Step.{May}
use Rattle.ov_path.specs.Desks.{first_owed}
use Rattle.ov_table.specs.Recorded.{stepped}
use Rattle.ov_core.specs.contracts.world.World.{the_view}
use Rattle.ov_core.specs.Seats.{Seated, Kept, shown_of, seat_of, seen, world_of, release_call, after_release}
use Rattle.ov_core.proofs.Leaving.{EventDone, did_at, same_world, seen_at}
use Rattle.ov_core.proofs.Mays.{release_may}
use Rattle.ov_core.proofs.Calling.{release_asks, release_done, released_is}
use Rattle.ov_core.proofs.world.WorldDesk.release.Goals as goal

pub step-requires : goal.step-requires
step-requires c =
    let d : Seated = the_view c.self.inside in
    let kept : Kept d = c.self.invariant in
    let first : first_owed (shown_of d).owing ≡ Some c.args.owed = subst (λ (x : Seated). first_owed (shown_of x).owing ≡ Some c.args.owed) (sym c.self.view_is) c.requires.first in
    subst (λ (call : Call). May d.table.now call) (sym c.release_call-call.ensures) (release_may (world_of d) d.turn (seen (seat_of d)) (release_call c.args.at c.args.owed) c.args.owed kept.sound (seen_at d kept) first (release_asks c.args.at c.args.owed))

abbrev was : (c : goal.Joined-reply) → Seated
was c = the_view c.self.inside

abbrev now : (c : goal.Joined-reply) → Seated
now c = record {
  table = c.step.new.self;
  shards = (was c).shards;
  first = (was c).first;
  next = (was c).next;
  seats = slice_set (was c).seats (was c).turn c.released.new.self;
  turn = (was c).turn;
  routes = (was c).routes;
}

done : (c : goal.Joined-reply) → EventDone (was c) (Stepped (release_of c.args.place c.args.at c.args.owed)) (after_release (was c) c.args.place c.args.at c.args.owed)
done c = release_done (was c) c.args.place c.args.at c.args.owed c.self.invariant (subst (λ (d : Seated). first_owed (shown_of d).owing ≡ Some c.args.owed) (sym c.self.view_is) c.requires.first)

is : (c : goal.Joined-reply) → now c ≡ after_release (was c) c.args.place c.args.at c.args.owed
is c = same_world (now c) (after_release (was c) c.args.place c.args.at c.args.owed) refl
    (c.in-Ok.ensures.stepped ∙ ap (λ call. stepped (was c).table c.args.place call) c.release_call-call.ensures) refl refl refl
    (ap (λ s. slice_set (was c).seats (was c).turn s) (c.released.ensures
    ∙ released_is (was c) c.args.place c.args.at c.args.owed c.index_mut.result.now c.release_call-call.result c.in-Ok.reply c.step.new.self c.self.invariant c.index_mut.ensures.value c.release_call-call.ensures c.in-Ok.ensures.reply c.in-Ok.ensures.stepped))
    refl

pub invariant_of-self : goal.invariant_of-self
invariant_of-self c = subst Kept (sym (is c)) (done c).kept

pub returns : goal.returns
returns c = record { released = did_at c.self.view_is (is c) refl (done c).did }
