-- What is given back.
use Rattle.std.proofs.Common.{◌≡◌, sym, refl, subst, ap, slice_set}
use Rattle.ov_core.specs.contracts.world.World.{the_view}
use Rattle.ov_past.specs.Pasts.{gave}
use Rattle.ov_core.specs.Seats.{Seated, Kept, GivesBack, shown_of, given_back, after_gave}
use Rattle.ov_core.proofs.Leaving.{EventDone, did_at, same_world}
use Rattle.ov_core.proofs.Asking.{gave_done, gave_is, gave_spare}
use Rattle.ov_core.proofs.world.World.let_go.Goals as goal

pub gave-requires : goal.gave-requires
gave-requires c = gave_spare c.args.owed c.index_mut.result.now c.let_go.new.self c.index_mut-2.result.now c.self.view_is c.self.invariant c.requires
    (record { x_is = c.index_mut.ensures.value; left_is = c.let_go.ensures; y_is = c.index_mut-2.ensures.value })

abbrev was : (c : goal.After-self-2-1) → Seated
was c = the_view c.self.inside

abbrev now : (c : goal.After-self-2-1) → Seated
now c = record {
  table = (was c).table;
  shards = (was c).shards;
  first = (was c).first;
  next = (was c).next;
  seats = slice_set (slice_set (was c).seats (was c).turn c.let_go.new.self) (was c).turn c.gave.new.self;
  turn = (was c).turn;
  routes = (was c).routes;
}

done : (c : goal.After-self-2-1) → EventDone (was c) (gave c.args.owed (given_back (was c) c.args.owed)) (after_gave (was c) c.args.owed)
done c = gave_done (was c) c.args.owed c.self.invariant (subst (λ (d : Seated). GivesBack (shown_of d).hold c.args.owed) (sym c.self.view_is) c.requires)

made : (c : goal.After-self-2-1) → (c.last_of-given.result ≡ given_back (was c) c.args.owed) × ((now c).seats ≡ (after_gave (was c) c.args.owed).seats)
made c = gave_is (was c) c.args.owed c.index_mut.result.now c.let_go.new.self c.index_mut-2.result.now c.gave.new.self c.last_of-given.result c.as_slice.result.now c.self.invariant
    (record { x_is = c.index_mut.ensures.value; left_is = c.let_go.ensures; y_is = c.index_mut-2.ensures.value }) c.gave.ensures c.as_slice.ensures.value c.last_of-given.ensures

is : (c : goal.After-self-2-1) → now c ≡ after_gave (was c) c.args.owed
is c = same_world (now c) (after_gave (was c) c.args.owed) refl refl refl refl refl (made c).1 refl

pub invariant_of-self : goal.invariant_of-self
invariant_of-self c = subst Kept (sym (is c)) (done c).kept

pub returns : goal.returns
returns c = did_at c.self.view_is (is c) (ap (λ g. gave c.args.owed g) (made c).0) (done c).did
