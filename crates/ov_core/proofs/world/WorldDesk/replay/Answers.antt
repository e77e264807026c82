-- A replay step.
use Rattle.std.proofs.Common.{◌≡◌, ◌%◌, sym, refl, subst, ◌∙◌, ap, slice_set, [], ◌∷◌, ◌++◌}
use Rattle.std.specs.Prelude.{Some, slice_get}
use Rattle.ov_model.specs.Events.{Judged}
use Rattle.ov_model.specs.Next.{stand_of}
use Rattle.ov_model.specs.Replay.{judged}
use Rattle.ov_path.specs.Desks.{HoldsKey, IsLooked, judged_at}
use Rattle.ov_core.specs.contracts.world.World.{the_view}
use Rattle.ov_core.specs.Seats.{Seated, Sitting, Kept, shown_of, seat_of, after_judged}
use Rattle.ov_core.proofs.Seats.{read_there}
use Rattle.ov_core.proofs.Leaving.{EventDone, did_at, same_world, shard_below}
use Rattle.ov_core.proofs.Asking.{replay_done, judgement_at, read_seat}
use Rattle.ov_core.proofs.world.WorldDesk.replay.Goals as goal

abbrev was : (c : goal.After-self-2-1) → Seated
was c = the_view c.self.inside

abbrev now : (c : goal.After-self-2-1) → Seated
now c = record {
  table = (was c).table;
  shards = slice_set (was c).shards (c.args.key % 8) c.step.new.self;
  first = (was c).first;
  next = (was c).next;
  seats = slice_set (was c).seats (was c).turn c.saw.new.self;
  turn = (was c).turn;
  routes = (was c).routes;
}

shard_is : (c : goal.After-self-2-1) → slice_get (was c).shards (c.args.key % 8) ≡ Some c.index_mut.result.now
shard_is c = read_there (was c).shards (c.args.key % 8) c.index_mut.result.now (shard_below (was c) c.args.key c.self.invariant) c.index_mut.ensures.value

done : (c : goal.After-self-2-1) → EventDone (was c) (Judged (judgement_at c.index_mut.result.now c.args.place c.args.key c.args.id c.args.at)) (after_judged (was c) c.index_mut.result.now c.args.place c.args.key c.args.id c.args.at)
done c = replay_done (was c) c.index_mut.result.now c.args.place c.args.key c.args.id c.args.at c.self.invariant
    (subst (λ (d : Seated). HoldsKey (shown_of d).hold c.args.key) (sym c.self.view_is) c.requires.held)
    (subst (λ (d : Seated). IsLooked (stand_of (shown_of d).events)) (sym c.self.view_is) c.requires.looked) (shard_is c)

verdict_is : (c : goal.After-self-2-1) → c.in_ok-verdict.verdict ≡ (judged c.index_mut.result.now.entries c.args.place c.args.key c.args.id c.args.at).verdict
verdict_is c = c.in_ok-verdict.ensures.verdict

is : (c : goal.After-self-2-1) → now c ≡ after_judged (was c) c.index_mut.result.now c.args.place c.args.key c.args.id c.args.at
is c = same_world (now c) (after_judged (was c) c.index_mut.result.now c.args.place c.args.key c.args.id c.args.at) refl refl
    (ap (λ s. slice_set (was c).shards (c.args.key % 8) s) c.in_ok-verdict.ensures.ok) refl refl
    (ap (λ s. slice_set (was c).seats (was c).turn s) (c.saw.ensures
    ∙ ap (λ (s : Sitting). record s { events = s.events ++ judged_at c.args.place c.args.key c.args.id c.args.at c.in_ok-verdict.verdict ∷ [] }) (read_seat (was c) c.index_mut-2.result.now c.self.invariant c.index_mut-2.ensures.value)
    ∙ ap (λ v. record (seat_of (was c)) { events = (seat_of (was c)).events ++ judged_at c.args.place c.args.key c.args.id c.args.at v ∷ [] }) (verdict_is c)))
    refl

pub invariant_of-self-2 : goal.invariant_of-self-2
invariant_of-self-2 c = subst Kept (sym (is c)) (done c).kept

pub returns-clause-ok : goal.returns-clause-ok
returns-clause-ok c = did_at c.self.view_is (is c) (ap (λ v. judged_at c.args.place c.args.key c.args.id c.args.at v) (verdict_is c)) (done c).did
