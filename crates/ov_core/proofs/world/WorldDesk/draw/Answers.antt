-- A draw.
use Rattle.std.proofs.Common.{◌≡◌, sym, refl, subst, ◌∙◌, ap, get_or, slice_set, [], ◌∷◌, ◌++◌}
use Rattle.ov_model.specs.Events.{Drew}
use Rattle.ov_model.specs.Next.{stand_of}
use Rattle.ov_path.specs.Desks.{HoldsKey, IsLooked}
use Rattle.ov_core.specs.contracts.world.World.{the_view}
use Rattle.ov_core.specs.Worlds.{drawn_of, next_after}
use Rattle.ov_core.specs.Seats.{Seated, Sitting, Kept, shown_of, seat_of, after_drawn}
use Rattle.ov_core.proofs.Leaving.{EventDone, did_at, same_world}
use Rattle.ov_core.proofs.Asking.{draw_done, draw_index, draw_read, draw_most, read_seat}
use Rattle.ov_core.proofs.world.WorldDesk.draw.Goals as goal

pub index-next-requires : goal.index-next-requires
index-next-requires c = rw c.self.inside.next.ok.0 (draw_index c.args.key c.self.view_is c.self.invariant c.requires.held)

pub drawn-result-requires : goal.drawn-result-requires
drawn-result-requires c = draw_most (the_view c.self.inside) c.args.key c.index-next.result.now c.self.invariant (draw_index c.args.key c.self.view_is c.self.invariant c.requires.held) c.index-next.ensures

pub following-requires : goal.following-requires
following-requires c = draw_most (the_view c.self.inside) c.args.key c.index-next.result.now c.self.invariant (draw_index c.args.key c.self.view_is c.self.invariant c.requires.held) c.index-next.ensures

pub index_mut-requires : goal.index_mut-requires
index_mut-requires c = rw c.self.inside.next.ok.0 (draw_index c.args.key c.self.view_is c.self.invariant c.requires.held)

abbrev was : (c : goal.After-self-2-1) → Seated
was c = the_view c.self.inside

abbrev now : (c : goal.After-self-2-1) → Seated
now c = record {
  table = (was c).table;
  shards = (was c).shards;
  first = (was c).first;
  next = slice_set (was c).next c.args.key c.following.result;
  seats = slice_set (was c).seats (was c).turn c.saw.new.self;
  turn = (was c).turn;
  routes = (was c).routes;
}

read : (c : goal.After-self-2-1) → c.index-next.result.now ≡ get_or (was c).next c.args.key (was c).first
read c = draw_read (was c) c.args.key c.index-next.result.now (draw_index c.args.key c.self.view_is c.self.invariant c.requires.held) c.index-next.ensures

done : (c : goal.After-self-2-1) → EventDone (was c) (Drew c.args.key (drawn_of (get_or (was c).next c.args.key (was c).first))) (after_drawn (was c) c.args.key)
done c = draw_done (was c) c.args.key c.self.invariant
    (subst (λ (d : Seated). HoldsKey (shown_of d).hold c.args.key) (sym c.self.view_is) c.requires.held)
    (subst (λ (d : Seated). IsLooked (stand_of (shown_of d).events)) (sym c.self.view_is) c.requires.looked)

drew : (c : goal.After-self-2-1) → c.drawn-result.result ≡ drawn_of (get_or (was c).next c.args.key (was c).first)
drew c = c.drawn-result.ensures ∙ ap drawn_of (read c)

is : (c : goal.After-self-2-1) → now c ≡ after_drawn (was c) c.args.key
is c = same_world (now c) (after_drawn (was c) c.args.key) refl refl refl refl
    (ap (λ v. slice_set (was c).next c.args.key v) (c.following.ensures ∙ ap next_after (read c)))
    (ap (λ s. slice_set (was c).seats (was c).turn s) (c.saw.ensures
    ∙ ap (λ (s : Sitting). record s { events = s.events ++ Drew c.args.key c.drawn-result.result ∷ [] }) (read_seat (was c) c.index_mut-2.result.now c.self.invariant c.index_mut-2.ensures.value)
    ∙ ap (λ r. record (seat_of (was c)) { events = (seat_of (was c)).events ++ Drew c.args.key r ∷ [] }) (drew c)))
    refl

pub invariant_of-self : goal.invariant_of-self
invariant_of-self c = subst Kept (sym (is c)) (done c).kept

pub returns : goal.returns
returns c = record { drew = did_at c.self.view_is (is c) (ap (λ r. Drew c.args.key r) (drew c)) (done c).did }
