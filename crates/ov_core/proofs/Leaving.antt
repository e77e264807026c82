-- The seats as an event leaves them.
use Rattle.std.proofs.Common.{ℕ, ◌≡◌, ◌-◌, ◌≤◌, ◌<◌, ◌%◌, inl, inr, List, [], ◌∷◌, ◌++◌, length, append-nil, refl, sym, ◌∙◌, ap, subst, arith}
use Rattle.std.specs.Prelude.{Some, slice_get, slice_set}
use Rattle.std.proofs.lemmas.List.{length-map}
use Rattle.ov_model.specs.declared.hold.Given.{Given}
use Rattle.ov_model.specs.declared.hold.Given.TheVariants as given
use Rattle.ov_model.specs.declared.hold.Owed.{Owed}
use Rattle.ov_model.specs.declared.line.Route.{Route}
use Rattle.ov_model.specs.Events.{Event}
use Rattle.ov_path.specs.Desks.{Did, HopsStay, hold_left, owed_left, owed_if}
use Rattle.ov_replay.specs.History.{History}
use Rattle.ov_table.specs.Recorded.{Recorded}
use Rattle.ov_core.specs.Worlds.{Makes}
use Rattle.ov_core.specs.Sounds.{WorldSound}
use Rattle.ov_core.specs.Seats.{Sitting, Seated, Happened, seen, world_of, seat_of, shown_of, histories, via_in, empty_seat, owing_if, owing_list, may_owe, Kept}
use Rattle.ov_core.proofs.Seats.{length-slice_set, set_case, get_own, set_own, map_get}

-- ---- the lane that has its turn

pub below : (d : Seated) → Kept d → d.turn < length d.seats
below d kept = let long = kept.long in let turn = kept.turn in omega arith

pub own_at : (d : Seated) → Kept d → slice_get d.seats d.turn ≡ Some (seat_of d)
own_at d kept = get_own d.seats d.turn empty_seat (below d kept)

pub seen_at : (d : Seated) → Kept d → slice_get (world_of d).seats d.turn ≡ Some (seen (seat_of d))
seen_at d kept = map_get seen d.seats d.turn (seat_of d) (own_at d kept)

-- Its line has the room that it may need.
pub own_spare : (d : Seated) → Kept d → may_owe (seat_of d).hold ≤ (seat_of d).spare
own_spare d kept = kept.spare d.turn (seat_of d) (own_at d kept)

-- ---- what an event leaves

pub spare_set : (d : Seated) (s : Sitting) → Kept d → may_owe s.hold ≤ s.spare → (i : ℕ) (t : Sitting) → slice_get (slice_set d.seats d.turn s) i ≡ Some t → may_owe t.hold ≤ t.spare
spare_set d s kept own i t at =
    elim (set_case d.seats d.turn i s t at) [
      | inl here ↦ subst (λ (x : Sitting). may_owe x.hold ≤ x.spare) (sym here.1) own
      | inr there ↦ kept.spare i t there.1
    ]

-- An event is done: the line sees it, and what is kept stays true.
pub record EventDone (d : Seated) (event : Event) (e : Seated) : Type 0 where
  pub did : Did shown_of Happened d event e
  pub kept : Kept e

pub did_at : {d0 d e f : Seated} {x y : Event} → d ≡ d0 → f ≡ e → y ≡ x → Did shown_of Happened d x e → Did shown_of Happened d0 y f
did_at same is event did = rw (← same, is, event) did

-- What an event makes of the seat of the lane that has its turn, where no step of the table is made.
pub record Change (d : Seated) (event : Event) (s : Sitting) : Type 0 where
  pub events : s.events ≡ (seat_of d).events ++ event ∷ []
  pub hold : s.hold ≡ hold_left (seat_of d).hold event
  pub owing : s.owing ≡ owed_left (seat_of d).owing event
  pub spare : may_owe s.hold ≤ s.spare

pub quiet_done : (d e : Seated) (event : Event) (s : Sitting) → Kept d → e.table ≡ d.table → e.turn ≡ d.turn → e.routes ≡ d.routes → e.seats ≡ slice_set d.seats d.turn s → ((k : ℕ) (h : History) → slice_get e.shards k ≡ Some h → h.number ≡ k) → Change d event s → HopsStay event (via_in d) (via_in e)
    → Makes (world_of d) d.turn (seen (seat_of d)) event (world_of e) → WorldSound (world_of e) → EventDone d event e
quiet_done d e event s kept table turn routes seats numbers change hops makes sound =
    let own : seat_of e ≡ s = rw (seats, turn) (set_own d.seats d.turn s empty_seat (below d kept)) in
    record {
      did = record {
        leaves = record {
          events = ap (λ (x : Sitting). x.events) own ∙ change.events;
          hold_is = ap (λ (x : Sitting). x.hold) own ∙ change.hold;
          owing_is = ap (λ (x : Sitting). x.owing) own ∙ change.owing;
          grows = λ k m is. rw table is;
          hops = hops;
        };
        done = record { happened = record { seat = seen (seat_of d); seat_is = seen_at d kept; makes = makes }; turn = turn; routes = routes };
      };
      kept = record {
        sound = sound;
        long = ap length seats ∙ length-slice_set d.seats d.turn s ∙ kept.long;
        turn = rw turn kept.turn;
        numbers = numbers;
        spare = rw seats (spare_set d s kept change.spare);
      };
    }

-- ---- a release that joins what is owed

pub owing_if_is : (s : Sitting) (g : Given) (o : Owed) → owing_if s g o ≡ owing_list s (owed_if g o)
owing_if_is s given.Last o = refl
owing_if_is s given.More o =
    let none : s.owing ++ [] ≡ s.owing = append-nil s.owing in
    let same : s.spare - 0 ≡ s.spare = omega arith in
    rw (none, same) refl

pub one_owed : (g : Given) (o : Owed) → length (owed_if g o) ≤ 1
one_owed given.Last o = omega arith
one_owed given.More o = omega arith

-- ---- the same world

pub same_world : (e d : Seated) → e.routes ≡ d.routes → e.table ≡ d.table → e.shards ≡ d.shards → e.first ≡ d.first → e.next ≡ d.next → e.seats ≡ d.seats → e.turn ≡ d.turn → e ≡ d
same_world e d routes table shards first next seats turn =
    let F : Recorded → List History → ℕ → List ℕ → List Sitting → ℕ → List Route → Seated = λ t s f n x u r. record { table = t; shards = s; first = f; next = n; seats = x; turn = u; routes = r } in
    ap (λ t. F t e.shards e.first e.next e.seats e.turn e.routes) table
    ∙ ap (λ s. F d.table s e.first e.next e.seats e.turn e.routes) shards
    ∙ ap (λ f. F d.table d.shards f e.next e.seats e.turn e.routes) first
    ∙ ap (λ n. F d.table d.shards d.first n e.seats e.turn e.routes) next
    ∙ ap (λ x. F d.table d.shards d.first d.next x e.turn e.routes) seats
    ∙ ap (λ u. F d.table d.shards d.first d.next d.seats u e.routes) turn
    ∙ ap (λ r. F d.table d.shards d.first d.next d.seats d.turn r) routes

pub shard_below : (d : Seated) (key : ℕ) → Kept d → key % 8 < length d.shards
shard_below d key kept =
    let eight : length (histories d.shards) ≡ 8 = kept.sound.eight in
    let same : length (histories d.shards) ≡ length d.shards = length-map d.shards (λ (s : History). s.entries) in
    omega arith
