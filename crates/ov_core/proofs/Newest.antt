-- The world before any turn, and when a line is over.
use Rattle.std.proofs.Common.{ℕ, ◌≡◌, ◌+◌, ◌≤◌, List, [], ◌∷◌, ◌++◌, refl, sym, ◌∙◌, ap, arith, zero, suc, add-one, subst}
use Rattle.std.specs.Prelude.{Some, slice_get, slice_set}
use Rattle.std.specs.List.{AllByRecursion}
use Rattle.ov_model.specs.declared.line.Route.{Route}
use Rattle.ov_model.proofs.Lanes.{all_append}
use Rattle.ov_path.specs.Desks.{Holding, NoHold}
use Rattle.ov_replay.specs.History.{History}
use Rattle.ov_core.specs.Worlds.{World, Seat, no_line}
use Rattle.ov_core.specs.Sounds.{WorldSound}
use Rattle.ov_core.specs.Seats.{Sitting, Seated, Kept, may_owe, seen, seat_of, shown_of, world_of, empty_seat, shards_to, seats_to, new_shards, new_seated, after_line}
use Rattle.ov_core.proofs.Seats.{length-slice_set, map_set, all_at}
use Rattle.ov_core.proofs.Leaving.{seen_at, own_spare, spare_set}
use Rattle.ov_core.proofs.Beginning.{sound_begun}
use Rattle.ov_core.proofs.Keeping.{keeps_free}

pub shards_more : (n : ℕ) → shards_to (n + 1) ≡ shards_to n ++ record { number = n; entries = [] } ∷ []
shards_more n = rw add-one refl

pub seats_more : (n : ℕ) → seats_to (n + 1) ≡ seats_to n ++ empty_seat ∷ []
seats_more n = rw add-one refl

numbers_new : (k : ℕ) (s : History) → slice_get new_shards k ≡ Some s → s.number ≡ k
numbers_new zero s at = (let e : ◌≡◌ {A = History} (record { number = 0; entries = [] }) s = cc in ap (λ (x : History). x.number) (sym e))
numbers_new (suc zero) s at = (let e : ◌≡◌ {A = History} (record { number = 1; entries = [] }) s = cc in ap (λ (x : History). x.number) (sym e))
numbers_new (suc (suc zero)) s at = (let e : ◌≡◌ {A = History} (record { number = 2; entries = [] }) s = cc in ap (λ (x : History). x.number) (sym e))
numbers_new (suc (suc (suc zero))) s at = (let e : ◌≡◌ {A = History} (record { number = 3; entries = [] }) s = cc in ap (λ (x : History). x.number) (sym e))
numbers_new (suc (suc (suc (suc zero)))) s at = (let e : ◌≡◌ {A = History} (record { number = 4; entries = [] }) s = cc in ap (λ (x : History). x.number) (sym e))
numbers_new (suc (suc (suc (suc (suc zero))))) s at = (let e : ◌≡◌ {A = History} (record { number = 5; entries = [] }) s = cc in ap (λ (x : History). x.number) (sym e))
numbers_new (suc (suc (suc (suc (suc (suc zero)))))) s at = (let e : ◌≡◌ {A = History} (record { number = 6; entries = [] }) s = cc in ap (λ (x : History). x.number) (sym e))
numbers_new (suc (suc (suc (suc (suc (suc (suc zero))))))) s at = (let e : ◌≡◌ {A = History} (record { number = 7; entries = [] }) s = cc in ap (λ (x : History). x.number) (sym e))
numbers_new (suc (suc (suc (suc (suc (suc (suc (suc k)))))))) s at = absurd (cc)

-- Nothing is owed yet.
abbrev HasSpare : Sitting → Type 0
HasSpare s = may_owe s.hold ≤ s.spare

all_empty : (n : ℕ) → AllByRecursion HasSpare (seats_to n)
all_empty zero = tt
all_empty (suc n) = all_append HasSpare (seats_to n) (empty_seat ∷ []) (all_empty n) (omega arith, tt)

pub new_kept : (first : ℕ) (routes : List Route) → first ≤ 4294967296 → Kept (new_seated first routes)
new_kept first routes most = record {
  sound = (sound_begun (λ a. a) (record { lines = []; routes = [] }) first most).world;
  long = refl;
  turn = omega arith;
  numbers = numbers_new;
  spare = λ i s at. all_at HasSpare (seats_to 64) i s (all_empty 64) at;
}

-- ---- a line is over

pub line_done : (d : Seated) → Kept d → (shown_of d).hold ≡ NoHold → (shown_of d).owing ≡ [] → Kept (after_line d)
line_done d kept free owes =
    let s : Sitting = record (seat_of d) { events = [] } in
    let w : World = world_of d in
    let new_is : seen s ≡ no_line = ap (λ (h : Holding). record { events = []; hold = h; owing = (seat_of d).owing }) free ∙ ap (λ os. record { events = []; hold = NoHold; owing = os }) owes in
    let is : world_of (after_line d) ≡ record w { seats = slice_set w.seats d.turn no_line } =
    ap (λ (x : List Seat). record w { seats = x }) (map_set seen d.seats d.turn s ∙ ap (λ x. slice_set w.seats d.turn x) new_is) in
    record {
      sound = subst WorldSound (sym is) (keeps_free w d.turn (seen (seat_of d)) kept.sound (seen_at d kept) free owes);
      long = length-slice_set d.seats d.turn s ∙ kept.long;
      turn = kept.turn;
      numbers = kept.numbers;
      spare = spare_set d s kept (own_spare d kept);
    }
