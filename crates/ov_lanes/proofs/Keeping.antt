-- Lanes that ran some of their lines, or saw more, are at work as before.
use Rattle.std.proofs.Common.{ℕ, suc, ◌≡◌, List, [], ◌∷◌, length, map, refl, sym, ◌∙◌, ap, subst, false, arith, inl, inr}
use Rattle.std.specs.Prelude.{slice_get, slice_set, Some}
use Rattle.std.specs.List.{AllByRecursion}
use Rattle.std.proofs.lemmas.List.{length-set}
use Rattle.std.proofs.lemmas.Option.{same_Some, slice_get_within}
use Rattle.ov_base.specs.Sums.{total}
use Rattle.ov_model.specs.declared.line.Line.{Line}
use Rattle.ov_model.specs.declared.place.Place.{Place}
use Rattle.ov_model.specs.Own.{RiseFrom}
use Rattle.ov_model.specs.Via.{via_of}
use Rattle.ov_replay.specs.Desk.{Part, part_at, HasLooked}
use Rattle.ov_turn.proofs.Fronts.{prefix_self}
use Rattle.ov_share.specs.Shares.{Sharing}
use Rattle.ov_share.specs.Passings.{Passing}
use Rattle.ov_lane.specs.Passes.{Shared, IsPassOf, IsFree}
use Rattle.ov_share.specs.Keepings.{LaneKept}
use Rattle.ov_share.specs.Makings.{SawMore}
use Rattle.ov_course.specs.Courses.{HasSameShares}
use Rattle.ov_course.proofs.Keeping.{kept_saw}
use Rattle.ov_core.proofs.Ending.{At, get_below}
use Rattle.ov_core.proofs.Seats.{set_case, all_at}
use Rattle.ov_lanes.specs.Jobs.{Lane, IsReady, Stands, StaysReady, LaneSaw, AreAtWork}
use Rattle.ov_lanes.proofs.Working.{ready_saw}

-- ---- one lane

-- A part that is as it was.
looked_same : (old new : Part) → new ≡ old → HasLooked old new
looked_same old new same = subst (HasLooked old) (sym same) (record { front = prefix_self old.seen; same = refl })

-- A lane is the same lane of its table, and ready again.
pub record Keeps (old new : Lane) : Type 0 where
  pub table : new.table ≡ old.table
  pub lines : new.lines ≡ old.lines
  pub number : new.pass.number ≡ old.pass.number
  pub shares : HasSameShares old.pass.share new.pass.share
  pub ready : IsReady new

-- As it is.
pub keeps_itself : (lane : Lane) → IsReady lane → Keeps lane lane
keeps_itself lane ready = record { table = refl; lines = refl; number = refl; shares = record { name = refl; table = refl; names = λ i. refl; parts = λ i. refl; counters = refl; drawer = refl }; ready = ready }

-- Where some of its lines were run.
pub keeps_ran : (kind : Place → Type 0) (old new : Lane) → StaysReady kind old new → Keeps old new
keeps_ran kind old new stays = record { table = stays.table; lines = stays.lines; number = stays.number; shares = stays.shares; ready = stays.ready }

-- Where it saw more.
pub keeps_saw : (old new : Lane) → LaneSaw old new → IsReady old → Keeps old new
keeps_saw old new saw ready =
    let now : IsReady (record old { pass = new.pass }) = ready_saw old new.pass saw.saw ready in
    let share : new.pass.share ≡ record old.pass.share { sight = new.pass.share.sight } = saw.saw.seen.same in
    record {
      table = ap (λ (l : Lane). l.table) saw.same;
      lines = ap (λ (l : Lane). l.lines) saw.same;
      number = ap (λ (p : Passing). p.number) saw.saw.same;
      shares = record {
        name = ap (λ (s : Sharing). s.name) share;
        table = ap (λ s. s.share) saw.saw.seen.seen.same;
        names = λ i. ap (λ (s : Sharing). (part_at s.parts i).name) share;
        parts = λ i. ap (λ (s : Sharing). (part_at s.parts i).share) share;
        counters = ap (λ (s : Sharing). s.drawer.of) share;
        drawer = ap (λ (s : Sharing). s.drawer.share) share;
      };
      ready = subst IsReady (sym saw.same) now;
    }

pub stands_saw : (old new : Lane) → LaneSaw old new → Stands old → Stands new
stands_saw old new saw stands =
    let share : new.pass.share ≡ record old.pass.share { sight = new.pass.share.sight } = saw.saw.seen.same in
    let parts : new.pass.share.parts ≡ old.pass.share.parts = ap (λ (s : Sharing). s.parts) share in
    let more : SawMore old.pass.share new.pass.share = record {
      table = saw.saw.seen.seen;
      shards = λ i. looked_same (part_at old.pass.share.parts i) (part_at new.pass.share.parts i) (ap (λ ps. part_at ps i) parts);
      drawer = ap (λ (s : Sharing). s.drawer) share;
      name = ap (λ (s : Sharing). s.name) share;
    } in
    let kept : LaneKept (via_of old.table.routes) old.pass.number old.lines old.answers [] new.pass.share = kept_saw [] old.pass.share new.pass.share stands more in
    let number : new.pass.number ≡ old.pass.number = ap (λ (p : Passing). p.number) saw.saw.same in
    let same : new ≡ record old { pass = new.pass } = saw.same in
    let moved : Stands (record old { pass = new.pass }) = subst (λ n. LaneKept (via_of old.table.routes) n old.lines old.answers [] new.pass.share) (sym number) kept in
    subst Stands (sym same) moved

-- ---- all lanes

module _ {X : Type 0} where
  -- What holds at each place holds of all.
  pub all_from : (P : X → Type 0) (xs : List X) → ((i : ℕ) (x : X) → slice_get xs i ≡ Some x → P x) → AllByRecursion P xs
  all_from P [] each = tt
  all_from P (x ∷ xs) each = (each 0 x refl, all_from P xs (λ i y at. each (suc i) y at))

  pub all_mapped : {Y : Type 0} (P : Y → Type 0) (g : X → Y) (xs : List X) → ((i : ℕ) (x : X) → slice_get xs i ≡ Some x → P (g x)) → AllByRecursion P (map g xs)
  all_mapped P g [] each = tt
  all_mapped P g (x ∷ xs) each = (each 0 x refl, all_mapped P g xs (λ i y at. each (suc i) y at))

  map_same : {Y Z : Type 0} (g : X → Y) (f : Y → Z) (xs ys : List X) → length ys ≡ length xs → ((i : ℕ) (x y : X) → slice_get xs i ≡ Some x → slice_get ys i ≡ Some y → f (g y) ≡ f (g x)) → map f (map g ys) ≡ map f (map g xs)
  map_same g f [] [] count each = refl
  map_same g f [] (y ∷ ys) count each = absurd (omega arith)
  map_same g f (x ∷ xs) [] count each = absurd (omega arith)
  map_same g f (x ∷ xs) (y ∷ ys) count each = ap (λ z. z ∷ map f (map g ys)) (each 0 x y refl refl) ∙ ap (λ zs. f (g x) ∷ zs) (map_same g f xs ys (omega arith) (λ i a b at bt. each (suc i) a b at bt))

  total_same : {Y : Type 0} (g : X → Y) (f : Y → ℕ) (xs ys : List X) → length ys ≡ length xs → ((i : ℕ) (x y : X) → slice_get xs i ≡ Some x → slice_get ys i ≡ Some y → f (g y) ≡ f (g x)) → total f (map g ys) ≡ total f (map g xs)
  total_same g f [] [] count each = refl
  total_same g f [] (y ∷ ys) count each = absurd (omega arith)
  total_same g f (x ∷ xs) [] count each = absurd (omega arith)
  total_same g f (x ∷ xs) (y ∷ ys) count each =
      let first : f (g y) ≡ f (g x) = each 0 x y refl refl in
      let rest : total f (map g ys) ≡ total f (map g xs) = total_same g f xs ys (omega arith) (λ i a b at bt. each (suc i) a b at bt) in
      omega arith

-- Each lane is kept, and stands unless one of its lines was stopped.
abbrev pub KeepsAndStands : (old new : Lane) → Type 0
KeepsAndStands old new = Keeps old new × (new.stopped ≡ false → Stands new)

-- Then all are at work as before.
pub work_kept : (o : Shared) (lines : List Line) (old new : List Lane) → AreAtWork o lines old → length new ≡ length old → ((i : ℕ) (a b : Lane) → slice_get old i ≡ Some a → slice_get new i ≡ Some b → KeepsAndStands a b) → AreAtWork o lines new
work_kept o lines old new work count each =
    let was : (i : ℕ) (b : Lane) → slice_get new i ≡ Some b → At old i = λ i b at. get_below old i (let below = slice_get_within new i b at in omega arith) in
    let kept : (i : ℕ) (b : Lane) (at : slice_get new i ≡ Some b) → KeepsAndStands (was i b at).x b = λ i b at. each i (was i b at).x b (was i b at).is at in
    let tables : (i : ℕ) (b : Lane) → slice_get new i ≡ Some b → b.table ≡ o = λ i b at. (kept i b at).0.table ∙ all_at (λ (lane : Lane). lane.table ≡ o) old i (was i b at).x work.tables (was i b at).is in
    record {
      all = record {
        of = all_mapped (IsPassOf o) (λ lane. lane.pass) new (λ i b at. subst (λ t. IsPassOf t b.pass) (tables i b at) (kept i b at).0.ready.of);
        free = all_mapped IsFree (λ lane. lane.pass) new (λ i b at. (kept i b at).0.ready.free);
        numbers = subst (RiseFrom 0) (sym (map_same (λ (lane : Lane). lane.pass) (λ p. p.number) old new count (λ i a b at bt. (each i a b at bt).0.number))) work.all.numbers;
        table = total_same (λ (lane : Lane). lane.pass) (λ p. p.share.sight.share) old new count (λ i a b at bt. (each i a b at bt).0.shares.table) ∙ work.all.table;
        parts = λ k lt. total_same (λ (lane : Lane). lane.pass) (λ p. (part_at p.share.parts k).share) old new count (λ i a b at bt. (each i a b at bt).0.shares.parts k) ∙ work.all.parts k lt;
        counters = total_same (λ (lane : Lane). lane.pass) (λ p. p.share.drawer.share) old new count (λ i a b at bt. (each i a b at bt).0.shares.drawer) ∙ work.all.counters;
      };
      numbers = λ i b at. let its = work.numbers i (was i b at).x (was i b at).is in ((kept i b at).0.number ∙ its.0, (kept i b at).0.lines ∙ its.1);
      ready = all_from IsReady new (λ i b at. (kept i b at).0.ready);
      tables = all_from (λ (lane : Lane). lane.table ≡ o) new tables;
      stands = all_from (λ (lane : Lane). lane.stopped ≡ false → Stands lane) new (λ i b at. (kept i b at).1);
    }

-- One of them alone is another.
pub work_set : (o : Shared) (lines : List Line) (lanes : List Lane) (i : ℕ) (old new : Lane) → AreAtWork o lines lanes → slice_get lanes i ≡ Some old → KeepsAndStands old new → AreAtWork o lines (slice_set lanes i new)
work_set o lines lanes i old new work at kept = work_kept o lines lanes (slice_set lanes i new) work (length-set lanes i new) (λ k a b was is. elim (set_case lanes i k new b is) [
  | inl here ↦
      let same : a ≡ old = same_Some a old (sym was ∙ ap (slice_get lanes) here.0 ∙ at) in
      subst (λ x. KeepsAndStands x b) (sym same) (subst (KeepsAndStands old) (sym here.1) kept)
  | inr others ↦
      let same : a ≡ b = same_Some a b (sym was ∙ others.1) in
      let ready : IsReady a = all_at IsReady lanes k a work.ready was in
      subst (KeepsAndStands a) same (keeps_itself a ready, all_at (λ (lane : Lane). lane.stopped ≡ false → Stands lane) lanes k a work.stands was)
])
