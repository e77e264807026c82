-- What the events of one line add to a lane's own entries, and what they leave as it was.
use Rattle.std.proofs.Common.{ℕ, ◌≡◌, ◌+◌, ◌%◌, ◌<◌, ◌≤◌, suc, List, [], ◌∷◌, ◌++◌, length, refl, sym, ◌∙◌, ap, subst, arith, length-append, inl, inr}
use Rattle.std.specs.List.{AllByRecursion}
use Rattle.std.proofs.lemmas.Bool.{cases_eq}
use mathlib.Core.List.{IsPrefix}
use Rattle.ov_base.specs.Sums.{count_of}
use Rattle.ov_draw.specs.Drawer.{Drawer}
use Rattle.ov_model.specs.declared.draw.Drawn.{Drawn}
use Rattle.ov_model.specs.declared.draw.Drawn.TheVariants as drawn
use Rattle.ov_model.specs.declared.entry.Entry.{Entry}
use Rattle.ov_model.specs.declared.place.Place.{Place}
use Rattle.ov_model.specs.declared.replay.ReplayEntry.{ReplayEntry}
use Rattle.ov_model.specs.declared.replay.Verdict.{Verdict}
use Rattle.ov_model.specs.Events.{Event, Stepped, Judged, Drew, GaveKey, GavePeer, Step, steps_of}
use Rattle.ov_model.specs.Limits.{shard_count}
use Rattle.ov_model.specs.Own.{RiseFrom, positions}
use Rattle.ov_model.specs.Replay.{judged}
use Rattle.ov_model.specs.Tables.{empty_table}
use Rattle.ov_model.proofs.Lanes.{all_append, all_weaker}
use Rattle.ov_model.proofs.Picked.{elem_within}
use Rattle.ov_model.proofs.Stands.{length-steps_after}
use Rattle.ov_path.specs.Walks.{IsOwn}
use Rattle.ov_replay.specs.Desk.{Part, part_at}
use Rattle.ov_share.specs.Added.{HasAdded}
use Rattle.ov_share.proofs.Adding.{front_length, added_none, added_then, event_adds, saw_adds}
use Rattle.ov_share.specs.Shares.{Sharing, IsFree}
use Rattle.ov_share.specs.Makings.{HasMade, HasJudged, HasGiven, Makes, SawMore}
use Rattle.ov_share.specs.Keepings.{IsOwnPart, IsOrderly}
use Rattle.ov_turn.proofs.Fronts.{prefix_self}
use Rattle.ov_desk.specs.Sittings.{MakesAll}
use Rattle.ov_course.specs.Courses.{HasSameShares}

-- ---- beginnings of histories, and positions that rise

rise_lower : (b c : ℕ) (ps : List ℕ) → b ≤ c → RiseFrom c ps → RiseFrom b ps
rise_lower b c [] least rise = tt
rise_lower b c (p ∷ ps) least rise = (let above : c ≤ p = rise.0 in omega arith, rise.1)

module _ {X : Type 0} where
  rise_append : (b c : ℕ) (own more : List (ℕ × X)) → RiseFrom b (positions own) → AllByRecursion (λ e. e.0 < c) own → b ≤ c → RiseFrom c (positions more) → RiseFrom b (positions (own ++ more))
  rise_append b c [] more rise below least later = rise_lower b c (positions more) least later
  rise_append b c (e ∷ own) more rise below least later = (rise.0, rise_append (suc e.0) c own more rise.1 below.1 below.0 later)

  below_more : (b c : ℕ) (own : List (ℕ × X)) → b ≤ c → AllByRecursion (λ e. e.0 < b) own → AllByRecursion (λ e. e.0 < c) own
  below_more b c own least below = all_weaker (λ e. e.0 < b) (λ e. e.0 < c) (λ e before. let low : e.0 < b = before in omega arith) own below

-- ---- a lane's own entries in order

-- As IsOrderly says, but for what is held.
pub record InOrder (lane : ℕ) (s : Sharing) : Type 0 where
  pub share : 2 ≤ s.sight.share
  pub rise : RiseFrom 0 (positions s.sight.own)
  pub below : AllByRecursion (λ e. e.0 < length s.sight.seen) s.sight.own
  pub placed : AllByRecursion (λ e. e.1.place.lane ≡ lane) s.sight.own
  pub parts : (i : ℕ) → i < shard_count → IsOwnPart lane (part_at s.parts i)

pub in_order : (lane : ℕ) (s : Sharing) → IsOrderly lane s → InOrder lane s
in_order lane s orderly = record { share = orderly.share; rise = orderly.rise; below = orderly.below; placed = orderly.placed; parts = orderly.parts }

-- A lane that holds nothing.
pub order_free : (lane : ℕ) (s : Sharing) → InOrder lane s → IsFree s → IsOrderly lane s
order_free lane s order free = record {
  share = order.share;
  once = λ c. subst (λ held. count_of c held ≤ 1) (sym free.holds) (omega arith);
  rise = order.rise;
  below = order.below;
  placed = order.placed;
  parts = order.parts;
}

-- ---- what one event does, and several

-- It leaves the shares and the order as they were.
record IsSteady (lane : ℕ) (old new : Sharing) : Type 0 where
  shares : HasSameShares old new
  order : InOrder lane old → InOrder lane new

-- And it adds entries of this place alone.
pub record Moved (place : Place) (old new : Sharing) : Type 0 where
  pub shares : HasSameShares old new
  pub order : InOrder place.lane old → InOrder place.lane new
  pub added : HasAdded (λ p. p ≡ place) old new

pub shares_on : (a b c : Sharing) → HasSameShares a b → HasSameShares b c → HasSameShares a c
shares_on a b c first then = record {
  name = then.name ∙ first.name;
  table = then.table ∙ first.table;
  names = λ i. then.names i ∙ first.names i;
  parts = λ i. then.parts i ∙ first.parts i;
  counters = then.counters ∙ first.counters;
  drawer = then.drawer ∙ first.drawer;
}

pub moved_on : (place : Place) (a b c : Sharing) → Moved place a b → Moved place b c → Moved place a c
moved_on place a b c first then = record {
  shares = shares_on a b c first.shares then.shares;
  added = added_then a b c first.added then.added;
  order = λ order. then.order (first.order order);
}

pub shares_itself : (s : Sharing) → HasSameShares s s
shares_itself s = record { name = refl; table = refl; names = λ i. refl; parts = λ i. refl; counters = refl; drawer = refl }

pub moved_itself : (place : Place) (s : Sharing) → Moved place s s
moved_itself place s = record { shares = shares_itself s; added = added_none (λ p. p ≡ place) s s (prefix_self s.sight.seen) refl; order = λ order. order }

-- No entry was made, though more may have been seen.
order_saw : (lane : ℕ) (old new : Sharing) → IsPrefix old.sight.seen new.sight.seen → new.sight.own ≡ old.sight.own → new.sight.share ≡ old.sight.share → ((i : ℕ) → i < shard_count → IsOwnPart lane (part_at old.parts i) → IsOwnPart lane (part_at new.parts i)) → InOrder lane old → InOrder lane new
order_saw lane old new front own share parts order = record {
  share = subst (λ n. 2 ≤ n) (sym share) order.share;
  rise = subst (λ es. RiseFrom 0 (positions es)) (sym own) order.rise;
  below = subst (AllByRecursion (λ e. e.0 < length new.sight.seen)) (sym own) (below_more (length old.sight.seen) (length new.sight.seen) old.sight.own (front_length old.sight.seen new.sight.seen front) order.below);
  placed = subst (AllByRecursion (λ e. e.1.place.lane ≡ lane)) (sym own) order.placed;
  parts = λ i low. parts i low (order.parts i low);
}

-- A step of the table.
steady_made : (place : Place) (old new : Sharing) (st : Step) → HasMade old new st → st.entry.place ≡ place → IsSteady place.lane old new
steady_made place old new st made its =
    let parts : new.parts ≡ old.parts = ap (λ (x : Sharing). x.parts) made.same in
    let within : made.at < length (steps_of new.sight.seen) = elem_within (steps_of new.sight.seen) made.at st made.is in
    let long : length (steps_of new.sight.seen) ≡ length new.sight.seen = length-steps_after empty_table new.sight.seen in
    let below : made.at < length new.sight.seen = omega arith in
    let late : length old.sight.seen ≤ made.at = made.late in
    let one : List (ℕ × Entry) = (made.at, st.entry) ∷ [] in
    record {
      shares = record {
        name = ap (λ (x : Sharing). x.name) made.same;
        table = made.share;
        names = λ i. ap (λ ps. (part_at ps i).name) parts;
        parts = λ i. ap (λ ps. (part_at ps i).share) parts;
        counters = ap (λ (x : Sharing). x.drawer.of) made.same;
        drawer = ap (λ (x : Sharing). x.drawer.share) made.same;
      };
      order = λ order. record {
        share = subst (λ n. 2 ≤ n) (sym made.share) order.share;
        rise = subst (λ es. RiseFrom 0 (positions es)) (sym made.own) (rise_append 0 (length old.sight.seen) old.sight.own one order.rise order.below (omega arith) (late, tt));
        below = subst (AllByRecursion (λ e. e.0 < length new.sight.seen)) (sym made.own) (all_append (λ e. e.0 < length new.sight.seen) old.sight.own one (below_more (length old.sight.seen) (length new.sight.seen) old.sight.own (front_length old.sight.seen new.sight.seen made.front) order.below) (below, tt));
        placed = subst (AllByRecursion (λ e. e.1.place.lane ≡ place.lane)) (sym made.own) (all_append (λ e. e.1.place.lane ≡ place.lane) old.sight.own one order.placed (ap (λ (p : Place). p.lane) its, tt));
        parts = λ i low. subst (λ ps. IsOwnPart place.lane (part_at ps i)) (sym parts) (order.parts i low);
      };
    }

-- One more step in a shard.
part_stepped : (lane : ℕ) (p q : Part) (before : List ReplayEntry) (r : ReplayEntry) → IsPrefix p.seen before → q ≡ record p { seen = before ++ r ∷ []; own = p.own ++ (length before, r) ∷ [] } → r.place.lane ≡ lane → IsOwnPart lane p → IsOwnPart lane q
part_stepped lane p q before r front is its part =
    let low : length p.seen ≤ length before = front_length p.seen before front in
    let long : length (before ++ r ∷ []) ≡ length before + 1 = length-append before (r ∷ []) in
    let last : length before < length (before ++ r ∷ []) = omega arith in
    let high : length p.seen ≤ length (before ++ r ∷ []) = omega arith in
    let one : List (ℕ × ReplayEntry) = (length before, r) ∷ [] in
    subst (IsOwnPart lane) (sym is) (record {
      rise = rise_append 0 (length p.seen) p.own one part.rise part.below (omega arith) (low, tt);
      below = all_append (λ e. e.0 < length (before ++ r ∷ [])) p.own one (below_more (length p.seen) (length (before ++ r ∷ [])) p.own high part.below) (last, tt);
      placed = all_append (λ e. e.1.place.lane ≡ lane) p.own one part.placed (its, tt);
    })

steady_judged : (place its : Place) (old new : Sharing) (key id at : ℕ) (v : Verdict) → HasJudged old new its key id at v → its ≡ place → IsSteady place.lane old new
unfolding judged
steady_judged place its old new key id at v made own =
    let k : ℕ = key % shard_count in
    let here = made.stepped.here in
    let r : ReplayEntry = judged here.before its key id at in
    let seen : IsPrefix old.sight.seen new.sight.seen = subst (IsPrefix old.sight.seen) (sym (ap (λ (x : Sharing). x.sight.seen) made.same)) (prefix_self old.sight.seen) in
    let entries : new.sight.own ≡ old.sight.own = ap (λ (x : Sharing). x.sight.own) made.same in
    let share : new.sight.share ≡ old.sight.share = ap (λ (x : Sharing). x.sight.share) made.same in
    record {
      shares = record {
        name = ap (λ (x : Sharing). x.name) made.same;
        table = share;
        names = λ i. elim (cases_eq i k) [ inl same ↦ subst (λ n. (part_at new.parts n).name ≡ (part_at old.parts n).name) (sym same) (ap (λ (p : Part). p.name) here.new_is) | inr other ↦ ap (λ (p : Part). p.name) (made.stepped.others i other) ];
        parts = λ i. elim (cases_eq i k) [ inl same ↦ subst (λ n. (part_at new.parts n).share ≡ (part_at old.parts n).share) (sym same) (ap (λ (p : Part). p.share) here.new_is) | inr other ↦ ap (λ (p : Part). p.share) (made.stepped.others i other) ];
        counters = ap (λ (x : Sharing). x.drawer.of) made.same;
        drawer = ap (λ (x : Sharing). x.drawer.share) made.same;
      };
      order = λ order. order_saw place.lane old new seen entries share (λ i low part. elim (cases_eq i k) [
        | inl same ↦ subst (λ n. IsOwnPart place.lane (part_at new.parts n)) (sym same) (part_stepped place.lane (part_at old.parts k) (part_at new.parts k) here.before r here.front here.new_is (ap (λ (p : Place). p.lane) own) (subst (λ n. IsOwnPart place.lane (part_at old.parts n)) same part))
        | inr other ↦ subst (IsOwnPart place.lane) (sym (made.stepped.others i other)) part
      ]) order;
    }

-- Neither the table nor a shard was asked.
steady_quiet : (place : Place) (old new : Sharing) → new.name ≡ old.name → new.sight.share ≡ old.sight.share → new.sight.seen ≡ old.sight.seen → new.sight.own ≡ old.sight.own → new.parts ≡ old.parts → new.drawer.of ≡ old.drawer.of → new.drawer.share ≡ old.drawer.share → IsSteady place.lane old new
steady_quiet place old new name table seen own parts counters drawer =
    let front : IsPrefix old.sight.seen new.sight.seen = subst (IsPrefix old.sight.seen) (sym seen) (prefix_self old.sight.seen) in
    record {
      shares = record { name = name; table = table; names = λ i. ap (λ ps. (part_at ps i).name) parts; parts = λ i. ap (λ ps. (part_at ps i).share) parts; counters = counters; drawer = drawer };
      order = λ order. order_saw place.lane old new front own table (λ i low part. subst (λ ps. IsOwnPart place.lane (part_at ps i)) (sym parts) part) order;
    }

steady_drew : (place : Place) (old new : Sharing) (key : ℕ) (d : Drawn) → Makes old (Drew key d) new → IsSteady place.lane old new
steady_drew place old new key (drawn.Id n) made =
    steady_quiet place old new (ap (λ (x : Sharing). x.name) made.0) (ap (λ (x : Sharing). x.sight.share) made.0) (ap (λ (x : Sharing). x.sight.seen) made.0) (ap (λ (x : Sharing). x.sight.own) made.0) (ap (λ (x : Sharing). x.parts) made.0) (ap (λ (x : Sharing). x.drawer.of) made.0) (ap (λ (x : Sharing). x.drawer.share) made.0)
steady_drew place old new key drawn.Spent made =
    steady_quiet place old new (ap (λ (x : Sharing). x.name) made) (ap (λ (x : Sharing). x.sight.share) made) (ap (λ (x : Sharing). x.sight.seen) made) (ap (λ (x : Sharing). x.sight.own) made) (ap (λ (x : Sharing). x.parts) made) (ap (λ (x : Sharing). x.drawer.of) made) (ap (λ (x : Sharing). x.drawer.share) made)

steady_given : (place : Place) (old new : Sharing) → HasGiven old new → IsSteady place.lane old new
steady_given place old new given = steady_quiet place old new (ap (λ (x : Sharing). x.name) given.same) given.share given.seen given.own (ap (λ (x : Sharing). x.parts) given.same) (ap (λ (x : Sharing). x.drawer.of) given.same) (ap (λ (x : Sharing). x.drawer.share) given.same)

steady_event : (place : Place) (at : ℕ) (old new : Sharing) (e : Event) → Makes old e new → IsOwn place at e → IsSteady place.lane old new
steady_event place at old new (Stepped st) made own = steady_made place old new st made own.0
steady_event place at old new (Judged j) made own = steady_judged place j.place old new j.key j.id j.at j.verdict made own.0
steady_event place at old new (Drew key d) made own = steady_drew place old new key d made
steady_event place at old new (GaveKey key g) made own = steady_given place old new made
steady_event place at old new (GavePeer peer g) made own = steady_given place old new made

-- An event of the line.
pub moved_event : (place : Place) (at : ℕ) (old new : Sharing) (e : Event) → Makes old e new → IsOwn place at e → Moved place old new
moved_event place at old new e made own = let steady = steady_event place at old new e made own in record { shares = steady.shares; order = steady.order; added = event_adds place at old new e made own }

-- Some events of the line.
pub moved_all : (place : Place) (at : ℕ) (old new : Sharing) (es : List Event) → MakesAll old es new → AllByRecursion (IsOwn place at) es → Moved place old new
moved_all place at old new [] made own = subst (Moved place old) (sym made) (moved_itself place old)
moved_all place at old new (e ∷ es) made own = moved_on place old made.0 new (moved_event place at old made.0 e made.1 own.0) (moved_all place at made.0 new es made.2 own.1)

-- More was seen.
pub moved_saw : (place : Place) (old new : Sharing) → SawMore old new → Moved place old new
moved_saw place old new saw =
    let own : new.sight.own ≡ old.sight.own = ap (λ x. x.own) saw.table.same in
    let share : new.sight.share ≡ old.sight.share = ap (λ x. x.share) saw.table.same in
    record {
      shares = record {
        name = saw.name;
        table = share;
        names = λ i. ap (λ (p : Part). p.name) (saw.shards i).same;
        parts = λ i. ap (λ (p : Part). p.share) (saw.shards i).same;
        counters = ap (λ (d : Drawer). d.of) saw.drawer;
        drawer = ap (λ (d : Drawer). d.share) saw.drawer;
      };
      added = saw_adds (λ p. p ≡ place) old new saw;
      order = λ order. order_saw place.lane old new saw.table.front own share (λ i low part.
          let p : Part = part_at old.parts i in
          let q : Part = part_at new.parts i in
          let its : q.own ≡ p.own = ap (λ (x : Part). x.own) (saw.shards i).same in
          record {
            rise = subst (λ es. RiseFrom 0 (positions es)) (sym its) part.rise;
            below = subst (AllByRecursion (λ e. e.0 < length q.seen)) (sym its) (below_more (length p.seen) (length q.seen) p.own (front_length p.seen q.seen (saw.shards i).front) part.below);
            placed = subst (AllByRecursion (λ e. e.1.place.lane ≡ place.lane)) (sym its) part.placed;
          }) order;
    }
