-- What a line's events add to the lane's own entries.
use Rattle.std.proofs.Common.{ℕ, ◌≡◌, ◌<◌, ◌≤◌, List, [], ◌∷◌, ◌++◌, length, sym, ◌∙◌, ap, subst, arith, append-nil, append_assoc, length-append}
use mathlib.Core.List.{IsPrefix}
use Rattle.ov_model.specs.declared.draw.Drawn.{Drawn}
use Rattle.ov_model.specs.declared.draw.Drawn.TheVariants as drawn
use Rattle.ov_model.specs.declared.entry.Entry.{Entry}
use Rattle.ov_model.specs.declared.place.Place.{Place}
use Rattle.ov_model.specs.Events.{Event, Stepped, Judged, Drew, GaveKey, GavePeer, Step, steps_of}
use Rattle.ov_model.specs.Tables.{empty_table}
use Rattle.ov_model.proofs.Lanes.{all_append, all_weaker}
use Rattle.ov_model.proofs.Picked.{elem_within}
use Rattle.ov_model.proofs.Stands.{length-steps_after}
use Rattle.ov_turn.proofs.Fronts.{prefix_self, prefix_more}
use Rattle.ov_turn.specs.Seats.{Sight}
use Rattle.ov_path.specs.Walks.{IsOwn}
use Rattle.ov_share.specs.Makings.{Makes, HasMade, SawMore}
use Rattle.ov_share.specs.Shares.{Sharing, HasDrawn}
use Rattle.ov_share.specs.Added.{HasAdded}

-- A beginning is no longer.
pub front_length : {X : Type 0} (xs ys : List X) → IsPrefix xs ys → length xs ≤ length ys
front_length xs ys front = omega (arith, length-append xs front.0, ap length front.1)

-- Nothing was added, though more may have been seen.
pub added_none : (kind : Place → Type 0) (old new : Sharing) → IsPrefix old.sight.seen new.sight.seen → new.sight.own ≡ old.sight.own → HasAdded kind old new
added_none kind old new front same = record { more = []; own = same ∙ sym (append-nil old.sight.own); front = front; late = tt; below = tt; placed = tt }

added_same : (kind : Place → Type 0) (old new : Sharing) → new.sight ≡ old.sight → HasAdded kind old new
added_same kind old new same = added_none kind old new (subst (λ (s : Sight Entry). IsPrefix old.sight.seen s.seen) (sym same) (prefix_self old.sight.seen)) (ap (λ (s : Sight Entry). s.own) same)

-- One after the other.
pub added_then : {kind : Place → Type 0} (old between new : Sharing) → HasAdded kind old between → HasAdded kind between new → HasAdded kind old new
added_then {kind} old between new a b =
    let first : length old.sight.seen ≤ length between.sight.seen = front_length old.sight.seen between.sight.seen a.front in
    let second : length between.sight.seen ≤ length new.sight.seen = front_length between.sight.seen new.sight.seen b.front in
    record {
      more = a.more ++ b.more;
      own = b.own ∙ ap (λ l. l ++ b.more) a.own ∙ append_assoc old.sight.own a.more b.more;
      front = subst (IsPrefix old.sight.seen) b.front.1 (prefix_more old.sight.seen between.sight.seen b.front.0 a.front);
      late = all_append (λ e. length old.sight.seen ≤ e.0) a.more b.more a.late (all_weaker (λ e. length between.sight.seen ≤ e.0) (λ e. length old.sight.seen ≤ e.0) (λ e late. omega arith) b.more b.late);
      below = all_append (λ e. e.0 < length new.sight.seen) a.more b.more (all_weaker (λ e. e.0 < length between.sight.seen) (λ e. e.0 < length new.sight.seen) (λ e below. omega arith) a.more a.below) b.below;
      placed = all_append (λ e. kind e.1.place) a.more b.more a.placed b.placed;
    }

-- Places of one kind are places of a wider one.
pub added_wider : {kind wide : Place → Type 0} (old new : Sharing) → ((p : Place) → kind p → wide p) → HasAdded kind old new → HasAdded wide old new
added_wider {kind} {wide} old new wider a = record { more = a.more; own = a.own; front = a.front; late = a.late; below = a.below; placed = all_weaker (λ e. kind e.1.place) (λ e. wide e.1.place) (λ e its. wider e.1.place its) a.more a.placed }

-- A step of the table adds its entry.
added_step : (place : Place) (old new : Sharing) (s : Step) → HasMade old new s → s.entry.place ≡ place → HasAdded (λ p. p ≡ place) old new
added_step place old new s made at =
    let within : made.at < length (steps_of new.sight.seen) = elem_within (steps_of new.sight.seen) made.at s made.is in
    let long : length (steps_of new.sight.seen) ≡ length new.sight.seen = length-steps_after empty_table new.sight.seen in
    record { more = (made.at, s.entry) ∷ []; own = made.own; front = made.front; late = (made.late, tt); below = (omega arith, tt); placed = (at, tt) }

drawn_adds : (kind : Place → Type 0) (old new : Sharing) (key : ℕ) (d : Drawn) → HasDrawn old new key d → HasAdded kind old new
drawn_adds kind old new key (drawn.Id n) made = added_same kind old new (ap (λ (s : Sharing). s.sight) made.0)
drawn_adds kind old new key drawn.Spent made = added_same kind old new (ap (λ (s : Sharing). s.sight) made)

-- Each event of a line adds entries of the line's place alone.
pub event_adds : (place : Place) (at : ℕ) (old new : Sharing) (e : Event) → Makes old e new → IsOwn place at e → HasAdded (λ p. p ≡ place) old new
event_adds place at old new (Stepped s) makes own = added_step place old new s makes own.0
event_adds place at old new (Judged j) makes own = added_same (λ p. p ≡ place) old new (ap (λ (s : Sharing). s.sight) makes.same)
event_adds place at old new (Drew key d) makes own = drawn_adds (λ p. p ≡ place) old new key d makes
event_adds place at old new (GaveKey key g) makes own = added_none (λ p. p ≡ place) old new (subst (IsPrefix old.sight.seen) (sym makes.seen) (prefix_self old.sight.seen)) makes.own
event_adds place at old new (GavePeer peer g) makes own = added_none (λ p. p ≡ place) old new (subst (IsPrefix old.sight.seen) (sym makes.seen) (prefix_self old.sight.seen)) makes.own

-- Want of memory adds none.
pub saw_adds : (kind : Place → Type 0) (old new : Sharing) → SawMore old new → HasAdded kind old new
saw_adds kind old new saw = added_none kind old new saw.table.front (ap (λ (s : Sight Entry). s.own) saw.table.same)
