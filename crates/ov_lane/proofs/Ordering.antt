-- The own entries of a pass stay in order as it makes more.
use Rattle.std.proofs.Common.{ℕ, suc, ◌≡◌, ◌+◌, ◌<◌, ◌≤◌, List, [], ◌∷◌, ◌++◌, length, length-append, refl, sym, ap, ◌∙◌, subst, arith}
use Rattle.std.specs.List.{AllByRecursion}
use mathlib.Core.List.{IsPrefix}
use Rattle.ov_base.specs.Sums.{count_of}
use Rattle.ov_turn.specs.Seats.{Sight}
use Rattle.ov_model.specs.declared.command.Command.{Command}
use Rattle.ov_model.specs.declared.entry.Entry.{Entry}
use Rattle.ov_model.specs.declared.hold.Owed.{Owed}
use Rattle.ov_model.specs.declared.hold.Owed.TheVariants as kind
use Rattle.ov_model.specs.declared.place.Place.{Place}
use Rattle.ov_model.specs.declared.reply.Reply.{Reply}
use Rattle.ov_model.specs.Events.{releases}
use Rattle.ov_model.specs.Runs.{last_table}
use Rattle.ov_model.specs.Own.{RiseFrom, positions}
use Rattle.ov_model.proofs.Lanes.{all_weaker}
use Rattle.ov_share.specs.Shares.{Sharing, OnlySaw}
use Rattle.ov_share.specs.Keepings.{IsOrderly}
use Rattle.ov_ticket.specs.Within.{from_position, entries_of, made_by}
use Rattle.ov_ticket.specs.Tickets.{IsCalled}

pub all_both : {X : Type 0} (P : X → Type 0) (xs ys : List X) → AllByRecursion P xs → AllByRecursion P ys → AllByRecursion P (xs ++ ys)
all_both P [] ys p q = q
all_both P (x ∷ xs) ys p q = (p.0, all_both P xs ys p.1 q)

rise_both : (b c : ℕ) (own new : List (ℕ × Entry)) → RiseFrom b (positions own) → AllByRecursion (λ e. e.0 < c) own → b ≤ c → RiseFrom c (positions new) → RiseFrom b (positions (own ++ new))
rise_both b c [] [] rise below least more = tt
rise_both b c [] (e ∷ new) rise below least more = (let above : c ≤ e.0 = more.0 in omega arith, more.1)
rise_both b c (e ∷ own) new rise below least more = (rise.0, rise_both (suc e.0) c own new rise.1 below.1 below.0 more)

from_rise : (p : ℕ) (es : List Entry) → RiseFrom p (positions (from_position p es))
from_rise p [] = tt
from_rise p (e ∷ es) = (omega arith, from_rise (suc p) es)

from_below : (p n : ℕ) (es : List Entry) → p + length es ≤ n → AllByRecursion (λ e. e.0 < n) (from_position p es)
from_below p n [] long = tt
from_below p n (e ∷ es) long = (omega arith, from_below (suc p) n es (omega arith))

from_placed : (lane p : ℕ) (es : List Entry) → AllByRecursion (λ e. e.place.lane ≡ lane) es → AllByRecursion (λ e. e.1.place.lane ≡ lane) (from_position p es)
from_placed lane p [] all = tt
from_placed lane p (e ∷ es) all = (all.0, from_placed lane (suc p) es all.1)

releases_placed : (place : Place) (at : ℕ) (os : List Owed) → AllByRecursion (λ e. e.place.lane ≡ place.lane) (entries_of (releases place at os))
releases_placed place at [] = tt
releases_placed place at (kind.Peer p ∷ os) = (refl, releases_placed place at os)
releases_placed place at (kind.Key k ∷ os) = (refl, releases_placed place at os)

front_length : (xs ys : List Entry) → IsPrefix xs ys → length xs ≤ length ys
front_length xs ys front = omega (arith, ap length front.1, length-append xs front.0)

-- After a call.
pub orderly_called : (number line at : ℕ) (old new : Sharing) (command : Command) (r : Reply) → IsCalled old.sight new.sight (record { lane = number; line = line }) at command r → new ≡ record old { sight = new.sight } → IsOrderly number old → IsOrderly number new
orderly_called number line at old new command r is same was =
    let place : Place = record { lane = number; line = line } in
    let made : List Entry = entries_of (made_by (last_table is.before) place at command is.os) in
    let p : ℕ = length is.before in
    let now : Sight Entry = new.sight in
    let seen : length now.seen ≡ p + length made = ap length is.seen ∙ length-append is.before made in
    let front : length old.sight.seen ≤ p = front_length old.sight.seen is.before is.front in
    let own : List (ℕ × Entry) = old.sight.own ++ from_position p made in
    let all : IsOrderly number (record old { sight = record now { own = own } }) = record {
      share = (let two = was.share in let part = is.share in omega arith);
      once = λ c. (let few = was.once c in let holds = ap (count_of c) is.holds in omega arith);
      rise = rise_both 0 p old.sight.own (from_position p made) was.rise (all_weaker (λ e. e.0 < length old.sight.seen) (λ e. e.0 < p) (λ e below. let lt : e.0 < length old.sight.seen = below in omega arith) old.sight.own was.below) (omega arith) (from_rise p made);
      below = all_both (λ e. e.0 < length now.seen) old.sight.own (from_position p made) (all_weaker (λ e. e.0 < length old.sight.seen) (λ e. e.0 < length now.seen) (λ e below. let lt : e.0 < length old.sight.seen = below in omega arith) old.sight.own was.below) (from_below p (length now.seen) made (omega arith));
      placed = all_both (λ e. e.1.place.lane ≡ number) old.sight.own (from_position p made) was.placed (from_placed number p made (refl, releases_placed place at is.os));
      parts = was.parts;
    } in
    subst (IsOrderly number) (sym same) (subst (λ (es : List (ℕ × Entry)). IsOrderly number (record old { sight = record now { own = es } })) (sym is.own) all)

-- After a refusal, and where two passes met.
pub orderly_saw : (number : ℕ) (old new : Sharing) → OnlySaw old new → IsOrderly number old → IsOrderly number new
orderly_saw number old new is was =
    let front : length old.sight.seen ≤ length new.sight.seen = front_length old.sight.seen new.sight.seen is.seen.front in
    let all : IsOrderly number (record old { sight = record old.sight { seen = new.sight.seen } }) = record {
      share = was.share;
      once = was.once;
      rise = was.rise;
      below = all_weaker (λ e. e.0 < length old.sight.seen) (λ e. e.0 < length new.sight.seen) (λ e below. let lt : e.0 < length old.sight.seen = below in omega arith) old.sight.own was.below;
      placed = was.placed;
      parts = was.parts;
    } in
    subst (IsOrderly number) (sym is.same) (subst (λ (s : Sight Entry). IsOrderly number (record old { sight = s })) (sym is.seen.same) all)
