-- What a ticket tells outside: a step, or a release, that was made while the seat was inside.
use Rattle.std.proofs.Common.{ℕ, ◌≤◌, ◌≡◌, List, [], ◌∷◌, ◌++◌, length, sym, ap, ◌∙◌, subst, arith, Ok, Err}
use Rattle.std.specs.Prelude.{Result, Option, IfOk, OnErr, map}
use Rattle.std.specs.List.{AllByRecursion}
use Rattle.std.specs.VecDeque.{deque_capacity}
use Rattle.std.specs.declared.collections.VecDeque.{VecDeque}
use Rattle.std.specs.declared.alloc.Global.{Global}
use mathlib.Core.List.{IsPrefix}
use Rattle.ov_base.specs.declared.memory.Memory.{Memory}
use Rattle.ov_base.specs.Sums.{count_of}
use Rattle.ov_turn.specs.declared.inside.Inside.{Inside}
use Rattle.ov_turn.specs.Lists.{has}
use Rattle.ov_turn.specs.Seats.{Sight}
use Rattle.ov_turn.specs.Insides.{kept_of, share_in, seen_in, own_in, holds_in, owes_in}
use Rattle.ov_model.specs.declared.act.Act.{Act}
use Rattle.ov_model.specs.declared.act.Call.{Call}
use Rattle.ov_model.specs.declared.entry.Entry.{Entry}
use Rattle.ov_model.specs.declared.hold.Owed.{Owed}
use Rattle.ov_model.specs.declared.place.Place.{Place}
use Rattle.ov_model.specs.declared.reply.Reply.{Reply}
use Rattle.ov_model.specs.Tables.{Table, Material}
use Rattle.ov_model.specs.Step.{step, May}
use Rattle.ov_model.specs.Events.{Event, Stepped, release_of}
use Rattle.ov_model.specs.Runs.{IsRun, last_table}
use Rattle.ov_path.specs.Desks.{stepped_as}
use Rattle.ov_past.specs.declared.past.Happening.{Happening}
use Rattle.ov_past.specs.Pasts.{event_of}
use Rattle.ov_table.specs.Recorded.{Recorded, entry_of}
use Rattle.ov_ticket.specs.Within.{cell_of, release_call, IsSettled, IsUntouched, IsReleasing, HasMade}
use Rattle.ov_ticket.specs.Asks.{OwedFits, found_pair, got_cells, Joined, IsLow, MayAsk}
use Rattle.ov_ticket.specs.Asked.{IsReady, IsEntered, IsMade}
use Rattle.ov_ticket.specs.Tickets.{HasSeen, StepAt, ReleasedAt}
use Rattle.ov_ticket.proofs.Releasing.{out_may}
use Rattle.ov_ticket.proofs.Asking.{all_out}

-- The table inside is the last one of what the seat has seen.
last_seen : (it : Inside Recorded Entry) → IsSettled it → last_table (seen_in it) ≡ (kept_of it).now
last_seen it s = ap last_table (sym s.history) ∙ s.told.last

run_seen : (it : Inside Recorded Entry) → IsSettled it → IsRun (seen_in it)
run_seen it s = subst IsRun s.history s.told.run

-- What a seat asks for outside it may ask for inside.
pub ready : (s : Sight Entry) (it : Inside Recorded Entry) (a : Act) → IsEntered s it → MayAsk s.holds s.owes a → IsReady it a
ready s it a in_it asks = record {
  settled = in_it.settled;
  asks = subst (λ (owes : List ℕ). MayAsk (holds_in it) owes a) (sym in_it.owes) (subst (λ (holds : List ℕ). MayAsk holds s.owes a) (sym in_it.holds) asks);
  held = in_it.held;
  owed_dies = in_it.owed_dies;
}

-- What the seat has outside again.
pub record IsLeft (it : Inside Recorded Entry) (s : Sight Entry) : Type 0 where
  pub share : s.share ≡ share_in it
  pub seen : s.seen ≡ seen_in it
  pub own : s.own ≡ own_in it
  pub holds : s.holds ≡ holds_in it
  pub owes : s.owes ≡ owes_in it

-- A step at a table.
record StepOn (t : Table) (s s' : Sight Entry) (before : List Entry) (place : Place) (call : Call) (r : Reply) (event : Event) (joined : List Owed) : Type 0 where
  may : May t call
  reply : r ≡ (step t call).reply
  event_is : event ≡ stepped_as place call r (step t call).taken
  joins : Joined call.act r (step t call).taken joined
  seen : s'.seen ≡ before ++ entry_of t place call ∷ []
  own : s'.own ≡ s.own ++ (length before, entry_of t place call) ∷ []

pub step_told : (s s' : Sight Entry) (a b : Inside Recorded Entry) (place : Place) (call : Call) (r : Reply) (event : Event) (l l' : List Owed) → IsEntered s a → IsLeft b s' → IsMade a b place call r event l l' → StepAt s s' place call r event l l'
step_told s s' a b place call r event l l' in_it out is =
    let here : StepOn (kept_of a).now s s' (seen_in a) place call r event is.joined = record {
      may = is.may;
      reply = is.reply;
      event_is = is.event_is;
      joins = is.joins;
      seen = out.seen ∙ is.seen;
      own = out.own ∙ is.own ∙ ap (λ (es : List (ℕ × Entry)). es ++ (length (seen_in a), entry_of (kept_of a).now place call) ∷ []) in_it.own;
    } in
    let last : StepOn (last_table (seen_in a)) s s' (seen_in a) place call r event is.joined = subst (λ (t : Table). StepOn t s s' (seen_in a) place call r event is.joined) (sym (last_seen a in_it.settled)) here in
    record {
      before = seen_in a;
      front = in_it.front;
      run = run_seen a in_it.settled;
      may = last.may;
      reply = last.reply;
      event_is = last.event_is;
      joined = is.joined;
      joins = last.joins;
      listed_are = is.listed_are;
      seen = last.seen;
      own = last.own;
      share = out.share ∙ is.same.1 ∙ in_it.share;
      holds = out.holds ∙ is.holds ∙ ap (λ (cells : List ℕ). cells ++ got_cells call.act r) in_it.holds;
      owes = out.owes ∙ is.owes ∙ ap (λ (cells : List ℕ). cells ++ map cell_of is.joined) in_it.owes;
      low = is.low;
    }

pub steps_told : (s s' : Sight Entry) (a b : Inside Recorded Entry) (place : Place) (call : Call) (res : Result (Reply × Happening) Memory) (l l' : List Owed) → IsEntered s a → IsLeft b s' → IfOk res (λ r. IsMade a b place call r.0 (event_of r.1) l l') → IfOk res (λ r. StepAt s s' place call r.0 (event_of r.1) l l')
steps_told s s' a b place call (Ok r) l l' in_it out is = step_told s s' a b place call r.0 (event_of r.1) l l' in_it out is
steps_told s s' a b place call (Err e) l l' in_it out is = is

-- The directions that were kept are those of the last table of what the seat has seen.
pub pair_told : (s' : Sight Entry) (b : Inside Recorded Entry) (res : Result (Reply × Happening) Memory) (was now : Option Material) → IsSettled b → IsLeft b s' → IfOk res (λ r. now ≡ found_pair (kept_of b).now r.0 was) → IfOk res (λ r. now ≡ found_pair (last_table s'.seen) r.0 was)
pair_told s' b (Ok r) was now settled out is = is ∙ ap (λ (t : Table). found_pair t r.0 was) (sym (ap last_table out.seen ∙ last_seen b settled))
pair_told s' b (Err e) was now settled out is = is

-- Where there was no memory nothing was made.
seen_only : (s s' : Sight Entry) (a b : Inside Recorded Entry) → IsEntered s a → IsLeft b s' → IsUntouched a b → HasSeen s s'
seen_only s s' a b in_it out is =
    let share : s'.share ≡ s.share = out.share ∙ is.steady.0.1 ∙ in_it.share in
    let own : s'.own ≡ s.own = out.own ∙ is.steady.3 ∙ in_it.own in
    let holds : s'.holds ≡ s.holds = out.holds ∙ is.holds ∙ in_it.holds in
    let owes : s'.owes ≡ s.owes = out.owes ∙ is.owes ∙ in_it.owes in
    record {
      front = subst (IsPrefix s.seen) (sym (out.seen ∙ is.steady.2)) in_it.front;
      same = λ i. record { share = share i; seen = s'.seen; own = own i; holds = holds i; owes = owes i };
    }

pub none_told : (s s' : Sight Entry) (a b : Inside Recorded Entry) (res : Result (Reply × Happening) Memory) → IsEntered s a → IsLeft b s' → OnErr res (IsUntouched a b) → OnErr res (HasSeen s s')
none_told s s' a b (Ok r) in_it out is = is
none_told s s' a b (Err e) in_it out is = seen_only s s' a b in_it out is

-- ---- a release

-- What is listed is on its way out.
releasing : (s : Sight Entry) (it : Inside Recorded Entry) (os : List Owed) → IsEntered s it → s.owes ≡ map cell_of os → AllByRecursion IsLow os → IsReleasing os it
releasing s it os in_it owes low =
    let all : owes_in it ≡ map cell_of os = in_it.owes ∙ owes in
    record {
      settled = in_it.settled;
      owes = all;
      once = in_it.once;
      out = all_out (kept_of it) in_it.settled.told os low (λ c some. omega (arith, ap (has c) in_it.settled.dying, in_it.owed_dies c (omega (arith, ap (count_of c) all))));
    }

-- The first that is listed is the first to release.
pub releasing_first : (s : Sight Entry) (it : Inside Recorded Entry) (listed : VecDeque Owed Global) (o : Owed) (rest : List Owed) → IsEntered s it → OwedFits listed s.owes → listed.items ≡ o ∷ rest → IsReleasing (o ∷ rest) it
releasing_first s it listed o rest in_it fits first = releasing s it (o ∷ rest) in_it (fits.owes_are ∙ ap (map cell_of) first) (subst (AllByRecursion IsLow) first fits.low)

-- What is left listed is what is owed still.
pub rest_fits : (listed left : VecDeque Owed Global) (o : Owed) (owes owes' : List ℕ) → OwedFits listed owes → listed.items ≡ o ∷ left.items → deque_capacity left ≡ deque_capacity listed → owes' ≡ map cell_of left.items → OwedFits left owes'
rest_fits listed left o owes owes' fits first capacity are = record {
  owes_are = are;
  low = (let low = subst (AllByRecursion IsLow) first fits.low in low.1);
  room = subst (λ (n : ℕ). 69632 ≤ n) (sym capacity) fits.room;
}

pub release_told : (s s' : Sight Entry) (a b : Inside Recorded Entry) (place : Place) (at : ℕ) (o : Owed) (event : Event) (l os : List Owed) → l ≡ o ∷ os → IsEntered s a → IsLeft b s' → IsReleasing (o ∷ os) a → IsReleasing os b → HasMade ((release_of place at o).entry ∷ []) a b → event ≡ Stepped (release_of place at o) → ReleasedAt s s' place at event l os
release_told s s' a b place at o event l os first in_it out was is made tells = record {
  first = o;
  listed_was = first;
  before = seen_in a;
  front = in_it.front;
  run = run_seen a in_it.settled;
  may = subst (λ (t : Table). May t (release_call at o)) (sym (last_seen a in_it.settled)) (out_may (kept_of a).now at o was.out.0);
  event_is = tells;
  seen = out.seen ∙ made.seen;
  own = out.own ∙ made.own ∙ ap (λ (es : List (ℕ × Entry)). es ++ (length (seen_in a), (release_of place at o).entry) ∷ []) in_it.own;
  share = out.share ∙ made.same.1 ∙ in_it.share;
  holds = out.holds ∙ made.holds ∙ in_it.holds;
  owes = out.owes ∙ is.owes;
}
