-- A line that is given up: what it held and owed is let go, one after the other.
use Rattle.std.proofs.Common.{ℕ, ◌≡◌, ◌+◌, List, [], ◌∷◌, ◌++◌, length, refl, sym, ◌∙◌, ap, subst, arith}
use Rattle.std.specs.List.{AllByRecursion}
use Rattle.ov_model.specs.declared.hold.Given.{Given}
use Rattle.ov_model.specs.declared.hold.Owed.{Owed}
use Rattle.ov_model.specs.declared.hold.Owed.TheVariants as owed
use Rattle.ov_model.specs.declared.place.Place.{Place}
use Rattle.ov_model.specs.declared.reply.HoldView.{HoldView}
use Rattle.ov_model.specs.Events.{Event, Stepped, GaveKey, GavePeer, release_of}
use Rattle.ov_path.specs.Desks.{NoHold, Both, LeftPeer, Did, peer_left, after_first}
use Rattle.ov_path.specs.Walks.{IsOwn}
use Rattle.ov_share.specs.Shares.{Sharing, IsFree}
use Rattle.ov_share.specs.Makings.{Makes}
use Rattle.ov_desk.specs.Sittings.{Sitting, shown_of, Happened, MakesAll, HasEnded, HasLetGo, HasGivenUp, WasReleased, at_rest}

-- ---- events of a share, one after the other

makes_more : (old mid new : Sharing) (es : List Event) (e : Event) → MakesAll old es mid → Makes mid e new → MakesAll old (es ++ e ∷ []) new
makes_more old mid new [] e made more = (new, subst (λ s. Makes s e new) made more, refl)
makes_more old mid new (x ∷ es) e made more = (made.0, made.1, makes_more made.0 mid new es e made.2 more)

own_more : (place : Place) (at : ℕ) (es : List Event) (e : Event) → AllByRecursion (IsOwn place at) es → IsOwn place at e → AllByRecursion (IsOwn place at) (es ++ e ∷ [])
own_more place at [] e own more = (more, tt)
own_more place at (x ∷ es) e own more = (own.0, own_more place at es e own.1 more)

pub ended_none : (place : Place) (at : ℕ) (s : Sharing) → HasEnded place at s s
ended_none place at s = record { events = []; own = tt; makes = refl }

pub ended_more : (place : Place) (at : ℕ) (old mid new : Sharing) (e : Event) → HasEnded place at old mid → IsOwn place at e → Makes mid e new → HasEnded place at old new
ended_more place at old mid new e done own makes = record {
  events = done.events ++ e ∷ [];
  own = own_more place at done.events e done.own own;
  makes = makes_more old mid new done.events e done.makes makes;
}

-- ---- the give-backs

lets_go : (old new : Sitting) → new.common ≡ old.common → new.routes ≡ old.routes → new.hold ≡ NoHold → new ≡ record old { share = new.share; events = new.events; hold = NoHold; owing = new.owing }
lets_go old new common routes hold =
    ap (λ c. record new { common = c }) common ∙ ap (λ r. record new { common = old.common; routes = r }) routes ∙ ap (λ h. record new { common = old.common; routes = old.routes; hold = h }) hold

pub let_none : (old : Sitting) → old.hold ≡ NoHold → HasLetGo old old
let_none old hold = record { same = lets_go old old refl refl hold; ended = λ place at. ended_none place at old.share }

pub let_peer : (old new : Sitting) (peer : ℕ) (g : Given) → Did shown_of Happened old (GavePeer peer g) new → HasLetGo old new
let_peer old new peer g did = record {
  same = lets_go old new did.done.common did.done.routes did.leaves.hold_is;
  ended = λ place at. ended_more place at old.share old.share new.share (GavePeer peer g) (ended_none place at old.share) tt did.done.makes;
}

pub let_both : (old mid new : Sitting) (key peer : ℕ) (g f : Given) → Did shown_of Happened old (GaveKey key g) mid → Did shown_of Happened mid (GavePeer peer f) new → HasLetGo old new
let_both old mid new key peer g f first second = record {
  same = lets_go old new (second.done.common ∙ first.done.common) (second.done.routes ∙ first.done.routes) second.leaves.hold_is;
  ended = λ place at. ended_more place at old.share mid.share new.share (GavePeer peer f) (ended_more place at old.share old.share mid.share (GaveKey key g) (ended_none place at old.share) tt first.done.makes) tt second.done.makes;
}

-- The peer is left after its key was given back.
pub left_after : (old mid : Sitting) (h : HoldView) (key : ℕ) (g : Given) → old.hold ≡ Both h → Did shown_of Happened old (GaveKey key g) mid → LeftPeer mid.hold h.peer
left_after old mid h key g hold did = subst (λ x. LeftPeer x h.peer) (sym (did.leaves.hold_is ∙ ap peer_left hold)) refl

-- ---- the releases

-- So far some of the releases were made.
pub record Releasing (place : Place) (at : ℕ) (start now : Sitting) (done count : ℕ) : Type 0 where
  pub common : now.common ≡ start.common
  pub routes : now.routes ≡ start.routes
  pub hold : now.hold ≡ NoHold
  pub left : length now.owing + done ≡ count
  pub ended : HasEnded place at start.share now.share

pub releasing_none : (place : Place) (at : ℕ) (start now : Sitting) (count : ℕ) → HasLetGo start now → count ≡ length now.owing → Releasing place at start now 0 count
releasing_none place at start now count gone is = record {
  common = ap (λ (x : Sitting). x.common) gone.same;
  routes = ap (λ (x : Sitting). x.routes) gone.same;
  hold = ap (λ (x : Sitting). x.hold) gone.same;
  left = omega (arith, is);
  ended = gone.ended place at;
}

release_own : (place : Place) (at : ℕ) (o : Owed) → IsOwn place at (Stepped (release_of place at o))
release_own place at (owed.Peer p) = (refl, refl)
release_own place at (owed.Key k) = (refl, refl)

pub releasing_more : (place : Place) (at : ℕ) (start now next : Sitting) (done count : ℕ) → Releasing place at start now done count → WasReleased place at now next → Releasing place at start next (done + 1) count
releasing_more place at start now next done count so released =
    let did = released.did in
    let long : length now.owing ≡ length (released.first ∷ released.rest) = ap length released.owing in
    let rest : next.owing ≡ released.rest = did.leaves.owing_is ∙ ap after_first released.owing in
    let shorter : length next.owing ≡ length released.rest = ap length rest in
    let left : length now.owing + done ≡ count = so.left in
    record {
      common = did.done.common ∙ so.common;
      routes = did.done.routes ∙ so.routes;
      hold = did.leaves.hold_is ∙ so.hold;
      left = omega arith;
      ended = ended_more place at start.share now.share next.share (Stepped (release_of place at released.first)) so.ended (release_own place at released.first) did.done.makes;
    }

none_long : (os : List Owed) (n : ℕ) → length os + n ≡ n → os ≡ []
none_long [] n is = refl
none_long (o ∷ os) n is = absurd (omega (arith, is))

pub nothing_left : (place : Place) (at : ℕ) (start now : Sitting) (done count : ℕ) → Releasing place at start now done count → done ≡ count → now.owing ≡ []
nothing_left place at start now done count so all = none_long now.owing done (so.left ∙ sym all)

-- At the end the desk is at rest.
pub given_up : (place : Place) (at : ℕ) (start now new : Sitting) (done count : ℕ) → Releasing place at start now done count → now.owing ≡ [] → new ≡ record now { events = [] } → IsFree new.share → HasGivenUp place at start new
given_up place at start now new done count so none is free =
    let share : new.share ≡ now.share = ap (λ (x : Sitting). x.share) is in
    record {
      rests = is ∙ ap (λ c. record now { common = c; events = [] }) so.common ∙ ap (λ r. record now { common = start.common; routes = r; events = [] }) so.routes
          ∙ ap (λ h. record now { common = start.common; routes = start.routes; events = []; hold = h }) so.hold ∙ ap (λ os. record (at_rest start.common start.routes now.share) { owing = os }) none
          ∙ ap (λ s. at_rest start.common start.routes s) (sym share);
      free = free;
      ended = subst (λ s. HasEnded place at start.share s) (sym share) so.ended;
    }
