-- What each call makes of the plain desk of the tests.
use Rattle.std.proofs.Common.{ℕ, ◌≡◌, ◌+◌, ◌≤◌, List, [], ◌∷◌, ◌++◌, refl, sym, ◌∙◌, ap, subst, arith, Bool, true, false}
use Rattle.std.specs.Prelude.{Option, Some, None, nat_eq, length}
use Rattle.std.specs.List.{IsDistinct}
use Rattle.ov_model.specs.declared.act.Act.{Act}
use Rattle.ov_model.specs.declared.act.Act.TheVariants as act
use Rattle.ov_model.specs.declared.command.Command.{Command}
use Rattle.ov_model.specs.declared.draw.Drawn.{Drawn}
use Rattle.ov_model.specs.declared.hold.Owed.{Owed}
use Rattle.ov_model.specs.declared.hold.Owed.TheVariants as owed
use Rattle.ov_model.specs.declared.reply.HoldView.{HoldView}
use Rattle.ov_model.specs.declared.reply.Reply.{Reply}
use Rattle.ov_model.specs.declared.reply.Reply.TheVariants as reply
use Rattle.ov_model.specs.declared.stand.Stand.{Stand}
use Rattle.ov_model.specs.declared.stand.Stand.TheVariants as stand
use Rattle.ov_model.specs.Tables.{Material}
use Rattle.ov_model.specs.Events.{Event, Drew}
use Rattle.ov_model.specs.Path.{SomeOf, none, kept, passed, removed}
use Rattle.ov_model.specs.Next.{stand_of, drew}
use Rattle.ov_path.specs.Desks.{Holding, NoHold, Both, PeerLeft, HoldsKey, IsLooked, Joins, HasMaterial, IsReplyOf, Called, held_after, stepped_as}
use Rattle.ov_model.specs.declared.act.Call.{Call}
use Rattle.ov_base.specs.declared.address.Addr.{Addr}
use Rattle.ov_model.specs.declared.place.Place.{Place}
use Rattle.ov_model.specs.declared.line.Line.{Line}
use Rattle.ov_path.specs.declared.walk.Progress.{Progress}
use Rattle.ov_path.specs.declared.walk.Progress.TheVariants.{More, Answered}
use Rattle.ov_path.specs.Walks.{MadeBy, made, nothing}
use Rattle.ov_path_tests.specs.Plain.{shown_of, Kept, Sound, Joined, one_key, listed, taken_by, need, owes}
use Rattle.ov_path.proofs.Seeing.{seen}

-- ---- what is owed

none_of : (xs : List ℕ) → SomeOf xs []
none_of [] = none
none_of (x ∷ xs) = passed x xs [] (none_of xs)

joins_none : (a : Act) (r : Reply) → Joins a r (taken_by a r) []
joins_none (act.Do c) r = record { some_keys = []; some_peers = []; of_keys = none; of_peers = none_of (removed r); are = refl }
joins_none (act.TxLook a) r = (refl, refl)
joins_none (act.RxLook id key_id from) r = (refl, refl)
joins_none (act.Sent peer inner outer ping) r = (refl, refl)
joins_none (act.Settle peer from kind inner outer) r = (refl, refl)
joins_none (act.Spend peer key) r = (refl, refl)
joins_none (act.KeepLook peer) r = (refl, refl)
joins_none (act.Released peer) r = (refl, refl)
joins_none (act.KeyReleased key) r = (refl, refl)

same_listed : (o : Option Owed) → listed o ≡ listed o ++ []
same_listed None = refl
same_listed (Some o) = refl

pub nothing_joins : (a : Act) (r : Reply) (o : Option Owed) → Joined a r o o
nothing_joins a r o = record { joined = []; joins = joins_none a r; is = same_listed o }

pub first_joins : (c : Command) (x : ℕ) (xs : List ℕ) → Joined (act.Do c) (reply.Removed (x ∷ xs)) None (Some (owed.Peer x))
first_joins c x xs = record {
  joined = owed.Peer x ∷ [];
  joins = record { some_keys = []; some_peers = x ∷ []; of_keys = none; of_peers = kept x xs [] (none_of xs); are = refl };
  is = refl;
}

pub first_expires : (c : Command) (x : ℕ) (xs due : List ℕ) → Joined (act.Do c) (reply.Ticked (x ∷ xs) due) None (Some (owed.Peer x))
first_expires c x xs due = record {
  joined = owed.Peer x ∷ [];
  joins = record { some_keys = []; some_peers = x ∷ []; of_keys = none; of_peers = kept x xs [] (none_of xs); are = refl };
  is = refl;
}

-- One serial at most differs from all others.
pub few_differ : (xs : List ℕ) → length xs ≤ 1 → IsDistinct nat_eq xs
unfolding IsDistinct
few_differ [] few = tt
few_differ (x ∷ []) few = (tt, tt)
few_differ (x ∷ y ∷ xs) few = absurd (omega arith)

-- ---- a draw

-- After a draw no other may come.
not_looked : (s : Stand) (d : Drawn) → ¬ IsLooked (drew s d)
not_looked stand.Fresh d = λ h. h
not_looked stand.Replied d = λ h. h
not_looked stand.Missed d = λ h. h
not_looked (stand.Looked v) d = λ h. h
not_looked (stand.Drew v e) d = λ h. h
not_looked (stand.Judged v) d = λ h. h
not_looked (stand.Used v u) d = λ h. h
not_looked (stand.KeyGiven v u) d = λ h. h
not_looked (stand.PeerGiven v u) d = λ h. h

not_drawn : (drew : Bool) (s : Stand) → (drew ≡ true → ¬ IsLooked s) → IsLooked s → drew ≡ false
not_drawn false s refuses looked = refl
not_drawn true s refuses looked = absurd (refuses refl looked)

draw_need : (h : Holding) (key : ℕ) → HoldsKey h key → (need h false ≡ 7) × (need h true ≡ 6)
draw_need (Both h) key holds = (refl, refl)
draw_need NoHold key holds = absurd holds
draw_need (PeerLeft h) key holds = absurd holds

draw_room : (k : Kept) (key : ℕ) → Sound k → HoldsKey k.hold key → IsLooked (stand_of k.events) → 7 + owes k.owing ≤ k.room
draw_room k key sound holds looked =
    let undrawn : k.drew ≡ false = not_drawn k.drew (stand_of k.events) sound.drawn looked in
    let spare : need k.hold false + owes k.owing ≤ k.room = subst (λ d. need k.hold d + owes k.owing ≤ k.room) undrawn sound.spare in
    let seven : need k.hold false ≡ 7 = (draw_need k.hold key holds).0 in
    omega (arith, spare, seven)

pub draw_sound : (k : Kept) (key : ℕ) (d : Drawn) (es : List Event) (room : ℕ) → Sound k → HoldsKey k.hold key → IsLooked (stand_of k.events) → es ≡ k.events ++ Drew key d ∷ [] → room + 1 ≡ k.room →
    Sound (record { events = es; room = room; hold = k.hold; drew = true; owing = k.owing; pair = k.pair; hop = k.hop })
draw_sound k key d es room sound holds looked is less =
    let spare = draw_room k key sound holds looked in
    let six : need k.hold true ≡ 6 = (draw_need k.hold key holds).1 in
    record {
      spare = omega (arith, spare, six, less);
      drawn = λ yes. subst (λ s. ¬ IsLooked s) (sym (ap stand_of is ∙ seen (stand_of k.events) k.events (Drew key d) refl)) (not_looked (stand_of k.events) d);
    }

-- ---- a look-up

-- Whatever it holds has the desk's key.
pub has_key : (m : Material) (a : Act) (h : HoldView) → HasMaterial (one_key m) a (reply.Hold h)
has_key m (act.Do c) h = tt
has_key m (act.TxLook a) h = (m, refl)
has_key m (act.RxLook id key_id from) h = (m, refl)
has_key m (act.Sent peer inner outer ping) h = tt
has_key m (act.Settle peer from kind inner outer) h = tt
has_key m (act.Spend peer key) h = tt
has_key m (act.KeepLook peer) h = (m, refl)
has_key m (act.Released peer) h = tt
has_key m (act.KeyReleased key) h = tt

-- ---- the next hops

-- Whatever a turn did, the desk has the next hop that it had.
pub hop_stays : (via : Addr → Addr) (place : Place) (line : Line) (d e : Kept) (r : Progress) → MadeBy shown_of (λ (p : Kept) (x : Event) (q : Kept). q.hop ≡ p.hop) via place line r d e → e.hop ≡ d.hop
hop_stays via place line d e More m = m.done
hop_stays via place line d e (Answered a) (made m) = m.done
hop_stays via place line d e (Answered a) (nothing nil same) = ap (λ (k : Kept). k.hop) same

-- ---- a step of the table

-- The step's event was told, and what was held and owed became so.
pub called : (old new : Kept) (place : Place) (call : Call) (r : Reply) → IsReplyOf call.act r → IsDistinct nat_eq (removed r) → HasMaterial (one_key old.pair) call.act r
    → new.events ≡ old.events ++ stepped_as place call r (taken_by call.act r) ∷ [] → new.hold ≡ held_after old.hold call.act r → Joined call.act r old.owing new.owing → new.pair ≡ old.pair → new.hop ≡ old.hop
    → Called shown_of (λ (p : Kept) (x : Event) (q : Kept). q.hop ≡ p.hop) old place call r new
called old new place call r fits apart has events hold joined pair hop = record {
  taken = taken_by call.act r;
  joined = joined.joined;
  fits = fits;
  joins = joined.joins;
  apart = apart;
  has = subst (λ (m : Material). HasMaterial (one_key m) call.act r) (sym pair) has;
  leaves = record {
    events = events;
    hold_is = hold;
    owing_is = joined.is;
    grows = λ key m is. subst (λ (n : Material). one_key n key ≡ Some m) (sym pair) is;
    hops = tt;
  };
  done = hop;
}
