-- Where an event leaves a line: whether it may still be judged, and whether it found its key spent.
use Rattle.std.proofs.Common.{ℕ, ◌≡◌, List, [], ◌∷◌, ◌++◌, refl, sym, ◌∙◌, ap, subst, append-nil, Bool}
use Rattle.std.specs.Prelude.{⊤, Option}
use Rattle.ov_base.specs.declared.address.Transport.{Transport}
use Rattle.ov_model.specs.declared.act.Act.{Act}
use Rattle.ov_model.specs.declared.act.Act.TheVariants as act
use Rattle.ov_model.specs.declared.act.InnerKind.{InnerKind}
use Rattle.ov_model.specs.declared.draw.Drawn.{Drawn}
use Rattle.ov_model.specs.declared.draw.Drawn.TheVariants as drawn
use Rattle.ov_model.specs.declared.hold.Owed.{Owed}
use Rattle.ov_model.specs.declared.hold.Owed.TheVariants as owed
use Rattle.ov_model.specs.declared.place.Place.{Place}
use Rattle.ov_model.specs.declared.replay.Verdict.{Verdict}
use Rattle.ov_model.specs.declared.replay.Verdict.TheVariants as verdict
use Rattle.ov_model.specs.declared.reply.Reply.{Reply}
use Rattle.ov_model.specs.declared.reply.Reply.TheVariants as reply
use Rattle.ov_model.specs.declared.stand.Stand.{Stand}
use Rattle.ov_model.specs.declared.stand.Stand.TheVariants as stand
use Rattle.ov_model.specs.Events.{Event, Stepped, judgements_in, release_of}
use Rattle.ov_model.specs.Next.{stand_of, see, stepped, looked, drew, judged, gave_key, gave_peer}
use Rattle.ov_path.specs.Desks.{Holding, Both, View, MayCall, IsLooked, IsDrawn, IsJudged, IsSpent, IsPause}
use Rattle.ov_path.proofs.Seeing.{judgements_in-append, seen}
use Rattle.ov_desk.specs.Kept.{IsDry, IsEarly, IsUnjudged}

-- ---- a line that found no key spent

abbrev pub IsNotSpent : Stand → Type 0
IsNotSpent (stand.Drew view drawn.Spent) = ⊥
IsNotSpent _ = ⊤

pub not_dry : (spent : List ℕ) (h : Holding) (s : Stand) → IsNotSpent s → IsDry spent h s
not_dry spent (Both h) (stand.Drew view drawn.Spent) none = absurd none
not_dry spent _ _ none = tt

-- ---- what a line that goes on by a call of the table is

-- Such a line found no key spent, and may be judged only where it judged nothing.
pub record GoesOn (events : List Event) (s : Stand) : Type 0 where
  pub not_spent : IsNotSpent s
  pub early : IsEarly s → judgements_in events ≡ []

-- It may not be judged any more.
late : (events : List Event) (s : Stand) → IsNotSpent s → (IsEarly s → ⊥) → GoesOn events s
late events s fine past = record { not_spent = fine; early = λ early. absurd (past early) }

looked_on : (events : List Event) (r : Reply) → judgements_in events ≡ [] → GoesOn events (looked r)
looked_on events (reply.Hold h) none = record { not_spent = tt; early = λ early. none }
looked_on events _ none = record { not_spent = tt; early = λ early. none }

pause_on : (events : List Event) (s : Stand) (peer : ℕ) (r : Reply) → IsPause s → judgements_in events ≡ [] → GoesOn events (stepped s (act.KeepLook peer) r)
pause_on events stand.Replied peer r pause none = looked_on events r none
pause_on events stand.Missed peer r pause none = looked_on events r none
pause_on events (stand.PeerGiven h u) peer r pause none = looked_on events r none
pause_on events _ peer r pause none = absurd pause

sent_on : (events : List Event) (s : Stand) (peer inner outer : ℕ) (ping : Bool) (r : Reply) → IsDrawn s → GoesOn events (stepped s (act.Sent peer inner outer ping) r)
sent_on events (stand.Drew h (drawn.Id n)) peer inner outer ping r drew = late events _ tt (λ early. early)
sent_on events (stand.Drew h drawn.Spent) peer inner outer ping r drew = absurd drew
sent_on events _ peer inner outer ping r drew = absurd drew

settled_on : (events : List Event) (s : Stand) (peer : ℕ) (from : Option Transport) (k : InnerKind) (inner outer : ℕ) (r : Reply) → IsJudged s → GoesOn events (stepped s (act.Settle peer from k inner outer) r)
settled_on events (stand.Judged h) peer from k inner outer (reply.Settled s) judged = late events _ tt (λ early. early)
settled_on events (stand.Judged h) peer from k inner outer _ judged = late events _ tt (λ early. early)
settled_on events _ peer from k inner outer r judged = absurd judged

spend_on : (events : List Event) (s : Stand) (peer key : ℕ) (r : Reply) → IsSpent s → GoesOn events (stepped s (act.Spend peer key) r)
spend_on events (stand.Drew h drawn.Spent) peer key r spent = late events _ tt (λ early. early)
spend_on events (stand.Drew h (drawn.Id n)) peer key r spent = absurd spent
spend_on events _ peer key r spent = absurd spent

fresh_none : (events : List Event) → IsUnjudged events → stand_of events ≡ stand.Fresh → judgements_in events ≡ []
fresh_none events unjudged fresh = unjudged (subst IsEarly (sym fresh) tt)

pub call_on : (w : View) (a : Act) (r : Reply) → MayCall w a → IsUnjudged w.events → GoesOn w.events (stepped (stand_of w.events) a r)
call_on w (act.Do c) r may unjudged = subst (λ s. GoesOn w.events (stepped s (act.Do c) r)) (sym may.2) (late w.events _ tt (λ early. early))
call_on w (act.TxLook a) r may unjudged = subst (λ s. GoesOn w.events (stepped s (act.TxLook a) r)) (sym may.2) (looked_on w.events r (fresh_none w.events unjudged may.2))
call_on w (act.RxLook id key_id from) r may unjudged = subst (λ s. GoesOn w.events (stepped s (act.RxLook id key_id from) r)) (sym may.2) (looked_on w.events r (fresh_none w.events unjudged may.2))
call_on w (act.KeepLook peer) r may unjudged = pause_on w.events (stand_of w.events) peer r may.pause may.unjudged
call_on w (act.Sent peer inner outer ping) r may unjudged = sent_on w.events (stand_of w.events) peer inner outer ping r may.1
call_on w (act.Settle peer from k inner outer) r may unjudged = settled_on w.events (stand_of w.events) peer from k inner outer r may.1
call_on w (act.Spend peer key) r may unjudged = spend_on w.events (stand_of w.events) peer key r may.2
call_on w (act.Released peer) r may unjudged = absurd may
call_on w (act.KeyReleased key) r may unjudged = absurd may

-- ---- the other events

drew_early : (s : Stand) (d : Drawn) → IsEarly (drew s d) → IsEarly s
drew_early stand.Fresh d early = tt
drew_early (stand.Looked h) d early = tt
drew_early _ d early = early

key_early : (s : Stand) → IsEarly (gave_key s) → IsEarly s
key_early stand.Fresh early = tt
key_early (stand.Looked h) early = tt
key_early _ early = early

peer_early : (s : Stand) → IsEarly (gave_peer s) → IsEarly s
peer_early stand.Fresh early = tt
peer_early (stand.Looked h) early = tt
peer_early _ early = early

-- After a replay step the line may not be judged any more, and found no key spent.
pub judged_late : (s : Stand) (v : Verdict) → IsLooked s → IsEarly (judged s v) → ⊥
judged_late (stand.Looked h) verdict.Accept looked early = early
judged_late (stand.Looked h) verdict.Zero looked early = early
judged_late (stand.Looked h) verdict.Old looked early = early
judged_late (stand.Looked h) verdict.Below looked early = early
judged_late (stand.Looked h) verdict.Again looked early = early
judged_late _ v looked early = absurd looked

pub judged_not_spent : (s : Stand) (v : Verdict) → IsLooked s → IsNotSpent (judged s v)
judged_not_spent (stand.Looked h) verdict.Accept looked = tt
judged_not_spent (stand.Looked h) verdict.Zero looked = tt
judged_not_spent (stand.Looked h) verdict.Old looked = tt
judged_not_spent (stand.Looked h) verdict.Below looked = tt
judged_not_spent (stand.Looked h) verdict.Again looked = tt
judged_not_spent _ v looked = absurd looked

-- A release leaves the line where it stood.
pub release_stands : (place : Place) (at : ℕ) (o : Owed) (s : Stand) → see s (Stepped (release_of place at o)) ≡ s
release_stands place at (owed.Peer p) (stand.Drew h (drawn.Id n)) = refl
release_stands place at (owed.Peer p) (stand.Drew h drawn.Spent) = refl
release_stands place at (owed.Peer p) _ = refl
release_stands place at (owed.Key k) (stand.Drew h (drawn.Id n)) = refl
release_stands place at (owed.Key k) (stand.Drew h drawn.Spent) = refl
release_stands place at (owed.Key k) _ = refl

-- ---- with one event more

-- The line is as it stands after the event.
pub stands_by : (P : Stand → Type 0) (events : List Event) (e : Event) → P (see (stand_of events) e) → P (stand_of (events ++ e ∷ []))
stands_by P events e holds = subst P (sym (seen (stand_of events) events e refl)) holds

-- An event that is no replay step.
pub unjudged_more : (events : List Event) (e : Event) → judgements_in (e ∷ []) ≡ [] → (IsEarly (see (stand_of events) e) → judgements_in events ≡ []) → IsUnjudged (events ++ e ∷ [])
unjudged_more events e none before early =
    judgements_in-append events (e ∷ []) ∙ ap (λ js. judgements_in events ++ js) none ∙ append-nil (judgements_in events)
    ∙ before (subst IsEarly (seen (stand_of events) events e refl) early)

pub drew_unjudged : (events : List Event) (d : Drawn) → IsUnjudged events → IsEarly (drew (stand_of events) d) → judgements_in events ≡ []
drew_unjudged events d unjudged early = unjudged (drew_early (stand_of events) d early)

pub key_unjudged : (events : List Event) → IsUnjudged events → IsEarly (gave_key (stand_of events)) → judgements_in events ≡ []
key_unjudged events unjudged early = unjudged (key_early (stand_of events) early)

pub peer_unjudged : (events : List Event) → IsUnjudged events → IsEarly (gave_peer (stand_of events)) → judgements_in events ≡ []
peer_unjudged events unjudged early = unjudged (peer_early (stand_of events) early)

-- A key that was drawn from and had no id left stands among the spent ones.
pub drew_dry : (spent : List ℕ) (h : Holding) (s : Stand) (d : Drawn) → IsLooked s → (d ≡ drawn.Spent → IsDry spent h (drew s drawn.Spent)) → IsDry spent h (drew s d)
drew_dry spent h s drawn.Spent looked dry = dry refl
drew_dry spent h (stand.Looked v) (drawn.Id n) looked dry = not_dry spent h (stand.Drew v (drawn.Id n)) tt
drew_dry spent h _ (drawn.Id n) looked dry = absurd looked
