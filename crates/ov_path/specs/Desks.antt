-- What a desk shows to the line that stands at it, and what each of its calls makes of that.
use Rattle.std.specs.Prelude.{ℕ, ◌≡◌, ⊤, List, [], ◌∷◌, ◌++◌, Bool, true, false, Option, Some, None, nat_eq}
use Rattle.std.specs.List.{IsDistinct}
use Rattle.ov_base.specs.declared.address.Addr.{Addr}
use Rattle.ov_model.specs.declared.hold.Owed.TheVariants as owed
use Rattle.ov_model.specs.declared.replay.Verdict.{Verdict}
use Rattle.ov_model.specs.declared.place.Place.{Place}
use Rattle.ov_model.specs.declared.act.Act.{Act}
use Rattle.ov_model.specs.declared.act.Act.TheVariants as act
use Rattle.ov_model.specs.declared.act.Call.{Call}
use Rattle.ov_model.specs.declared.command.Command.{Command}
use Rattle.ov_model.specs.declared.command.Command.TheVariants as command
use Rattle.ov_model.specs.declared.hold.Given.{Given}
use Rattle.ov_model.specs.declared.hold.Given.TheVariants.{More, Last}
use Rattle.ov_model.specs.declared.hold.Owed.{Owed}
use Rattle.ov_model.specs.declared.reply.HoldView.{HoldView}
use Rattle.ov_model.specs.declared.reply.Reply.{Reply}
use Rattle.ov_model.specs.declared.reply.Reply.TheVariants as reply
use Rattle.ov_model.specs.Tables.{Material}
use Rattle.ov_model.specs.Events.{Event, Stepped, GaveKey, GavePeer, Judged, judgements_in}
use Rattle.ov_model.specs.Path.{SomeOwed, removed, spent_taken}
use Rattle.ov_model.specs.declared.draw.Drawn.TheVariants as drawn
use Rattle.ov_model.specs.declared.stand.Stand.{Stand}
use Rattle.ov_model.specs.declared.stand.Stand.TheVariants as stand
use Rattle.ov_model.specs.Next.{is_killed, stand_of, left_of}

-- The hold that is out: none, one on a peer and its key, or one on the peer alone, whose key was given
-- back.
pub data Holding : Type 0 where
  NoHold : Holding
  Both : HoldView → Holding
  PeerLeft : HoldView → Holding

-- The events of the present line, the hold that is out, the releases that are owed, in the order of their
-- becoming so, what is had of the keys by their serials, and the next hop of an address.
pub record View : Type 0 where
  pub events : List Event
  pub hold : Holding
  pub owing : List Owed
  pub material : ℕ → Option Material
  pub via : Addr → Addr

-- Nothing happened yet, and nothing is held or owed.
pub record IsNew (w : View) : Type 0 where
  pub events : w.events ≡ []
  pub hold : w.hold ≡ NoHold
  pub owing : w.owing ≡ []

-- What is had of the keys stays, and may become more.
abbrev pub Grows : (old new : ℕ → Option Material) → Type 0
Grows old new = (key : ℕ) (m : Material) → old key ≡ Some m → new key ≡ Some m

-- Of the line all is as it was. More keys may be known, and the next hops may be others: so a view is after
-- a call that answers Memory, and after what others did at the desk.
pub record SameLine (old new : View) : Type 0 where
  pub events : new.events ≡ old.events
  pub hold : new.hold ≡ old.hold
  pub owing : new.owing ≡ old.owing
  pub grows : Grows old.material new.material

-- ---- conditions

-- The key is held.
abbrev pub HoldsKey : Holding → ℕ → Type 0
HoldsKey (Both h) key = h.key ≡ key
HoldsKey _ key = ⊥

-- The peer is held.
abbrev pub HoldsPeer : Holding → ℕ → Type 0
HoldsPeer (Both h) peer = h.peer ≡ peer
HoldsPeer _ peer = ⊥

-- The peer is still held, and its key was given back.
abbrev pub LeftPeer : Holding → ℕ → Type 0
LeftPeer (PeerLeft h) peer = h.peer ≡ peer
LeftPeer _ peer = ⊥

-- A line asks a counter or a replay window right after its look-up, says that it sent or that the key is
-- spent right after its draw, and settles right after the window accepted. A desk may rely on that: a hold
-- draws once, is judged once and is used once. Here the line has looked up.
abbrev pub IsLooked : Stand → Type 0
IsLooked (stand.Looked h) = ⊤
IsLooked _ = ⊥

-- The line has drawn a packet id.
abbrev pub IsDrawn : Stand → Type 0
IsDrawn (stand.Drew h (drawn.Id n)) = ⊤
IsDrawn _ = ⊥

-- The line's packet id was accepted.
abbrev pub IsJudged : Stand → Type 0
IsJudged (stand.Judged h) = ⊤
IsJudged _ = ⊥

-- The line has drawn, and found none left.
abbrev pub IsSpent : Stand → Type 0
IsSpent (stand.Drew h drawn.Spent) = ⊤
IsSpent _ = ⊥

-- What is held is still to be used.
abbrev pub IsUnused : Stand → Type 0
IsUnused (stand.Looked h) = ⊤
IsUnused (stand.Drew h d) = ⊤
IsUnused (stand.Judged h) = ⊤
IsUnused _ = ⊥

-- The line holds and owes nothing, and has made no event yet.
abbrev pub IsFree : View → Type 0
IsFree w = (w.hold ≡ NoHold) × (w.owing ≡ []) × (stand_of w.events ≡ stand.Fresh)

-- A tick's line is between its step and its first ping, or between two pings.
abbrev pub IsPause : Stand → Type 0
IsPause stand.Replied = ⊤
IsPause stand.Missed = ⊤
IsPause (stand.PeerGiven h u) = ⊤
IsPause _ = ⊥

-- The first of some peers.
abbrev pub first_of : List ℕ → Option ℕ
first_of [] = None
first_of (x ∷ xs) = Some x

-- The line is a tick between two pings that holds and owes nothing, and this is the next peer that is due.
-- Such a line has judged no packet id.
pub record IsNextDue (w : View) (peer : ℕ) : Type 0 where
  pub hold : w.hold ≡ NoHold
  pub owing : w.owing ≡ []
  pub pause : IsPause (stand_of w.events)
  pub due : first_of (left_of w.events) ≡ Some peer
  pub unjudged : judgements_in w.events ≡ []

-- Which steps of the table a line may ask for: a command and a look-up where it holds and owes nothing, the
-- look-up of a due peer between two pings, the others of the peer and the key that it holds. Releases are
-- asked for otherwise. A line begins with its command or its look-up.
abbrev pub MayCall : View → Act → Type 0
MayCall w (act.Do c) = IsFree w
MayCall w (act.TxLook a) = IsFree w
MayCall w (act.RxLook id key_id from) = IsFree w
MayCall w (act.Sent peer inner outer ping) = HoldsPeer w.hold peer × IsDrawn (stand_of w.events)
MayCall w (act.Settle peer from kind inner outer) = HoldsPeer w.hold peer × IsJudged (stand_of w.events)
MayCall w (act.Spend peer key) = HoldsPeer w.hold peer × HoldsKey w.hold key × IsSpent (stand_of w.events)
MayCall w (act.KeepLook peer) = IsNextDue w peer
MayCall w (act.Released peer) = ⊥
MayCall w (act.KeyReleased key) = ⊥

-- The first release that is owed.
abbrev pub first_owed : List Owed → Option Owed
first_owed [] = None
first_owed (o ∷ os) = Some o

-- What is owed after the first release.
abbrev pub after_first : List Owed → List Owed
after_first [] = []
after_first (o ∷ os) = os

-- ---- what a call does

-- After the hold on the key was given back, that on the peer is left.
abbrev pub peer_left : Holding → Holding
peer_left (Both h) = PeerLeft h
peer_left other = other

-- A packet id was judged.
abbrev pub judged_at : Place → (key id at : ℕ) → Verdict → Event
judged_at place key id at v = Judged (record { place = place; key = key; id = id; at = at; verdict = v })

-- Whoever gave back the last hold owes the release.
abbrev pub owed_if : Given → Owed → List Owed
owed_if More o = []
owed_if Last o = o ∷ []

-- A look-up that found its peer and key holds them.
abbrev pub look_holds : Holding → Reply → Holding
look_holds before (reply.Hold h) = Both h
look_holds before _ = before

-- What is held after a step of the table: what its look-up found.
abbrev pub held_after : Holding → Act → Reply → Holding
held_after before (act.TxLook a) r = look_holds before r
held_after before (act.RxLook id key_id from) r = look_holds before r
held_after before (act.KeepLook peer) r = look_holds before r
held_after before _ r = before

-- Whether a command is a tick.
abbrev pub is_tick : Command → Bool
is_tick command.Tick = true
is_tick _ = false

-- Whether a reply is that of a tick.
abbrev pub is_ticked : Reply → Bool
is_ticked (reply.Ticked expired due) = true
is_ticked _ = false

-- Which replies a step has. Those of the commands are the table's business, but that a tick is answered as
-- one and no other command is.
abbrev pub IsLookReply : Reply → Type 0
IsLookReply (reply.Hold h) = ⊤
IsLookReply reply.NoPeer = ⊤
IsLookReply reply.NoKey = ⊤
IsLookReply _ = ⊥

-- A reply says whether a due peer takes its ping.
abbrev pub IsKeepReply : Reply → Type 0
IsKeepReply (reply.Hold h) = ⊤
IsKeepReply reply.Skip = ⊤
IsKeepReply _ = ⊥

-- A reply says what becomes of a packet.
abbrev pub IsSettledReply : Reply → Type 0
IsSettledReply (reply.Settled s) = ⊤
IsSettledReply _ = ⊥

-- A reply says what became of a spent key.
abbrev pub IsSpendReply : Reply → Type 0
IsSpendReply reply.Killed = ⊤
IsSpendReply reply.AlreadyGone = ⊤
IsSpendReply _ = ⊥

-- A reply is of the kind that the act has.
abbrev pub IsReplyOf : Act → Reply → Type 0
IsReplyOf (act.Do c) r = is_ticked r ≡ is_tick c
IsReplyOf (act.TxLook a) r = IsLookReply r
IsReplyOf (act.RxLook id key_id from) r = IsLookReply r
IsReplyOf (act.Sent peer inner outer ping) r = r ≡ reply.Done
IsReplyOf (act.Settle peer from kind inner outer) r = IsSettledReply r
IsReplyOf (act.Spend peer key) r = IsSpendReply r
IsReplyOf (act.KeepLook peer) r = IsKeepReply r
IsReplyOf (act.Released peer) r = r ≡ reply.Released peer
IsReplyOf (act.KeyReleased key) r = r ≡ reply.KeyReleased key

-- Which keys a step took out of their slots, and which releases joined what is owed. After a command
-- some of the keys and some of the peers that it removed; after another step none, since what it takes is
-- held.
abbrev pub Joins : Act → Reply → (taken : List ℕ) → (joined : List Owed) → Type 0
Joins (act.Do c) r taken joined = SomeOwed taken (removed r) joined
Joins (act.Spend peer key) r taken joined = (taken ≡ spent_taken (is_killed r) key) × (joined ≡ [])
Joins _ r taken joined = (taken ≡ []) × (joined ≡ [])

-- The key of a hold has its material.
abbrev pub HoldHas : (ℕ → Option Material) → Reply → Type 0
HoldHas material (reply.Hold h) = (m : Material) × (material h.key ≡ Some m)
HoldHas material _ = ⊤

-- The key that a look-up holds has its material.
abbrev pub HasMaterial : (ℕ → Option Material) → Act → Reply → Type 0
HasMaterial material (act.TxLook a) r = HoldHas material r
HasMaterial material (act.RxLook id key_id from) r = HoldHas material r
HasMaterial material (act.KeepLook peer) r = HoldHas material r
HasMaterial material _ r = ⊤

-- The event of a step of the table.
abbrev pub stepped_as : Place → Call → Reply → List ℕ → Event
stepped_as place call r taken = Stepped (record { entry = record { place = place; call = call; reply = r }; taken = taken })

-- The next hops may become others where a step of the table was made, and nowhere else.
abbrev pub HopsStay : Event → (old new : Addr → Addr) → Type 0
HopsStay (Stepped s) old new = ⊤
HopsStay _ old new = new ≡ old

-- An event was made, and then this is held and owed.
pub record Leaves (old : View) (e : Event) (hold : Holding) (owing : List Owed) (new : View) : Type 0 where
  pub events : new.events ≡ old.events ++ e ∷ []
  pub hold_is : new.hold ≡ hold
  pub owing_is : new.owing ≡ owing
  pub grows : Grows old.material new.material
  pub hops : HopsStay e old.via new.via

-- What is held after a give-back, and what is owed after a give-back or a release.
abbrev pub hold_left : Holding → Event → Holding
hold_left h (GaveKey key g) = peer_left h
hold_left h (GavePeer peer g) = NoHold
hold_left h _ = h

-- What is owed after an event: more after a give-back that was the last, and less by the first after a
-- release.
abbrev pub owed_left : List Owed → Event → List Owed
owed_left os (GaveKey key g) = os ++ owed_if g (owed.Key key)
owed_left os (GavePeer peer g) = os ++ owed_if g (owed.Peer peer)
owed_left os (Stepped s) = after_first os
owed_left os _ = os

-- A desk did what an event says that is a release or no step of the table. `view` is what it shows, and
-- `does` what an event makes of it.
pub record Did {D : Type 0} (view : D → View) (does : D → Event → D → Type 0) (old : D) (e : Event) (new : D) : Type 0 where
  pub leaves : Leaves (view old) e (hold_left (view old).hold e) (owed_left (view old).owing e) (view new)
  pub done : does old e new

-- A desk made a step of the table, with this reply.
pub record Called {D : Type 0} (view : D → View) (does : D → Event → D → Type 0) (old : D) (place : Place) (call : Call) (r : Reply) (new : D) : Type 0 where
  pub taken : List ℕ
  pub joined : List Owed
  pub fits : IsReplyOf call.act r
  pub joins : Joins call.act r taken joined
  pub apart : IsDistinct nat_eq (removed r)
  pub has : HasMaterial (view new).material call.act r
  pub leaves : Leaves (view old) (stepped_as place call r taken) (held_after (view old).hold call.act r) ((view old).owing ++ joined) (view new)
  pub done : does old (stepped_as place call r taken) new
