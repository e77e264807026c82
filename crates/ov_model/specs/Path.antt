-- Which steps, which replay steps and which answer one line has: a table over finished lists, a record for
-- each row.
use Rattle.std.specs.Prelude.{ℕ, ◌+◌, ◌≡◌, ⊤, List, [], ◌∷◌, ◌++◌, length, Bool, true, false, Option, Some, None, unwrap_or, map, Result, Ok, Err, IsSome}
use Rattle.ov_aes.specs.Aes.{key_list}
use Rattle.ov_base.specs.declared.address.Addr.{Addr}
use Rattle.ov_base.specs.declared.address.Addr.TheVariants.{V4, V6}
use Rattle.ov_base.specs.declared.address.Transport.{Transport}
use Rattle.ov_model.specs.declared.ident.PeerId.{PeerId}
use Rattle.ov_model.specs.declared.ident.KeyId.{KeyId}
use Rattle.ov_model.specs.declared.place.Place.{Place}
use Rattle.ov_model.specs.declared.act.Act.{Act}
use Rattle.ov_model.specs.declared.act.Act.TheVariants as act
use Rattle.ov_model.specs.declared.act.InnerKind.{InnerKind}
use Rattle.ov_model.specs.declared.act.InnerKind.TheVariants as inner_kind
use Rattle.ov_model.specs.declared.command.Command.{Command}
use Rattle.ov_model.specs.declared.command.Command.TheVariants as command
use Rattle.ov_model.specs.declared.hold.Owed.{Owed}
use Rattle.ov_model.specs.declared.hold.Owed.TheVariants as owed
use Rattle.ov_model.specs.declared.reply.Errno.{Errno}
use Rattle.ov_model.specs.declared.reply.HoldView.{HoldView}
use Rattle.ov_model.specs.declared.reply.Settled.{Settled}
use Rattle.ov_model.specs.declared.reply.Settled.TheVariants as settled
use Rattle.ov_model.specs.declared.reply.Reply.{Reply}
use Rattle.ov_model.specs.declared.reply.Reply.TheVariants as reply
use Rattle.ov_model.specs.declared.replay.Verdict.{Verdict}
use Rattle.ov_model.specs.declared.replay.Verdict.TheVariants as verdict
use Rattle.ov_model.specs.declared.replay.Refusal.{Refusal}
use Rattle.ov_model.specs.declared.replay.Refusal.TheVariants as refusal
use Rattle.ov_model.specs.declared.stand.Use.{Use}
use Rattle.ov_model.specs.declared.stand.Use.TheVariants as used
use Rattle.ov_model.specs.declared.line.Line.{Line}
use Rattle.ov_model.specs.declared.line.Deed.{Deed}
use Rattle.ov_model.specs.declared.line.Deed.TheVariants as deed
use Rattle.ov_model.specs.declared.answer.Answer.{Answer}
use Rattle.ov_model.specs.declared.answer.PingOut.{PingOut}
use Rattle.ov_model.specs.declared.answer.PingOutcome.{PingOutcome}
use Rattle.ov_model.specs.declared.answer.PingOutcome.TheVariants as outcome
use Rattle.ov_model.specs.declared.answer.SealedOut.{SealedOut}
use Rattle.ov_model.specs.declared.answer.Answer.TheVariants as answer
use Rattle.ov_model.specs.declared.answer.DropCause.{DropCause}
use Rattle.ov_model.specs.declared.answer.DropCause.TheVariants as drop
use Rattle.ov_model.specs.Limits.{overhead}
use Rattle.ov_model.specs.Ident.{peer_id, key_id}
use Rattle.ov_model.specs.Tables.{Material}
use Rattle.ov_model.specs.Checked.{checked}
use Rattle.ov_model.specs.Packets.{HeadKind, short, data_v1, control, data_v2, head_of, Inner, v4, v6, not_ip, inner_of, Kind, from_source, ping, no_source, kind_of, keepalive, datagram, opened, packet_id_of}
use Rattle.ov_model.specs.Events.{Step, Judgement, step_of, releases}

-- ---- how a line begins

-- A line is answered at once, without a step, or begins with a step of the table.
pub data Begin : Type 0 where
  at_once : Answer → Begin
  first : Act → Begin

-- A netlink message is a command, or is refused by its attributes alone.
abbrev pub begins_netlink : Result Command Errno → Begin
begins_netlink (Err e) = at_once (answer.Reply (reply.Refused e))
begins_netlink (Ok c) = first (act.Do c)

-- A packet to be sent is looked up by the next hop of its destination.
abbrev pub begins_tx : (Addr → Addr) → Inner → Begin
begins_tx via (v4 source destination) = first (act.TxLook (via (V4 destination)))
begins_tx via (v6 source destination) = first (act.TxLook (via (V6 destination)))
begins_tx via not_ip = at_once (answer.Dropped drop.NotIp)

-- A received datagram is looked up by its head. The ids of a head that was read from bytes are always in
-- range.
abbrev pub rx_look_by : Option PeerId → Option KeyId → Transport → Begin
rx_look_by (Some id) (Some key_id) from = first (act.RxLook id key_id from)
rx_look_by _ _ from = at_once (answer.Dropped drop.Short)

-- Of received datagrams data packets of the second version alone are looked up.
abbrev pub begins_rx : Transport → HeadKind → Begin
begins_rx from short = at_once (answer.Dropped drop.Short)
begins_rx from data_v1 = at_once (answer.Dropped drop.DataV1)
begins_rx from control = at_once answer.Control
begins_rx from (data_v2 id key n) = rx_look_by (peer_id id) (key_id key) from

-- How a line begins, by what it has to do. A tick and a down are commands of the table, and a lost transport
-- removes its peer.
abbrev pub begins : (Addr → Addr) → Deed → Begin
begins via (deed.Netlink m) = begins_netlink (checked m)
begins via (deed.Tx packet) = begins_tx via (inner_of packet)
begins via (deed.Rx from bytes) = begins_rx from (head_of bytes)
begins via deed.Tick = first (act.Do command.Tick)
begins via deed.Down = first (act.Do command.Down)
begins via (deed.Lost id reason) = first (act.Do (command.Remove id reason))

-- ---- releases

-- Some members of a list, each at most once and in its order.
pub data SomeOf : List ℕ → List ℕ → Type 0 where
  none : SomeOf [] []
  kept : (x : ℕ) (xs ys : List ℕ) → SomeOf xs ys → SomeOf (x ∷ xs) (x ∷ ys)
  passed : (x : ℕ) (xs ys : List ℕ) → SomeOf xs ys → SomeOf (x ∷ xs) ys

-- Releases of some of the keys that a step took out of their slots, and then of some of the peers that
-- it removed, each in their order.
pub record SomeOwed (keys peers : List ℕ) (os : List Owed) : Type 0 where
  pub some_keys : List ℕ
  pub some_peers : List ℕ
  pub of_keys : SomeOf keys some_keys
  pub of_peers : SomeOf peers some_peers
  pub are : os ≡ map owed.Key some_keys ++ map owed.Peer some_peers

-- The serials of the peers that a reply says were removed.
abbrev pub removed : Reply → List ℕ
removed (reply.Removed peers) = peers
removed (reply.Ticked expired due) = expired
removed _ = []

-- A release, where it is owed.
abbrev pub owed_where : Bool → Owed → List Owed
owed_where true o = o ∷ []
owed_where false o = []

-- The releases after a hold: of the key and then of the peer, each where this line was the last to hold it.
abbrev pub hold_owed : HoldView → (key peer : Bool) → List Owed
hold_owed h key peer = owed_where key (owed.Key h.key) ++ owed_where peer (owed.Peer h.peer)

-- ---- what a line makes of what it holds

-- The inner packet: the one that is sealed, which is the keepalive message for a tick's ping, or the one that
-- opens.
abbrev pub packet_in : Deed → Material → List ℕ
packet_in (deed.Tx packet) m = packet
packet_in (deed.Rx from bytes) m = unwrap_or (opened m.decrypt bytes) []
packet_in (deed.Netlink n) m = []
packet_in deed.Tick m = keepalive
packet_in deed.Down m = []
packet_in (deed.Lost id reason) m = []

-- A datagram has the head and the tag more than its inner packet.
abbrev pub outer_length : ℕ → ℕ
outer_length inner = inner + overhead

-- What the table looks at in a received packet: the next hop of its source.
abbrev pub kind_via : (Addr → Addr) → Kind → InnerKind
kind_via via (from_source a) = inner_kind.From (via a)
kind_via via ping = inner_kind.Ping
kind_via via no_source = inner_kind.NotIp

-- Which uses a line can make, and what a use asks of the datagram.
abbrev pub UseFits : Deed → Material → Use → Type 0
UseFits (deed.Tx packet) m (used.Sealed n) = ⊤
UseFits (deed.Tx packet) m (used.Spent killed) = ⊤
UseFits deed.Tick m (used.Sealed n) = ⊤
UseFits deed.Tick m (used.Spent killed) = ⊤
UseFits (deed.Rx from bytes) m used.BadTag = opened m.decrypt bytes ≡ None
UseFits (deed.Rx from bytes) m (used.Refused x) = IsSome (opened m.decrypt bytes)
UseFits (deed.Rx from bytes) m (used.Settled s) = IsSome (opened m.decrypt bytes)
UseFits _ m _ = ⊥

-- The key that a spent use took out of its slot.
abbrev pub spent_taken : Bool → ℕ → List ℕ
spent_taken true key = key ∷ []
spent_taken false key = []

-- The reply to a spent use: the key was killed, or had left its slot before.
abbrev pub spent_reply : Bool → Reply
spent_reply true = reply.Killed
spent_reply false = reply.AlreadyGone

-- The step of a sealed packet: it is counted with its own length and the datagram's, and whether it is a ping.
abbrev pub sent_act : HoldView → Bool → List ℕ → Act
sent_act h as_ping packet = act.Sent h.peer (length packet) (outer_length (length packet)) as_ping

-- The step of the table after a fresh packet id: the packet is settled by its source, and the peer may float to
-- the transport that the datagram came from.
abbrev pub settle_act : (Addr → Addr) → HoldView → Transport → (packet bytes : List ℕ) → Act
settle_act via h from packet bytes = act.Settle h.peer (Some from) (kind_via via (kind_of packet)) (length packet) (length bytes)

-- The replay step of a datagram under the held key.
abbrev pub replay_of : Place → ℕ → HoldView → List ℕ → Verdict → Judgement
replay_of place at h bytes v = record { place = place; key = h.key; id = packet_id_of bytes; at = at; verdict = v }

-- A refusal is one of the verdicts.
abbrev pub refused_as : Refusal → Verdict
refused_as refusal.Zero = verdict.Zero
refused_as refusal.Old = verdict.Old
refused_as refusal.Below = verdict.Below
refused_as refusal.Again = verdict.Again

-- The cause with which a packet is dropped whose id isn't fresh: the refusal's own.
abbrev pub cause_of : Refusal → DropCause
cause_of refusal.Zero = drop.Zero
cause_of refusal.Old = drop.Old
cause_of refusal.Below = drop.Below
cause_of refusal.Again = drop.Again

-- The answer of a settled packet: what the table said becomes of it.
abbrev pub settled_answer : Settled → HoldView → List ℕ → Answer
settled_answer settled.Deliver h packet = answer.Delivered h.id packet
settled_answer settled.Ping h packet = answer.Keepalive h.id
settled_answer settled.NotIp h packet = answer.Dropped drop.NotIp
settled_answer settled.NotOwner h packet = answer.Dropped drop.NotOwner

-- The datagram of a packet: the head of the hold, the packet sealed with the material that encrypts.
abbrev pub sealed_datagram : HoldView → Material → ℕ → List ℕ → List ℕ
sealed_datagram h m n packet = datagram h.id.number h.key_id.number n (key_list m.encrypt.key) m.encrypt.tail packet

-- What is sealed: where it goes, under which key and packet id, and the datagram.
abbrev pub sealed_out : HoldView → Material → ℕ → List ℕ → SealedOut
sealed_out h m n packet = record { to = h.to; key = h.key; id = n; datagram = sealed_datagram h m n packet }

-- The columns of the table: steps of the peer table, replay steps, the answer.
pub record Columns : Type 0 where
  pub steps : List Step
  pub judgements : List Judgement
  pub answer : Answer

-- What UseFits refuses stands in no row.
abbrev pub no_row : Columns
no_row = record { steps = []; judgements = []; answer = answer.Control }

-- The rows of a packet that is sent, as a ping or not: it is sealed with a packet id, or the key is spent.
abbrev pub tx_row : Place → ℕ → HoldView → Material → Bool → List ℕ → Use → Columns
tx_row place at h m as_ping packet (used.Sealed n) = record {
  steps = step_of place at (sent_act h as_ping packet) reply.Done [] ∷ [];
  judgements = [];
  answer = answer.Sealed (sealed_out h m n packet);
}
tx_row place at h m as_ping packet (used.Spent killed) = record {
  steps = step_of place at (act.Spend h.peer h.key) (spent_reply killed) (spent_taken killed h.key) ∷ [];
  judgements = [];
  answer = answer.Dropped drop.Spent;
}
tx_row place at h m as_ping packet _ = no_row

-- The rows of a received datagram: its tag doesn't verify, its packet id is refused, or its packet is settled.
abbrev pub rx_row : (Addr → Addr) → Place → ℕ → HoldView → Transport → (packet bytes : List ℕ) → Use → Columns
rx_row via place at h from packet bytes used.BadTag = record {
  steps = [];
  judgements = [];
  answer = answer.Dropped drop.BadTag;
}
rx_row via place at h from packet bytes (used.Refused x) = record {
  steps = [];
  judgements = replay_of place at h bytes (refused_as x) ∷ [];
  answer = answer.Dropped (cause_of x);
}
rx_row via place at h from packet bytes (used.Settled s) = record {
  steps = step_of place at (settle_act via h from packet bytes) (reply.Settled s) [] ∷ [];
  judgements = replay_of place at h bytes verdict.Accept ∷ [];
  answer = settled_answer s h packet;
}
rx_row via place at h from packet bytes _ = no_row

-- The row of a use, between the look-up and the releases.
abbrev pub use_row : (Addr → Addr) → Place → ℕ → Deed → HoldView → Material → Use → Columns
use_row via place at (deed.Tx packet) h m u = tx_row place at h m false packet u
use_row via place at deed.Tick h m u = tx_row place at h m true keepalive u
use_row via place at (deed.Rx from bytes) h m u = rx_row via place at h from (packet_in (deed.Rx from bytes) m) bytes u
use_row via place at (deed.Netlink n) h m u = no_row
use_row via place at deed.Down h m u = no_row
use_row via place at (deed.Lost id reason) h m u = no_row

-- What becomes of a ping by what was made of its hold.
abbrev pub used_outcome : HoldView → Material → Use → PingOutcome
used_outcome h m (used.Sealed n) = outcome.Sealed (sealed_out h m n keepalive)
used_outcome h m (used.Spent killed) = outcome.Spent
used_outcome h m _ = outcome.Skip

-- A peer and its key are looked up, held, used and given back: the look-up with its hold, the material of
-- the key, what the line made of it, and whether it released the key and the peer.
pub record Round : Type 0 where
  pub look : Act
  pub hold : HoldView
  pub material : Material
  pub made : Use
  pub key : Bool
  pub peer : Bool

-- What a round asks: its material is that of the held key, and the line can make this use.
abbrev pub RoundFits : (ℕ → Option Material) → Deed → Round → Type 0
RoundFits material d r = (material r.hold.key ≡ Some r.material) × UseFits d r.material r.made

-- The row of a round's use.
abbrev pub round_row : (Addr → Addr) → Place → ℕ → Deed → Round → Columns
round_row via place at d r = use_row via place at d r.hold r.material r.made

-- A round's steps: the look-up with its hold, those of the use, the releases.
abbrev pub round_steps : (Addr → Addr) → Place → ℕ → Deed → Round → List Step
round_steps via place at d r = step_of place at r.look (reply.Hold r.hold) [] ∷ ((round_row via place at d r).steps ++ releases place at (hold_owed r.hold r.key r.peer))

-- ---- pings

-- What a tick made of a peer that was due: none where it takes no ping any more, or a round that sends it the
-- keepalive message.
pub data Ping : Type 0 where
  skipped : Ping
  pinged : Round → Ping

-- A ping is of this peer: its round begins with the peer's look-up.
abbrev pub PingFits : (ℕ → Option Material) → (peer : ℕ) → Ping → Type 0
PingFits material peer skipped = ⊤
PingFits material peer (pinged r) = (r.look ≡ act.KeepLook peer) × RoundFits material deed.Tick r

-- One ping for each peer that was due, in order.
abbrev pub PingsFit : (ℕ → Option Material) → (due : List ℕ) → List Ping → Type 0
PingsFit material [] [] = ⊤
PingsFit material (peer ∷ due) (p ∷ pings) = PingFits material peer p × PingsFit material due pings
PingsFit material _ _ = ⊥

-- A ping's steps: the look-up in vain, or those of its round.
abbrev pub ping_steps : (Addr → Addr) → Place → ℕ → (peer : ℕ) → Ping → List Step
ping_steps via place at peer skipped = step_of place at (act.KeepLook peer) reply.Skip [] ∷ []
ping_steps via place at peer (pinged r) = round_steps via place at deed.Tick r

-- The steps of all pings, in order.
abbrev pub pings_steps : (Addr → Addr) → Place → ℕ → (due : List ℕ) → List Ping → List Step
pings_steps via place at (peer ∷ due) (p ∷ pings) = ping_steps via place at peer p ++ pings_steps via place at due pings
pings_steps via place at _ _ = []

-- What became of a round's ping: sealed, or the key was spent.
abbrev pub round_outcome : Round → PingOutcome
round_outcome r = used_outcome r.hold r.material r.made

-- What became of a ping.
abbrev pub ping_outcome : Ping → PingOutcome
ping_outcome skipped = outcome.Skip
ping_outcome (pinged r) = round_outcome r

-- The outcomes of all pings, each with its peer's serial, in order.
abbrev pub pings_out : (due : List ℕ) → List Ping → List PingOut
pings_out (peer ∷ due) (p ∷ pings) = record { peer = peer; outcome = ping_outcome p } ∷ pings_out due pings
pings_out _ _ = []

-- ---- the rows

-- An act that looks a peer and its key up, as a line begins.
abbrev pub IsLook : Act → Type 0
IsLook (act.TxLook a) = ⊤
IsLook (act.RxLook id key_id from) = ⊤
IsLook _ = ⊥

-- A look-up's reply without a hold, with its cause.
abbrev pub IsMiss : Reply → DropCause → Type 0
IsMiss reply.NoPeer cause = cause ≡ drop.NoPeer
IsMiss reply.NoKey cause = cause ≡ drop.NoKey
IsMiss _ cause = ⊥

-- An answer without a step: a netlink message that the attribute checks refuse, a packet that isn't IP, a
-- datagram that isn't a data packet.
pub record AtOnceRow (via : Addr → Addr) (line : Line) (steps : List Step) (judgements : List Judgement) (a : Answer) : Type 0 where
  pub begins_so : begins via line.deed ≡ at_once a
  pub steps_are : steps ≡ []
  pub judgements_are : judgements ≡ []

-- A tick has a row of its own.
abbrev pub NotTick : Command → Type 0
NotTick command.Tick = ⊥
NotTick _ = ⊤

-- A command, a message's, that of a down or that of a lost transport, with its reply, the keys that it took out
-- of a slot, and the releases that the line made.
pub record CommandRow (via : Addr → Addr) (place : Place) (line : Line) (steps : List Step) (judgements : List Judgement) (a : Answer) : Type 0 where
  pub command : Command
  pub r : Reply
  pub taken : List ℕ
  pub os : List Owed
  pub begins_so : begins via line.deed ≡ first (act.Do command)
  pub not_tick : NotTick command
  pub some : SomeOwed taken (removed r) os
  pub steps_are : steps ≡ step_of place line.at (act.Do command) r taken ∷ releases place line.at os
  pub judgements_are : judgements ≡ []
  pub answer_is : a ≡ answer.Reply r

-- A look-up that found nothing.
pub record MissRow (via : Addr → Addr) (place : Place) (line : Line) (steps : List Step) (judgements : List Judgement) (a : Answer) : Type 0 where
  pub look : Act
  pub r : Reply
  pub cause : DropCause
  pub begins_so : begins via line.deed ≡ first look
  pub looks : IsLook look
  pub misses : IsMiss r cause
  pub steps_are : steps ≡ step_of place line.at look r [] ∷ []
  pub judgements_are : judgements ≡ []
  pub answer_is : a ≡ answer.Dropped cause

-- A look-up with its hold, and what the line made of it.
pub record RoundRow (material : ℕ → Option Material) (via : Addr → Addr) (place : Place) (line : Line) (steps : List Step) (judgements : List Judgement) (a : Answer) : Type 0 where
  pub round : Round
  pub begins_so : begins via line.deed ≡ first round.look
  pub looks : IsLook round.look
  pub fits : RoundFits material line.deed round
  pub steps_are : steps ≡ round_steps via place line.at line.deed round
  pub judgements_are : judgements ≡ (round_row via place line.at line.deed round).judgements
  pub answer_is : a ≡ (round_row via place line.at line.deed round).answer

-- A tick: the step that removes the expired peers and names those that are due, the releases that the line made
-- of what it removed, and then a ping for each peer that was due, in order. It has no replay step.
pub record TickRow (material : ℕ → Option Material) (via : Addr → Addr) (place : Place) (line : Line) (steps : List Step) (judgements : List Judgement) (a : Answer) : Type 0 where
  pub expired : List ℕ
  pub due : List ℕ
  pub taken : List ℕ
  pub os : List Owed
  pub pings : List Ping
  pub is_tick : line.deed ≡ deed.Tick
  pub some : SomeOwed taken expired os
  pub fits : PingsFit material due pings
  pub steps_are : steps ≡ step_of place line.at (act.Do command.Tick) (reply.Ticked expired due) taken ∷ (releases place line.at os ++ pings_steps via place line.at due pings)
  pub judgements_are : judgements ≡ []
  pub answer_is : a ≡ answer.Ticked expired (pings_out due pings)

-- A line's steps, replay steps and answer are those of one of the rows. `material` is what the keys'
-- serials stand for and `via` is the next hop of an address.
pub data Path (material : ℕ → Option Material) (via : Addr → Addr) (place : Place) (line : Line) (steps : List Step) (judgements : List Judgement) (a : Answer) : Type 0 where
  by_at_once : AtOnceRow via line steps judgements a → Path material via place line steps judgements a
  by_command : CommandRow via place line steps judgements a → Path material via place line steps judgements a
  by_miss : MissRow via place line steps judgements a → Path material via place line steps judgements a
  by_round : RoundRow material via place line steps judgements a → Path material via place line steps judgements a
  by_tick : TickRow material via place line steps judgements a → Path material via place line steps judgements a
