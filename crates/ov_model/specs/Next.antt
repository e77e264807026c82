-- What a line does next: the stand that its events so far give it, and the event that its next turn makes.
use Rattle.std.specs.Prelude.{ℕ, List, [], ◌∷◌, Bool, true, false, Option, Some, None}
use Rattle.ov_base.specs.declared.address.Addr.{Addr}
use Rattle.ov_model.specs.declared.act.Act.{Act}
use Rattle.ov_model.specs.declared.act.Act.TheVariants as act
use Rattle.ov_model.specs.declared.command.Command.TheVariants as command
use Rattle.ov_model.specs.declared.draw.Drawn.{Drawn}
use Rattle.ov_model.specs.declared.draw.Drawn.TheVariants as drawn
use Rattle.ov_model.specs.declared.hold.Owed.{Owed}
use Rattle.ov_model.specs.declared.hold.Owed.TheVariants as owed
use Rattle.ov_model.specs.declared.reply.HoldView.{HoldView}
use Rattle.ov_model.specs.declared.reply.Reply.{Reply}
use Rattle.ov_model.specs.declared.reply.Reply.TheVariants as reply
use Rattle.ov_model.specs.declared.replay.Verdict.{Verdict}
use Rattle.ov_model.specs.declared.replay.Verdict.TheVariants as verdict
use Rattle.ov_model.specs.declared.replay.Refusal.TheVariants as refusal
use Rattle.ov_model.specs.declared.stand.Stand.{Stand}
use Rattle.ov_model.specs.declared.stand.Stand.TheVariants as stand
use Rattle.ov_model.specs.declared.stand.Use.TheVariants as used
use Rattle.ov_model.specs.declared.line.Line.{Line}
use Rattle.ov_model.specs.declared.line.Deed.{Deed}
use Rattle.ov_model.specs.declared.line.Deed.TheVariants as deed
use Rattle.ov_model.specs.Tables.{Material}
use Rattle.ov_model.specs.Packets.{opened, packet_id_of, keepalive}
use Rattle.ov_model.specs.Events.{Event, Stepped, Judged, Drew, GaveKey, GavePeer}
use Rattle.ov_model.specs.Path.{Begin, at_once, first, begins, packet_in, sent_act, settle_act}

-- ---- the stand

-- Whether a reply says that the key was taken out of its slot as spent.
abbrev pub is_killed : Reply → Bool
is_killed reply.Killed = true
is_killed _ = false

-- After a look-up: it holds, or it found nothing.
abbrev pub looked : Reply → Stand
looked (reply.Hold h) = stand.Looked h
looked _ = stand.Missed

-- After a step of the table. A release changes nothing.
abbrev pub began : Act → Reply → Stand
began (act.Do c) r = stand.Replied
began (act.TxLook a) r = looked r
began (act.RxLook id key_id from) r = looked r
began _ r = stand.Fresh

-- After a step that follows a draw: sent with the id that was drawn, or spent.
abbrev pub drew_used : HoldView → Drawn → Act → Reply → Stand
drew_used h (drawn.Id n) (act.Sent peer inner outer ping) r = stand.Used h (used.Sealed n)
drew_used h drawn.Spent (act.Spend peer key) r = stand.Used h (used.Spent (is_killed r))
drew_used h d _ r = stand.Drew h d

-- After a step that follows an accepted packet id: settled.
abbrev pub judged_used : HoldView → Reply → Stand
judged_used h (reply.Settled s) = stand.Used h (used.Settled s)
judged_used h _ = stand.Judged h

-- Between two pings of a tick: the look-up of the next peer that was due. A release changes nothing.
abbrev pub looks_on : Stand → Act → Reply → Stand
looks_on s (act.KeepLook peer) r = looked r
looks_on s _ r = s

-- After a step of the table, by where the line stood.
abbrev pub stepped : Stand → Act → Reply → Stand
stepped stand.Fresh a r = began a r
stepped stand.Replied a r = looks_on stand.Replied a r
stepped stand.Missed a r = looks_on stand.Missed a r
stepped (stand.PeerGiven h u) a r = looks_on (stand.PeerGiven h u) a r
stepped (stand.Drew h d) a r = drew_used h d a r
stepped (stand.Judged h) a r = judged_used h r
stepped s a r = s

-- After a replay step.
abbrev pub judged_as : HoldView → Verdict → Stand
judged_as h verdict.Accept = stand.Judged h
judged_as h verdict.Zero = stand.Used h (used.Refused refusal.Zero)
judged_as h verdict.Old = stand.Used h (used.Refused refusal.Old)
judged_as h verdict.Below = stand.Used h (used.Refused refusal.Below)
judged_as h verdict.Again = stand.Used h (used.Refused refusal.Again)

-- After a replay step, by where the line stood.
abbrev pub judged : Stand → Verdict → Stand
judged (stand.Looked h) v = judged_as h v
judged s v = s

-- After a draw.
abbrev pub drew : Stand → Drawn → Stand
drew (stand.Looked h) d = stand.Drew h d
drew s d = s

-- After the key was given back. One that is given back unused had a tag that doesn't verify.
abbrev pub gave_key : Stand → Stand
gave_key (stand.Looked h) = stand.KeyGiven h used.BadTag
gave_key (stand.Used h u) = stand.KeyGiven h u
gave_key s = s

-- After the peer was given back.
abbrev pub gave_peer : Stand → Stand
gave_peer (stand.KeyGiven h u) = stand.PeerGiven h u
gave_peer s = s

-- Where an event leaves a line, by where it stood.
abbrev pub see : Stand → Event → Stand
see s (Stepped e) = stepped s e.entry.call.act e.entry.reply
see s (Judged j) = judged s j.verdict
see s (Drew key d) = drew s d
see s (GaveKey key g) = gave_key s
see s (GavePeer peer g) = gave_peer s

-- Where some events leave a line.
abbrev pub see_all : Stand → List Event → Stand
see_all s [] = s
see_all s (e ∷ es) = see_all (see s e) es

-- Where its events so far leave a line.
abbrev pub stand_of : List Event → Stand
stand_of es = see_all stand.Fresh es

-- ---- the peers that are due

-- The peers that a reply says are due a ping.
abbrev pub due_by : Reply → List ℕ
due_by (reply.Ticked expired due) = due
due_by _ = []

-- All but the first member.
abbrev pub all_but_first : List ℕ → List ℕ
all_but_first [] = []
all_but_first (x ∷ xs) = xs

-- The due peers that weren't looked at yet, after a step of the table: a tick names them, and each look-up is of
-- the first.
abbrev pub left_after : List ℕ → Act → Reply → List ℕ
left_after left (act.Do command.Tick) r = due_by r
left_after left (act.KeepLook peer) r = all_but_first left
left_after left _ r = left

-- The due peers that weren't looked at yet, after an event.
abbrev pub left_see : List ℕ → Event → List ℕ
left_see left (Stepped e) = left_after left e.entry.call.act e.entry.reply
left_see left _ = left

-- The same after some events.
abbrev pub left_all : List ℕ → List Event → List ℕ
left_all left [] = left
left_all left (e ∷ es) = left_all (left_see left e) es

-- The due peers that a line hasn't looked at yet, by its events so far: none but in a tick's line.
abbrev pub left_of : List Event → List ℕ
left_of es = left_all [] es

-- ---- the next event

-- What a turn asks for: a step of the table, a replay step of a key's window, a draw, a give-back, nothing
-- since the line is answered at once, or nothing since the line is over.
pub data Ask : Type 0 where
  Table : Act → Ask
  Replay : (key id : ℕ) → Ask
  Draw : (key : ℕ) → Ask
  GiveKey : (key : ℕ) → Ask
  GivePeer : (peer : ℕ) → Ask
  Nil : Ask
  Over : Ask

-- What an event was asked by.
abbrev pub request : Event → Ask
request (Stepped s) = Table s.entry.call.act
request (Judged j) = Replay j.key j.id
request (Drew key d) = Draw key
request (GaveKey key g) = GiveKey key
request (GavePeer peer g) = GivePeer peer

-- The line begins.
abbrev pub asks_first : Begin → Ask
asks_first (at_once a) = Nil
asks_first (first a) = Table a

-- With a hold and its material, rx has the id judged where the tag verifies, and else gives the key back.
abbrev pub asks_opened : HoldView → List ℕ → Option (List ℕ) → Ask
asks_opened h bytes (Some packet) = Replay h.key (packet_id_of bytes)
asks_opened h bytes None = GiveKey h.key

-- With a hold, rx opens the datagram under the key's material.
abbrev pub asks_open : HoldView → List ℕ → Option Material → Ask
asks_open h bytes (Some m) = asks_opened h bytes (opened m.decrypt bytes)
asks_open h bytes None = GiveKey h.key

-- With a hold: tx and a tick's ping draw a packet id, rx opens the datagram.
abbrev pub asks_held : Option Material → HoldView → Deed → Ask
asks_held m h (deed.Tx packet) = Draw h.key
asks_held m h (deed.Rx from bytes) = asks_open h bytes m
asks_held m h (deed.Netlink n) = Over
asks_held m h deed.Tick = Draw h.key
asks_held m h deed.Down = Over
asks_held m h (deed.Lost id reason) = Over

-- After a draw: the packet was sealed, or the key is spent.
abbrev pub asks_drawn : HoldView → Drawn → Deed → Ask
asks_drawn h (drawn.Id n) (deed.Tx packet) = Table (sent_act h false packet)
asks_drawn h (drawn.Id n) deed.Tick = Table (sent_act h true keepalive)
asks_drawn h drawn.Spent (deed.Tx packet) = Table (act.Spend h.peer h.key)
asks_drawn h drawn.Spent deed.Tick = Table (act.Spend h.peer h.key)
asks_drawn h d _ = Over

-- After a fresh packet id: the packet is settled.
abbrev pub asks_settle : (Addr → Addr) → HoldView → Deed → List ℕ → Ask
asks_settle via h (deed.Rx from bytes) packet = Table (settle_act via h from packet bytes)
asks_settle via h _ packet = Over

-- After an accepted packet id: the packet that the datagram opened to is settled.
abbrev pub asks_judged : (Addr → Addr) → HoldView → Deed → Option Material → Ask
asks_judged via h d (Some m) = asks_settle via h d (packet_in d m)
asks_judged via h d None = Over

-- Where nothing is held: the next peer that was due is looked up, and with none left the line is over.
abbrev pub asks_due : List ℕ → Ask
asks_due [] = Over
asks_due (peer ∷ left) = Table (act.KeepLook peer)

-- What comes next, by where the line stands and which due peers are left.
abbrev pub asks : (Addr → Addr) → (ℕ → Option Material) → Deed → Stand → (left : List ℕ) → Ask
asks via material d stand.Fresh left = asks_first (begins via d)
asks via material d stand.Replied left = asks_due left
asks via material d stand.Missed left = asks_due left
asks via material d (stand.Looked h) left = asks_held (material h.key) h d
asks via material d (stand.Drew h drawn) left = asks_drawn h drawn d
asks via material d (stand.Judged h) left = asks_judged via h d (material h.key)
asks via material d (stand.Used h u) left = GiveKey h.key
asks via material d (stand.KeyGiven h u) left = GivePeer h.peer
asks via material d (stand.PeerGiven h u) left = asks_due left

-- The act that lets a peer or a key go.
abbrev pub release_act : Owed → Act
release_act (owed.Peer p) = act.Released p
release_act (owed.Key k) = act.KeyReleased k

-- What is owed is released first.
abbrev pub next_owing : (Addr → Addr) → (ℕ → Option Material) → Deed → Stand → (left : List ℕ) → List Owed → Ask
next_owing via material d s left [] = asks via material d s left
next_owing via material d s left (o ∷ os) = Table (release_act o)

-- What comes next for a line, by its events so far and what is owed.
abbrev pub next : (Addr → Addr) → (ℕ → Option Material) → Line → List Event → List Owed → Ask
next via material line es os = next_owing via material line.deed (stand_of es) (left_of es) os
