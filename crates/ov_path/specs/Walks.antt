-- Where a line that runs stands: what happened so far, by cases of the stand, and what one turn does.
use Rattle.std.specs.Prelude.{ℕ, ◌≡◌, ◌≤◌, length, ⊤, List, [], ◌∷◌, ◌++◌, Bool, true, false, Some, map}
use Rattle.ov_base.specs.declared.address.Addr.{Addr}
use Rattle.ov_base.specs.declared.address.Transport.{Transport}
use Rattle.ov_model.specs.declared.place.Place.{Place}
use Rattle.ov_model.specs.declared.act.Act.{Act}
use Rattle.ov_model.specs.declared.act.Act.TheVariants as act
use Rattle.ov_model.specs.declared.command.Command.{Command}
use Rattle.ov_model.specs.declared.command.Command.TheVariants as command
use Rattle.ov_model.specs.declared.draw.Drawn.{Drawn}
use Rattle.ov_model.specs.declared.draw.Drawn.TheVariants as drawn
use Rattle.ov_model.specs.declared.hold.Given.{Given}
use Rattle.ov_model.specs.declared.hold.Owed.{Owed}
use Rattle.ov_model.specs.declared.hold.Owed.TheVariants as owed
use Rattle.ov_model.specs.declared.reply.HoldView.{HoldView}
use Rattle.ov_model.specs.declared.reply.Reply.{Reply}
use Rattle.ov_model.specs.declared.reply.Reply.TheVariants as reply
use Rattle.ov_model.specs.declared.replay.Verdict.{Verdict}
use Rattle.ov_model.specs.declared.replay.Verdict.TheVariants as verdict
use Rattle.ov_model.specs.declared.stand.Use.{Use}
use Rattle.ov_model.specs.declared.stand.Use.TheVariants as used
use Rattle.ov_model.specs.declared.line.Line.{Line}
use Rattle.ov_model.specs.declared.line.Deed.{Deed}
use Rattle.ov_model.specs.declared.line.Deed.TheVariants as deed
use Rattle.ov_model.specs.declared.answer.Answer.{Answer}
use Rattle.ov_model.specs.declared.answer.Answer.TheVariants as answer
use Rattle.ov_model.specs.declared.answer.PingOut.{PingOut}
use Rattle.ov_model.specs.Tables.{Material}
use Rattle.ov_model.specs.Packets.{opened, keepalive}
use Rattle.ov_model.specs.Events.{Event, Stepped, Judged, Drew, GaveKey, GavePeer, Step, DrawnId, steps_in, judgements_in, draws_in, drawn_id, step_of, releases}
use Rattle.ov_model.specs.Keys.{sealed_ids, sealed_ping, sealed_pings, id_of}
use Rattle.ov_model.specs.Path.{first, begins, IsLook, SomeOwed, removed, UseFits, refused_as, spent_reply, spent_taken, sent_act, settle_act, replay_of, use_row, used_outcome, packet_in, Ping, PingsFit, pings_steps, pings_out, NotTick, Path}
use Rattle.ov_model.specs.Next.{Ask, Nil, next, stand_of, left_of, request}
use Rattle.ov_path.specs.Desks.{Holding, NoHold, Both, PeerLeft, View, Grows, SameLine, owed_if}
use Rattle.ov_path.specs.Parts.{PurposeFits}
use Rattle.ov_path.specs.Stages.{stand_at, left_at, left_in, is_ended}
use Rattle.ov_path.specs.declared.stage.Pinging.{Pinging}
use Rattle.ov_path.specs.declared.stage.Pinging.TheVariants as pinging
use Rattle.ov_path.specs.declared.stage.Pings.{Pings}
use Rattle.ov_path.specs.declared.stage.Purpose.{Purpose}
use Rattle.ov_path.specs.declared.stage.Purpose.TheVariants as purpose
use Rattle.ov_path.specs.declared.stage.Stage.{Stage}
use Rattle.ov_path.specs.declared.stage.Stage.TheVariants as stage
use Rattle.ov_path.specs.declared.walk.Progress.{Progress}
use Rattle.ov_path.specs.declared.walk.Progress.TheVariants.{More, Answered}
use Rattle.ov_path.specs.declared.walk.Walk.{Walk}

-- ---- what happened so far

-- Releases as events.
abbrev pub released : Place → ℕ → List Owed → List Event
released place at os = map Stepped (releases place at os)

-- The event of a replay step.
abbrev pub judged_as : Place → ℕ → HoldView → List ℕ → Verdict → Event
judged_as place at h bytes v = Judged (replay_of place at h bytes v)

-- The events between a look-up and the give-backs.
abbrev pub tx_events : Place → ℕ → HoldView → Bool → List ℕ → Use → List Event
tx_events place at h as_ping packet (used.Sealed n) = Drew h.key (drawn.Id n) ∷ Stepped (step_of place at (sent_act h as_ping packet) reply.Done []) ∷ []
tx_events place at h as_ping packet (used.Spent killed) = Drew h.key drawn.Spent ∷ Stepped (step_of place at (act.Spend h.peer h.key) (spent_reply killed) (spent_taken killed h.key)) ∷ []
tx_events place at h as_ping packet _ = []

-- The events of a use of a received datagram.
abbrev pub rx_events : (Addr → Addr) → Place → ℕ → HoldView → Transport → (packet bytes : List ℕ) → Use → List Event
rx_events via place at h from packet bytes (used.Refused x) = judged_as place at h bytes (refused_as x) ∷ []
rx_events via place at h from packet bytes (used.Settled s) = judged_as place at h bytes verdict.Accept ∷ Stepped (step_of place at (settle_act via h from packet bytes) (reply.Settled s) []) ∷ []
rx_events via place at h from packet bytes _ = []

-- The events of a use.
abbrev pub use_events : (Addr → Addr) → Place → ℕ → Deed → HoldView → Material → Use → List Event
use_events via place at (deed.Tx packet) h m u = tx_events place at h false packet u
use_events via place at (deed.Rx from bytes) h m u = rx_events via place at h from (packet_in (deed.Rx from bytes) m) bytes u
use_events via place at (deed.Netlink n) h m u = []
use_events via place at deed.Tick h m u = tx_events place at h true keepalive u
use_events via place at deed.Down h m u = []
use_events via place at (deed.Lost id reason) h m u = []

-- A received datagram opens as a packet, and its verdict so far is an event.
abbrev pub Opens : Place → ℕ → HoldView → Deed → Material → (later : List Event) → (packet : List ℕ) → Type 0
Opens place at h (deed.Rx from bytes) m later packet = (opened m.decrypt bytes ≡ Some packet) × (later ≡ judged_as place at h bytes verdict.Accept ∷ [])
Opens place at h _ m later packet = ⊥

-- What a line did so far by its stage. `via` is the next hop of an address as the line asked for it.
module _ (via : Addr → Addr) (place : Place) (line : Line) (w : View) where
  -- A look-up found its peer and key, whose material is known; `later` is what happened since.
  pub record Held (h : HoldView) (m : Material) (later : List Event) : Type 0 where
    pub look : Act
    pub begins_so : begins via line.deed ≡ first look
    pub looks : IsLook look
    pub has : w.material h.key ≡ Some m
    pub events : w.events ≡ Stepped (step_of place line.at look (reply.Hold h) []) ∷ later

  -- Nothing was made yet.
  pub record AtFresh : Type 0 where
    pub none : w.events ≡ []
    pub owes : w.owing ≡ []

  -- After a command that is no tick: what was released and what is still owed are what the command left to release.
  pub record AtReplied (a : Answer) : Type 0 where
    pub command : Command
    pub r : Reply
    pub taken : List ℕ
    pub all : List Owed
    pub done : List Owed
    pub begins_so : begins via line.deed ≡ first (act.Do command)
    pub not_tick : NotTick command
    pub some : SomeOwed taken (removed r) all
    pub events : w.events ≡ Stepped (step_of place line.at (act.Do command) r taken) ∷ released place line.at done
    pub owes : done ++ w.owing ≡ all
    pub answer : a ≡ answer.Reply r

  -- The look-up was made, and holds.
  pub record AtLooked (h : HoldView) (p : Purpose) : Type 0 where
    pub m : Material
    pub fits : PurposeFits line.deed p
    pub held : Held h m []
    pub owes : w.owing ≡ []

  -- The look-up and the draw were made.
  pub record AtDrew (h : HoldView) (d : Drawn) : Type 0 where
    pub m : Material
    pub fits : PurposeFits line.deed purpose.Seal
    pub held : Held h m (Drew h.key d ∷ [])
    pub owes : w.owing ≡ []

  -- The packet waits until the table says what becomes of it.
  pub record AtJudged (h : HoldView) (packet : List ℕ) : Type 0 where
    pub m : Material
    pub later : List Event
    pub short : length packet ≤ 65536
    pub held : Held h m later
    pub opens : Opens place line.at h line.deed m later packet
    pub owes : w.owing ≡ []

  -- What is held was used.
  pub record AtUsed (h : HoldView) (u : Use) (a : Answer) : Type 0 where
    pub m : Material
    pub fits : UseFits line.deed m u
    pub held : Held h m (use_events via place line.at line.deed h m u)
    pub owes : w.owing ≡ []
    pub answer : a ≡ (use_row via place line.at line.deed h m u).answer

  -- The key was given back.
  pub record AtKeyGiven (h : HoldView) (u : Use) (a : Answer) : Type 0 where
    pub m : Material
    pub key : Given
    pub done : List Owed
    pub fits : UseFits line.deed m u
    pub held : Held h m (use_events via place line.at line.deed h m u ++ GaveKey h.key key ∷ released place line.at done)
    pub owes : done ++ w.owing ≡ owed_if key (owed.Key h.key)
    pub answer : a ≡ (use_row via place line.at line.deed h m u).answer

  -- The peer was given back too.
  pub record AtPeerGiven (h : HoldView) (u : Use) (a : Answer) : Type 0 where
    pub m : Material
    pub key : Given
    pub peer : Given
    pub done : List Owed
    pub fits : UseFits line.deed m u
    pub held : Held h m (use_events via place line.at line.deed h m u ++ GaveKey h.key key ∷ (released place line.at (owed_if key (owed.Key h.key)) ++ GavePeer h.peer peer ∷ released place line.at done))
    pub owes : done ++ w.owing ≡ owed_if peer (owed.Peer h.peer)
    pub answer : a ≡ (use_row via place line.at line.deed h m u).answer

  -- A tick whose step removed `expired` and found `due`: it has released what it owed and made a ping for some of
  -- the due peers, with these outcomes; `left` are the others. After those pings it made `more` steps and `drawn`
  -- draws.
  pub record Ticks (expired due : List ℕ) (outs : List PingOut) (left : List ℕ) (more : List Step) (drawn : List DrawnId) : Type 0 where
    pub taken : List ℕ
    pub all : List Owed
    pub gone : List ℕ
    pub pings : List Ping
    pub is_tick : line.deed ≡ deed.Tick
    pub some : SomeOwed taken expired all
    pub split : due ≡ gone ++ left
    pub fits : PingsFit w.material gone pings
    pub outs_are : outs ≡ pings_out gone pings
    pub steps : steps_in w.events ≡ (step_of place line.at (act.Do command.Tick) (reply.Ticked expired due) taken ∷ (releases place line.at all ++ pings_steps via place line.at gone pings)) ++ more
    pub judged : judgements_in w.events ≡ []
    pub draws : draws_in w.events ≡ map id_of (sealed_pings outs) ++ drawn

  -- The look-up of a due peer, which holds.
  abbrev pub keep_step : ℕ → HoldView → Step
  keep_step peer h = step_of place line.at (act.KeepLook peer) (reply.Hold h) []

  -- The step of a tick was made: what was released and what is still owed are what it left to release.
  pub record AtTicked (p : Pings) : Type 0 where
    pub taken : List ℕ
    pub all : List Owed
    pub done : List Owed
    pub is_tick : line.deed ≡ deed.Tick
    pub some : SomeOwed taken p.expired all
    pub steps : steps_in w.events ≡ step_of place line.at (act.Do command.Tick) (reply.Ticked p.expired p.due) taken ∷ releases place line.at done
    pub judged : judgements_in w.events ≡ []
    pub draws : draws_in w.events ≡ []
    pub owes : done ++ w.owing ≡ all
    pub first : p.next ≡ 0
    pub no_outs : p.outs ≡ []

  -- The last due peer that was looked at takes no ping.
  pub record AtSkipped (p : Pings) : Type 0 where
    pub ticks : Ticks p.expired p.due p.outs (left_in p) [] []
    pub owes : w.owing ≡ []

  -- A due peer was looked at, and holds.
  pub record AtPingLooked (peer : ℕ) (h : HoldView) (p : Pings) : Type 0 where
    pub m : Material
    pub has : w.material h.key ≡ Some m
    pub ticks : Ticks p.expired p.due p.outs (peer ∷ left_in p) (keep_step peer h ∷ []) []
    pub owes : w.owing ≡ []

  -- A packet id was drawn for its ping.
  pub record AtPingDrew (peer : ℕ) (h : HoldView) (d : Drawn) (p : Pings) : Type 0 where
    pub m : Material
    pub has : w.material h.key ≡ Some m
    pub ticks : Ticks p.expired p.due p.outs (peer ∷ left_in p) (keep_step peer h ∷ []) (drawn_id h.key d)
    pub owes : w.owing ≡ []

  -- A ping's outcome is the last of `p`; these releases of what it held were made.
  pub record Pinged (h : HoldView) (u : Use) (p : Pings) (done : List Owed) : Type 0 where
    pub peer : ℕ
    pub m : Material
    pub outs : List PingOut
    pub fits : UseFits deed.Tick m u
    pub has : w.material h.key ≡ Some m
    pub outs_are : p.outs ≡ outs ++ record { peer = peer; outcome = used_outcome h m u } ∷ []
    pub ticks : Ticks p.expired p.due outs (peer ∷ left_in p) (keep_step peer h ∷ ((use_row via place line.at deed.Tick h m u).steps ++ releases place line.at done)) (map id_of (sealed_ping (used_outcome h m u)))

  -- The ping's outcome is known.
  pub record AtPingUsed (h : HoldView) (u : Use) (p : Pings) : Type 0 where
    pub pinged : Pinged h u p []
    pub owes : w.owing ≡ []

  -- The key of the ping was given back.
  pub record AtPingKeyGiven (h : HoldView) (u : Use) (p : Pings) : Type 0 where
    pub key : Given
    pub done : List Owed
    pub pinged : Pinged h u p done
    pub owes : done ++ w.owing ≡ owed_if key (owed.Key h.key)

  -- The peer of the ping was given back too.
  pub record AtPingPeerGiven (h : HoldView) (u : Use) (p : Pings) : Type 0 where
    pub key : Given
    pub peer : Given
    pub done : List Owed
    pub pinged : Pinged h u p (owed_if key (owed.Key h.key) ++ done)
    pub owes : done ++ w.owing ≡ owed_if peer (owed.Peer h.peer)

  -- The events that a tick's line has made, by where it stands.
  abbrev pub TickTrail : Pinging → Pings → Type 0
  TickTrail pinging.Ticked p = AtTicked p
  TickTrail pinging.Skipped p = AtSkipped p
  TickTrail (pinging.Looked peer h) p = AtPingLooked peer h p
  TickTrail (pinging.Drew peer h d) p = AtPingDrew peer h d p
  TickTrail (pinging.Used h u) p = AtPingUsed h u p
  TickTrail (pinging.KeyGiven h u) p = AtPingKeyGiven h u p
  TickTrail (pinging.PeerGiven h u) p = AtPingPeerGiven h u p

  -- The events that a line has made, by where it stands.
  abbrev pub Trail : Stage → Type 0
  Trail stage.Fresh = AtFresh
  Trail (stage.Replied a) = AtReplied a
  Trail (stage.Looked h p) = AtLooked h p
  Trail (stage.Drew h d) = AtDrew h d
  Trail (stage.Judged h packet) = AtJudged h packet
  Trail (stage.Used h u a) = AtUsed h u a
  Trail (stage.KeyGiven h u a) = AtKeyGiven h u a
  Trail (stage.PeerGiven h u a) = AtPeerGiven h u a
  Trail (stage.Ticking at p) = TickTrail at p

-- The hold that is out in a tick's line.
abbrev pub holding_in : Pinging → Holding
holding_in pinging.Ticked = NoHold
holding_in pinging.Skipped = NoHold
holding_in (pinging.Looked peer h) = Both h
holding_in (pinging.Drew peer h d) = Both h
holding_in (pinging.Used h u) = Both h
holding_in (pinging.KeyGiven h u) = PeerLeft h
holding_in (pinging.PeerGiven h u) = NoHold

-- The hold that is out at a stage.
abbrev pub holding_of : Stage → Holding
holding_of stage.Fresh = NoHold
holding_of (stage.Replied a) = NoHold
holding_of (stage.Looked h p) = Both h
holding_of (stage.Drew h d) = Both h
holding_of (stage.Judged h packet) = Both h
holding_of (stage.Used h u a) = Both h
holding_of (stage.KeyGiven h u a) = PeerLeft h
holding_of (stage.PeerGiven h u a) = NoHold
holding_of (stage.Ticking at p) = holding_in at

-- A line runs: its events leave it at its stage's stand, its hold is the stage's, and so are the due peers that
-- are left and its trail.
pub record Walking (via : Addr → Addr) (place : Place) (line : Line) (w : View) (s : Stage) : Type 0 where
  pub stand : stand_of w.events ≡ stand_at s
  pub hold : w.hold ≡ holding_of s
  pub due : left_of w.events ≡ left_at s
  pub trail : Trail via place line w s

-- ---- one turn

-- The line has an event or an answer to come: where nothing is owed, it isn't at its end.
abbrev pub IsOpen : Stage → List Owed → Type 0
IsOpen (stage.Replied a) [] = ⊥
IsOpen (stage.PeerGiven h u a) [] = ⊥
IsOpen (stage.Ticking at p) [] = is_ended at (left_in p) ≡ false
IsOpen _ os = ⊤

-- A turn asks for a next hop where a packet to be sent is looked up, and where a fresh packet is settled.
abbrev pub AsksHop : Stage → Deed → Type 0
AsksHop stage.Fresh (deed.Tx packet) = ⊤
AsksHop (stage.Judged h packet) d = ⊤
AsksHop _ d = ⊥

-- Where a turn asks for a next hop, the line's is the desk's.
abbrev pub HopIsOwn : (Addr → Addr) → Stage → Deed → View → Type 0
HopIsOwn via s d w = AsksHop s d → w.via ≡ via

-- A line that is answered left nothing behind, its events and its answer have a path, it sealed under the packet
-- ids that it drew, and it looked at all peers that it found due.
pub record Over (via : Addr → Addr) (place : Place) (line : Line) (w : View) (a : Answer) : Type 0 where
  pub owes : w.owing ≡ []
  pub hold : w.hold ≡ NoHold
  pub path : Path w.material via place line (steps_in w.events) (judgements_in w.events) a
  pub drawn : draws_in w.events ≡ sealed_ids a
  pub left : left_of w.events ≡ []

-- The walk stands where it says, and has an event or an answer to come.
abbrev pub GoesOn : (Addr → Addr) → Place → Line → View → Stage → Type 0
GoesOn via place line w s = Walking via place line w s × IsOpen s w.owing

-- The walk goes on, or its line is over, as the turn answers.
abbrev pub Progressed : (Addr → Addr) → Place → Line → View → Stage → Progress → Type 0
Progressed via place line w s More = GoesOn via place line w s
Progressed via place line w s (Answered a) = Over via place line w a

-- The same of a walk and its place.
abbrev pub Stands : (Addr → Addr) → Line → View → Walk → Type 0
Stands via line w walk = Walking via walk.place line w walk.stage

-- The walk goes on, or its line is over, as the turn answers.
abbrev pub Turned : (Addr → Addr) → Line → View → Walk → Progress → Type 0
Turned via line w walk r = Progressed via walk.place line w walk.stage r

-- An event tells the place and the moment of its line.
abbrev pub IsOwn : Place → ℕ → Event → Type 0
IsOwn place at (Stepped s) = (s.entry.place ≡ place) × (s.entry.call.at ≡ at)
IsOwn place at (Judged j) = (j.place ≡ place) × (j.at ≡ at)
IsOwn place at (Drew key d) = ⊤
IsOwn place at (GaveKey key g) = ⊤
IsOwn place at (GavePeer peer g) = ⊤

-- What a line asks for next, by its events and what it owes; of a key all that is had after the turn.
abbrev pub next_at : (Addr → Addr) → Line → (old new : View) → Ask
next_at via line old new = next via new.material line old.events old.owing

-- What a turn did at a desk of any kind: `view` and `does` are what the trait Desk says of it.
module _ {D : Type 0} (view : D → View) (does : D → Event → D → Type 0) (via : Addr → Addr) (place : Place) (line : Line) where
  -- It made the one event that comes next for the line.
  pub record Made (old new : D) : Type 0 where
    pub event : Event
    pub one : (view new).events ≡ (view old).events ++ event ∷ []
    pub asks : request event ≡ next_at via line (view old) (view new)
    pub own : IsOwn place line.at event
    pub done : does old event new

  -- It made that event, or none where the line is answered without one.
  pub data MadeOrNone (old new : D) : Type 0 where
    made : Made old new → MadeOrNone old new
    nothing : next_at via line (view old) (view new) ≡ Nil → new ≡ old → MadeOrNone old new

  -- A line that goes on has made an event.
  abbrev pub MadeBy : Progress → (old new : D) → Type 0
  MadeBy More old new = Made old new
  MadeBy (Answered a) old new = MadeOrNone old new

-- Whatever a turn did, the desk has what it had of the keys, and the walk its place.
pub record Stays (old new : View) (was walk : Walk) : Type 0 where
  pub keys : Grows old.material new.material
  pub place : walk.place ≡ was.place

-- After want of memory all of the line is as it was.
pub record Kept (old new : View) (was walk : Walk) : Type 0 where
  pub line : SameLine old new
  pub walk_is : walk ≡ was
