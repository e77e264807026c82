-- What a line under way asks for: an event while it is open, and nothing once it holds and owes nothing.
use Rattle.std.proofs.Common.{ℕ, ◌≡◌, List, [], ◌∷◌, refl, sym, ◌∙◌, ap, subst, Bool, false}
use Rattle.std.specs.Prelude.{Option, Some, None, is_none, Result, Ok, Err, ⊤}
use Rattle.ov_base.specs.declared.address.Addr.{Addr}
use Rattle.ov_base.specs.declared.address.Transport.{Transport}
use Rattle.ov_model.specs.declared.ident.PeerId.{PeerId}
use Rattle.ov_model.specs.declared.ident.KeyId.{KeyId}
use Rattle.ov_model.specs.declared.place.Place.{Place}
use Rattle.ov_model.specs.declared.act.Act.{Act}
use Rattle.ov_model.specs.declared.act.Act.TheVariants as act
use Rattle.ov_model.specs.declared.command.Command.{Command}
use Rattle.ov_model.specs.declared.draw.Drawn.{Drawn}
use Rattle.ov_model.specs.declared.draw.Drawn.TheVariants as drawn
use Rattle.ov_model.specs.declared.hold.Owed.{Owed}
use Rattle.ov_model.specs.declared.hold.Owed.TheVariants as owed
use Rattle.ov_model.specs.declared.line.Line.{Line}
use Rattle.ov_model.specs.declared.line.Deed.{Deed}
use Rattle.ov_model.specs.declared.line.Deed.TheVariants as deed
use Rattle.ov_model.specs.declared.reply.Errno.{Errno}
use Rattle.ov_model.specs.declared.reply.HoldView.{HoldView}
use Rattle.ov_model.specs.declared.reply.Reply.{Reply}
use Rattle.ov_model.specs.declared.reply.Reply.TheVariants as reply
use Rattle.ov_model.specs.declared.stand.Use.{Use}
use Rattle.ov_model.specs.declared.stand.Stand.{Stand}
use Rattle.ov_model.specs.declared.stand.Stand.TheVariants as stand
use Rattle.ov_model.specs.Checked.{checked}
use Rattle.ov_model.specs.Ident.{peer_id, key_id}
use Rattle.ov_model.specs.Packets.{HeadKind, short, data_v1, control, data_v2, head_of, Inner, v4, v6, not_ip, inner_of, opened}
use Rattle.ov_model.specs.Tables.{Material}
use Rattle.ov_model.specs.Events.{Event, Stepped, Judged, Drew, GaveKey, GavePeer, judgements_in}
use Rattle.ov_model.specs.Path.{Begin, at_once, first, begins, begins_netlink, begins_tx, begins_rx, rx_look_by}
use Rattle.ov_model.specs.Next.{Ask, Table, Replay, Draw, GiveKey, GivePeer, Nil, Over, request, asks_first, asks_opened, asks_held, asks_drawn, asks_judged, asks_due, asks, release_act, next_owing, see, began, looks_on}
use Rattle.ov_path.specs.Desks.{Holding, NoHold, Both, PeerLeft, View, Grows, IsPause, first_of, held_after, peer_left}
use Rattle.ov_path.specs.Parts.{PurposeFits}
use Rattle.ov_path.specs.Stages.{stand_at, stand_in, left_at, left_in, is_ended}
use Rattle.ov_path.specs.declared.stage.Pinging.{Pinging}
use Rattle.ov_path.specs.declared.stage.Pinging.TheVariants as pinging
use Rattle.ov_path.specs.declared.stage.Pings.{Pings}
use Rattle.ov_path.specs.declared.stage.Purpose.{Purpose}
use Rattle.ov_path.specs.declared.stage.Purpose.TheVariants as purpose
use Rattle.ov_path.specs.declared.stage.Stage.{Stage}
use Rattle.ov_path.specs.declared.stage.Stage.TheVariants as stage
use Rattle.ov_path.specs.Walks.{Opens, TickTrail, Trail, IsOpen, holding_in, holding_of}
use Rattle.ov_core.specs.Sessions.{IsOver}

-- ---- how a line begins

-- A line begins with a command or with a look-up.
abbrev IsBegin : Act → Type 0
IsBegin (act.Do c) = ⊤
IsBegin (act.TxLook a) = ⊤
IsBegin (act.RxLook id key_id from) = ⊤
IsBegin _ = ⊥

abbrev BeginsSo : Begin → Type 0
BeginsSo (at_once a) = ⊤
BeginsSo (first a) = IsBegin a

begins_command : (r : Result Command Errno) → BeginsSo (begins_netlink r)
begins_command (Ok c) = tt
begins_command (Err e) = tt

begins_look : (via : Addr → Addr) (i : Inner) → BeginsSo (begins_tx via i)
begins_look via (v4 source destination) = tt
begins_look via (v6 source destination) = tt
begins_look via not_ip = tt

begins_ids : (id : Option PeerId) (key : Option KeyId) (from : Transport) → BeginsSo (rx_look_by id key from)
begins_ids (Some id) (Some key) from = tt
begins_ids (Some id) None from = tt
begins_ids None key from = tt

begins_head : (from : Transport) (k : HeadKind) → BeginsSo (begins_rx from k)
begins_head from short = tt
begins_head from data_v1 = tt
begins_head from control = tt
begins_head from (data_v2 id key n) = begins_ids (peer_id id) (key_id key) from

begins_so : (via : Addr → Addr) (d : Deed) → BeginsSo (begins via d)
begins_so via (deed.Netlink m) = begins_command (checked m)
begins_so via (deed.Tx packet) = begins_look via (inner_of packet)
begins_so via (deed.Rx from bytes) = begins_head from (head_of bytes)
begins_so via deed.Tick = tt
begins_so via deed.Down = tt
begins_so via (deed.Lost id reason) = tt

-- The act that a beginning asks for.
first_begins : (b : Begin) (a : Act) → BeginsSo b → Table a ≡ asks_first b → IsBegin a
first_begins (at_once x) a so is = absurd (cc)
first_begins (first x) a so is = (let same : x ≡ a = cc in subst IsBegin same so)

-- Every event was asked for.
never_nil : (e : Event) → request e ≡ Nil → ⊥
never_nil (Stepped s) is = cc
never_nil (Judged j) is = cc
never_nil (Drew key r) is = cc
never_nil (GaveKey key g) is = cc
never_nil (GavePeer peer g) is = cc

-- What begins asks for a step of the table or for nothing.
never_first : (b : Begin) (e : Event) → request e ≡ asks_first b → ((a : Act) → request e ≡ Table a → ⊥) → ⊥
never_first (at_once x) e is never = never_nil e is
never_first (first x) e is never = never x is

-- ---- a line that is open asks for an event

looked_open : (o : Option Material) (m : Material) (h : HoldView) (d : Deed) (p : Purpose) → PurposeFits d p → o ≡ Some m → IsOver (asks_held o h d) → ⊥
looked_open o m h (deed.Tx packet) p fits has over = over
looked_open (Some n) m h (deed.Rx from bytes) p fits has over = elim (opened n.decrypt bytes) as (λ x. IsOver (asks_opened h bytes x) → ⊥) [ Some packet ↦ λ e. e | None ↦ λ e. e ] over
looked_open None m h (deed.Rx from bytes) p fits has over = over
looked_open o m h (deed.Netlink n) p fits has over = absurd fits
looked_open o m h deed.Tick p fits has over = absurd fits
looked_open o m h deed.Down p fits has over = absurd fits
looked_open o m h (deed.Lost id reason) p fits has over = absurd fits

drawn_open : (h : HoldView) (x : Drawn) (d : Deed) → PurposeFits d purpose.Seal → IsOver (asks_drawn h x d) → ⊥
drawn_open h (drawn.Id n) (deed.Tx packet) fits over = over
drawn_open h drawn.Spent (deed.Tx packet) fits over = over
drawn_open h x (deed.Rx from bytes) fits over = absurd fits
drawn_open h x (deed.Netlink n) fits over = absurd fits
drawn_open h x deed.Tick fits over = absurd fits
drawn_open h x deed.Down fits over = absurd fits
drawn_open h x (deed.Lost id reason) fits over = absurd fits

-- A tick that has drawn sends its ping, or spends its key.
ping_open : (h : HoldView) (x : Drawn) → IsOver (asks_drawn h x deed.Tick) → ⊥
ping_open h (drawn.Id n) over = over
ping_open h drawn.Spent over = over

-- With a due peer left it looks that up.
due_open : (left : List ℕ) → is_none (first_of left) ≡ false → IsOver (asks_due left) → ⊥
due_open [] some over = cc
due_open (peer ∷ left) some over = over

-- Not at its beginning any more.
abbrev pub IsBegun : Stage → Type 0
IsBegun stage.Fresh = ⊥
IsBegun _ = ⊤

-- What is held after an event.
abbrev pub hold_by : Holding → Event → Holding
hold_by h (Stepped x) = held_after h x.entry.call.act x.entry.reply
hold_by h (Judged j) = h
hold_by h (Drew key d) = h
hold_by h (GaveKey key g) = peer_left h
hold_by h (GavePeer peer g) = NoHold

-- With a hold nobody asks to give the peer back, and holds nothing after an event.
held_peer : (m : Option Material) (h : HoldView) (d : Deed) (peer : ℕ) → GivePeer peer ≡ asks_held m h d → ⊥
held_peer m h (deed.Tx packet) peer is = cc
held_peer None h (deed.Rx from bytes) peer is = cc
held_peer (Some m) h (deed.Rx from bytes) peer is = elim (opened m.decrypt bytes) as (λ o. GivePeer peer ≡ asks_opened h bytes o → ⊥) [ Some p ↦ λ e. cc | None ↦ λ e. cc ] is
held_peer m h (deed.Netlink n) peer is = cc
held_peer m h deed.Tick peer is = cc
held_peer m h deed.Down peer is = cc
held_peer m h (deed.Lost id reason) peer is = cc

drawn_peer : (h : HoldView) (x : Drawn) (d : Deed) (peer : ℕ) → GivePeer peer ≡ asks_drawn h x d → ⊥
drawn_peer h (drawn.Id n) (deed.Tx packet) peer is = cc
drawn_peer h drawn.Spent (deed.Tx packet) peer is = cc
drawn_peer h (drawn.Id n) (deed.Rx from bytes) peer is = cc
drawn_peer h drawn.Spent (deed.Rx from bytes) peer is = cc
drawn_peer h (drawn.Id n) (deed.Netlink m) peer is = cc
drawn_peer h drawn.Spent (deed.Netlink m) peer is = cc
drawn_peer h (drawn.Id n) deed.Tick peer is = cc
drawn_peer h drawn.Spent deed.Tick peer is = cc
drawn_peer h (drawn.Id n) deed.Down peer is = cc
drawn_peer h drawn.Spent deed.Down peer is = cc
drawn_peer h (drawn.Id n) (deed.Lost id reason) peer is = cc
drawn_peer h drawn.Spent (deed.Lost id reason) peer is = cc

judged_peer : (via : Addr → Addr) (h : HoldView) (d : Deed) (m : Option Material) (peer : ℕ) → GivePeer peer ≡ asks_judged via h d m → ⊥
judged_peer via h (deed.Rx from bytes) (Some m) peer is = cc
judged_peer via h (deed.Tx packet) (Some m) peer is = cc
judged_peer via h (deed.Netlink n) (Some m) peer is = cc
judged_peer via h deed.Tick (Some m) peer is = cc
judged_peer via h deed.Down (Some m) peer is = cc
judged_peer via h (deed.Lost id reason) (Some m) peer is = cc
judged_peer via h d None peer is = cc

still_held : (h : HoldView) (a : Act) (r : Reply) → held_after (Both h) a r ≡ NoHold → ⊥
still_held h (act.TxLook a) (reply.Hold x) is = cc
still_held h (act.TxLook a) _ is = cc
still_held h (act.RxLook id key_id from) (reply.Hold x) is = cc
still_held h (act.RxLook id key_id from) _ is = cc
still_held h (act.KeepLook peer) (reply.Hold x) is = cc
still_held h (act.KeepLook peer) _ is = cc
still_held h (act.Do c) r is = cc
still_held h (act.Sent peer inner outer ping) r is = cc
still_held h (act.Settle peer from k inner outer) r is = cc
still_held h (act.Spend peer key) r is = cc
still_held h (act.Released p) r is = cc
still_held h (act.KeyReleased k) r is = cc

-- Where a peer and its key are held, an event that leaves nothing held gave the peer back.
both_left : (h : HoldView) (e : Event) → hold_by (Both h) e ≡ NoHold → ((peer : ℕ) → request e ≡ GivePeer peer → ⊥) → ⊥
both_left h (Stepped x) left never = still_held h x.entry.call.act x.entry.reply left
both_left h (Judged j) left never = absurd (cc)
both_left h (Drew key d) left never = absurd (cc)
both_left h (GaveKey key g) left never = absurd (cc)
both_left h (GavePeer peer g) left never = never peer refl

-- A line that began and holds nothing is answered: it made a command, or a look-up that found nothing.
began_over : (via : Addr → Addr) (m : ℕ → Option Material) (d : Deed) (a : Act) (r : Reply) → IsBegin a → held_after NoHold a r ≡ NoHold → IsOver (asks via m d (began a r) [])
began_over via m d (act.Do c) r begins left = tt
began_over via m d (act.TxLook a) (reply.Hold h) begins left = absurd (cc)
began_over via m d (act.TxLook a) _ begins left = tt
began_over via m d (act.RxLook id key_id from) (reply.Hold h) begins left = absurd (cc)
began_over via m d (act.RxLook id key_id from) _ begins left = tt
began_over via m d (act.KeepLook peer) r begins left = absurd begins
began_over via m d (act.Sent peer inner outer ping) r begins left = absurd begins
began_over via m d (act.Settle peer from k inner outer) r begins left = absurd begins
began_over via m d (act.Spend peer key) r begins left = absurd begins
began_over via m d (act.Released p) r begins left = absurd begins
began_over via m d (act.KeyReleased k) r begins left = absurd begins

fresh_over : (via : Addr → Addr) (m : ℕ → Option Material) (d : Deed) (e : Event) → request e ≡ asks_first (begins via d) → hold_by NoHold e ≡ NoHold → IsOver (asks via m d (see stand.Fresh e) [])
fresh_over via m d (Stepped x) is left = began_over via m d x.entry.call.act x.entry.reply (first_begins (begins via d) x.entry.call.act (begins_so via d) is) left
fresh_over via m d (Judged j) is left = absurd (never_first (begins via d) (Judged j) is (λ a e. cc))
fresh_over via m d (Drew key x) is left = absurd (never_first (begins via d) (Drew key x) is (λ a e. cc))
fresh_over via m d (GaveKey key g) is left = absurd (never_first (begins via d) (GaveKey key g) is (λ a e. cc))
fresh_over via m d (GavePeer peer g) is left = absurd (never_first (begins via d) (GavePeer peer g) is (λ a e. cc))

-- A release holds what was held.
released_holds : (a : Act) (r : Reply) (o : Owed) → a ≡ release_act o → (h : HoldView) → held_after (PeerLeft h) a r ≡ PeerLeft h
released_holds a r (owed.Peer p) is h = rw is refl
released_holds a r (owed.Key k) is h = rw is refl

-- The event of a release is one.
released_by_event : (e : Event) (o : Owed) → request e ≡ Table (release_act o) → (h : HoldView) → hold_by (PeerLeft h) e ≡ PeerLeft h
released_by_event (Stepped x) o is h = released_holds x.entry.call.act x.entry.reply o (let e : ◌≡◌ {A = Ask} (Table x.entry.call.act) (Table (release_act o)) = is in cc) h
released_by_event (Judged j) o is h = absurd (let e : ◌≡◌ {A = Ask} (Replay j.key j.id) (Table (release_act o)) = is in cc)
released_by_event (Drew key d) o is h = absurd (let e : ◌≡◌ {A = Ask} (Draw key) (Table (release_act o)) = is in cc)
released_by_event (GaveKey key g) o is h = absurd (let e : ◌≡◌ {A = Ask} (GiveKey key) (Table (release_act o)) = is in cc)
released_by_event (GavePeer peer g) o is h = absurd (let e : ◌≡◌ {A = Ask} (GivePeer peer) (Table (release_act o)) = is in cc)

-- Where no due peer is left, a line that holds nothing is over.
pause_asks : (via : Addr → Addr) (m : ℕ → Option Material) (d : Deed) (s : Stand) → IsPause s → IsOver (asks via m d s [])
pause_asks via m d stand.Replied pause = tt
pause_asks via m d stand.Missed pause = tt
pause_asks via m d (stand.PeerGiven h u) pause = tt
pause_asks via m d _ pause = absurd pause

-- Between two pings, and where no line goes on: after an event that leaves nothing held, with no due peer left.
looks_over : (via : Addr → Addr) (m : ℕ → Option Material) (d : Deed) (a : Act) (r : Reply) (s : Stand) → IsPause s → held_after NoHold a r ≡ NoHold → IsOver (asks via m d (looks_on s a r) [])
looks_over via m d (act.KeepLook peer) (reply.Hold h) s pause left = absurd (cc)
looks_over via m d (act.KeepLook peer) _ s pause left = tt
looks_over via m d (act.Do c) r s pause left = pause_asks via m d s pause
looks_over via m d (act.TxLook a) r s pause left = pause_asks via m d s pause
looks_over via m d (act.RxLook id key_id from) r s pause left = pause_asks via m d s pause
looks_over via m d (act.Sent peer inner outer ping) r s pause left = pause_asks via m d s pause
looks_over via m d (act.Settle peer from k inner outer) r s pause left = pause_asks via m d s pause
looks_over via m d (act.Spend peer key) r s pause left = pause_asks via m d s pause
looks_over via m d (act.Released p) r s pause left = pause_asks via m d s pause
looks_over via m d (act.KeyReleased k) r s pause left = pause_asks via m d s pause

pause_over : (via : Addr → Addr) (m : ℕ → Option Material) (d : Deed) (s : Stand) (e : Event) → IsPause s → hold_by NoHold e ≡ NoHold → IsOver (asks via m d (see s e) [])
pause_over via m d stand.Replied (Stepped x) pause left = looks_over via m d x.entry.call.act x.entry.reply stand.Replied pause left
pause_over via m d stand.Missed (Stepped x) pause left = looks_over via m d x.entry.call.act x.entry.reply stand.Missed pause left
pause_over via m d (stand.PeerGiven h u) (Stepped x) pause left = looks_over via m d x.entry.call.act x.entry.reply (stand.PeerGiven h u) pause left
pause_over via m d stand.Replied (Judged j) pause left = tt
pause_over via m d stand.Missed (Judged j) pause left = tt
pause_over via m d (stand.PeerGiven h u) (Judged j) pause left = tt
pause_over via m d stand.Replied (Drew key x) pause left = tt
pause_over via m d stand.Missed (Drew key x) pause left = tt
pause_over via m d (stand.PeerGiven h u) (Drew key x) pause left = tt
pause_over via m d stand.Replied (GaveKey key g) pause left = tt
pause_over via m d stand.Missed (GaveKey key g) pause left = tt
pause_over via m d (stand.PeerGiven h u) (GaveKey key g) pause left = tt
pause_over via m d stand.Replied (GavePeer peer g) pause left = tt
pause_over via m d stand.Missed (GavePeer peer g) pause left = tt
pause_over via m d (stand.PeerGiven h u) (GavePeer peer g) pause left = tt
pause_over via m d _ e pause left = absurd pause

-- With its key given back a line holds nothing only after it gave its peer back.
key_over : (via : Addr → Addr) (m : ℕ → Option Material) (d : Deed) (h : HoldView) (u : Use) (e : Event) → hold_by (PeerLeft h) e ≡ NoHold → ((a : Act) → request e ≡ Table a → hold_by (PeerLeft h) e ≡ PeerLeft h) → IsOver (asks via m d (see (stand.KeyGiven h u) e) [])
key_over via m d h u (Stepped x) left stays = absurd (let e : ◌≡◌ {A = Holding} (PeerLeft h) NoHold = sym (stays x.entry.call.act refl) ∙ left in cc)
key_over via m d h u (Judged j) left stays = absurd (cc)
key_over via m d h u (Drew key x) left stays = absurd (cc)
key_over via m d h u (GaveKey key g) left stays = absurd (cc)
key_over via m d h u (GavePeer peer g) left stays = tt

module _ (via : Addr → Addr) (place : Place) (line : Line) (w : View) where
  judged_open : (o : Option Material) (m n : Material) (h : HoldView) (d : Deed) (later : List Event) (packet : List ℕ) → Opens place line.at h d m later packet → o ≡ Some n → IsOver (asks_judged via h d o) → ⊥
  judged_open (Some x) m n h (deed.Rx from bytes) later packet opens has over = over
  judged_open None m n h (deed.Rx from bytes) later packet opens has over = absurd (cc)
  judged_open o m n h (deed.Tx p) later packet opens has over = absurd opens
  judged_open o m n h (deed.Netlink x) later packet opens has over = absurd opens
  judged_open o m n h deed.Tick later packet opens has over = absurd opens
  judged_open o m n h deed.Down later packet opens has over = absurd opens
  judged_open o m n h (deed.Lost id reason) later packet opens has over = absurd opens

  ticking_open : (at : Pinging) (p : Pings) → TickTrail via place line w at p → is_ended at (left_in p) ≡ false → IsOver (asks via w.material line.deed (stand_in at) (left_in p)) → ⊥
  ticking_open pinging.Ticked p t going over = due_open (left_in p) going over
  ticking_open pinging.Skipped p t going over = due_open (left_in p) going over
  ticking_open (pinging.Looked peer h) p t going over = subst (λ (d : Deed). IsOver (asks_held (w.material h.key) h d)) t.ticks.is_tick over
  ticking_open (pinging.Drew peer h d) p t going over = ping_open h d (subst (λ (x : Deed). IsOver (asks_drawn h d x)) t.ticks.is_tick over)
  ticking_open (pinging.Used h u) p t going over = over
  ticking_open (pinging.KeyGiven h u) p t going over = over
  ticking_open (pinging.PeerGiven h u) p t going over = due_open (left_in p) going over

  pub open_asks : (s : Stage) (os : List Owed) → Trail via place line w s → IsBegun s → IsOpen s os → IsOver (next_owing via w.material line.deed (stand_at s) (left_at s) os) → ⊥
  open_asks s (o ∷ os) t begun is_open over = over
  open_asks stage.Fresh [] t begun is_open over = begun
  open_asks (stage.Replied a) [] t begun is_open over = is_open
  open_asks (stage.Looked h p) [] t begun is_open over = looked_open (w.material h.key) t.m h line.deed p t.fits t.held.has over
  open_asks (stage.Drew h d) [] t begun is_open over = drawn_open h d line.deed t.fits over
  open_asks (stage.Judged h packet) [] t begun is_open over = judged_open (w.material h.key) t.m t.m h line.deed t.later packet t.opens t.held.has over
  open_asks (stage.Used h u a) [] t begun is_open over = over
  open_asks (stage.KeyGiven h u a) [] t begun is_open over = over
  open_asks (stage.PeerGiven h u a) [] t begun is_open over = is_open
  open_asks (stage.Ticking at p) [] t begun is_open over = ticking_open at p t is_open over

  -- What is known of other keys than the held one changes nothing.
  ticking_known : (at : Pinging) (p : Pings) (m : ℕ → Option Material) → TickTrail via place line w at p → Grows w.material m → asks via m line.deed (stand_in at) (left_in p) ≡ asks via w.material line.deed (stand_in at) (left_in p)
  ticking_known pinging.Ticked p m t grows = refl
  ticking_known pinging.Skipped p m t grows = refl
  ticking_known (pinging.Looked peer h) p m t grows = ap (λ o. asks_held o h line.deed) (grows h.key t.m t.has ∙ sym t.has)
  ticking_known (pinging.Drew peer h d) p m t grows = refl
  ticking_known (pinging.Used h u) p m t grows = refl
  ticking_known (pinging.KeyGiven h u) p m t grows = refl
  ticking_known (pinging.PeerGiven h u) p m t grows = refl

  pub asks_known : (s : Stage) (os : List Owed) (m : ℕ → Option Material) → Trail via place line w s → Grows w.material m → next_owing via m line.deed (stand_at s) (left_at s) os ≡ next_owing via w.material line.deed (stand_at s) (left_at s) os
  asks_known s (o ∷ os) m t grows = refl
  asks_known stage.Fresh [] m t grows = refl
  asks_known (stage.Replied a) [] m t grows = refl
  asks_known (stage.Looked h p) [] m t grows = ap (λ o. asks_held o h line.deed) (grows h.key t.m t.held.has ∙ sym t.held.has)
  asks_known (stage.Drew h d) [] m t grows = refl
  asks_known (stage.Judged h packet) [] m t grows = ap (λ o. asks_judged via h line.deed o) (grows h.key t.m t.held.has ∙ sym t.held.has)
  asks_known (stage.Used h u a) [] m t grows = refl
  asks_known (stage.KeyGiven h u a) [] m t grows = refl
  asks_known (stage.PeerGiven h u a) [] m t grows = refl
  asks_known (stage.Ticking at p) [] m t grows = ticking_known at p m t grows

  -- ---- a line that holds and owes nothing asks for nothing

  -- Only a line at one of its ends, or whose key was given back, owes.
  owes_none : (os : List Owed) (o : Owed) → w.owing ≡ [] → w.owing ≡ o ∷ os → ⊥
  owes_none os o none some = let e : ◌≡◌ {A = List Owed} [] (o ∷ os) = sym none ∙ some in cc

  -- What a tick's line with a hold asks for leaves something held.
  ticking_next : (at : Pinging) (p : Pings) (e : Event) (n m : ℕ → Option Material) → request e ≡ asks via n line.deed (stand_in at) (left_in p) → hold_by (holding_in at) e ≡ NoHold → IsOver (asks via m line.deed (see (stand_in at) e) [])
  ticking_next pinging.Ticked p e n m is left = pause_over via m line.deed stand.Replied e tt left
  ticking_next pinging.Skipped p e n m is left = pause_over via m line.deed stand.Missed e tt left
  ticking_next (pinging.Looked peer h) p e n m is left = absurd (both_left h e left (λ gone asked. held_peer (n h.key) h line.deed gone (sym asked ∙ is)))
  ticking_next (pinging.Drew peer h d) p e n m is left = absurd (both_left h e left (λ gone asked. drawn_peer h d line.deed gone (sym asked ∙ is)))
  ticking_next (pinging.Used h u) p e n m is left = absurd (both_left h e left (λ gone asked. let x : ◌≡◌ {A = Ask} (GivePeer gone) (GiveKey h.key) = sym asked ∙ is in cc))
  ticking_next (pinging.KeyGiven h u) p e n m is left = key_over via m line.deed h u e left (λ x asked. absurd (let y : ◌≡◌ {A = Ask} (Table x) (GivePeer h.peer) = sym asked ∙ is in cc))
  ticking_next (pinging.PeerGiven h u) p e n m is left = pause_over via m line.deed (stand.PeerGiven h u) e tt left

  ticking_owing : (at : Pinging) (p : Pings) (o : Owed) (os : List Owed) (e : Event) (m : ℕ → Option Material) → TickTrail via place line w at p → w.owing ≡ o ∷ os → request e ≡ Table (release_act o) → hold_by (holding_in at) e ≡ NoHold → IsOver (asks via m line.deed (see (stand_in at) e) [])
  ticking_owing pinging.Ticked p o os e m t owes is left = pause_over via m line.deed stand.Replied e tt left
  ticking_owing pinging.Skipped p o os e m t owes is left = pause_over via m line.deed stand.Missed e tt left
  ticking_owing (pinging.Looked peer h) p o os e m t owes is left = absurd (owes_none os o t.owes owes)
  ticking_owing (pinging.Drew peer h d) p o os e m t owes is left = absurd (owes_none os o t.owes owes)
  ticking_owing (pinging.Used h u) p o os e m t owes is left = absurd (owes_none os o t.owes owes)
  ticking_owing (pinging.KeyGiven h u) p o os e m t owes is left = key_over via m line.deed h u e left (λ x asked. released_by_event e o is h)
  ticking_owing (pinging.PeerGiven h u) p o os e m t owes is left = pause_over via m line.deed (stand.PeerGiven h u) e tt left

  -- Where no due peer is left.
  pub over_next : (s : Stage) (os : List Owed) (e : Event) (n m : ℕ → Option Material) → Trail via place line w s → IsOpen s os → w.owing ≡ os → request e ≡ next_owing via n line.deed (stand_at s) (left_at s) os → hold_by (holding_of s) e ≡ NoHold → IsOver (asks via m line.deed (see (stand_at s) e) [])
  over_next stage.Fresh (o ∷ os) e n m t is_open owes is left = absurd (owes_none os o t.owes owes)
  over_next (stage.Looked h p) (o ∷ os) e n m t is_open owes is left = absurd (owes_none os o t.owes owes)
  over_next (stage.Drew h d) (o ∷ os) e n m t is_open owes is left = absurd (owes_none os o t.owes owes)
  over_next (stage.Judged h packet) (o ∷ os) e n m t is_open owes is left = absurd (owes_none os o t.owes owes)
  over_next (stage.Used h u a) (o ∷ os) e n m t is_open owes is left = absurd (owes_none os o t.owes owes)
  over_next (stage.Replied a) (o ∷ os) e n m t is_open owes is left = pause_over via m line.deed stand.Replied e tt left
  over_next (stage.KeyGiven h u a) (o ∷ os) e n m t is_open owes is left = key_over via m line.deed h u e left (λ x asked. released_by_event e o is h)
  over_next (stage.PeerGiven h u a) (o ∷ os) e n m t is_open owes is left = pause_over via m line.deed (stand.PeerGiven h u) e tt left
  over_next (stage.Ticking at p) (o ∷ os) e n m t is_open owes is left = ticking_owing at p o os e m t owes is left
  over_next stage.Fresh [] e n m t is_open owes is left = fresh_over via m line.deed e is left
  over_next (stage.Replied a) [] e n m t is_open owes is left = absurd is_open
  over_next (stage.Looked h p) [] e n m t is_open owes is left = absurd (both_left h e left (λ peer asked. held_peer (n h.key) h line.deed peer (sym asked ∙ is)))
  over_next (stage.Drew h d) [] e n m t is_open owes is left = absurd (both_left h e left (λ peer asked. drawn_peer h d line.deed peer (sym asked ∙ is)))
  over_next (stage.Judged h packet) [] e n m t is_open owes is left = absurd (both_left h e left (λ peer asked. judged_peer via h line.deed (n h.key) peer (sym asked ∙ is)))
  over_next (stage.Used h u a) [] e n m t is_open owes is left = absurd (both_left h e left (λ peer asked. let x : ◌≡◌ {A = Ask} (GivePeer peer) (GiveKey h.key) = sym asked ∙ is in cc))
  over_next (stage.KeyGiven h u a) [] e n m t is_open owes is left = key_over via m line.deed h u e left (λ x asked. absurd (let y : ◌≡◌ {A = Ask} (Table x) (GivePeer h.peer) = sym asked ∙ is in cc))
  over_next (stage.PeerGiven h u a) [] e n m t is_open owes is left = absurd is_open
  over_next (stage.Ticking at p) [] e n m t is_open owes is left = ticking_next at p e n m is left

  -- ---- a replay step is the line's first

  drawn_never : (h : HoldView) (x : Drawn) (d : Deed) (key id : ℕ) → Replay key id ≡ asks_drawn h x d → ⊥
  drawn_never h (drawn.Id n) (deed.Tx packet) key id is = cc
  drawn_never h drawn.Spent (deed.Tx packet) key id is = cc
  drawn_never h (drawn.Id n) (deed.Rx from bytes) key id is = cc
  drawn_never h drawn.Spent (deed.Rx from bytes) key id is = cc
  drawn_never h (drawn.Id n) (deed.Netlink m) key id is = cc
  drawn_never h drawn.Spent (deed.Netlink m) key id is = cc
  drawn_never h (drawn.Id n) deed.Tick key id is = cc
  drawn_never h drawn.Spent deed.Tick key id is = cc
  drawn_never h (drawn.Id n) deed.Down key id is = cc
  drawn_never h drawn.Spent deed.Down key id is = cc
  drawn_never h (drawn.Id n) (deed.Lost peer reason) key id is = cc
  drawn_never h drawn.Spent (deed.Lost peer reason) key id is = cc

  judged_never : (h : HoldView) (d : Deed) (m : Option Material) (key id : ℕ) → Replay key id ≡ asks_judged via h d m → ⊥
  judged_never h (deed.Rx from bytes) (Some m) key id is = cc
  judged_never h (deed.Tx packet) (Some m) key id is = cc
  judged_never h (deed.Netlink n) (Some m) key id is = cc
  judged_never h deed.Tick (Some m) key id is = cc
  judged_never h deed.Down (Some m) key id is = cc
  judged_never h (deed.Lost peer reason) (Some m) key id is = cc
  judged_never h d None key id is = cc

  ticking_unjudged : (at : Pinging) (p : Pings) → TickTrail via place line w at p → judgements_in w.events ≡ []
  ticking_unjudged pinging.Ticked p t = t.judged
  ticking_unjudged pinging.Skipped p t = t.ticks.judged
  ticking_unjudged (pinging.Looked peer h) p t = t.ticks.judged
  ticking_unjudged (pinging.Drew peer h d) p t = t.ticks.judged
  ticking_unjudged (pinging.Used h u) p t = t.pinged.ticks.judged
  ticking_unjudged (pinging.KeyGiven h u) p t = t.pinged.ticks.judged
  ticking_unjudged (pinging.PeerGiven h u) p t = t.pinged.ticks.judged

  pub judged_first : (s : Stage) (os : List Owed) (n : ℕ → Option Material) (key id : ℕ) → Trail via place line w s → Replay key id ≡ next_owing via n line.deed (stand_at s) (left_at s) os → judgements_in w.events ≡ []
  judged_first s (o ∷ os) n key id t is = absurd (let e : ◌≡◌ {A = Ask} (Replay key id) (Table (release_act o)) = is in cc)
  judged_first stage.Fresh [] n key id t is = rw t.none refl
  judged_first (stage.Replied a) [] n key id t is = absurd (let e : ◌≡◌ {A = Ask} (Replay key id) Over = is in cc)
  judged_first (stage.Looked h p) [] n key id t is = rw t.held.events refl
  judged_first (stage.Drew h d) [] n key id t is = absurd (drawn_never h d line.deed key id is)
  judged_first (stage.Judged h packet) [] n key id t is = absurd (judged_never h line.deed (n h.key) key id is)
  judged_first (stage.Used h u a) [] n key id t is = absurd (let e : ◌≡◌ {A = Ask} (Replay key id) (GiveKey h.key) = is in cc)
  judged_first (stage.KeyGiven h u a) [] n key id t is = absurd (let e : ◌≡◌ {A = Ask} (Replay key id) (GivePeer h.peer) = is in cc)
  judged_first (stage.PeerGiven h u a) [] n key id t is = absurd (let e : ◌≡◌ {A = Ask} (Replay key id) Over = is in cc)
  judged_first (stage.Ticking at p) [] n key id t is = ticking_unjudged at p t
