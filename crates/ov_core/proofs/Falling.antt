-- A line whose turns go on has fewer and fewer turns left.
use Rattle.std.proofs.Common.{ℕ, ◌≡◌, ◌+◌, ◌*◌, ◌≤◌, ◌<◌, zero, suc, List, [], ◌∷◌, ◌++◌, length, length-append, append-nil, refl, sym, ◌∙◌, ap, subst, arith, true, false}
use Rattle.std.specs.Prelude.{Option, Some, None, ⊤, get_or, slice_get, slice_set}
use Rattle.ov_base.specs.declared.address.Addr.{Addr}
use Rattle.ov_model.specs.declared.place.Place.{Place}
use Rattle.ov_model.specs.declared.act.Act.{Act}
use Rattle.ov_model.specs.declared.act.Act.TheVariants as act
use Rattle.ov_model.specs.declared.act.Call.{Call}
use Rattle.ov_model.specs.declared.draw.Drawn.{Drawn}
use Rattle.ov_model.specs.declared.draw.Drawn.TheVariants as drawn
use Rattle.ov_model.specs.declared.hold.Given.{Given}
use Rattle.ov_model.specs.declared.hold.Given.TheVariants as given
use Rattle.ov_model.specs.declared.hold.Owed.{Owed}
use Rattle.ov_model.specs.declared.hold.Owed.TheVariants as owed
use Rattle.ov_model.specs.declared.reply.HoldView.{HoldView}
use Rattle.ov_model.specs.declared.reply.Reply.{Reply}
use Rattle.ov_model.specs.declared.reply.Reply.TheVariants as reply
use Rattle.ov_model.specs.declared.replay.Verdict.{Verdict}
use Rattle.ov_model.specs.declared.replay.Verdict.TheVariants as verdict
use Rattle.ov_model.specs.declared.line.Line.{Line}
use Rattle.ov_model.specs.declared.line.Deed.{Deed}
use Rattle.ov_model.specs.declared.line.Deed.TheVariants as deed
use Rattle.ov_model.specs.declared.stand.Use.{Use}
use Rattle.ov_model.specs.declared.stand.Stand.{Stand}
use Rattle.ov_model.specs.declared.stand.Stand.TheVariants as stand
use Rattle.ov_model.specs.Tables.{Material}
use Rattle.ov_model.specs.Packets.{opened, keepalive}
use Rattle.ov_model.specs.Path.{sent_act, settle_act, packet_in}
use Rattle.ov_model.specs.Events.{Event, Stepped, Judged, Drew, GaveKey, GavePeer, Step, judgement_of}
use Rattle.ov_model.specs.Keys.{key_of}
use Rattle.ov_model.specs.Next.{Ask, Table, Replay, Draw, GiveKey, GivePeer, Nil, Over as over, request, asks, asks_held, asks_opened, asks_drawn, asks_judged, asks_due, see, looked, stepped as stands_stepped, judged_as, judged_used, drew_used, stand_of, left_after, left_see, left_of, next_owing, release_act}
use Rattle.ov_model.specs.Replay.{judged}
use Rattle.ov_model.specs.Step.{Outcome, step, released, key_released}
use Rattle.ov_path.specs.declared.stage.Stage.{Stage}
use Rattle.ov_path.specs.declared.stage.Stage.TheVariants as stage
use Rattle.ov_path.specs.Desks.{View, IsPause, owed_if, stepped_as}
use Rattle.ov_path.specs.Stages.{stand_at, stand_in, left_at, left_in}
use Rattle.ov_path.specs.declared.stage.Pinging.{Pinging}
use Rattle.ov_path.specs.declared.stage.Pinging.TheVariants as pinging
use Rattle.ov_path.specs.declared.stage.Pings.{Pings}
use Rattle.ov_path.specs.Walks.{AtJudged, Opens, TickTrail, Trail, GoesOn}
use Rattle.ov_path.proofs.Seeing.{seen, left_seen}
use Rattle.ov_core.specs.Worlds.{World, Seat, no_line, seen_from, seat_stepped, judged_next, drawn_of, next_of, key_given, peer_given, ask_of, happened}
use Rattle.ov_core.specs.Sessions.{Session, IsOver, place_of, world_after}
use Rattle.ov_core.specs.Seats.{Seated, world_of}
use Rattle.ov_core.specs.Courses.{Coursed, Standing, OnCourse, Went, session_at}
use Rattle.ov_core.specs.Measure.{stages_left, turns_left}
use Rattle.ov_core.proofs.Seats.{same_some, set_here}
use Rattle.ov_core.proofs.Ends.{IsBegun, open_asks}

-- ---- a stage later

never_over : (e : Event) → request e ≡ over → ⊥
never_over (Stepped s) is = cc
never_over (Judged j) is = cc
never_over (Drew key r) is = cc
never_over (GaveKey key g) is = cc
never_over (GavePeer peer g) is = cc

never_empty : (es : List Event) (e : Event) → es ++ e ∷ [] ≡ [] → ⊥
never_empty [] e is = cc
never_empty (x ∷ es) e is = cc

-- A line has made an event.
abbrev HasBegun : Stand → Type 0
HasBegun stand.Fresh = ⊥
HasBegun _ = ⊤

-- With a hold a line asks for a draw, a replay step or a give-back of the key.
held_asks : (m : Option Material) (h : HoldView) (d : Deed) (s : Step) → Table s.entry.call.act ≡ asks_held m h d → ⊥
held_asks m h (deed.Tx packet) s is = cc
held_asks None h (deed.Rx from bytes) s is = cc
held_asks (Some m) h (deed.Rx from bytes) s is =
    elim (opened m.decrypt bytes) as (λ o. Table s.entry.call.act ≡ asks_opened h bytes o → ⊥) [ Some p ↦ λ e. cc | None ↦ λ e. cc ] is
held_asks m h (deed.Netlink n) s is = cc
held_asks m h deed.Tick s is = cc
held_asks m h deed.Down s is = cc
held_asks m h (deed.Lost id reason) s is = cc

held_asks_peer : (m : Option Material) (h : HoldView) (d : Deed) (peer : ℕ) → GivePeer peer ≡ asks_held m h d → ⊥
held_asks_peer m h (deed.Tx packet) peer is = cc
held_asks_peer None h (deed.Rx from bytes) peer is = cc
held_asks_peer (Some m) h (deed.Rx from bytes) peer is =
    elim (opened m.decrypt bytes) as (λ o. GivePeer peer ≡ asks_opened h bytes o → ⊥) [ Some p ↦ λ e. cc | None ↦ λ e. cc ] is
held_asks_peer m h (deed.Netlink n) peer is = cc
held_asks_peer m h deed.Tick peer is = cc
held_asks_peer m h deed.Down peer is = cc
held_asks_peer m h (deed.Lost id reason) peer is = cc

judged_stage : (h : HoldView) (v : Verdict) → stages_left (judged_as h v) + 1 ≤ 4
judged_stage h verdict.Accept = omega arith
judged_stage h verdict.Zero = omega arith
judged_stage h verdict.Old = omega arith
judged_stage h verdict.Below = omega arith
judged_stage h verdict.Again = omega arith

looked_later : (m : Option Material) (h : HoldView) (d : Deed) (e : Event) → request e ≡ asks_held m h d → stages_left (see (stand.Looked h) e) + 1 ≤ 4
looked_later m h d (Stepped s) is = absurd (held_asks m h d s is)
looked_later m h d (Judged j) is = judged_stage h j.verdict
looked_later m h d (Drew key r) is = omega arith
looked_later m h d (GaveKey key g) is = omega arith
looked_later m h d (GavePeer peer g) is = absurd (held_asks_peer m h d peer is)

-- The step that a line asks for after its draw, which uses its hold.
abbrev IsUse : HoldView → Drawn → Act → Type 0
IsUse h (drawn.Id n) (act.Sent peer inner outer ping) = ⊤
IsUse h drawn.Spent (act.Spend peer key) = ⊤
IsUse h d a = ⊥

-- After a draw a line asks for that step.
drawn_use : (h : HoldView) (r : Drawn) (d : Deed) (x : Step) → Table x.entry.call.act ≡ asks_drawn h r d → IsUse h r x.entry.call.act
drawn_use h (drawn.Id n) (deed.Tx packet) x is =
    let same : x.entry.call.act ≡ sent_act h false packet = (let e : Table x.entry.call.act ≡ Table (sent_act h false packet) = is in cc) in
    rw same tt
drawn_use h drawn.Spent (deed.Tx packet) x is =
    let same : x.entry.call.act ≡ act.Spend h.peer h.key = (let e : Table x.entry.call.act ≡ Table (act.Spend h.peer h.key) = is in cc) in
    rw same tt
drawn_use h (drawn.Id n) deed.Tick x is =
    let same : x.entry.call.act ≡ sent_act h true keepalive = (let e : Table x.entry.call.act ≡ Table (sent_act h true keepalive) = is in cc) in
    rw same tt
drawn_use h drawn.Spent deed.Tick x is =
    let same : x.entry.call.act ≡ act.Spend h.peer h.key = (let e : Table x.entry.call.act ≡ Table (act.Spend h.peer h.key) = is in cc) in
    rw same tt
drawn_use h (drawn.Id n) (deed.Rx from bytes) x is = absurd (never_over (Stepped x) is)
drawn_use h drawn.Spent (deed.Rx from bytes) x is = absurd (never_over (Stepped x) is)
drawn_use h (drawn.Id n) (deed.Netlink m) x is = absurd (never_over (Stepped x) is)
drawn_use h drawn.Spent (deed.Netlink m) x is = absurd (never_over (Stepped x) is)
drawn_use h (drawn.Id n) deed.Down x is = absurd (never_over (Stepped x) is)
drawn_use h drawn.Spent deed.Down x is = absurd (never_over (Stepped x) is)
drawn_use h (drawn.Id n) (deed.Lost id reason) x is = absurd (never_over (Stepped x) is)
drawn_use h drawn.Spent (deed.Lost id reason) x is = absurd (never_over (Stepped x) is)

-- It asks for nothing but a step.
drawn_table : (h : HoldView) (r : Drawn) (d : Deed) (e : Event) → request e ≡ asks_drawn h r d → ((a : Act) → request e ≡ Table a → ⊥) → ⊥
drawn_table h (drawn.Id n) (deed.Tx packet) e is never = never (sent_act h false packet) is
drawn_table h drawn.Spent (deed.Tx packet) e is never = never (act.Spend h.peer h.key) is
drawn_table h (drawn.Id n) deed.Tick e is never = never (sent_act h true keepalive) is
drawn_table h drawn.Spent deed.Tick e is never = never (act.Spend h.peer h.key) is
drawn_table h (drawn.Id n) (deed.Rx from bytes) e is never = never_over e is
drawn_table h drawn.Spent (deed.Rx from bytes) e is never = never_over e is
drawn_table h (drawn.Id n) (deed.Netlink m) e is never = never_over e is
drawn_table h drawn.Spent (deed.Netlink m) e is never = never_over e is
drawn_table h (drawn.Id n) deed.Down e is never = never_over e is
drawn_table h drawn.Spent deed.Down e is never = never_over e is
drawn_table h (drawn.Id n) (deed.Lost id reason) e is never = never_over e is
drawn_table h drawn.Spent (deed.Lost id reason) e is never = never_over e is

used_stage : (h : HoldView) (r : Drawn) (a : Act) (x : Reply) → IsUse h r a → stages_left (drew_used h r a x) + 1 ≤ 3
used_stage h (drawn.Id n) (act.Sent peer inner outer ping) x use_is = omega arith
used_stage h drawn.Spent (act.Spend peer key) x use_is = omega arith
used_stage h (drawn.Id n) _ x use_is = absurd use_is
used_stage h drawn.Spent _ x use_is = absurd use_is

drawn_later : (h : HoldView) (r : Drawn) (d : Deed) (e : Event) → request e ≡ asks_drawn h r d → stages_left (see (stand.Drew h r) e) + 1 ≤ 3
drawn_later h r d (Stepped x) is = used_stage h r x.entry.call.act x.entry.reply (drawn_use h r d x is)
drawn_later h r d (Judged j) is = absurd (drawn_table h r d (Judged j) is (λ a e. cc))
drawn_later h r d (Drew key x) is = absurd (drawn_table h r d (Drew key x) is (λ a e. cc))
drawn_later h r d (GaveKey key g) is = absurd (drawn_table h r d (GaveKey key g) is (λ a e. cc))
drawn_later h r d (GavePeer peer g) is = absurd (drawn_table h r d (GavePeer peer g) is (λ a e. cc))

used_later : (h : HoldView) (u : Use) (e : Event) → request e ≡ GiveKey h.key → stages_left (see (stand.Used h u) e) + 1 ≤ 2
used_later h u (Stepped s) is = absurd (cc)
used_later h u (Judged j) is = absurd (cc)
used_later h u (Drew key r) is = absurd (cc)
used_later h u (GaveKey key g) is = omega arith
used_later h u (GavePeer peer g) is = absurd (cc)

given_later : (h : HoldView) (u : Use) (e : Event) → request e ≡ GivePeer h.peer → stages_left (see (stand.KeyGiven h u) e) + 1 ≤ 1
given_later h u (Stepped s) is = absurd (cc)
given_later h u (Judged j) is = absurd (cc)
given_later h u (Drew key r) is = absurd (cc)
given_later h u (GaveKey key g) is = absurd (cc)
given_later h u (GavePeer peer g) is = omega arith

-- After a judgement a line has two events.
opens_one : (place : Place) (at : ℕ) (h : HoldView) (d : Deed) (m : Material) (later : List Event) (packet : List ℕ) → Opens place at h d m later packet → length later ≡ 1
opens_one place at h (deed.Rx from bytes) m later packet opens = ap length opens.1
opens_one place at h (deed.Tx p) m later packet opens = absurd opens
opens_one place at h (deed.Netlink n) m later packet opens = absurd opens
opens_one place at h deed.Tick m later packet opens = absurd opens
opens_one place at h deed.Down m later packet opens = absurd opens
opens_one place at h (deed.Lost id reason) m later packet opens = absurd opens

judged_two : (via : Addr → Addr) (place : Place) (line : Line) (w : View) (h : HoldView) (packet : List ℕ) → AtJudged via place line w h packet → length w.events ≡ 2
judged_two via place line w h packet at =
    let one : length at.later ≡ 1 = opens_one place line.at h line.deed at.m at.later packet at.opens in
    ap length at.held.events ∙ rw one refl

-- A judged line neither draws nor looks up again.
abbrev IsPastDraw : Stand → Type 0
IsPastDraw (stand.Looked h) = ⊥
IsPastDraw (stand.Drew h r) = ⊥
IsPastDraw _ = ⊤

judged_reply : (h : HoldView) (r : Reply) → IsPastDraw (judged_used h r)
judged_reply h (reply.Settled x) = tt
judged_reply h _ = tt

judged_stays : (h : HoldView) (e : Event) → IsPastDraw (see (stand.Judged h) e)
judged_stays h (Stepped s) = judged_reply h s.entry.reply
judged_stays h (Judged j) = tt
judged_stays h (Drew key r) = tt
judged_stays h (GaveKey key g) = tt
judged_stays h (GavePeer peer g) = tt

-- A tick is never judged.
abbrev NotJudged : Stand → Type 0
NotJudged (stand.Judged h) = ⊥
NotJudged _ = ⊤

ticking_stand : (at : Pinging) → NotJudged (stand_in at) × HasBegun (stand_in at)
ticking_stand pinging.Ticked = (tt, tt)
ticking_stand pinging.Skipped = (tt, tt)
ticking_stand (pinging.Looked peer h) = (tt, tt)
ticking_stand (pinging.Drew peer h d) = (tt, tt)
ticking_stand (pinging.Used h u) = (tt, tt)
ticking_stand (pinging.KeyGiven h u) = (tt, tt)
ticking_stand (pinging.PeerGiven h u) = (tt, tt)

judged_past : (s : Stand) → NotJudged s × HasBegun s → IsPastDraw s → stages_left s + 1 ≤ 3
judged_past stand.Fresh both past = absurd both.1
judged_past stand.Replied both past = omega arith
judged_past stand.Missed both past = omega arith
judged_past (stand.Looked h) both past = absurd past
judged_past (stand.Drew h d) both past = absurd past
judged_past (stand.Judged h) both past = absurd both.0
judged_past (stand.Used h u) both past = omega arith
judged_past (stand.KeyGiven h u) both past = omega arith
judged_past (stand.PeerGiven h u) both past = omega arith

judged_later : (via : Addr → Addr) (place : Place) (line : Line) (v w : View) (h : HoldView) (packet : List ℕ) (e : Event) (t : Stage) → AtJudged via place line v h packet → see (stand.Judged h) e ≡ stand_at t → w.events ≡ v.events ++ e ∷ [] → Trail via place line w t → stages_left (stand_at t) + 1 ≤ 3
judged_later via place line v w h packet e (stage.Judged x other) was is one trail =
    let two = judged_two via place line v h packet was in
    let also = judged_two via place line w x other trail in
    let more = ap length one ∙ length-append v.events (e ∷ []) in
    absurd (omega arith)
judged_later via place line v w h packet e stage.Fresh was is one trail = absurd (never_empty v.events e (sym one ∙ trail.none))
judged_later via place line v w h packet e (stage.Replied a) was is one trail = omega arith
judged_later via place line v w h packet e (stage.Looked x p) was is one trail = absurd (subst IsPastDraw is (judged_stays h e))
judged_later via place line v w h packet e (stage.Drew x r) was is one trail = absurd (subst IsPastDraw is (judged_stays h e))
judged_later via place line v w h packet e (stage.Used x u a) was is one trail = omega arith
judged_later via place line v w h packet e (stage.KeyGiven x u a) was is one trail = omega arith
judged_later via place line v w h packet e (stage.PeerGiven x u a) was is one trail = omega arith
judged_later via place line v w h packet e (stage.Ticking at p) was is one trail = judged_past (stand_in at) (ticking_stand at) (subst IsPastDraw is (judged_stays h e))

-- ---- the due peers that are left

-- An event leaves the due peers that are left as they are.
abbrev LeavesDue : Event → Type 0
LeavesDue e = (left : List ℕ) → left_see left e ≡ left

use_due : (h : HoldView) (r : Drawn) (a : Act) (x : Reply) → IsUse h r a → (left : List ℕ) → left_after left a x ≡ left
use_due h (drawn.Id n) (act.Sent peer inner outer ping) x use_is left = refl
use_due h drawn.Spent (act.Spend peer key) x use_is left = refl
use_due h (drawn.Id n) _ x use_is left = absurd use_is
use_due h drawn.Spent _ x use_is left = absurd use_is

drawn_due : (h : HoldView) (r : Drawn) (d : Deed) (e : Event) → request e ≡ asks_drawn h r d → LeavesDue e
drawn_due h r d (Stepped x) is = use_due h r x.entry.call.act x.entry.reply (drawn_use h r d x is)
drawn_due h r d (Judged j) is = λ left. refl
drawn_due h r d (Drew key x) is = λ left. refl
drawn_due h r d (GaveKey key g) is = λ left. refl
drawn_due h r d (GavePeer peer g) is = λ left. refl

held_due : (m : Option Material) (h : HoldView) (d : Deed) (e : Event) → request e ≡ asks_held m h d → LeavesDue e
held_due m h d (Stepped x) is = absurd (held_asks m h d x is)
held_due m h d (Judged j) is = λ left. refl
held_due m h d (Drew key x) is = λ left. refl
held_due m h d (GaveKey key g) is = λ left. refl
held_due m h d (GavePeer peer g) is = λ left. refl

-- What follows an accepted packet id.
judged_due : (via : Addr → Addr) (h : HoldView) (d : Deed) (m : Option Material) (e : Event) → request e ≡ asks_judged via h d m → LeavesDue e
judged_due via h (deed.Rx from bytes) (Some m) (Stepped x) is =
    let a : Act = settle_act via h from (packet_in (deed.Rx from bytes) m) bytes in
    let same : x.entry.call.act ≡ a = (let e : Table x.entry.call.act ≡ Table a = is in cc) in
    λ left. rw same refl
judged_due via h (deed.Tx packet) (Some m) (Stepped x) is = absurd (never_over (Stepped x) is)
judged_due via h (deed.Netlink n) (Some m) (Stepped x) is = absurd (never_over (Stepped x) is)
judged_due via h deed.Tick (Some m) (Stepped x) is = absurd (never_over (Stepped x) is)
judged_due via h deed.Down (Some m) (Stepped x) is = absurd (never_over (Stepped x) is)
judged_due via h (deed.Lost id reason) (Some m) (Stepped x) is = absurd (never_over (Stepped x) is)
judged_due via h d None (Stepped x) is = absurd (never_over (Stepped x) is)
judged_due via h d m (Judged j) is = λ left. refl
judged_due via h d m (Drew key x) is = λ left. refl
judged_due via h d m (GaveKey key g) is = λ left. refl
judged_due via h d m (GavePeer peer g) is = λ left. refl

key_due : (key : ℕ) (e : Event) → request e ≡ GiveKey key → LeavesDue e
key_due key (Stepped x) is = absurd (cc)
key_due key (Judged j) is = λ left. refl
key_due key (Drew k x) is = λ left. refl
key_due key (GaveKey k g) is = λ left. refl
key_due key (GavePeer peer g) is = λ left. refl

peer_due : (peer : ℕ) (e : Event) → request e ≡ GivePeer peer → LeavesDue e
peer_due peer (Stepped x) is = absurd (cc)
peer_due peer (Judged j) is = λ left. refl
peer_due peer (Drew k x) is = λ left. refl
peer_due peer (GaveKey k g) is = λ left. refl
peer_due peer (GavePeer p g) is = λ left. refl

-- ---- an event that isn't a release

looked_four : (r : Reply) → stages_left (looked r) ≤ 4
looked_four (reply.Hold h) = omega arith
looked_four _ = omega arith

looks_four : (s : Stand) (peer : ℕ) (r : Reply) → IsPause s → stages_left (stands_stepped s (act.KeepLook peer) r) ≤ 4
looks_four stand.Replied peer r pause = looked_four r
looks_four stand.Missed peer r pause = looked_four r
looks_four (stand.PeerGiven h u) peer r pause = looked_four r
looks_four _ peer r pause = absurd pause

-- The look-up of the next due peer leaves one less of them.
due_less : (s : Stand) (left : List ℕ) (e : Event) → IsPause s → request e ≡ asks_due left → 10 * length (left_see left e) + 2 * stages_left (see s e) + 2 ≤ 10 * length left
due_less s [] e pause is = absurd (never_over e is)
due_less s (peer ∷ left) (Stepped x) pause is =
    let same : x.entry.call.act ≡ act.KeepLook peer = (let e : Table x.entry.call.act ≡ Table (act.KeepLook peer) = is in cc) in
    let four : stages_left (stands_stepped s (act.KeepLook peer) x.entry.reply) ≤ 4 = looks_four s peer x.entry.reply pause in
    rw same (omega arith)
due_less s (peer ∷ left) (Judged j) pause is = absurd (cc)
due_less s (peer ∷ left) (Drew key x) pause is = absurd (cc)
due_less s (peer ∷ left) (GaveKey key g) pause is = absurd (cc)
due_less s (peer ∷ left) (GavePeer p g) pause is = absurd (cc)

-- A later stage, with the same peers left.
stage_down : (was now left later : ℕ) → later ≡ left → now + 1 ≤ was → 10 * later + 2 * now + 2 ≤ 10 * left + 2 * was
stage_down was now left later same less = omega arith

-- An event that isn't a release leaves fewer due peers, or goes to a later stage.
event_less : (via : Addr → Addr) (m : ℕ → Option Material) (d : Deed) (s : Stand) (left : List ℕ) (e : Event) → HasBegun s → NotJudged s → request e ≡ asks via m d s left → 10 * length (left_see left e) + 2 * stages_left (see s e) + 2 ≤ 10 * length left + 2 * stages_left s
event_less via m d stand.Fresh left e begun unjudged asked = absurd begun
event_less via m d (stand.Judged h) left e begun unjudged asked = absurd unjudged
event_less via m d stand.Replied left e begun unjudged asked = let less = due_less stand.Replied left e tt asked in omega arith
event_less via m d stand.Missed left e begun unjudged asked = let less = due_less stand.Missed left e tt asked in omega arith
event_less via m d (stand.PeerGiven h u) left e begun unjudged asked = let less = due_less (stand.PeerGiven h u) left e tt asked in omega arith
event_less via m d (stand.Looked h) left e begun unjudged asked = stage_down 4 (stages_left (see (stand.Looked h) e)) (length left) (length (left_see left e)) (ap length (held_due (m h.key) h d e asked left)) (looked_later (m h.key) h d e asked)
event_less via m d (stand.Drew h r) left e begun unjudged asked = stage_down 3 (stages_left (see (stand.Drew h r) e)) (length left) (length (left_see left e)) (ap length (drawn_due h r d e asked left)) (drawn_later h r d e asked)
event_less via m d (stand.Used h u) left e begun unjudged asked = stage_down 2 (stages_left (see (stand.Used h u) e)) (length left) (length (left_see left e)) (ap length (key_due h.key e asked left)) (used_later h u e asked)
event_less via m d (stand.KeyGiven h u) left e begun unjudged asked = stage_down 1 (stages_left (see (stand.KeyGiven h u) e)) (length left) (length (left_see left e)) (ap length (peer_due h.peer e asked left)) (given_later h u e asked)

-- The same by the stages of the line.
stage_less : (via : Addr → Addr) (place : Place) (line : Line) (v w : View) (m : ℕ → Option Material) (s t : Stage) (event : Event) → IsBegun s → Trail via place line v s → w.events ≡ v.events ++ event ∷ [] → Trail via place line w t → see (stand_at s) event ≡ stand_at t → left_see (left_at s) event ≡ left_at t → request event ≡ asks via m line.deed (stand_at s) (left_at s)
    → 10 * length (left_at t) + 2 * stages_left (stand_at t) + 2 ≤ 10 * length (left_at s) + 2 * stages_left (stand_at s)
stage_less via place line v w m stage.Fresh t event begun was one trail is left asked = absurd begun
stage_less via place line v w m (stage.Judged h packet) t event begun was one trail is left asked =
    stage_down 3 (stages_left (stand_at t)) 0 (length (left_at t)) (ap length (sym left) ∙ ap length (judged_due via h line.deed (m h.key) event asked [])) (judged_later via place line v w h packet event t was is one trail)
stage_less via place line v w m (stage.Replied a) t event begun was one trail is left asked = rw (← is, ← left) (event_less via m line.deed stand.Replied [] event tt tt asked)
stage_less via place line v w m (stage.PeerGiven h u a) t event begun was one trail is left asked = rw (← is, ← left) (event_less via m line.deed (stand.PeerGiven h u) [] event tt tt asked)
stage_less via place line v w m (stage.Looked h p) t event begun was one trail is left asked = rw (← is, ← left) (event_less via m line.deed (stand.Looked h) [] event tt tt asked)
stage_less via place line v w m (stage.Drew h r) t event begun was one trail is left asked = rw (← is, ← left) (event_less via m line.deed (stand.Drew h r) [] event tt tt asked)
stage_less via place line v w m (stage.Used h u a) t event begun was one trail is left asked = rw (← is, ← left) (event_less via m line.deed (stand.Used h u) [] event tt tt asked)
stage_less via place line v w m (stage.KeyGiven h u a) t event begun was one trail is left asked = rw (← is, ← left) (event_less via m line.deed (stand.KeyGiven h u) [] event tt tt asked)
stage_less via place line v w m (stage.Ticking at p) t event begun was one trail is left asked =
    let stands = ticking_stand at in
    rw (← is, ← left) (event_less via m line.deed (stand_in at) (left_in p) event stands.1 stands.0 asked)

-- ---- what is owed after an event that isn't a release

-- A line that looked up stands never where a command has its reply.
abbrev HasLooked : Stand → Type 0
HasLooked stand.Replied = ⊥
HasLooked _ = ⊤

looked_verdict : (h : HoldView) (v : Verdict) → HasLooked (judged_as h v)
looked_verdict h verdict.Accept = tt
looked_verdict h verdict.Zero = tt
looked_verdict h verdict.Old = tt
looked_verdict h verdict.Below = tt
looked_verdict h verdict.Again = tt

looked_reply : (h : HoldView) (r : Reply) → HasLooked (judged_used h r)
looked_reply h (reply.Settled x) = tt
looked_reply h _ = tt

looked_drawn : (h : HoldView) (d : Drawn) (a : Act) (r : Reply) → HasLooked (drew_used h d a r)
looked_drawn h (drawn.Id n) (act.Sent peer inner outer ping) r = tt
looked_drawn h (drawn.Id n) _ r = tt
looked_drawn h drawn.Spent (act.Spend peer key) r = tt
looked_drawn h drawn.Spent _ r = tt

looked_has : (r : Reply) → HasLooked (looked r)
looked_has (reply.Hold h) = tt
looked_has _ = tt

keep_has : (s : Stand) (peer : ℕ) (r : Reply) → IsPause s → HasLooked (stands_stepped s (act.KeepLook peer) r)
keep_has stand.Replied peer r pause = looked_has r
keep_has stand.Missed peer r pause = looked_has r
keep_has (stand.PeerGiven h u) peer r pause = looked_has r
keep_has _ peer r pause = absurd pause

due_looked : (s : Stand) (left : List ℕ) (e : Event) → IsPause s → request e ≡ asks_due left → HasLooked (see s e)
due_looked s [] e pause is = absurd (never_over e is)
due_looked s (peer ∷ left) (Stepped x) pause is =
    let same : x.entry.call.act ≡ act.KeepLook peer = (let e : Table x.entry.call.act ≡ Table (act.KeepLook peer) = is in cc) in
    rw same (keep_has s peer x.entry.reply pause)
due_looked s (peer ∷ left) (Judged j) pause is = absurd (cc)
due_looked s (peer ∷ left) (Drew key x) pause is = absurd (cc)
due_looked s (peer ∷ left) (GaveKey key g) pause is = absurd (cc)
due_looked s (peer ∷ left) (GavePeer p g) pause is = absurd (cc)

stays_looked : (via : Addr → Addr) (m : ℕ → Option Material) (d : Deed) (s : Stand) (left : List ℕ) (e : Event) → HasBegun s → request e ≡ asks via m d s left → HasLooked (see s e)
stays_looked via m d stand.Fresh left e begun asked = absurd begun
stays_looked via m d stand.Replied left e begun asked = due_looked stand.Replied left e tt asked
stays_looked via m d stand.Missed left e begun asked = due_looked stand.Missed left e tt asked
stays_looked via m d (stand.PeerGiven h u) left e begun asked = due_looked (stand.PeerGiven h u) left e tt asked
stays_looked via m d (stand.Looked h) left (Stepped x) begun asked = tt
stays_looked via m d (stand.Looked h) left (Judged j) begun asked = looked_verdict h j.verdict
stays_looked via m d (stand.Looked h) left (Drew key x) begun asked = tt
stays_looked via m d (stand.Looked h) left (GaveKey key g) begun asked = tt
stays_looked via m d (stand.Looked h) left (GavePeer peer g) begun asked = tt
stays_looked via m d (stand.Drew h r) left (Stepped x) begun asked = looked_drawn h r x.entry.call.act x.entry.reply
stays_looked via m d (stand.Drew h r) left (Judged j) begun asked = tt
stays_looked via m d (stand.Drew h r) left (Drew key x) begun asked = tt
stays_looked via m d (stand.Drew h r) left (GaveKey key g) begun asked = tt
stays_looked via m d (stand.Drew h r) left (GavePeer peer g) begun asked = tt
stays_looked via m d (stand.Judged h) left (Stepped x) begun asked = looked_reply h x.entry.reply
stays_looked via m d (stand.Judged h) left (Judged j) begun asked = tt
stays_looked via m d (stand.Judged h) left (Drew key x) begun asked = tt
stays_looked via m d (stand.Judged h) left (GaveKey key g) begun asked = tt
stays_looked via m d (stand.Judged h) left (GavePeer peer g) begun asked = tt
stays_looked via m d (stand.Used h u) left (Stepped x) begun asked = tt
stays_looked via m d (stand.Used h u) left (Judged j) begun asked = tt
stays_looked via m d (stand.Used h u) left (Drew key x) begun asked = tt
stays_looked via m d (stand.Used h u) left (GaveKey key g) begun asked = tt
stays_looked via m d (stand.Used h u) left (GavePeer peer g) begun asked = tt
stays_looked via m d (stand.KeyGiven h u) left (Stepped x) begun asked = tt
stays_looked via m d (stand.KeyGiven h u) left (Judged j) begun asked = tt
stays_looked via m d (stand.KeyGiven h u) left (Drew key x) begun asked = tt
stays_looked via m d (stand.KeyGiven h u) left (GaveKey key g) begun asked = tt
stays_looked via m d (stand.KeyGiven h u) left (GavePeer peer g) begun asked = tt

begun_stand : (s : Stage) → IsBegun s → HasBegun (stand_at s)
begun_stand stage.Fresh begun = absurd begun
begun_stand (stage.Replied a) begun = tt
begun_stand (stage.Looked h p) begun = tt
begun_stand (stage.Drew h r) begun = tt
begun_stand (stage.Judged h packet) begun = tt
begun_stand (stage.Used h u a) begun = tt
begun_stand (stage.KeyGiven h u a) begun = tt
begun_stand (stage.PeerGiven h u a) begun = tt
begun_stand (stage.Ticking at p) begun = (ticking_stand at).1

-- What is still owed of one give-back is one release at most.
one_at_most : (g : Given) (o : Owed) → length (owed_if g o) ≤ 1
one_at_most given.More o = omega arith
one_at_most given.Last o = omega arith

part_few : (done os : List Owed) (g : Given) (o : Owed) → done ++ os ≡ owed_if g o → length os ≤ 1
part_few done os g o is =
    let long : length done + length os ≡ length (owed_if g o) = sym (length-append done os) ∙ ap length is in
    let most = one_at_most g o in
    omega arith

none_few : (os : List Owed) → os ≡ [] → length os ≤ 1
none_few os is = rw is (omega arith)

ticking_few : (via : Addr → Addr) (place : Place) (line : Line) (w : View) (at : Pinging) (p : Pings) → HasLooked (stand_in at) → TickTrail via place line w at p → length w.owing ≤ 1
ticking_few via place line w pinging.Ticked p has trail = absurd has
ticking_few via place line w pinging.Skipped p has trail = none_few w.owing trail.owes
ticking_few via place line w (pinging.Looked peer h) p has trail = none_few w.owing trail.owes
ticking_few via place line w (pinging.Drew peer h d) p has trail = none_few w.owing trail.owes
ticking_few via place line w (pinging.Used h u) p has trail = none_few w.owing trail.owes
ticking_few via place line w (pinging.KeyGiven h u) p has trail = part_few trail.done w.owing trail.key (owed.Key h.key) trail.owes
ticking_few via place line w (pinging.PeerGiven h u) p has trail = part_few trail.done w.owing trail.peer (owed.Peer h.peer) trail.owes

few_owed : (via : Addr → Addr) (place : Place) (line : Line) (w : View) (t : Stage) → HasLooked (stand_at t) → Trail via place line w t → length w.owing ≤ 1
few_owed via place line w stage.Fresh has trail = none_few w.owing trail.owes
few_owed via place line w (stage.Looked h p) has trail = none_few w.owing trail.owes
few_owed via place line w (stage.Drew h d) has trail = none_few w.owing trail.owes
few_owed via place line w (stage.Judged h packet) has trail = none_few w.owing trail.owes
few_owed via place line w (stage.Used h u a) has trail = none_few w.owing trail.owes
few_owed via place line w (stage.Replied a) has trail = absurd has
few_owed via place line w (stage.KeyGiven h u a) has trail = part_few trail.done w.owing trail.key (owed.Key h.key) trail.owes
few_owed via place line w (stage.PeerGiven h u a) has trail = part_few trail.done w.owing trail.peer (owed.Peer h.peer) trail.owes
few_owed via place line w (stage.Ticking at p) has trail = ticking_few via place line w at p has trail

-- ---- a release

settled_stage : (h : HoldView) (r : Reply) → stages_left (judged_used h r) ≤ 3
settled_stage h (reply.Settled x) = omega arith
settled_stage h _ = omega arith

release_stage : (s : Stand) (e : Step) (o : Owed) → e.entry.call.act ≡ release_act o → stages_left (see s (Stepped e)) ≤ stages_left s
release_stage stand.Fresh e (owed.Peer p) is = rw is (omega arith)
release_stage stand.Fresh e (owed.Key k) is = rw is (omega arith)
release_stage (stand.Drew h (drawn.Id n)) e (owed.Peer p) is = rw is (omega arith)
release_stage (stand.Drew h (drawn.Id n)) e (owed.Key k) is = rw is (omega arith)
release_stage (stand.Drew h drawn.Spent) e (owed.Peer p) is = rw is (omega arith)
release_stage (stand.Drew h drawn.Spent) e (owed.Key k) is = rw is (omega arith)
release_stage (stand.Judged h) e o is = settled_stage h e.entry.reply
release_stage stand.Replied e (owed.Peer p) is = rw is (omega arith)
release_stage stand.Replied e (owed.Key k) is = rw is (omega arith)
release_stage stand.Missed e (owed.Peer p) is = rw is (omega arith)
release_stage stand.Missed e (owed.Key k) is = rw is (omega arith)
release_stage (stand.Looked h) e o is = omega arith
release_stage (stand.Used h u) e o is = omega arith
release_stage (stand.KeyGiven h u) e o is = omega arith
release_stage (stand.PeerGiven h u) e (owed.Peer p) is = rw is (omega arith)
release_stage (stand.PeerGiven h u) e (owed.Key k) is = rw is (omega arith)

stage_stays : (s : Stand) (event : Event) (o : Owed) → request event ≡ Table (release_act o) → stages_left (see s event) ≤ stages_left s
stage_stays s (Stepped e) o is = release_stage s e o (let same : e.entry.call.act ≡ release_act o = (let t : Table e.entry.call.act ≡ Table (release_act o) = is in cc) in same)
stage_stays s (Judged j) o is = absurd (cc)
stage_stays s (Drew key r) o is = absurd (cc)
stage_stays s (GaveKey key g) o is = absurd (cc)
stage_stays s (GavePeer peer g) o is = absurd (cc)

-- A release leaves the due peers as they are.
release_due : (left : List ℕ) (event : Event) (o : Owed) → request event ≡ Table (release_act o) → left_see left event ≡ left
release_due left (Stepped e) (owed.Peer p) is = (let same : e.entry.call.act ≡ act.Released p = (let t : Table e.entry.call.act ≡ Table (act.Released p) = is in cc) in rw same refl)
release_due left (Stepped e) (owed.Key k) is = (let same : e.entry.call.act ≡ act.KeyReleased k = (let t : Table e.entry.call.act ≡ Table (act.KeyReleased k) = is in cc) in rw same refl)
release_due left (Judged j) o is = refl
release_due left (Drew key r) o is = refl
release_due left (GaveKey key g) o is = refl
release_due left (GavePeer peer g) o is = refl

-- ---- what an event makes of the lane's seat

-- The event that a lane made, as its seat has it.
record SeatMade (s new : Seat) (ask : Ask) : Type 0 where
  made : Event
  events : new.events ≡ s.events ++ made ∷ []
  asked : request made ≡ ask

module _ (w : World) (i : ℕ) (s : Seat) (s_is : slice_get w.seats i ≡ Some s) (new : Seat) where
  -- The seat that was set is the lane's.
  set_is : (x : Seat) → slice_get (slice_set w.seats i x) i ≡ Some new → new ≡ x
  set_is x at = same_some (slice_get (slice_set w.seats i x) i) new x at (set_here w.seats i x s s_is)

  seat_made : (place : Place) (line : Line) (ask : Ask) → (IsOver ask → ⊥) → slice_get (happened w i s place line ask).seats i ≡ Some new → SeatMade s new ask
  unfolding judged
  seat_made place line (Table a) never at =
      let call : Call = record { at = line.at; act = a } in
      let o : Outcome = step w.table.now call in
      rw (set_is (seat_stepped w.seats s place call o) at) (record { made = stepped_as place call o.reply o.taken; events = refl; asked = refl })
  seat_made place line (Replay key id) never at =
      rw (set_is _ at) (record { made = Judged (judgement_of (judged_next w place key id line.at)); events = refl; asked = refl })
  seat_made place line (Draw key) never at =
      rw (set_is _ at) (record { made = Drew key (drawn_of (next_of w key)); events = refl; asked = refl })
  seat_made place line (GiveKey key) never at =
      rw (set_is _ at) (record { made = GaveKey key (key_given w i s key); events = refl; asked = refl })
  seat_made place line (GivePeer peer) never at =
      rw (set_is _ at) (record { made = GavePeer peer (peer_given w i s peer); events = refl; asked = refl })
  seat_made place line Nil never at = absurd (never tt)
  seat_made place line over never at = absurd (never tt)

  -- A release takes the first of what is owed, and nothing joins it.
  release_owes : (place : Place) (line : Line) (o : Owed) (os : List Owed) → s.owing ≡ o ∷ os → slice_get (happened w i s place line (Table (release_act o))).seats i ≡ Some new → new.owing ≡ os
  unfolding released key_released
  release_owes place line (owed.Peer p) os is at = rw (set_is _ at, is) (append-nil os)
  release_owes place line (owed.Key k) os is at = rw (set_is _ at, is) (append-nil os)

-- ---- a turn

-- How many turns are left where a line stands at a stage and owes so many releases.
abbrev turns_at : Stage → ℕ → ℕ
turns_at at owes = 10 * length (left_at at) + 2 * stages_left (stand_at at) + owes

module _ (via : Addr → Addr) (w v : World) (i : ℕ) (s new : Seat) (place : Place) (line : Line) (at now : Stage) where
  less_by : (os : List Owed) → s.owing ≡ os → slice_get w.seats i ≡ Some s → slice_get (happened w i s place line (next_owing via (key_of w.table.journal) line.deed (stand_at at) (left_at at) os)).seats i ≡ Some new → GoesOn via place line (seen_from via w s) at → IsBegun at → GoesOn via place line (seen_from via v new) now
      → (m : SeatMade s new (next_owing via (key_of w.table.journal) line.deed (stand_at at) (left_at at) os)) → see (stand_at at) m.made ≡ stand_at now → left_see (left_at at) m.made ≡ left_at now → turns_at now (length new.owing) < turns_at at (length os)
  less_by [] owes s_is new_is goes begun on m is left =
      let later = stage_less via place line (seen_from via w s) (seen_from via v new) (key_of w.table.journal) at now m.made begun goes.0.trail m.events on.0.trail is left m.asked in
      let has : HasLooked (stand_at now) = subst HasLooked is (stays_looked via (key_of w.table.journal) line.deed (stand_at at) (left_at at) m.made (begun_stand at begun) m.asked) in
      let few : length new.owing ≤ 1 = few_owed via place line (seen_from via v new) now has on.0.trail in
      omega arith
  less_by (o ∷ os) owes s_is new_is goes begun on m is left =
      let fewer : length new.owing ≡ length os = ap length (release_owes w i s s_is new place line o os owes new_is) in
      let stays : stages_left (stand_at now) ≤ stages_left (stand_at at) = rw (← is) (stage_stays (stand_at at) m.made o m.asked) in
      let same : length (left_at now) ≡ length (left_at at) = ap length (sym left ∙ release_due (left_at at) m.made o m.asked) in
      omega arith

  -- A line that was begun and makes its next event has fewer turns left, where it goes on.
  pub falls_there : slice_get w.seats i ≡ Some s → slice_get v.seats i ≡ Some new → GoesOn via place line (seen_from via w s) at → IsBegun at → v ≡ happened w i s place line (ask_of via w s line) → GoesOn via place line (seen_from via v new) now → turns_at now (length new.owing) < turns_at at (length s.owing)
  falls_there s_is new_is goes begun is on =
      let next = next_owing via (key_of w.table.journal) line.deed (stand_at at) (left_at at) s.owing in
      let there : v ≡ happened w i s place line next = is ∙ ap (λ x. happened w i s place line (next_owing via (key_of w.table.journal) line.deed x (left_of s.events) s.owing)) goes.0.stand ∙ ap (λ x. happened w i s place line (next_owing via (key_of w.table.journal) line.deed (stand_at at) x s.owing)) goes.0.due in
      let new_at : slice_get (happened w i s place line next).seats i ≡ Some new = subst (λ (x : World). slice_get x.seats i ≡ Some new) there new_is in
      let m : SeatMade s new next = seat_made w i s s_is new place line next (open_asks via place line (seen_from via w s) at s.owing goes.0.trail begun goes.1) new_at in
      let stood : see (stand_at at) m.made ≡ stand_at now = sym (seen (stand_at at) s.events m.made goes.0.stand) ∙ ap stand_of (sym m.events) ∙ on.0.stand in
      let left : left_see (left_at at) m.made ≡ left_at now = sym (left_seen (left_at at) s.events m.made goes.0.due) ∙ ap left_of (sym m.events) ∙ on.0.due in
      less_by s.owing refl s_is new_at goes begun on m stood left

-- ---- a turn of a course

got : {X : Type 0} (xs : List X) (i : ℕ) (other x : X) → slice_get xs i ≡ Some x → get_or xs i other ≡ x
got [] i other x at = absurd (cc)
got (y ∷ ys) zero other x at = let same : Some y ≡ Some x = at in cc
got (y ∷ ys) (suc i) other x at = got ys i other x at

-- A lane's turn after which its line goes on leaves fewer turns, where the line was begun.
pub went_falls : (d e : Seated) (all : Standing) (c x : Coursed) → OnCourse d all c → Went d e all c x → IsBegun c.walk.stage → turns_left (world_of e) x.lane x.walk.stage < turns_left (world_of d) c.lane c.walk.stage
went_falls d e all c x on went begun =
    let u = went.goes.under in
    let new : Seat = went.goes.seat in
    let lane : x.lane ≡ c.lane = ap (λ (y : Coursed). y.lane) went.course in
    let before : GoesOn all.via (place_of c.lane u.lane) u.line (seen_from all.via (world_of d) u.seat) c.walk.stage = (on.running.ready c.lane u.lane u.seat c.walk.stage u.lane_is u.seat_is on.stage_is).goes u.line u.line_is in
    let stage_is : slice_get (slice_set all.stages c.lane x.walk.stage) c.lane ≡ Some x.walk.stage = set_here all.stages c.lane x.walk.stage c.walk.stage on.stage_is in
    let after : GoesOn all.via (place_of c.lane u.lane) u.line (seen_from all.via (world_of e) new) x.walk.stage = (went.on.running.ready c.lane u.lane new x.walk.stage u.lane_is went.goes.seat_is stage_is).goes u.line u.line_is in
    let world : world_of e ≡ world_after all.via (session_at d all.lanes) c.lane u = ap (λ (s : Session). s.world) went.goes.after_is in
    let less = falls_there all.via (world_of d) (world_of e) c.lane u.seat new (place_of c.lane u.lane) u.line c.walk.stage x.walk.stage u.seat_is went.goes.seat_is before begun world after in
    let left : get_or (world_of e).seats x.lane no_line ≡ new = ap (λ n. get_or (world_of e).seats n no_line) lane ∙ got (world_of e).seats c.lane no_line new went.goes.seat_is in
    let had : get_or (world_of d).seats c.lane no_line ≡ u.seat = got (world_of d).seats c.lane no_line u.seat u.seat_is in
    rw (left, had) less

-- A line that made an event isn't at its beginning any more.
begun_later : (via : Addr → Addr) (place : Place) (line : Line) (w : View) (es : List Event) (e : Event) (t : Stage) → w.events ≡ es ++ e ∷ [] → Trail via place line w t → IsBegun t
begun_later via place line w es e stage.Fresh one trail = absurd (never_empty es e (sym one ∙ trail.none))
begun_later via place line w es e (stage.Replied a) one trail = tt
begun_later via place line w es e (stage.Looked h p) one trail = tt
begun_later via place line w es e (stage.Drew h d) one trail = tt
begun_later via place line w es e (stage.Judged h packet) one trail = tt
begun_later via place line w es e (stage.Used h u a) one trail = tt
begun_later via place line w es e (stage.KeyGiven h u a) one trail = tt
begun_later via place line w es e (stage.PeerGiven h u a) one trail = tt
begun_later via place line w es e (stage.Ticking at p) one trail = tt

over_same : (w : World) (i : ℕ) (s : Seat) (place : Place) (line : Line) (ask : Ask) → IsOver ask → happened w i s place line ask ≡ w
over_same w i s place line Nil is_over = refl
over_same w i s place line over is_over = refl
over_same w i s place line _ is_over = absurd is_over

-- A line that goes on after a turn is begun.
pub went_begun : (d e : Seated) (all : Standing) (c x : Coursed) → OnCourse d all c → Went d e all c x → IsBegun x.walk.stage
went_begun d e all c x on went =
    let u = went.goes.under in
    let new : Seat = went.goes.seat in
    let place : Place = place_of c.lane u.lane in
    let ask : Ask = ask_of all.via (world_of d) u.seat u.line in
    let world : world_of e ≡ happened (world_of d) c.lane u.seat place u.line ask = ap (λ (s : Session). s.world) went.goes.after_is in
    let never : IsOver ask → ⊥ = (λ is_over.
    let same : world_of e ≡ world_of d = world ∙ over_same (world_of d) c.lane u.seat place u.line ask is_over in
    let seat : new ≡ u.seat = same_some (slice_get (world_of d).seats c.lane) new u.seat (subst (λ (w : World). slice_get w.seats c.lane ≡ Some new) same went.goes.seat_is) u.seat_is in
    let asks_same : ask_of all.via (world_of e) new u.line ≡ ask = ap (λ (w : World). ask_of all.via w new u.line) same ∙ ap (λ (s : Seat). ask_of all.via (world_of d) s u.line) seat in
    went.goes.more (subst IsOver (sym asks_same) is_over)) in
    let new_at : slice_get (happened (world_of d) c.lane u.seat place u.line ask).seats c.lane ≡ Some new = subst (λ (w : World). slice_get w.seats c.lane ≡ Some new) world went.goes.seat_is in
    let m : SeatMade u.seat new ask = seat_made (world_of d) c.lane u.seat u.seat_is new place u.line ask never new_at in
    let stage_is : slice_get (slice_set all.stages c.lane x.walk.stage) c.lane ≡ Some x.walk.stage = set_here all.stages c.lane x.walk.stage c.walk.stage on.stage_is in
    let after : GoesOn all.via place u.line (seen_from all.via (world_of e) new) x.walk.stage = (went.on.running.ready c.lane u.lane new x.walk.stage u.lane_is went.goes.seat_is stage_is).goes u.line u.line_is in
    begun_later all.via place u.line (seen_from all.via (world_of e) new) u.seat.events m.made x.walk.stage m.events after.0.trail
