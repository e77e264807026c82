-- A received datagram is delivered exactly where its parts say so.
use Rattle.std.proofs.Common.{ℕ, ◌≡◌, ◌≢◌, List, [], ◌∷◌, ◌++◌, length, refl, sym, ◌∙◌, subst, ap, ◌==◌, inl, inr}
use Rattle.std.specs.Prelude.{max, Option, Some, None, IsSome, unwrap_or, slice_get, if◌then◌else◌}
use Rattle.std.specs.List.{AllByRecursion}
use Rattle.std.proofs.lemmas.Bool.{cases_eq, eq-eqb, ne_eqb}
use Rattle.ov_base.specs.declared.address.Addr.{Addr}
use Rattle.ov_base.specs.declared.address.Transport.{Transport}
use Rattle.ov_model.specs.declared.ident.PeerId.{PeerId}
use Rattle.ov_model.specs.declared.ident.KeyId.{KeyId}
use Rattle.ov_model.specs.declared.place.Place.{Place}
use Rattle.ov_model.specs.declared.command.Command.{Command}
use Rattle.ov_model.specs.declared.act.Act.{Act}
use Rattle.ov_model.specs.declared.act.Act.TheVariants as act
use Rattle.ov_model.specs.declared.act.InnerKind.{InnerKind}
use Rattle.ov_model.specs.declared.entry.Entry.{Entry}
use Rattle.ov_model.specs.declared.hold.Owed.{Owed}
use Rattle.ov_model.specs.declared.hold.Owed.TheVariants as owed
use Rattle.ov_model.specs.declared.reply.HoldView.{HoldView}
use Rattle.ov_model.specs.declared.reply.Reply.{Reply}
use Rattle.ov_model.specs.declared.reply.Reply.TheVariants as reply
use Rattle.ov_model.specs.declared.reply.Settled.{Settled}
use Rattle.ov_model.specs.declared.reply.Settled.TheVariants as settled
use Rattle.ov_model.specs.declared.replay.ReplayEntry.{ReplayEntry}
use Rattle.ov_model.specs.declared.replay.Verdict.TheVariants.{Accept}
use Rattle.ov_model.specs.declared.replay.Refusal.{Refusal}
use Rattle.ov_model.specs.declared.replay.Refusal.TheVariants as refusal
use Rattle.ov_model.specs.declared.answer.Answer.{Answer}
use Rattle.ov_model.specs.declared.answer.Answer.TheVariants as answer
use Rattle.ov_model.specs.declared.stand.Use.{Use}
use Rattle.ov_model.specs.declared.stand.Use.TheVariants as used
use Rattle.ov_model.specs.declared.line.Line.{Line}
use Rattle.ov_model.specs.declared.line.Deed.{Deed}
use Rattle.ov_model.specs.declared.line.Deed.TheVariants as deed
use Rattle.ov_model.specs.declared.line.Script.{Script}
use Rattle.ov_model.specs.declared.report.LaneLog.{LaneLog}
use Rattle.ov_model.specs.declared.report.Report.{Report}
use Rattle.ov_model.specs.Ident.{peer_id, key_id}
use Rattle.ov_model.specs.Tables.{Peer, Table, Material, empty_table, by_vpn}
use Rattle.ov_model.specs.Step.{is_serial, settled_as, settle, act_step}
use Rattle.ov_model.specs.Runs.{IsRun}
use Rattle.ov_model.specs.Packets.{HeadKind, short, data_v1, control, data_v2, head_of, Kind, from_source, ping, no_source, kind_of, opened, packet_id_of}
use Rattle.ov_model.specs.Events.{Step, Judgement, of, shown_in, steps_of, step_of, release_of, releases}
use Rattle.ov_model.specs.Path.{first, begins_rx, rx_look_by, packet_in, kind_via, settle_act, replay_of, UseFits, refused_as, hold_owed, Columns, rx_row, use_row, IsMiss, Path, by_at_once, by_command, by_miss, by_round, by_tick}
use Rattle.ov_model.specs.Keys.{key_of}
use Rattle.ov_model.specs.Via.{via_of}
use Rattle.ov_model.specs.Legal.{Legal}
use Rattle.ov_model.specs.Laws.{HasDeed, Receives, LooksUp, judged_at, answer_at, AcceptsOnce}
use Rattle.ov_model.specs.Delivery.{IsReceived, IsSettleOf, table_before, Delivers, DeliveredUnder, DeliversOnce}
use Rattle.ov_model.proofs.Lanes.{all_append, here}
use Rattle.ov_model.proofs.SealedLaw.{at_once_has, LinePath, line_path}
use Rattle.ov_model.proofs.Places.{entry_has, step_entry, judged_has, judged_found, reply_at}

-- ---- what settling replies

pub settle_reply : (t : Table) (now peer : ℕ) (from : Option Transport) (k : InnerKind) (inner outer : ℕ) → (act_step t now (act.Settle peer from k inner outer)).reply ≡ reply.Settled (settled_as peer k t.live)
unfolding settle
settle_reply t now peer from k inner outer = refl

-- What an entry that settles a packet replies, by the table before it.
settled_so : (via : Addr → Addr) (journal : List Entry) → IsRun journal → (n : ℕ) (e : Entry) (h : HoldView) (from : Transport) (inner bytes : List ℕ) (s : Settled) → slice_get journal n ≡ Some e → e.call.act ≡ settle_act via h from inner bytes → e.reply ≡ reply.Settled s
    → settled_as h.peer (kind_via via (kind_of inner)) (table_before journal n).live ≡ s
settled_so via journal run n e h from inner bytes s at act_is reply_is =
    let before : Table = table_before journal n in
    let now : ℕ = max before.moment e.call.at in
    let ran : (act_step before now e.call.act).reply ≡ reply.Settled s = reply_at empty_table journal n e run at ∙ reply_is in
    let by_act : (act_step before now (settle_act via h from inner bytes)).reply ≡ reply.Settled s = ap (λ (w : Act). (act_step before now w).reply) (sym act_is) ∙ ran in
    let replied : reply.Settled (settled_as h.peer (kind_via via (kind_of inner)) before.live) ≡ reply.Settled s = sym (settle_reply before now h.peer (Some from) (kind_via via (kind_of inner)) (length inner) (length bytes)) ∙ by_act in
    cc

-- Whose a packet is, where it is delivered, and the other way round.
record Owned (via : Addr → Addr) (peer : ℕ) (k : Kind) (live : List Peer) : Type 0 where
  source : Addr
  source_is : k ≡ from_source source
  owner : Peer
  owner_is : by_vpn (via source) live ≡ Some owner
  owns : owner.serial ≡ peer

owned_by : (via : Addr → Addr) (peer : ℕ) (a : Addr) (live : List Peer) (p : Option Peer) → by_vpn (via a) live ≡ p → (if is_serial peer p then settled.Deliver else settled.NotOwner) ≡ settled.Deliver → Owned via peer (from_source a) live
owned_by via peer a live None found is = cc
owned_by via peer a live (Some p) found is =
    elim (cases_eq p.serial peer) [
      | inl same ↦ record { source = a; source_is = refl; owner = p; owner_is = found; owns = same }
      | inr other ↦ absurd (let none : (if p.serial == peer then settled.Deliver else settled.NotOwner) ≡ settled.NotOwner = rw (ne_eqb p.serial peer other) refl in cc)
    ]

owned : (via : Addr → Addr) (peer : ℕ) (k : Kind) (live : List Peer) → settled_as peer (kind_via via k) live ≡ settled.Deliver → Owned via peer k live
owned via peer (from_source a) live is = owned_by via peer a live (by_vpn (via a) live) refl is
owned via peer ping live is = cc
owned via peer no_source live is = cc

owner_delivers : (via : Addr → Addr) (peer : ℕ) (k : Kind) (live : List Peer) (source : Addr) (owner : Peer) → k ≡ from_source source → by_vpn (via source) live ≡ Some owner → owner.serial ≡ peer → settled_as peer (kind_via via k) live ≡ settled.Deliver
owner_delivers via peer k live source owner kind found owns = rw (kind, found, eq-eqb owner.serial peer owns) refl

-- ---- how a received datagram's line begins

look_begins : (peer : ℕ) (id : Option PeerId) (key : Option KeyId) (from : Transport) (a : Act) → rx_look_by id key from ≡ first a → IsSettleOf peer a → ⊥
look_begins peer None None from a is settles = cc
look_begins peer None (Some k) from a is settles = cc
look_begins peer (Some i) None from a is settles = cc
look_begins peer (Some i) (Some k) from a is settles = let its : a ≡ act.RxLook i k from = cc in subst (IsSettleOf peer) its settles

rx_begins : (peer : ℕ) (from : Transport) (head : HeadKind) (a : Act) → begins_rx from head ≡ first a → IsSettleOf peer a → ⊥
rx_begins peer from short a is settles = cc
rx_begins peer from data_v1 a is settles = cc
rx_begins peer from control a is settles = cc
rx_begins peer from (data_v2 id key n) a is settles = look_begins peer (peer_id id) (key_id key) from a is settles

no_command_by : (id : Option PeerId) (key : Option KeyId) (from : Transport) (c : Command) → rx_look_by id key from ≡ first (act.Do c) → ⊥
no_command_by None None from c is = cc
no_command_by None (Some k) from c is = cc
no_command_by (Some i) None from c is = cc
no_command_by (Some i) (Some k) from c is = cc

no_command : (from : Transport) (head : HeadKind) (c : Command) → begins_rx from head ≡ first (act.Do c) → ⊥
no_command from short c is = cc
no_command from data_v1 c is = cc
no_command from control c is = cc
no_command from (data_v2 id key n) c is = no_command_by (peer_id id) (key_id key) from c is

-- ---- the row of a delivered answer

opens_to : (o : Option (List ℕ)) (packet : List ℕ) → IsSome o → unwrap_or o [] ≡ packet → o ≡ Some packet
opens_to None packet some is = cc
opens_to (Some p) packet some is = ap (λ q. Some q) is

-- Only a received datagram is delivered, and what it opens to is the packet.
record DeliversUse (via : Addr → Addr) (place : Place) (at : ℕ) (d : Deed) (h : HoldView) (m : Material) (u : Use) (id : PeerId) (packet : List ℕ) : Type 0 where
  from : Transport
  bytes : List ℕ
  deed_is : d ≡ deed.Rx from bytes
  id_is : h.id ≡ id
  opens : opened m.decrypt bytes ≡ Some packet
  row_is : use_row via place at d h m u ≡ rx_row via place at h from packet bytes (used.Settled settled.Deliver)

delivers_use : (via : Addr → Addr) (place : Place) (at : ℕ) (d : Deed) (h : HoldView) (m : Material) (u : Use) (id : PeerId) (packet : List ℕ) → UseFits d m u → answer.Delivered id packet ≡ (use_row via place at d h m u).answer → DeliversUse via place at d h m u id packet
delivers_use via place at (deed.Tx p) h m (used.Sealed n) id packet fits is = cc
delivers_use via place at (deed.Tx p) h m (used.Spent killed) id packet fits is = cc
delivers_use via place at deed.Tick h m (used.Sealed n) id packet fits is = cc
delivers_use via place at deed.Tick h m (used.Spent killed) id packet fits is = cc
delivers_use via place at (deed.Rx from bytes) h m used.BadTag id packet fits is = cc
delivers_use via place at (deed.Rx from bytes) h m (used.Refused x) id packet fits is = cc
delivers_use via place at (deed.Rx from bytes) h m (used.Settled settled.Deliver) id packet fits is =
    let id_is : h.id ≡ id = cc in
    let packet_is : unwrap_or (opened m.decrypt bytes) [] ≡ packet = cc in
    record { from = from; bytes = bytes; deed_is = refl; id_is = id_is; opens = opens_to (opened m.decrypt bytes) packet fits packet_is; row_is = ap (λ p. rx_row via place at h from p bytes (used.Settled settled.Deliver)) packet_is }
delivers_use via place at (deed.Rx from bytes) h m (used.Settled settled.Ping) id packet fits is = cc
delivers_use via place at (deed.Rx from bytes) h m (used.Settled settled.NotIp) id packet fits is = cc
delivers_use via place at (deed.Rx from bytes) h m (used.Settled settled.NotOwner) id packet fits is = cc
delivers_use via place at _ h m _ id packet fits is = absurd fits

record DeliveredRow (material : ℕ → Option Material) (via : Addr → Addr) (place : Place) (line : Line) (ss : List Step) (js : List Judgement) (id : PeerId) (packet : List ℕ) : Type 0 where
  x : Act
  h : HoldView
  m : Material
  os : List Owed
  from : Transport
  bytes : List ℕ
  deed_is : line.deed ≡ deed.Rx from bytes
  id_is : h.id ≡ id
  material_is : material h.key ≡ Some m
  opens : opened m.decrypt bytes ≡ Some packet
  steps : ss ≡ step_of place line.at x (reply.Hold h) [] ∷ step_of place line.at (settle_act via h from packet bytes) (reply.Settled settled.Deliver) [] ∷ releases place line.at os
  judgements : js ≡ replay_of place line.at h bytes Accept ∷ []

delivered_row : (material : ℕ → Option Material) (via : Addr → Addr) (place : Place) (line : Line) (ss : List Step) (js : List Judgement) (id : PeerId) (packet : List ℕ) → Path material via place line ss js (answer.Delivered id packet) → DeliveredRow material via place line ss js id packet
delivered_row material via place line ss js id packet (by_at_once r) = absurd (at_once_has (λ a. a ≡ answer.Delivered id packet → ⊥) (λ e is. cc) (λ c is. cc) (λ is. cc) via line.deed (answer.Delivered id packet) r.begins_so refl)
delivered_row material via place line ss js id packet (by_command r) = let is = r.answer_is in cc
delivered_row material via place line ss js id packet (by_miss r) = let is = r.answer_is in cc
delivered_row material via place line ss js id packet (by_tick r) = let is = r.answer_is in cc
delivered_row material via place line ss js id packet (by_round r) =
    let u = delivers_use via place line.at line.deed r.round.hold r.round.material r.round.made id packet r.fits.1 r.answer_is in
    let look : Step = step_of place line.at r.round.look (reply.Hold r.round.hold) [] in
    let os : List Owed = hold_owed r.round.hold r.round.key r.round.peer in
    record {
      x = r.round.look;
      h = r.round.hold;
      m = r.round.material;
      os = os;
      from = u.from;
      bytes = u.bytes;
      deed_is = u.deed_is;
      id_is = u.id_is;
      material_is = r.fits.0;
      opens = u.opens;
      steps = r.steps_are ∙ ap (λ (c : Columns). look ∷ (c.steps ++ releases place line.at os)) u.row_is;
      judgements = r.judgements_are ∙ ap (λ (c : Columns). c.judgements) u.row_is;
    }

-- ---- the path of a line that is answered

-- The deed of a line's path is the line's.
path_deed : (via : Addr → Addr) (report : Report) (lane line : ℕ) (a : Answer) (path : LinePath via report lane line a) (d : Deed) → HasDeed report lane line d → path.its.deed ≡ d
path_deed via report lane line a path d has =
    let logs : Some has.log ≡ Some path.log = sym has.log_is ∙ path.log_is in
    let log : has.log ≡ path.log = cc in
    let lines : Some path.its ≡ Some has.its = sym path.its_is ∙ ap (λ (l : LaneLog). slice_get l.lines line) (sym log) ∙ has.its_is in
    let its : path.its ≡ has.its = cc in
    ap (λ (l : Line). l.deed) its ∙ has.deed_is

-- ---- delivered: what the report shows

-- A delivered line with its row.
record DeliveredLine (via : Addr → Addr) (report : Report) (lane line : ℕ) (id : PeerId) (packet : List ℕ) : Type 0 where
  path : LinePath via report lane line (answer.Delivered id packet)
  row : DeliveredRow (key_of report.journal) via (record { lane = lane; line = line }) path.its (of (steps_of report.journal) lane line) (shown_in report.shards lane line) id packet

delivered_line : (script : Script) (start : ℕ) (report : Report) → Legal script start report → (lane line : ℕ) (id : PeerId) (packet : List ℕ) → answer_at report.lanes lane line ≡ Some (answer.Delivered id packet) → DeliveredLine (via_of script.routes) report lane line id packet
delivered_line script start report legal lane line id packet at =
    let path : LinePath (via_of script.routes) report lane line (answer.Delivered id packet) = line_path script start report legal lane line (answer.Delivered id packet) at in
    record { path = path; row = delivered_row (key_of report.journal) (via_of script.routes) (record { lane = lane; line = line }) path.its _ _ id packet path.path }

-- What it received.
its_bytes : (via : Addr → Addr) (report : Report) (lane line : ℕ) (id : PeerId) (packet : List ℕ) (l : DeliveredLine via report lane line id packet) (from : Transport) (bytes : List ℕ) → Receives report lane line from bytes → l.row.bytes ≡ bytes
its_bytes via report lane line id packet l from bytes receives =
    let deeds : deed.Rx l.row.from l.row.bytes ≡ deed.Rx from bytes = sym l.row.deed_is ∙ path_deed via report lane line (answer.Delivered id packet) l.path (deed.Rx from bytes) receives in
    cc

-- What a delivered line's path and run give.
pub delivered_shows : (script : Script) (start : ℕ) (report : Report) → Legal script start report → (lane line : ℕ) (from : Transport) (bytes : List ℕ) → Receives report lane line from bytes → (id : PeerId) (packet : List ℕ) → answer_at report.lanes lane line ≡ Some (answer.Delivered id packet) → Delivers (via_of script.routes) report lane line bytes id packet
delivered_shows script start report legal lane line from bytes receives id packet answered =
    let via : Addr → Addr = via_of script.routes in
    let place : Place = record { lane = lane; line = line } in
    let l : DeliveredLine via report lane line id packet = delivered_line script start report legal lane line id packet answered in
    let row = l.row in
    let at : ℕ = l.path.its.at in
    let settle : Entry = (step_of place at (settle_act via row.h row.from packet row.bytes) (reply.Settled settled.Deliver) []).entry in
    let look_at = step_entry empty_table report.journal lane line 0 (step_of place at row.x (reply.Hold row.h) []) (ap (λ (ss : List Step). slice_get ss 0) row.steps) in
    let settle_at = step_entry empty_table report.journal lane line 1 (step_of place at (settle_act via row.h row.from packet row.bytes) (reply.Settled settled.Deliver) []) (ap (λ (ss : List Step). slice_get ss 1) row.steps) in
    let judged = judged_found report.shards lane line 0 (replay_of place at row.h row.bytes Accept) (ap (λ (js : List Judgement). slice_get js 0) row.judgements) in
    let before : Table = table_before report.journal settle_at.n in
    let deliver : settled_as row.h.peer (kind_via via (kind_of packet)) before.live ≡ settled.Deliver = settled_so via report.journal legal.journal.runs settle_at.n settle row.h row.from packet row.bytes settled.Deliver settle_at.at refl refl in
    let own : Owned via row.h.peer (kind_of packet) before.live = owned via row.h.peer (kind_of packet) before.live deliver in
    subst (λ b. Delivers via report lane line b id packet) (its_bytes via report lane line id packet l from bytes receives) (record {
      hold = row.h;
      held = record { n = look_at.n; entry = (step_of place at row.x (reply.Hold row.h) []).entry; made = record { at = look_at.at; place = refl }; held = refl };
      id_is = row.id_is;
      material = row.m;
      material_is = row.material_is;
      opens = row.opens;
      shard = judged.shard;
      place = judged.i;
      replay = judged.r;
      judged = judged.at;
      judged_by = ap (λ (j : Judgement). j.place) judged.is;
      key_is = ap (λ (j : Judgement). j.key) judged.is;
      packet_id_is = ap (λ (j : Judgement). j.id) judged.is;
      fresh = ap (λ (j : Judgement). j.verdict) judged.is;
      settle = settle_at.n;
      settle_entry = settle;
      settled = record { at = settle_at.at; place = refl };
      settles = refl;
      source = own.source;
      source_is = own.source_is;
      owner = own.owner;
      owner_is = own.owner_is;
      owns = own.owns;
    })

-- Only what was received is delivered.
pub delivered_received : (script : Script) (start : ℕ) (report : Report) → Legal script start report → (lane line : ℕ) (id : PeerId) (packet : List ℕ) → answer_at report.lanes lane line ≡ Some (answer.Delivered id packet) → IsReceived report lane line
delivered_received script start report legal lane line id packet answered =
    let l : DeliveredLine (via_of script.routes) report lane line id packet = delivered_line script start report legal lane line id packet answered in
    record { from = l.row.from; bytes = l.row.bytes; receives = record { log = l.path.log; log_is = l.path.log_is; its = l.path.its; its_is = l.path.its_is; deed_is = l.row.deed_is } }

-- ---- what the report shows: delivered

all_released : (P : Entry → Type 0) (place : Place) (at : ℕ) → ((o : Owed) → P (release_of place at o).entry) → (os : List Owed) → AllByRecursion (λ s. P s.entry) (releases place at os)
all_released P place at each [] = tt
all_released P place at each (o ∷ os) = (each o, all_released P place at each os)

-- An entry that replies with a hold replies with this one.
abbrev Holds : HoldView → Entry → Type 0
Holds h e = (k : HoldView) → e.reply ≡ reply.Hold k → k ≡ h

release_holds : (h : HoldView) (place : Place) (at : ℕ) (o : Owed) → Holds h (release_of place at o).entry
release_holds h place at (owed.Peer p) k is = cc
release_holds h place at (owed.Key key) k is = cc

-- An entry that settles a packet of the peer is this one.
abbrev Settles : ℕ → Act → Settled → Entry → Type 0
Settles peer a s e = IsSettleOf peer e.call.act → (e.call.act ≡ a) × (e.reply ≡ reply.Settled s)

release_settles : (peer : ℕ) (a : Act) (s : Settled) (place : Place) (at : ℕ) (o : Owed) → Settles peer a s (release_of place at o).entry
release_settles peer a s place at (owed.Peer p) settles = absurd settles
release_settles peer a s place at (owed.Key key) settles = absurd settles

-- What the entry of the line's look-up is, by the line's steps.
look_has : (via : Addr → Addr) (report : Report) (lane line : ℕ) (bytes : List ℕ) (id : PeerId) (packet : List ℕ) (d : Delivers via report lane line bytes id packet) (P : Entry → Type 0) (ss : List Step) → of (steps_of report.journal) lane line ≡ ss → AllByRecursion (λ s. P s.entry) ss → P d.held.entry
look_has via report lane line bytes id packet d P ss steps all =
    entry_has P empty_table report.journal lane line d.held.n d.held.entry (subst (λ (l : List Step). AllByRecursion (λ s. P s.entry) l) (sym steps) all) d.held.made.at (here lane line d.held.entry.place d.held.made.place)

settle_has : (via : Addr → Addr) (report : Report) (lane line : ℕ) (bytes : List ℕ) (id : PeerId) (packet : List ℕ) (d : Delivers via report lane line bytes id packet) (P : Entry → Type 0) (ss : List Step) → of (steps_of report.journal) lane line ≡ ss → AllByRecursion (λ s. P s.entry) ss → P d.settle_entry
settle_has via report lane line bytes id packet d P ss steps all =
    entry_has P empty_table report.journal lane line d.settle d.settle_entry (subst (λ (l : List Step). AllByRecursion (λ s. P s.entry) l) (sym steps) all) d.settled.at (here lane line d.settle_entry.place d.settled.place)

-- What a line holds is what its look-up held, and so it opens to the packet.
same_hold : (via : Addr → Addr) (report : Report) (lane line : ℕ) (bytes : List ℕ) (id : PeerId) (packet : List ℕ) (d : Delivers via report lane line bytes id packet) (at : ℕ) (x : Act) (h : HoldView) (m : Material) (us : List Step) (os : List Owed)
    → key_of report.journal h.key ≡ Some m → AllByRecursion (λ s. Holds h s.entry) us
    → of (steps_of report.journal) lane line ≡ step_of (record { lane = lane; line = line }) at x (reply.Hold h) [] ∷ (us ++ releases (record { lane = lane; line = line }) at os)
    → (d.hold ≡ h) × (opened m.decrypt bytes ≡ Some packet)
same_hold via report lane line bytes id packet d at x h m us os material_is uses steps =
    let place : Place = record { lane = lane; line = line } in
    let gives : AllByRecursion (λ s. Holds h s.entry) (releases place at os) = all_released (Holds h) place at (release_holds h place at) os in
    let look : Holds h (step_of place at x (reply.Hold h) []).entry = λ k is. cc in
    let held : Holds h d.held.entry = look_has via report lane line bytes id packet d (Holds h) _ steps (look, all_append (λ s. Holds h s.entry) us (releases place at os) uses gives) in
    let same : d.hold ≡ h = held d.hold d.held.held in
    let materials : Some m ≡ Some d.material = sym material_is ∙ ap (λ (w : HoldView). key_of report.journal w.key) (sym same) ∙ d.material_is in
    let material : m ≡ d.material = cc in
    (same, ap (λ (w : Material). opened w.decrypt bytes) material ∙ d.opens)

-- A refusal isn't Accept.
not_accepted : (x : Refusal) → refused_as x ≢ Accept
not_accepted refusal.Zero = λ e. cc
not_accepted refusal.Old = λ e. cc
not_accepted refusal.Below = λ e. cc
not_accepted refusal.Again = λ e. cc

-- A round that shows the parts is answered so.
showing_round : (via : Addr → Addr) (report : Report) (lane line : ℕ) (from : Transport) (bytes : List ℕ) (id : PeerId) (packet : List ℕ) (d : Delivers via report lane line bytes id packet) → IsRun report.journal → (at : ℕ) (x : Act) (h : HoldView) (m : Material) (u : Use) (os : List Owed)
    → let place : Place = record { lane = lane; line = line } in
    let row : Columns = use_row via place at (deed.Rx from bytes) h m u in
    begins_rx from (head_of bytes) ≡ first x → key_of report.journal h.key ≡ Some m → UseFits (deed.Rx from bytes) m u → of (steps_of report.journal) lane line ≡ step_of place at x (reply.Hold h) [] ∷ (row.steps ++ releases place at os) → shown_in report.shards lane line ≡ row.judgements → row.answer ≡ answer.Delivered id packet
showing_round via report lane line from bytes id packet d run at x h m (used.Sealed n) os begins has fits steps judgements = absurd fits
showing_round via report lane line from bytes id packet d run at x h m (used.Spent killed) os begins has fits steps judgements = absurd fits
showing_round via report lane line from bytes id packet d run at x h m used.BadTag os begins has fits steps judgements =
    let both = same_hold via report lane line bytes id packet d at x h m [] os has tt steps in
    absurd (let bad : ◌≡◌ {A = Option (List ℕ)} None (Some packet) = sym fits ∙ both.1 in cc)
showing_round via report lane line from bytes id packet d run at x h m (used.Refused v) os begins has fits steps judgements =
    let P : Judgement → Type 0 = λ j. j.verdict ≡ refused_as v in
    let verdict : d.replay.verdict ≡ refused_as v = judged_has P report.shards lane line d.shard d.place d.replay (subst (λ (js : List Judgement). AllByRecursion P js) (sym judgements) (refl, tt)) d.judged (here lane line d.replay.place d.judged_by) in
    absurd (not_accepted v (sym verdict ∙ d.fresh))
showing_round via report lane line from bytes id packet d run at x h m (used.Settled s) os begins has fits steps judgements =
    let place : Place = record { lane = lane; line = line } in
    let inner : List ℕ = packet_in (deed.Rx from bytes) m in
    let settles : Step = step_of place at (settle_act via h from inner bytes) (reply.Settled s) [] in
    let no_hold : Holds h settles.entry = λ k is. cc in
    let both = same_hold via report lane line bytes id packet d at x h m (settles ∷ []) os has (no_hold, tt) steps in
    let inner_is : inner ≡ packet = ap (λ o. unwrap_or o []) both.1 in
    let P : Entry → Type 0 = Settles d.hold.peer (settle_act via h from inner bytes) s in
    let look : P (step_of place at x (reply.Hold h) []).entry = λ i. absurd (rx_begins d.hold.peer from (head_of bytes) x begins i) in
    let its = settle_has via report lane line bytes id packet d P _ steps (look, ((λ _. (refl, refl)), all_released P place at (release_settles d.hold.peer (settle_act via h from inner bytes) s place at) os)) d.settles in
    let before : Table = table_before report.journal d.settle in
    let deliver : settled_as h.peer (kind_via via (kind_of inner)) before.live ≡ settled.Deliver = owner_delivers via h.peer (kind_of inner) before.live d.source d.owner (ap kind_of inner_is ∙ d.source_is) d.owner_is (d.owns ∙ ap (λ (w : HoldView). w.peer) both.0) in
    let same : settled_as h.peer (kind_via via (kind_of inner)) before.live ≡ s = settled_so via report.journal run d.settle d.settle_entry h from inner bytes s d.settled.at its.0 its.1 in
    let settled_is : s ≡ settled.Deliver = sym same ∙ deliver in
    let id_is : h.id ≡ id = ap (λ (w : HoldView). w.id) (sym both.0) ∙ d.id_is in
    rw (settled_is, inner_is, id_is) refl

showing : (via : Addr → Addr) (report : Report) (lane line : ℕ) (from : Transport) (bytes : List ℕ) (id : PeerId) (packet : List ℕ) (d : Delivers via report lane line bytes id packet) → IsRun report.journal → (own at : ℕ) (a : Answer)
    → Path (key_of report.journal) via (record { lane = lane; line = line }) (record { lane = own; at = at; deed = deed.Rx from bytes }) (of (steps_of report.journal) lane line) (shown_in report.shards lane line) a → a ≡ answer.Delivered id packet
showing via report lane line from bytes id packet d run own at a (by_at_once r) = absurd (look_has via report lane line bytes id packet d (λ e. ⊥) [] r.steps_are tt)
showing via report lane line from bytes id packet d run own at a (by_command r) = absurd (no_command from (head_of bytes) r.command r.begins_so)
showing via report lane line from bytes id packet d run own at a (by_miss r) =
    let its : d.held.entry.reply ≡ r.r = look_has via report lane line bytes id packet d (λ e. e.reply ≡ r.r) _ r.steps_are (refl, tt) in
    absurd (subst (λ (w : Reply). IsMiss w r.cause) (sym its ∙ d.held.held) r.misses)
showing via report lane line from bytes id packet d run own at a (by_round r) =
    r.answer_is ∙ showing_round via report lane line from bytes id packet d run at r.round.look r.round.hold r.round.material r.round.made (hold_owed r.round.hold r.round.key r.round.peer) r.begins_so r.fits.0 r.fits.1 r.steps_are r.judgements_are
showing via report lane line from bytes id packet d run own at a (by_tick r) = let is = r.is_tick in cc

pub showing_delivers : (script : Script) (start : ℕ) (report : Report) → Legal script start report → (lane line : ℕ) (from : Transport) (bytes : List ℕ) (a : Answer) → Receives report lane line from bytes → answer_at report.lanes lane line ≡ Some a → (id : PeerId) (packet : List ℕ) → Delivers (via_of script.routes) report lane line bytes id packet → a ≡ answer.Delivered id packet
showing_delivers script start report legal lane line from bytes a receives at id packet d =
    let via : Addr → Addr = via_of script.routes in
    let path : LinePath via report lane line a = line_path script start report legal lane line a at in
    let P : Deed → Type 0 = λ d. Path (key_of report.journal) via (record { lane = lane; line = line }) (record { lane = path.its.lane; at = path.its.at; deed = d }) (of (steps_of report.journal) lane line) (shown_in report.shards lane line) a in
    showing via report lane line from bytes id packet d legal.journal.runs path.its.lane path.its.at a (subst P (path_deed via report lane line a path (deed.Rx from bytes) receives) path.path)

-- ---- at most once under a key

-- What a delivered line holds is what any of its look-ups held.
delivered_holds : (via : Addr → Addr) (report : Report) (lane line : ℕ) (id : PeerId) (packet : List ℕ) (l : DeliveredLine via report lane line id packet) (k : HoldView) → LooksUp report lane line k → k ≡ l.row.h
delivered_holds via report lane line id packet l k looks =
    let row = l.row in
    let place : Place = record { lane = lane; line = line } in
    let at : ℕ = l.path.its.at in
    let P : Entry → Type 0 = Holds row.h in
    let look : P (step_of place at row.x (reply.Hold row.h) []).entry = λ k is. cc in
    let settles : P (step_of place at (settle_act via row.h row.from packet row.bytes) (reply.Settled settled.Deliver) []).entry = λ k is. cc in
    let gives : AllByRecursion (λ s. P s.entry) (releases place at row.os) = all_released P place at (release_holds row.h place at) row.os in
    entry_has P empty_table report.journal lane line looks.n looks.entry (subst (λ (ss : List Step). AllByRecursion (λ s. P s.entry) ss) (sym row.steps) (look, (settles, gives))) looks.made.at (here lane line looks.entry.place looks.made.place) k looks.held

-- The accepted replay step of a line that delivered under a key.
record AcceptedUnder (report : Report) (lane line key packet_id : ℕ) : Type 0 where
  shard : ℕ
  i : ℕ
  r : ReplayEntry
  at : judged_at report.shards shard i ≡ Some r
  place : r.place ≡ record { lane = lane; line = line }
  key_is : r.key ≡ key
  id_is : r.id ≡ packet_id
  accepted : r.verdict ≡ Accept

accepted_under : (script : Script) (start : ℕ) (report : Report) → Legal script start report → (key packet_id lane line : ℕ) → DeliveredUnder report lane line key packet_id → AcceptedUnder report lane line key packet_id
accepted_under script start report legal key packet_id lane line d =
    let via : Addr → Addr = via_of script.routes in
    let l : DeliveredLine via report lane line d.id d.packet = delivered_line script start report legal lane line d.id d.packet d.answered in
    let judged = judged_found report.shards lane line 0 (replay_of (record { lane = lane; line = line }) l.path.its.at l.row.h l.row.bytes Accept) (ap (λ (js : List Judgement). slice_get js 0) l.row.judgements) in
    let hold : d.hold ≡ l.row.h = delivered_holds via report lane line d.id d.packet l d.hold d.held in
    let bytes : l.row.bytes ≡ d.bytes = its_bytes via report lane line d.id d.packet l d.from d.bytes d.receives in
    record {
      shard = judged.shard;
      i = judged.i;
      r = judged.r;
      at = judged.at;
      place = ap (λ (j : Judgement). j.place) judged.is;
      key_is = ap (λ (j : Judgement). j.key) judged.is ∙ ap (λ (w : HoldView). w.key) (sym hold) ∙ d.key_is;
      id_is = ap (λ (j : Judgement). j.id) judged.is ∙ ap packet_id_of bytes ∙ d.packet_id_is;
      accepted = ap (λ (j : Judgement). j.verdict) judged.is;
    }

pub delivers_once : (script : Script) (start : ℕ) (report : Report) → Legal script start report → AcceptsOnce report.shards → DeliversOnce report
delivers_once script start report legal accepts key packet_id lane line other later d e =
    let a : AcceptedUnder report lane line key packet_id = accepted_under script start report legal key packet_id lane line d in
    let b : AcceptedUnder report other later key packet_id = accepted_under script start report legal key packet_id other later e in
    let same = accepts a.shard b.shard a.i b.i a.r b.r a.at b.at a.accepted b.accepted (a.key_is ∙ sym b.key_is) (a.id_is ∙ sym b.id_is) in
    let found : Some a.r ≡ Some b.r = sym a.at ∙ ap (λ s. judged_at report.shards s a.i) same.0 ∙ ap (λ i. judged_at report.shards b.shard i) same.1 ∙ b.at in
    let one : a.r ≡ b.r = cc in
    let place : ◌≡◌ {A = Place} (record { lane = lane; line = line }) (record { lane = other; line = later }) = sym a.place ∙ ap (λ (r : ReplayEntry). r.place) one ∙ b.place in
    (ap (λ (p : Place). p.lane) place, ap (λ (p : Place). p.line) place)
