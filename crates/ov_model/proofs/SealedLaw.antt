-- Each sealed datagram of a legal report was sealed with a key that the history installed, and each ping for the
-- peer that was due.
use Rattle.std.proofs.Common.{ℕ, ◌≡◌, zero, suc, List, [], ◌∷◌, ◌++◌, refl, sym, ◌∙◌, subst, ap, inl, inr}
use Rattle.std.specs.Prelude.{⊤, max, Option, Some, None, Result, Ok, Err, slice_get, take}
use Rattle.std.specs.Option.{option_and_then}
use Rattle.std.proofs.lemmas.Option.{slice_get_within}
use Rattle.ov_base.specs.declared.address.Addr.{Addr}
use Rattle.ov_base.specs.declared.address.Transport.{Transport}
use Rattle.ov_model.specs.declared.ident.PeerId.{PeerId}
use Rattle.ov_model.specs.declared.ident.KeyId.{KeyId}
use Rattle.ov_model.specs.declared.place.Place.{Place}
use Rattle.ov_model.specs.declared.command.Command.{Command}
use Rattle.ov_model.specs.declared.command.Command.TheVariants as command
use Rattle.ov_model.specs.declared.act.Act.{Act}
use Rattle.ov_model.specs.declared.act.Act.TheVariants as act
use Rattle.ov_model.specs.declared.reply.Errno.{Errno}
use Rattle.ov_model.specs.declared.reply.HoldView.{HoldView}
use Rattle.ov_model.specs.declared.reply.Reply.TheVariants as reply
use Rattle.ov_model.specs.declared.reply.Settled.TheVariants as settled
use Rattle.ov_model.specs.declared.answer.Answer.{Answer}
use Rattle.ov_model.specs.declared.answer.Answer.TheVariants as answer
use Rattle.ov_model.specs.declared.answer.DropCause.{DropCause}
use Rattle.ov_model.specs.declared.answer.DropCause.TheVariants as drop
use Rattle.ov_model.specs.declared.answer.PingOut.{PingOut}
use Rattle.ov_model.specs.declared.answer.PingOutcome.TheVariants as outcome
use Rattle.ov_model.specs.declared.answer.SealedOut.{SealedOut}
use Rattle.ov_model.specs.declared.stand.Use.{Use}
use Rattle.ov_model.specs.declared.stand.Use.TheVariants as used
use Rattle.ov_model.specs.declared.line.Line.{Line}
use Rattle.ov_model.specs.declared.line.Deed.{Deed}
use Rattle.ov_model.specs.declared.line.Deed.TheVariants as deed
use Rattle.ov_model.specs.declared.line.Script.{Script}
use Rattle.ov_model.specs.declared.report.LaneLog.{LaneLog}
use Rattle.ov_model.specs.declared.report.Report.{Report}
use Rattle.ov_model.specs.Ident.{peer_id, key_id}
use Rattle.ov_model.specs.Tables.{Peer, Table, Material, empty_table, by_serial}
use Rattle.ov_model.specs.Step.{Outcome, hold_of, keep_look, act_step}
use Rattle.ov_model.specs.Runs.{table_after}
use Rattle.ov_model.specs.Checked.{checked}
use Rattle.ov_model.specs.Events.{Step, Judgement, of, shown_in, steps_of, step_of, releases}
use Rattle.ov_model.specs.Packets.{keepalive, HeadKind, short, data_v1, control, data_v2, head_of, Inner, v4, v6, not_ip, inner_of}
use Rattle.ov_model.specs.Path.{at_once, begins_netlink, begins_tx, rx_look_by, begins_rx, begins, UseFits, sealed_out, use_row, used_outcome, Ping, skipped, pinged, PingFits, PingsFit, ping_steps, pings_steps, ping_outcome, pings_out, TickRow, Path, by_at_once, by_command, by_miss, by_round, by_tick}
use Rattle.ov_model.specs.Keys.{key_of, sealed_ping, sealed_pings, sealed_outs}
use Rattle.ov_model.specs.Via.{via_of}
use Rattle.ov_model.specs.Legal.{Meets, Legal}
use Rattle.ov_model.specs.Laws.{packet_sent, answer_at, IsSealed, SealedUnder, pings_of, ping_at, IsPinged, SealedFor}
use Rattle.ov_model.proofs.Firsts.{found_of}
use Rattle.ov_model.proofs.StepCases.{found_has}
use Rattle.ov_model.proofs.Places.{in_either, step_entry, reply_at}
use Rattle.ov_model.proofs.NonceLaw.{InLane, in_lane, SealedIn, sealed_inside}

-- ---- what is answered at once

-- A refusal by the attributes alone, a drop, or the way to the control program.
netlink_has : (P : Answer → Type 0) → ((e : Errno) → P (answer.Reply (reply.Refused e))) → (r : Result Command Errno) (a : Answer) → begins_netlink r ≡ at_once a → P a
netlink_has P refusal (Ok c) a is = cc
netlink_has P refusal (Err e) a is = let its : answer.Reply (reply.Refused e) ≡ a = cc in subst P its (refusal e)

tx_has : (P : Answer → Type 0) → ((c : DropCause) → P (answer.Dropped c)) → (via : Addr → Addr) (inner : Inner) (a : Answer) → begins_tx via inner ≡ at_once a → P a
tx_has P dropped via (v4 s d) a is = cc
tx_has P dropped via (v6 s d) a is = cc
tx_has P dropped via not_ip a is = let its : answer.Dropped drop.NotIp ≡ a = cc in subst P its (dropped drop.NotIp)

look_has : (P : Answer → Type 0) → ((c : DropCause) → P (answer.Dropped c)) → (id : Option PeerId) (key : Option KeyId) (from : Transport) (a : Answer) → rx_look_by id key from ≡ at_once a → P a
look_has P dropped None None from a is = let its : answer.Dropped drop.Short ≡ a = cc in subst P its (dropped drop.Short)
look_has P dropped None (Some k) from a is = let its : answer.Dropped drop.Short ≡ a = cc in subst P its (dropped drop.Short)
look_has P dropped (Some i) None from a is = let its : answer.Dropped drop.Short ≡ a = cc in subst P its (dropped drop.Short)
look_has P dropped (Some i) (Some k) from a is = cc

rx_has : (P : Answer → Type 0) → ((c : DropCause) → P (answer.Dropped c)) → P answer.Control → (from : Transport) (head : HeadKind) (a : Answer) → begins_rx from head ≡ at_once a → P a
rx_has P dropped control_is from short a is = let its : answer.Dropped drop.Short ≡ a = cc in subst P its (dropped drop.Short)
rx_has P dropped control_is from data_v1 a is = let its : answer.Dropped drop.DataV1 ≡ a = cc in subst P its (dropped drop.DataV1)
rx_has P dropped control_is from control a is = let its : answer.Control ≡ a = cc in subst P its control_is
rx_has P dropped control_is from (data_v2 id key n) a is = look_has P dropped (peer_id id) (key_id key) from a is

pub at_once_has : (P : Answer → Type 0) → ((e : Errno) → P (answer.Reply (reply.Refused e))) → ((c : DropCause) → P (answer.Dropped c)) → P answer.Control → (via : Addr → Addr) (d : Deed) (a : Answer) → begins via d ≡ at_once a → P a
at_once_has P refusal dropped control_is via (deed.Netlink m) a is = netlink_has P refusal (checked m) a is
at_once_has P refusal dropped control_is via (deed.Tx packet) a is = tx_has P dropped via (inner_of packet) a is
at_once_has P refusal dropped control_is via (deed.Rx from bytes) a is = rx_has P dropped control_is from (head_of bytes) a is
at_once_has P refusal dropped control_is via deed.Tick a is = cc
at_once_has P refusal dropped control_is via deed.Down a is = cc
at_once_has P refusal dropped control_is via (deed.Lost id reason) a is = cc

-- ---- what a use seals

-- What is sealed is the packet of a line that sends, or the keepalive message of a tick.
record Seals (d : Deed) (h : HoldView) (m : Material) (s : SealedOut) : Type 0 where
  packet : List ℕ
  sends : packet_sent d ≡ Some packet
  sealed : s ≡ sealed_out h m s.id packet

sealed_so : (d : Deed) (h : HoldView) (m : Material) (packet : List ℕ) (id : ℕ) (s : SealedOut) → packet_sent d ≡ Some packet → sealed_out h m id packet ≡ s → Seals d h m s
sealed_so d h m packet id s sends its = subst (Seals d h m) its (record { packet = packet; sends = sends; sealed = refl })

only_one : (n : ℕ) (x s : SealedOut) → slice_get (x ∷ []) n ≡ Some s → x ≡ s
only_one zero x s at = cc
only_one (suc n) x s at = cc

seals : (via : Addr → Addr) (place : Place) (at : ℕ) (d : Deed) (h : HoldView) (m : Material) (u : Use) (n : ℕ) (s : SealedOut) → UseFits d m u → slice_get (sealed_outs (use_row via place at d h m u).answer) n ≡ Some s → Seals d h m s
seals via place at (deed.Tx packet) h m (used.Sealed id) n s fits is = sealed_so (deed.Tx packet) h m packet id s refl (only_one n (sealed_out h m id packet) s is)
seals via place at (deed.Tx packet) h m (used.Spent killed) n s fits is = cc
seals via place at deed.Tick h m (used.Sealed id) n s fits is = sealed_so deed.Tick h m keepalive id s refl (only_one n (sealed_out h m id keepalive) s is)
seals via place at deed.Tick h m (used.Spent killed) n s fits is = cc
seals via place at (deed.Rx from bytes) h m used.BadTag n s fits is = cc
seals via place at (deed.Rx from bytes) h m (used.Refused x) n s fits is = cc
seals via place at (deed.Rx from bytes) h m (used.Settled settled.Deliver) n s fits is = cc
seals via place at (deed.Rx from bytes) h m (used.Settled settled.Ping) n s fits is = cc
seals via place at (deed.Rx from bytes) h m (used.Settled settled.NotIp) n s fits is = cc
seals via place at (deed.Rx from bytes) h m (used.Settled settled.NotOwner) n s fits is = cc
seals via place at _ h m _ n s fits is = absurd fits

outcome_seals : (h : HoldView) (m : Material) (u : Use) (n : ℕ) (s : SealedOut) → slice_get (sealed_ping (used_outcome h m u)) n ≡ Some s → Seals deed.Tick h m s
outcome_seals h m (used.Sealed id) n s is = sealed_so deed.Tick h m keepalive id s refl (only_one n (sealed_out h m id keepalive) s is)
outcome_seals h m _ n s is = cc

-- ---- the round of what is sealed

-- What is sealed has a look-up with a hold among the line's steps, an act that passes P.
record SealedRow (P : Act → Type 0) (material : ℕ → Option Material) (place : Place) (at : ℕ) (d : Deed) (ss : List Step) (s : SealedOut) : Type 0 where
  look : Act
  looks : P look
  h : HoldView
  m : Material
  m_is : material h.key ≡ Some m
  seals : Seals d h m s
  k : ℕ
  looked : slice_get ss k ≡ Some (step_of place at look (reply.Hold h) [])

-- Any look-up, and the look-up of a peer that was due.
abbrev Any : Act → Type 0
Any a = ⊤

abbrev Keeps : ℕ → Act → Type 0
Keeps peer a = a ≡ act.KeepLook peer

slice_get_front : {X : Type 0} (xs ys : List X) (k : ℕ) (x : X) → slice_get xs k ≡ Some x → slice_get (xs ++ ys) k ≡ Some x
slice_get_front [] ys k x at = cc
slice_get_front (y ∷ xs) ys zero x at = at
slice_get_front (y ∷ xs) ys (suc k) x at = slice_get_front xs ys k x at

in_front : (P : Act → Type 0) (material : ℕ → Option Material) (place : Place) (at : ℕ) (d : Deed) (xs ys : List Step) (s : SealedOut) → SealedRow P material place at d xs s → SealedRow P material place at d (xs ++ ys) s
in_front P material place at d xs ys s r = record { look = r.look; looks = r.looks; h = r.h; m = r.m; m_is = r.m_is; seals = r.seals; k = r.k; looked = slice_get_front xs ys r.k _ r.looked }

behind : (P : Act → Type 0) (material : ℕ → Option Material) (place : Place) (at : ℕ) (d : Deed) (xs ys : List Step) (s : SealedOut) → SealedRow P material place at d ys s → SealedRow P material place at d (xs ++ ys) s
behind P material place at d [] ys s r = r
behind P material place at d (x ∷ xs) ys s r =
    let later : SealedRow P material place at d (xs ++ ys) s = behind P material place at d xs ys s r in
    record { look = later.look; looks = later.looks; h = later.h; m = later.m; m_is = later.m_is; seals = later.seals; k = suc later.k; looked = later.looked }

-- What a ping sealed.
ping_sealed : (material : ℕ → Option Material) (via : Addr → Addr) (place : Place) (at peer : ℕ) (p : Ping) → PingFits material peer p → (n : ℕ) (s : SealedOut) → slice_get (sealed_ping (ping_outcome p)) n ≡ Some s → SealedRow (Keeps peer) material place at deed.Tick (ping_steps via place at peer p) s
ping_sealed material via place at peer skipped fits n s is = cc
ping_sealed material via place at peer (pinged r) fits n s is = record { look = r.look; looks = fits.0; h = r.hold; m = r.material; m_is = fits.1.0; seals = outcome_seals r.hold r.material r.made n s is; k = 0; looked = refl }

-- The n-th sealed datagram of some pings.
pings_sealed : (material : ℕ → Option Material) (via : Addr → Addr) (place : Place) (at : ℕ) (due : List ℕ) (ps : List Ping) → PingsFit material due ps → (n : ℕ) (s : SealedOut) → slice_get (sealed_pings (pings_out due ps)) n ≡ Some s → SealedRow Any material place at deed.Tick (pings_steps via place at due ps) s
pings_sealed material via place at [] [] fits n s is = cc
pings_sealed material via place at [] (p ∷ ps) fits n s is = absurd fits
pings_sealed material via place at (peer ∷ due) [] fits n s is = absurd fits
pings_sealed material via place at (peer ∷ due) (p ∷ ps) fits n s is =
    elim (in_either (sealed_ping (ping_outcome p)) (sealed_pings (pings_out due ps)) n s is) [
      | inl own ↦
          let r : SealedRow (Keeps peer) material place at deed.Tick (ping_steps via place at peer p) s = ping_sealed material via place at peer p fits.0 n s own in
          in_front Any material place at deed.Tick (ping_steps via place at peer p) (pings_steps via place at due ps) s (record { look = r.look; looks = tt; h = r.h; m = r.m; m_is = r.m_is; seals = r.seals; k = r.k; looked = r.looked })
      | inr later ↦ behind Any material place at deed.Tick (ping_steps via place at peer p) (pings_steps via place at due ps) s (pings_sealed material via place at due ps fits.1 later.k s later.at)
    ]

-- The n-th ping, where it sealed.
ping_found : (material : ℕ → Option Material) (via : Addr → Addr) (place : Place) (at : ℕ) (due : List ℕ) (ps : List Ping) → PingsFit material due ps → (n peer : ℕ) (s : SealedOut) → slice_get (pings_out due ps) n ≡ Some (record { peer = peer; outcome = outcome.Sealed s }) → SealedRow (Keeps peer) material place at deed.Tick (pings_steps via place at due ps) s
ping_found material via place at [] [] fits n peer s is = cc
ping_found material via place at [] (p ∷ ps) fits n peer s is = absurd fits
ping_found material via place at (q ∷ due) [] fits n peer s is = absurd fits
ping_found material via place at (q ∷ due) (p ∷ ps) fits zero peer s is =
    let told : ◌≡◌ {A = PingOut} (record { peer = q; outcome = ping_outcome p }) (record { peer = peer; outcome = outcome.Sealed s }) = cc in
    let its : q ≡ peer = ap (λ (o : PingOut). o.peer) told in
    let sealed : ping_outcome p ≡ outcome.Sealed s = ap (λ (o : PingOut). o.outcome) told in
    let own : SealedRow (Keeps q) material place at deed.Tick (ping_steps via place at q p) s = ping_sealed material via place at q p fits.0 0 s (ap (λ o. slice_get (sealed_ping o) 0) sealed) in
    subst (λ (k : ℕ). SealedRow (Keeps k) material place at deed.Tick (ping_steps via place at q p ++ pings_steps via place at due ps) s) its
    (in_front (Keeps q) material place at deed.Tick (ping_steps via place at q p) (pings_steps via place at due ps) s own)
ping_found material via place at (q ∷ due) (p ∷ ps) fits (suc n) peer s is = behind (Keeps peer) material place at deed.Tick (ping_steps via place at q p) (pings_steps via place at due ps) s (ping_found material via place at due ps fits.1 n peer s is)

-- What stands in the pings of a tick stands in its line.
in_tick : (P : Act → Type 0) (material : ℕ → Option Material) (via : Addr → Addr) (place : Place) (line : Line) (ss : List Step) (js : List Judgement) (a : Answer) (r : TickRow material via place line ss js a) (s : SealedOut) → SealedRow P material place line.at deed.Tick (pings_steps via place line.at r.due r.pings) s → SealedRow P material place line.at line.deed ss s
in_tick P material via place line ss js a r s own =
    let pings : List Step = pings_steps via place line.at r.due r.pings in
    let ticked : Step = step_of place line.at (act.Do command.Tick) (reply.Ticked r.expired r.due) r.taken in
    let later : SealedRow P material place line.at deed.Tick (releases place line.at r.os ++ pings) s = behind P material place line.at deed.Tick (releases place line.at r.os) pings s own in
    let whole : SealedRow P material place line.at deed.Tick (ticked ∷ (releases place line.at r.os ++ pings)) s = behind P material place line.at deed.Tick (ticked ∷ []) (releases place line.at r.os ++ pings) s later in
    let ticks : SealedRow P material place line.at line.deed (ticked ∷ (releases place line.at r.os ++ pings)) s = subst (λ (d : Deed). SealedRow P material place line.at d (ticked ∷ (releases place line.at r.os ++ pings)) s) (sym r.is_tick) whole in
    subst (λ (l : List Step). SealedRow P material place line.at line.deed l s) (sym r.steps_are) ticks

nothing_there : {X : Type 0} (xs : List X) (n : ℕ) (x : X) → xs ≡ [] → slice_get xs n ≡ Some x → ⊥
nothing_there [] n x none at = cc
nothing_there (y ∷ xs) n x none at = cc

sealed_row : (material : ℕ → Option Material) (via : Addr → Addr) (place : Place) (line : Line) (ss : List Step) (js : List Judgement) (a : Answer) (n : ℕ) (s : SealedOut) → slice_get (sealed_outs a) n ≡ Some s → Path material via place line ss js a → SealedRow Any material place line.at line.deed ss s
sealed_row material via place line ss js a n s out (by_at_once r) = absurd (nothing_there (sealed_outs a) n s (at_once_has (λ b. sealed_outs b ≡ []) (λ e. refl) (λ c. refl) refl via line.deed a r.begins_so) out)
sealed_row material via place line ss js a n s out (by_command r) = absurd (nothing_there (sealed_outs a) n s (ap sealed_outs r.answer_is) out)
sealed_row material via place line ss js a n s out (by_miss r) = absurd (nothing_there (sealed_outs a) n s (ap sealed_outs r.answer_is) out)
sealed_row material via place line ss js a n s out (by_round r) = record {
  look = r.round.look;
  looks = tt;
  h = r.round.hold;
  m = r.round.material;
  m_is = r.fits.0;
  seals = seals via place line.at line.deed r.round.hold r.round.material r.round.made n s r.fits.1 (subst (λ (b : Answer). slice_get (sealed_outs b) n ≡ Some s) r.answer_is out);
  k = 0;
  looked = ap (λ (l : List Step). slice_get l 0) r.steps_are;
}
sealed_row material via place line ss js a n s out (by_tick r) =
    in_tick Any material via place line ss js a r s (pings_sealed material via place line.at r.due r.pings r.fits n s (subst (λ (b : Answer). slice_get (sealed_outs b) n ≡ Some s) r.answer_is out))

-- No use but a tick's answers with pings.
use_without_pings : (via : Addr → Addr) (place : Place) (at : ℕ) (d : Deed) (h : HoldView) (m : Material) (u : Use) → UseFits d m u → pings_of (use_row via place at d h m u).answer ≡ []
use_without_pings via place at (deed.Tx packet) h m (used.Sealed id) fits = refl
use_without_pings via place at (deed.Tx packet) h m (used.Spent killed) fits = refl
use_without_pings via place at deed.Tick h m (used.Sealed id) fits = refl
use_without_pings via place at deed.Tick h m (used.Spent killed) fits = refl
use_without_pings via place at (deed.Rx from bytes) h m used.BadTag fits = refl
use_without_pings via place at (deed.Rx from bytes) h m (used.Refused x) fits = refl
use_without_pings via place at (deed.Rx from bytes) h m (used.Settled settled.Deliver) fits = refl
use_without_pings via place at (deed.Rx from bytes) h m (used.Settled settled.Ping) fits = refl
use_without_pings via place at (deed.Rx from bytes) h m (used.Settled settled.NotIp) fits = refl
use_without_pings via place at (deed.Rx from bytes) h m (used.Settled settled.NotOwner) fits = refl
use_without_pings via place at _ h m _ fits = absurd fits

ping_row : (material : ℕ → Option Material) (via : Addr → Addr) (place : Place) (line : Line) (ss : List Step) (js : List Judgement) (a : Answer) (n peer : ℕ) (s : SealedOut) → slice_get (pings_of a) n ≡ Some (record { peer = peer; outcome = outcome.Sealed s }) → Path material via place line ss js a → SealedRow (Keeps peer) material place line.at line.deed ss s
ping_row material via place line ss js a n peer s out (by_at_once r) = absurd (nothing_there (pings_of a) n _ (at_once_has (λ b. pings_of b ≡ []) (λ e. refl) (λ c. refl) refl via line.deed a r.begins_so) out)
ping_row material via place line ss js a n peer s out (by_command r) = absurd (nothing_there (pings_of a) n _ (ap pings_of r.answer_is) out)
ping_row material via place line ss js a n peer s out (by_miss r) = absurd (nothing_there (pings_of a) n _ (ap pings_of r.answer_is) out)
ping_row material via place line ss js a n peer s out (by_round r) = absurd (nothing_there (pings_of a) n _ (ap pings_of r.answer_is ∙ use_without_pings via place line.at line.deed r.round.hold r.round.material r.round.made r.fits.1) out)
ping_row material via place line ss js a n peer s out (by_tick r) =
    let told : slice_get (pings_out r.due r.pings) n ≡ Some (record { peer = peer; outcome = outcome.Sealed s }) = subst (λ (b : Answer). slice_get (pings_of b) n ≡ Some (record { peer = peer; outcome = outcome.Sealed s })) r.answer_is out in
    in_tick (Keeps peer) material via place line ss js a r s (ping_found material via place line.at r.due r.pings r.fits n peer s told)

-- ---- what the report shows

-- What the row of a line that seals says of the report.
abbrev row_shows : (P : Act → Type 0) (report : Report) (lane line : ℕ) (s : SealedOut) (log : LaneLog) (its : Line) → slice_get report.lanes lane ≡ Some log → slice_get log.lines line ≡ Some its
    → SealedRow P (key_of report.journal) (record { lane = lane; line = line }) its.at its.deed (of (steps_of report.journal) lane line) s → SealedUnder report lane line s
row_shows P report lane line s log its log_is its_is row =
    let step : Step = step_of (record { lane = lane; line = line }) its.at row.look (reply.Hold row.h) [] in
    let found = step_entry empty_table report.journal lane line row.k step row.looked in
    record {
      packet = row.seals.packet;
      sends = record { what = its.deed; has = record { log = log; log_is = log_is; its = its; its_is = its_is; deed_is = refl }; sends = row.seals.sends };
      hold = row.h;
      held = record { n = found.n; entry = step.entry; made = record { at = found.at; place = refl }; held = refl };
      key_is = ap (λ (o : SealedOut). o.key) row.seals.sealed;
      to_is = ap (λ (o : SealedOut). o.to) row.seals.sealed;
      material = row.m;
      material_is = row.m_is;
      datagram_is = ap (λ (o : SealedOut). o.datagram) row.seals.sealed;
    }

-- A line of the report with its path.
pub record LinePath (via : Addr → Addr) (report : Report) (lane line : ℕ) (a : Answer) : Type 0 where
  pub log : LaneLog
  pub log_is : slice_get report.lanes lane ≡ Some log
  pub its : Line
  pub its_is : slice_get log.lines line ≡ Some its
  pub path : Path (key_of report.journal) via (record { lane = lane; line = line }) its (of (steps_of report.journal) lane line) (shown_in report.shards lane line) a

pub line_path : (script : Script) (start : ℕ) (report : Report) → Legal script start report → (lane line : ℕ) (a : Answer) → answer_at report.lanes lane line ≡ Some a → LinePath (via_of script.routes) report lane line a
line_path script start report legal lane line a at =
    let via : Addr → Addr = via_of script.routes in
    let x : InLane report.lanes lane line a = in_lane report.lanes lane line a at in
    let meets : Meets (key_of report.journal) via (steps_of report.journal) report.shards lane x.log.lines x.log.answers line = (legal.lines.each lane x.log x.log_is).each line (slice_get_within x.log.answers line a x.at) in
    let answers : Some meets.answer ≡ Some a = sym meets.answer_is ∙ x.at in
    let same : meets.answer ≡ a = cc in
    record { log = x.log; log_is = x.log_is; its = meets.line; its_is = meets.line_is; path = subst (Path (key_of report.journal) via (record { lane = lane; line = line }) meets.line (of (steps_of report.journal) lane line) (shown_in report.shards lane line)) same meets.path }

pub sealed_under : (script : Script) (first : ℕ) (report : Report) → Legal script first report → (lane line n : ℕ) (s : SealedOut) → IsSealed report lane line n s → SealedUnder report lane line s
sealed_under script first report legal lane line n s at =
    let x : SealedIn report.lanes lane line n s = sealed_inside report.lanes lane line n s at in
    let l : LinePath (via_of script.routes) report lane line x.answer = line_path script first report legal lane line x.answer x.at in
    row_shows Any report lane line s l.log l.its l.log_is l.its_is (sealed_row (key_of report.journal) (via_of script.routes) _ l.its _ _ x.answer n s x.out l.path)

-- A peer that was due is looked up by its serial.
keep_holds : (t : Table) (now peer : ℕ) (h : HoldView) → (act_step t now (act.KeepLook peer)).reply ≡ reply.Hold h → h.peer ≡ peer
unfolding keep_look
keep_holds t now peer h holds =
    let P : Outcome → Type 0 = λ o. o.reply ≡ reply.Hold h → h.peer ≡ peer in
    found_has P t now reply.Skip (by_serial peer t.live) _ (λ is. cc)
    (λ p found. found_has P t now reply.Skip p.slots.primary _ (λ is. cc) (λ k has is.
    let its : hold_of p k ≡ h = cc in
    ap (λ (w : HoldView). w.peer) (sym its) ∙ found_of (λ (q : Peer). q.serial) peer t.live p found)) holds

-- The answer with a ping in it.
record PingIn (lanes : List LaneLog) (lane line n : ℕ) (p : PingOut) : Type 0 where
  answer : Answer
  at : answer_at lanes lane line ≡ Some answer
  out : slice_get (pings_of answer) n ≡ Some p

ping_in : (lanes : List LaneLog) (lane line n : ℕ) (p : PingOut) (a : Option Answer) → answer_at lanes lane line ≡ a → ping_at lanes lane line n ≡ Some p → PingIn lanes lane line n p
ping_in lanes lane line n p None is at = absurd (let none : ping_at lanes lane line n ≡ None = ap (option_and_then (λ (x : Answer). slice_get (pings_of x) n)) is in cc)
ping_in lanes lane line n p (Some a) is at =
    let its : ping_at lanes lane line n ≡ slice_get (pings_of a) n = ap (option_and_then (λ (x : Answer). slice_get (pings_of x) n)) is in
    record { answer = a; at = is; out = sym its ∙ at }

pub pinged_for : (script : Script) (first : ℕ) (report : Report) → Legal script first report → (lane line n peer : ℕ) (s : SealedOut) → IsPinged report lane line n peer s → SealedFor report lane line peer s
pinged_for script first report legal lane line n peer s at =
    let place : Place = record { lane = lane; line = line } in
    let x : PingIn report.lanes lane line n (record { peer = peer; outcome = outcome.Sealed s }) = ping_in report.lanes lane line n _ (answer_at report.lanes lane line) refl at in
    let l : LinePath (via_of script.routes) report lane line x.answer = line_path script first report legal lane line x.answer x.at in
    let row : SealedRow (Keeps peer) (key_of report.journal) place l.its.at l.its.deed (of (steps_of report.journal) lane line) s = ping_row (key_of report.journal) (via_of script.routes) place l.its _ _ x.answer n peer s x.out l.path in
    let look : Step = step_of place l.its.at row.look (reply.Hold row.h) [] in
    let found = step_entry empty_table report.journal lane line row.k look row.looked in
    let before : Table = table_after empty_table (take found.n report.journal) in
    let now : ℕ = max before.moment l.its.at in
    let held : (act_step before now row.look).reply ≡ reply.Hold row.h = reply_at empty_table report.journal found.n look.entry legal.journal.runs found.at in
    let keeps : (act_step before now (act.KeepLook peer)).reply ≡ reply.Hold row.h = ap (λ (a : Act). (act_step before now a).reply) (sym row.looks) ∙ held in
    record { under = row_shows (Keeps peer) report lane line s l.log l.its l.log_is l.its_is row; peer_is = keep_holds before now peer row.h keeps }
