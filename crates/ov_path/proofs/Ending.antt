-- A line that is over: its events and its answer have a path.
use Rattle.std.proofs.Common.{ℕ, ◌≡◌, List, [], ◌∷◌, ◌++◌, refl, sym, ◌∙◌, ap, append-nil, subst, Bool, true, false}
use Rattle.std.specs.Prelude.{Option, Some, None, is_some, is_none, if◌then◌else◌, ◌&&◌, Result, Ok, Err}
use Rattle.std.proofs.lemmas.List.{map-append}
use Rattle.ov_base.specs.declared.address.Addr.{Addr}
use Rattle.ov_model.specs.declared.place.Place.{Place}
use Rattle.ov_model.specs.declared.act.Act.{Act}
use Rattle.ov_model.specs.declared.act.Act.TheVariants as act
use Rattle.ov_model.specs.declared.command.Command.TheVariants as command
use Rattle.ov_model.specs.declared.hold.Owed.{Owed}
use Rattle.ov_model.specs.declared.hold.Owed.TheVariants as owed
use Rattle.ov_model.specs.declared.reply.HoldView.{HoldView}
use Rattle.ov_model.specs.declared.reply.Settled.{Settled}
use Rattle.ov_model.specs.declared.reply.Settled.TheVariants as settled
use Rattle.ov_model.specs.declared.reply.Reply.{Reply}
use Rattle.ov_model.specs.declared.reply.Reply.TheVariants as reply
use Rattle.ov_model.specs.declared.stand.Use.{Use}
use Rattle.ov_model.specs.declared.stand.Use.TheVariants as used
use Rattle.ov_model.specs.declared.line.Line.{Line}
use Rattle.ov_model.specs.declared.line.Deed.{Deed}
use Rattle.ov_model.specs.declared.line.Deed.TheVariants as deed
use Rattle.ov_model.specs.declared.answer.Answer.{Answer}
use Rattle.ov_model.specs.declared.answer.Answer.TheVariants as answer
use Rattle.ov_model.specs.declared.answer.DropCause.{DropCause}
use Rattle.ov_model.specs.Tables.{Material}
use Rattle.ov_model.specs.Events.{Event, GaveKey, GavePeer, Step, step_of, release_of, releases, steps_in, judgements_in, draws_in}
use Rattle.ov_model.specs.Keys.{sealed_ids}
use Rattle.ov_model.specs.Path.{at_once, first, begins, IsLook, IsMiss, UseFits, settled_answer, Columns, use_row, hold_owed, PingsFit, pings_steps, pings_out, by_at_once, by_command, by_miss, by_round, by_tick}
use Rattle.ov_path.specs.Desks.{Holding, View, Called, owed_if, first_owed, first_of, look_holds}
use Rattle.ov_path.specs.Stages.{ends, left_in, is_pause, is_ended}
use Rattle.ov_path.specs.declared.stage.Pinging.{Pinging}
use Rattle.ov_path.specs.declared.stage.Pings.{Pings}
use Rattle.ov_path.specs.declared.stage.Stage.{Stage}
use Rattle.ov_path.specs.declared.stage.Stage.TheVariants as stage
use Rattle.ov_path.specs.Walks.{released, use_events, AtReplied, AtPeerGiven, Ticks, Walking, Over, IsOpen, GoesOn}
use Rattle.ov_path.proofs.Beginning.{at_once_unsealed}
use Rattle.ov_path.proofs.Seeing.{lefts, all_done, same_head}
use Rattle.ov_path.proofs.Ticks.{paused, pause_free, is_last, last_owed, not_so}
use Rattle.ov_path.proofs.Going.{LookSays, look_says}

-- ---- columns

steps_released-append : (place : Place) (at : ℕ) (os : List Owed) (es : List Event) → steps_in (released place at os ++ es) ≡ releases place at os ++ steps_in es
steps_released-append place at [] es = refl
steps_released-append place at (o ∷ os) es = same_head (release_of place at o) (steps_in (released place at os ++ es)) (releases place at os ++ steps_in es) (steps_released-append place at os es)

judgements_released-append : (place : Place) (at : ℕ) (os : List Owed) (es : List Event) → judgements_in (released place at os ++ es) ≡ judgements_in es
judgements_released-append place at [] es = refl
judgements_released-append place at (o ∷ os) es = judgements_released-append place at os es

draws_released-append : (place : Place) (at : ℕ) (os : List Owed) (es : List Event) → draws_in (released place at os ++ es) ≡ draws_in es
draws_released-append place at [] es = refl
draws_released-append place at (o ∷ os) es = draws_released-append place at os es

steps_released : (place : Place) (at : ℕ) (os : List Owed) → steps_in (released place at os) ≡ releases place at os
steps_released place at [] = refl
steps_released place at (o ∷ os) = same_head (release_of place at o) (steps_in (released place at os)) (releases place at os) (steps_released place at os)

judgements_released : (place : Place) (at : ℕ) (os : List Owed) → judgements_in (released place at os) ≡ []
judgements_released place at [] = refl
judgements_released place at (o ∷ os) = judgements_released place at os

draws_released : (place : Place) (at : ℕ) (os : List Owed) → draws_in (released place at os) ≡ []
draws_released place at [] = refl
draws_released place at (o ∷ os) = draws_released place at os

steps_of_use : (via : Addr → Addr) (place : Place) (at : ℕ) (d : Deed) (h : HoldView) (m : Material) (u : Use) (es : List Event) → steps_in (use_events via place at d h m u ++ es) ≡ (use_row via place at d h m u).steps ++ steps_in es
steps_of_use via place at (deed.Netlink n) h m u es = refl
steps_of_use via place at deed.Down h m u es = refl
steps_of_use via place at (deed.Lost id reason) h m u es = refl
steps_of_use via place at deed.Tick h m (used.Sealed i) es = refl
steps_of_use via place at deed.Tick h m (used.Spent killed) es = refl
steps_of_use via place at deed.Tick h m used.BadTag es = refl
steps_of_use via place at deed.Tick h m (used.Refused v) es = refl
steps_of_use via place at deed.Tick h m (used.Settled s) es = refl
steps_of_use via place at (deed.Tx packet) h m (used.Sealed i) es = refl
steps_of_use via place at (deed.Tx packet) h m (used.Spent killed) es = refl
steps_of_use via place at (deed.Tx packet) h m used.BadTag es = refl
steps_of_use via place at (deed.Tx packet) h m (used.Refused v) es = refl
steps_of_use via place at (deed.Tx packet) h m (used.Settled s) es = refl
steps_of_use via place at (deed.Rx from bytes) h m (used.Sealed i) es = refl
steps_of_use via place at (deed.Rx from bytes) h m (used.Spent killed) es = refl
steps_of_use via place at (deed.Rx from bytes) h m used.BadTag es = refl
steps_of_use via place at (deed.Rx from bytes) h m (used.Refused v) es = refl
steps_of_use via place at (deed.Rx from bytes) h m (used.Settled s) es = refl

judgements_of_use : (via : Addr → Addr) (place : Place) (at : ℕ) (d : Deed) (h : HoldView) (m : Material) (u : Use) (es : List Event) → judgements_in (use_events via place at d h m u ++ es) ≡ (use_row via place at d h m u).judgements ++ judgements_in es
judgements_of_use via place at (deed.Netlink n) h m u es = refl
judgements_of_use via place at deed.Down h m u es = refl
judgements_of_use via place at (deed.Lost id reason) h m u es = refl
judgements_of_use via place at deed.Tick h m (used.Sealed i) es = refl
judgements_of_use via place at deed.Tick h m (used.Spent killed) es = refl
judgements_of_use via place at deed.Tick h m used.BadTag es = refl
judgements_of_use via place at deed.Tick h m (used.Refused v) es = refl
judgements_of_use via place at deed.Tick h m (used.Settled s) es = refl
judgements_of_use via place at (deed.Tx packet) h m (used.Sealed i) es = refl
judgements_of_use via place at (deed.Tx packet) h m (used.Spent killed) es = refl
judgements_of_use via place at (deed.Tx packet) h m used.BadTag es = refl
judgements_of_use via place at (deed.Tx packet) h m (used.Refused v) es = refl
judgements_of_use via place at (deed.Tx packet) h m (used.Settled s) es = refl
judgements_of_use via place at (deed.Rx from bytes) h m (used.Sealed i) es = refl
judgements_of_use via place at (deed.Rx from bytes) h m (used.Spent killed) es = refl
judgements_of_use via place at (deed.Rx from bytes) h m used.BadTag es = refl
judgements_of_use via place at (deed.Rx from bytes) h m (used.Refused v) es = refl
judgements_of_use via place at (deed.Rx from bytes) h m (used.Settled s) es = refl

settled_unsealed : (s : Settled) (h : HoldView) (packet : List ℕ) → [] ≡ sealed_ids (settled_answer s h packet)
settled_unsealed settled.Deliver h packet = refl
settled_unsealed settled.Ping h packet = refl
settled_unsealed settled.NotIp h packet = refl
settled_unsealed settled.NotOwner h packet = refl

-- What a use draws is what it seals.
draws_of_use : (via : Addr → Addr) (place : Place) (at : ℕ) (d : Deed) (h : HoldView) (m : Material) (u : Use) (es : List Event) → UseFits d m u → draws_in es ≡ [] → draws_in (use_events via place at d h m u ++ es) ≡ sealed_ids (use_row via place at d h m u).answer
draws_of_use via place at (deed.Netlink n) h m u es fits none = absurd fits
draws_of_use via place at deed.Down h m u es fits none = absurd fits
draws_of_use via place at (deed.Lost id reason) h m u es fits none = absurd fits
draws_of_use via place at deed.Tick h m (used.Sealed i) es fits none = rw none refl
draws_of_use via place at deed.Tick h m (used.Spent killed) es fits none = none
draws_of_use via place at deed.Tick h m used.BadTag es fits none = absurd fits
draws_of_use via place at deed.Tick h m (used.Refused v) es fits none = absurd fits
draws_of_use via place at deed.Tick h m (used.Settled s) es fits none = absurd fits
draws_of_use via place at (deed.Tx packet) h m (used.Sealed i) es fits none = rw none refl
draws_of_use via place at (deed.Tx packet) h m (used.Spent killed) es fits none = none
draws_of_use via place at (deed.Tx packet) h m used.BadTag es fits none = absurd fits
draws_of_use via place at (deed.Tx packet) h m (used.Refused v) es fits none = absurd fits
draws_of_use via place at (deed.Tx packet) h m (used.Settled s) es fits none = absurd fits
draws_of_use via place at (deed.Rx from bytes) h m (used.Sealed i) es fits none = absurd fits
draws_of_use via place at (deed.Rx from bytes) h m (used.Spent killed) es fits none = absurd fits
draws_of_use via place at (deed.Rx from bytes) h m used.BadTag es fits none = none
draws_of_use via place at (deed.Rx from bytes) h m (used.Refused v) es fits none = none
draws_of_use via place at (deed.Rx from bytes) h m (used.Settled s) es fits none = none ∙ settled_unsealed s h _

-- ---- ends

-- A line that is answered at once.
pub nothing_over : {via : Addr → Addr} {place : Place} {line : Line} {w : View} (b : Answer) →
    Walking via place line w stage.Fresh → begins via line.deed ≡ at_once b → Over via place line w b
nothing_over {via = via} {line = line} b k begins_so = record {
  owes = k.trail.owes;
  hold = k.hold;
  path = by_at_once (record { begins_so = begins_so; steps_are = rw k.trail.none refl; judgements_are = rw k.trail.none refl });
  drawn = rw k.trail.none (sym (at_once_unsealed via line.deed b begins_so));
  left = k.due;
}

miss_holds : (before : Holding) (r : Reply) (cause : DropCause) → IsMiss r cause → look_holds before r ≡ before
miss_holds before reply.NoPeer cause miss = refl
miss_holds before reply.NoKey cause miss = refl
miss_holds before _ cause miss = absurd miss

-- A look-up that found nothing.
pub missed_over : {D : Type 0} {view : D → View} {does : D → Event → D → Type 0} {d e : D} {via : Addr → Addr} {place : Place} {line : Line} (look : Act) (r : Reply) (cause : DropCause) →
    Walking via place line (view d) stage.Fresh → begins via line.deed ≡ first look → IsLook look → IsMiss r cause →
    Called view does d place (record { at = line.at; act = look }) r e →
    Over via place line (view e) (answer.Dropped cause)
missed_over {view = view} {d = d} {e = e} look r cause k begins_so is_look miss called =
    let says : LookSays (view e).material (view d).hold look r called.taken called.joined = look_says (view e).material (view d).hold look r called.taken called.joined is_look called.joins called.has in
    record {
      owes = called.leaves.owing_is ∙ rw (k.trail.owes, says.joins) refl;
      hold = called.leaves.hold_is ∙ says.hold ∙ miss_holds (view d).hold r cause miss ∙ k.hold;
      path = by_miss (record { look = look; r = r; cause = cause; begins_so = begins_so; looks = is_look; misses = miss; steps_are = rw (called.leaves.events, k.trail.none, says.takes) refl; judgements_are = rw (called.leaves.events, k.trail.none) refl; answer_is = refl });
      drawn = rw (called.leaves.events, k.trail.none) refl;
      left = lefts k.due called.leaves ∙ says.left_so;
    }

-- A command after its releases.
replied_over : {via : Addr → Addr} {place : Place} {line : Line} {w : View} {b : Answer} →
    Walking via place line w (stage.Replied b) → w.owing ≡ [] → Over via place line w b
replied_over {via = via} {place = place} {line = line} {w = w} {b = b} k none =
    let t : AtReplied via place line w b = k.trail in
    let all : t.done ≡ t.all = all_done t.done w.owing t.all t.owes none in
    record {
      owes = none;
      hold = k.hold;
      left = k.due;
      path = by_command (record {
        command = t.command;
        r = t.r;
        taken = t.taken;
        os = t.all;
        begins_so = t.begins_so;
        not_tick = t.not_tick;
        some = t.some;
        steps_are = rw (t.events, ← all) (same_head _ (steps_in (released place line.at t.done)) (releases place line.at t.done) (steps_released place line.at t.done));
        judgements_are = rw t.events (judgements_released place line.at t.done);
        answer_is = t.answer;
      });
      drawn = rw (t.events, t.answer) (draws_released place line.at t.done);
    }

-- A hold after its releases.
held_over : {via : Addr → Addr} {place : Place} {line : Line} {w : View} {h : HoldView} {u : Use} {b : Answer} →
    Walking via place line w (stage.PeerGiven h u b) → w.owing ≡ [] → Over via place line w b
held_over {via = via} {place = place} {line = line} {w = w} {h = h} {u = u} {b = b} k none =
    let t : AtPeerGiven via place line w h u b = k.trail in
    let keys : List Owed = owed_if t.key (owed.Key h.key) in
    let peers : List Owed = owed_if t.peer (owed.Peer h.peer) in
    let all : t.done ≡ peers = all_done t.done w.owing peers t.owes none in
    let row : Columns = use_row via place line.at line.deed h t.m u in
    let back : List Event = GaveKey h.key t.key ∷ (released place line.at keys ++ GavePeer h.peer t.peer ∷ released place line.at t.done) in
    let both : hold_owed h (is_last t.key) (is_last t.peer) ≡ keys ++ peers = rw (← last_owed t.key (owed.Key h.key), ← last_owed t.peer (owed.Peer h.peer)) refl in
    let back_steps : steps_in back ≡ releases place line.at (hold_owed h (is_last t.key) (is_last t.peer)) =
    steps_released-append place line.at keys (GavePeer h.peer t.peer ∷ released place line.at t.done) ∙ rw (both, steps_released place line.at t.done, all, map-append) refl in
    let back_judgements : judgements_in back ≡ [] =
    judgements_released-append place line.at keys (GavePeer h.peer t.peer ∷ released place line.at t.done) ∙ judgements_released place line.at t.done in
    let back_draws : draws_in back ≡ [] =
    draws_released-append place line.at keys (GavePeer h.peer t.peer ∷ released place line.at t.done) ∙ draws_released place line.at t.done in
    let steps : steps_in (use_events via place line.at line.deed h t.m u ++ back) ≡ row.steps ++ releases place line.at (hold_owed h (is_last t.key) (is_last t.peer)) =
    steps_of_use via place line.at line.deed h t.m u back ∙ ap (λ ss. row.steps ++ ss) back_steps in
    let judgements : judgements_in (use_events via place line.at line.deed h t.m u ++ back) ≡ row.judgements =
    judgements_of_use via place line.at line.deed h t.m u back ∙ ap (λ js. row.judgements ++ js) back_judgements ∙ append-nil _ in
    record {
      owes = none;
      hold = k.hold;
      left = k.due;
      path = by_round (record {
        round = record { look = t.held.look; hold = h; material = t.m; made = u; key = is_last t.key; peer = is_last t.peer };
        begins_so = t.held.begins_so;
        looks = t.held.looks;
        fits = (t.held.has, t.fits);
        steps_are = ap steps_in t.held.events ∙ same_head _ _ _ steps;
        judgements_are = ap judgements_in t.held.events ∙ judgements;
        answer_is = t.answer;
      });
      drawn = ap draws_in t.held.events ∙ draws_of_use via place line.at line.deed h t.m u back t.fits back_draws ∙ ap sealed_ids (sym t.answer);
    }

-- Both of two tests hold.
both_hold : (a b : Bool) → (a && b) ≡ true → (a ≡ true) × (b ≡ true)
both_hold true b both = (refl, both)
both_hold false b both = not_so both

no_due : (left : List ℕ) → is_none (first_of left) ≡ true → left ≡ []
no_due [] none = refl
no_due (x ∷ left) none = not_so none

-- A tick whose pings are over.
tick_over : {via : Addr → Addr} {place : Place} {line : Line} {w : View} {at : Pinging} {p : Pings} →
    Walking via place line w (stage.Ticking at p) → is_ended at (left_in p) ≡ true → w.owing ≡ [] → Over via place line w (answer.Ticked p.expired p.outs)
tick_over {via = via} {place = place} {line = line} {w = w} {at = at} {p = p} k ended none =
    let halves = both_hold (is_pause at) (is_none (first_of (left_in p))) ended in
    let last : left_in p ≡ [] = no_due (left_in p) halves.1 in
    let t : Ticks via place line w p.expired p.due p.outs (left_in p) [] [] = paused at p halves.0 k.trail none in
    let gone : t.gone ≡ p.due = sym (append-nil t.gone) ∙ sym (t.split ∙ ap (λ left. t.gone ++ left) last) in
    let start : Step = step_of place line.at (act.Do command.Tick) (reply.Ticked p.expired p.due) t.taken in
    record {
      owes = none;
      hold = k.hold ∙ pause_free at halves.0;
      path = by_tick (record {
        expired = p.expired;
        due = p.due;
        taken = t.taken;
        os = t.all;
        pings = t.pings;
        is_tick = t.is_tick;
        some = t.some;
        fits = subst (λ due. PingsFit w.material due t.pings) gone t.fits;
        steps_are = t.steps ∙ append-nil _ ∙ ap (λ due. start ∷ (releases place line.at t.all ++ pings_steps via place line.at due t.pings)) gone;
        judgements_are = t.judged;
        answer_is = ap (λ outs. answer.Ticked p.expired outs) (t.outs_are ∙ ap (λ due. pings_out due t.pings) gone);
      });
      drawn = t.draws ∙ append-nil _;
      left = k.due ∙ last;
    }

-- A line that owes a release is open.
open_owing : (s : Stage) (o : Owed) (os : List Owed) → first_owed os ≡ Some o → IsOpen s os
open_owing s o [] e = absurd (let same : ◌≡◌ {A = Option Owed} None (Some o) = e in cc)
open_owing stage.Fresh o (x ∷ os) e = tt
open_owing (stage.Replied a) o (x ∷ os) e = tt
open_owing (stage.Looked h p) o (x ∷ os) e = tt
open_owing (stage.Drew h d) o (x ∷ os) e = tt
open_owing (stage.Judged h packet) o (x ∷ os) e = tt
open_owing (stage.Used h u a) o (x ∷ os) e = tt
open_owing (stage.KeyGiven h u a) o (x ∷ os) e = tt
open_owing (stage.PeerGiven h u a) o (x ∷ os) e = tt
open_owing (stage.Ticking at p) o (x ∷ os) e = tt

-- The first owed release was asked for: there is one, or none.
some_owed : (q : Option Owed) (b : Bool) (s : Stage) (os : List Owed) → q ≡ first_owed os → b ≡ is_some q → b ≡ true → IsOpen s os
some_owed q b s [] is some there = absurd (let none : b ≡ false = some ∙ rw is refl in cc)
some_owed q b s (x ∷ os) is some there = open_owing s x (x ∷ os) refl

nothing_owed : (q : Option Owed) (b : Bool) (os : List Owed) → q ≡ first_owed os → b ≡ is_some q → b ≡ false → os ≡ []
nothing_owed q b [] is some none = refl
nothing_owed q b (x ∷ os) is some none = absurd (let there : b ≡ true = some ∙ rw is refl in cc)

-- What a stage has where nothing is owed: the line's answer, or the line goes on.
abbrev Finished : (Addr → Addr) → Place → Line → View → Result Answer Stage → Type 0
Finished via place line w (Ok a) = Over via place line w a
Finished via place line w (Err s) = GoesOn via place line w s

ended_by : {via : Addr → Addr} {place : Place} {line : Line} {w : View} (at : Pinging) (p : Pings) (b : Bool) → is_ended at (left_in p) ≡ b → Walking via place line w (stage.Ticking at p) → w.owing ≡ [] → Finished via place line w (if b then Ok (answer.Ticked p.expired p.outs) else Err (stage.Ticking at p))
ended_by at p true is k none = tick_over k is none
ended_by at p false is k none = (k, subst (λ os. IsOpen (stage.Ticking at p) os) (sym none) is)

finished : {via : Addr → Addr} {place : Place} {line : Line} {w : View} (s : Stage) → Walking via place line w s → w.owing ≡ [] → Finished via place line w (ends s)
finished stage.Fresh k none = (k, tt)
finished (stage.Replied a) k none = replied_over k none
finished (stage.Looked h p) k none = (k, tt)
finished (stage.Drew h d) k none = (k, tt)
finished (stage.Judged h packet) k none = (k, tt)
finished (stage.Used h u a) k none = (k, tt)
finished (stage.KeyGiven h u a) k none = (k, tt)
finished (stage.PeerGiven h u a) k none = held_over k none
finished (stage.Ticking at p) k none = ended_by at p (is_ended at (left_in p)) refl k none

pub finish_open : {via : Addr → Addr} {place : Place} {line : Line} {w : View} {s : Stage} (q : Option Owed) (b : Bool) → Walking via place line w s → q ≡ first_owed w.owing → b ≡ is_some q → b ≡ true → GoesOn via place line w s
finish_open {w = w} {s = s} q b k is some there = (k, some_owed q b s w.owing is some there)

pub finish_by : {via : Addr → Addr} {place : Place} {line : Line} {w : View} {s : Stage} (r : Result Answer Stage) (q : Option Owed) (b : Bool) → Walking via place line w s → r ≡ ends s → q ≡ first_owed w.owing → b ≡ is_some q → b ≡ false → Finished via place line w r
finish_by {w = w} {s = s} r q b k r_is is some none = rw r_is (finished s k (nothing_owed q b w.owing is some none))

pub none_owed : (os : List Owed) → first_owed os ≡ None → os ≡ []
none_owed [] e = refl
none_owed (x ∷ os) e = absurd (let same : ◌≡◌ {A = Option Owed} (Some x) None = e in cc)

-- The stage that was looked at is the walk's.
pub at_stage : {via : Addr → Addr} {place : Place} {line : Line} {w : View} {s t : Stage} → s ≡ t → Walking via place line w s → Walking via place line w t
at_stage same k = rw (← same) k

-- A line at its end that owes nothing has no turn.
pub not_open : {s : Stage} {os : List Owed} {h : HoldView} {u : Use} {a : Answer} → s ≡ stage.PeerGiven h u a → os ≡ [] → IsOpen s os → ⊥
not_open {s} {os} {h} {u} {a} same none is_open =
    let P : Stage → List Owed → Type 0 = λ x y. IsOpen x y in
    subst (λ y. P (stage.PeerGiven h u a) y) none (subst (λ x. P x os) same is_open)

-- A tick that has a turn isn't at its end.
pub tick_open : {s : Stage} {os : List Owed} {at : Pinging} {p : Pings} → s ≡ stage.Ticking at p → os ≡ [] → IsOpen s os → is_ended at (left_in p) ≡ false
tick_open {s} {os} {at} {p} same none is_open =
    let P : Stage → List Owed → Type 0 = λ x y. IsOpen x y in
    subst (λ y. P (stage.Ticking at p) y) none (subst (λ x. P x os) same is_open)
