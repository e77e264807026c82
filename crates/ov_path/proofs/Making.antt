-- The event that a turn makes is the one that comes next, and it is the line's own.
use Rattle.std.proofs.Common.{ℕ, ◌≡◌, List, [], ◌∷◌, refl, sym, ◌∙◌, ap, subst, true, false}
use Rattle.std.specs.Prelude.{Option, Some, None, unwrap_or}
use Rattle.ov_base.specs.declared.address.Addr.{Addr}
use Rattle.ov_base.specs.declared.address.Transport.{Transport}
use Rattle.ov_model.specs.declared.place.Place.{Place}
use Rattle.ov_model.specs.declared.act.Act.{Act}
use Rattle.ov_model.specs.declared.act.Act.TheVariants as act
use Rattle.ov_model.specs.declared.draw.Drawn.{Drawn}
use Rattle.ov_model.specs.declared.draw.Drawn.TheVariants as drawn
use Rattle.ov_model.specs.declared.hold.Given.{Given}
use Rattle.ov_model.specs.declared.hold.Owed.{Owed}
use Rattle.ov_model.specs.declared.hold.Owed.TheVariants as owed
use Rattle.ov_model.specs.declared.reply.HoldView.{HoldView}
use Rattle.ov_model.specs.declared.reply.Reply.{Reply}
use Rattle.ov_model.specs.declared.replay.Verdict.{Verdict}
use Rattle.ov_model.specs.declared.stand.Use.{Use}
use Rattle.ov_model.specs.declared.line.Line.{Line}
use Rattle.ov_model.specs.declared.line.Deed.{Deed}
use Rattle.ov_model.specs.declared.line.Deed.TheVariants as deed
use Rattle.ov_model.specs.declared.answer.Answer.{Answer}
use Rattle.ov_model.specs.Tables.{Material}
use Rattle.ov_model.specs.Packets.{opened, packet_id_of, keepalive}
use Rattle.ov_model.specs.Events.{Event, Stepped, Drew, GaveKey, GavePeer, release_of}
use Rattle.ov_model.specs.Path.{at_once, first, begins, sent_act, settle_act}
use Rattle.ov_model.specs.Next.{Table, request, release_act, asks, asks_due}
use Rattle.ov_path.specs.Desks.{View, Did, Called, judged_at, first_owed, first_of, stepped_as}
use Rattle.ov_path.specs.Stages.{stand_in, left_in, is_pause}
use Rattle.ov_path.specs.declared.stage.Pinging.{Pinging}
use Rattle.ov_path.specs.declared.stage.Pinging.TheVariants as pinging
use Rattle.ov_path.specs.declared.stage.Pings.{Pings}
use Rattle.ov_path.specs.declared.stage.Purpose.TheVariants as purpose
use Rattle.ov_path.specs.declared.stage.Stage.TheVariants as stage
use Rattle.ov_path.specs.Walks.{Opens, Walking, IsOwn, next_at, Made, MadeOrNone, made, nothing, MadeBy}
use Rattle.ov_path.specs.declared.walk.Progress.{Progress}
use Rattle.ov_path.specs.declared.walk.Progress.TheVariants.{More, Answered}
use Rattle.ov_path.proofs.Seeing.{first_is}
use Rattle.ov_path.proofs.Ticks.{not_so}
use Rattle.ov_path.proofs.Going.{is_tx}

release_asked : (place : Place) (at : ℕ) (o : Owed) → request (Stepped (release_of place at o)) ≡ Table (release_act o)
release_asked place at (owed.Peer p) = refl
release_asked place at (owed.Key k) = refl

release_own : (place : Place) (at : ℕ) (o : Owed) → IsOwn place at (Stepped (release_of place at o))
release_own place at (owed.Peer p) = (refl, refl)
release_own place at (owed.Key k) = (refl, refl)

-- Between two pings the next due peer is asked for.
pause_asks : (via : Addr → Addr) (m : ℕ → Option Material) (d : Deed) (at : Pinging) (left : List ℕ) → is_pause at ≡ true → asks via m d (stand_in at) left ≡ asks_due left
pause_asks via m d pinging.Ticked left pause = refl
pause_asks via m d pinging.Skipped left pause = refl
pause_asks via m d (pinging.PeerGiven h u) left pause = refl
pause_asks via m d (pinging.Looked x h) left pause = not_so pause
pause_asks via m d (pinging.Drew x h r) left pause = not_so pause
pause_asks via m d (pinging.Used h u) left pause = not_so pause
pause_asks via m d (pinging.KeyGiven h u) left pause = not_so pause

due_asked : (left : List ℕ) (peer : ℕ) → first_of left ≡ Some peer → Table (act.KeepLook peer) ≡ asks_due left
due_asked [] peer is = absurd (let same : ◌≡◌ {A = Option ℕ} None (Some peer) = is in cc)
due_asked (x ∷ left) peer is = ap (λ y. Table (act.KeepLook y)) (let same : x ≡ peer = ap (λ q. unwrap_or q peer) is in sym same)

pub nothing_made : {D : Type 0} {view : D → View} {does : D → Event → D → Type 0} {via : Addr → Addr} {place : Place} {line : Line} {d : D} (b : Answer) → Walking via place line (view d) stage.Fresh → begins via line.deed ≡ at_once b → MadeOrNone view does via place line d d
nothing_made b k begins_so = nothing (rw (k.stand, k.trail.owes, begins_so) refl) refl

-- A turn that made an event made it, whether the line goes on or not.
pub made_by : {D : Type 0} {view : D → View} {does : D → Event → D → Type 0} {via : Addr → Addr} {place : Place} {line : Line} {d e : D} (r : Progress) → Made view does via place line d e → MadeBy view does via place line r d e
made_by More m = m
made_by (Answered a) m = made m

module _ {D : Type 0} {view : D → View} {does : D → Event → D → Type 0} {via : Addr → Addr} {place : Place} {line : Line} {d e : D} where
  did_made : {x : Event} → Did view does d x e → request x ≡ next_at via line (view d) (view e) → IsOwn place line.at x → Made view does via place line d e
  did_made {x} did asks own = record { event = x; one = did.leaves.events; asks = asks; own = own; done = did.done }

  -- A step of the table is the event that was asked for.
  called_made : (x : Act) (r : Reply) → Called view does d place (record { at = line.at; act = x }) r e → Table x ≡ next_at via line (view d) (view e) → Made view does via place line d e
  called_made x r called asks = record { event = stepped_as place (record { at = line.at; act = x }) r called.taken; one = called.leaves.events; asks = asks; own = (refl, refl); done = called.done }

  pub release_made : (o : Owed) → first_owed (view d).owing ≡ Some o → Did view does d (Stepped (release_of place line.at o)) e → Made view does via place line d e
  release_made o is did = did_made did (release_asked place line.at o ∙ rw (first_is o (view d).owing is) refl) (release_own place line.at o)

  pub begin_made : (x : Act) (r : Reply) → Walking via place line (view d) stage.Fresh → begins via line.deed ≡ first x → Called view does d place (record { at = line.at; act = x }) r e → Made view does via place line d e
  begin_made x r k begins_so called = called_made x r called (rw (k.stand, k.trail.owes, begins_so) refl)

  pub drew_made : {h : HoldView} (x : Drawn) → Walking via place line (view d) (stage.Looked h purpose.Seal) → Did view does d (Drew h.key x) e → Made view does via place line d e
  drew_made x k did = let t = is_tx line.deed k.trail.fits in did_made did (rw (k.stand, k.trail.owes, t.is) refl) tt

  pub sent_made : {h : HoldView} {packet : List ℕ} (i : ℕ) (x : Act) (r : Reply) → Walking via place line (view d) (stage.Drew h (drawn.Id i)) → line.deed ≡ deed.Tx packet → x ≡ sent_act h false packet → Called view does d place (record { at = line.at; act = x }) r e → Made view does via place line d e
  sent_made i x r k deed_is x_is called = called_made x r called (ap Table x_is ∙ rw (k.stand, k.trail.owes, deed_is) refl)

  pub spend_made : {h : HoldView} (r : Reply) → Walking via place line (view d) (stage.Drew h drawn.Spent) → Called view does d place (record { at = line.at; act = act.Spend h.peer h.key }) r e → Made view does via place line d e
  spend_made {h} r k called = let t = is_tx line.deed k.trail.fits in called_made (act.Spend h.peer h.key) r called (rw (k.stand, k.trail.owes, t.is) refl)

  pub bad_tag_made : {h : HoldView} {id : ℕ} {from : Transport} {bytes : List ℕ} (m : Material) (g : Given) → Walking via place line (view d) (stage.Looked h (purpose.Open id)) → line.deed ≡ deed.Rx from bytes → (view d).material h.key ≡ Some m → None ≡ opened m.decrypt bytes → Did view does d (GaveKey h.key g) e → Made view does via place line d e
  bad_tag_made m g k deed_is has closed did = did_made did (rw (k.stand, k.trail.owes, deed_is, did.leaves.grows _ _ has, ← closed) refl) tt

  pub judged_made : {h : HoldView} {id : ℕ} {from : Transport} {bytes packet : List ℕ} (m : Material) (x : Verdict) → Walking via place line (view d) (stage.Looked h (purpose.Open id)) → line.deed ≡ deed.Rx from bytes → (view d).material h.key ≡ Some m → Some packet ≡ opened m.decrypt bytes → id ≡ packet_id_of bytes → Did view does d (judged_at place h.key id line.at x) e → Made view does via place line d e
  judged_made m x k deed_is has inner id_is did = did_made did (rw (k.stand, k.trail.owes, deed_is, did.leaves.grows _ _ has, ← inner, ← id_is) refl) (refl, refl)

  pub settled_made : {h : HoldView} {from : Transport} {bytes packet : List ℕ} (x : Act) (r : Reply) → Walking via place line (view d) (stage.Judged h packet) → line.deed ≡ deed.Rx from bytes → x ≡ settle_act via h from packet bytes → Called view does d place (record { at = line.at; act = x }) r e → Made view does via place line d e
  settled_made {h} {from} {bytes} {packet} x r k deed_is x_is called =
      let Q : Deed → Type 0 = λ y. Opens place line.at h y k.trail.m k.trail.later packet in
      let opens : Q (deed.Rx from bytes) = subst Q deed_is k.trail.opens in
      called_made x r called (ap Table x_is ∙ rw (k.stand, k.trail.owes, called.leaves.grows _ _ k.trail.held.has, deed_is, opens.0) refl)

  pub key_made : {h : HoldView} {u : Use} {a : Answer} (g : Given) → Walking via place line (view d) (stage.Used h u a) → Did view does d (GaveKey h.key g) e → Made view does via place line d e
  key_made g k did = did_made did (rw (k.stand, k.trail.owes) refl) tt

  pub peer_made : {h : HoldView} {u : Use} {a : Answer} (g : Given) → Walking via place line (view d) (stage.KeyGiven h u a) → (view d).owing ≡ [] → Did view does d (GavePeer h.peer g) e → Made view does via place line d e
  peer_made g k none did = did_made did (rw (k.stand, none) refl) tt

  -- ---- a tick's pings

  pub look_made : {at : Pinging} {p : Pings} {peer : ℕ} (r : Reply) → Walking via place line (view d) (stage.Ticking at p) → (view d).owing ≡ [] → is_pause at ≡ true → first_of (left_in p) ≡ Some peer → Called view does d place (record { at = line.at; act = act.KeepLook peer }) r e → Made view does via place line d e
  look_made {at} {p} {peer} r k none pause is called =
      called_made (act.KeepLook peer) r called (due_asked (left_in p) peer is ∙ sym (pause_asks via (view e).material line.deed at (left_in p) pause) ∙ rw (k.stand, k.due, none) refl)

  pub ping_drew_made : {peer : ℕ} {h : HoldView} {p : Pings} (x : Drawn) → Walking via place line (view d) (stage.Ticking (pinging.Looked peer h) p) → Did view does d (Drew h.key x) e → Made view does via place line d e
  ping_drew_made x k did = did_made did (rw (k.stand, k.trail.owes, k.trail.ticks.is_tick) refl) tt

  pub ping_sent_made : {peer : ℕ} {h : HoldView} {p : Pings} (i : ℕ) (x : Act) (r : Reply) → Walking via place line (view d) (stage.Ticking (pinging.Drew peer h (drawn.Id i)) p) → x ≡ sent_act h true keepalive → Called view does d place (record { at = line.at; act = x }) r e → Made view does via place line d e
  ping_sent_made i x r k x_is called = called_made x r called (ap Table x_is ∙ rw (k.stand, k.trail.owes, k.trail.ticks.is_tick) refl)

  pub ping_spend_made : {peer : ℕ} {h : HoldView} {p : Pings} (r : Reply) → Walking via place line (view d) (stage.Ticking (pinging.Drew peer h drawn.Spent) p) → Called view does d place (record { at = line.at; act = act.Spend h.peer h.key }) r e → Made view does via place line d e
  ping_spend_made {h = h} r k called = called_made (act.Spend h.peer h.key) r called (rw (k.stand, k.trail.owes, k.trail.ticks.is_tick) refl)

  pub ping_key_made : {h : HoldView} {u : Use} {p : Pings} (g : Given) → Walking via place line (view d) (stage.Ticking (pinging.Used h u) p) → Did view does d (GaveKey h.key g) e → Made view does via place line d e
  ping_key_made g k did = did_made did (rw (k.stand, k.trail.owes) refl) tt

  pub ping_peer_made : {h : HoldView} {u : Use} {p : Pings} (g : Given) → Walking via place line (view d) (stage.Ticking (pinging.KeyGiven h u) p) → (view d).owing ≡ [] → Did view does d (GavePeer h.peer g) e → Made view does via place line d e
  ping_peer_made g k none did = did_made did (rw (k.stand, none) refl) tt
