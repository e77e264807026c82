-- A tick goes on: each event of its pings leads from one stage to the next.
use Rattle.std.proofs.Common.{ℕ, ◌≡◌, ◌+◌, List, [], ◌∷◌, ◌++◌, refl, sym, ◌∙◌, ap, subst, append_assoc, append-nil, Bool, true, false}
use Rattle.std.specs.Prelude.{Option, Some, drop, map}
use Rattle.std.proofs.lemmas.List.{map-append}
use Rattle.ov_base.specs.declared.address.Addr.{Addr}
use Rattle.ov_model.specs.declared.place.Place.{Place}
use Rattle.ov_model.specs.declared.act.Act.{Act}
use Rattle.ov_model.specs.declared.act.Act.TheVariants as act
use Rattle.ov_model.specs.declared.command.Command.TheVariants as command
use Rattle.ov_model.specs.declared.draw.Drawn.{Drawn}
use Rattle.ov_model.specs.declared.draw.Drawn.TheVariants as drawn
use Rattle.ov_model.specs.declared.hold.Given.{Given}
use Rattle.ov_model.specs.declared.hold.Given.TheVariants as given
use Rattle.ov_model.specs.declared.hold.Owed.{Owed}
use Rattle.ov_model.specs.declared.hold.Owed.TheVariants as owed
use Rattle.ov_model.specs.declared.reply.HoldView.{HoldView}
use Rattle.ov_model.specs.declared.reply.Reply.{Reply}
use Rattle.ov_model.specs.declared.reply.Reply.TheVariants as reply
use Rattle.ov_model.specs.declared.stand.Use.{Use}
use Rattle.ov_model.specs.declared.stand.Use.TheVariants as used
use Rattle.ov_model.specs.declared.stand.Stand.TheVariants as stand
use Rattle.ov_model.specs.declared.line.Line.{Line}
use Rattle.ov_model.specs.declared.line.Deed.TheVariants as deed
use Rattle.ov_model.specs.declared.answer.PingOut.{PingOut}
use Rattle.ov_model.specs.declared.answer.PingOutcome.{PingOutcome}
use Rattle.ov_model.specs.declared.answer.PingOutcome.TheVariants as outcome
use Rattle.ov_model.specs.Packets.{keepalive}
use Rattle.ov_model.specs.Tables.{Material}
use Rattle.ov_model.specs.Events.{Event, Stepped, Drew, GaveKey, GavePeer, Step, DrawnId, steps_in, judgements_in, draws_in, step_of, release_of, releases}
use Rattle.ov_model.specs.Keys.{sealed_ping, sealed_pings, id_of}
use Rattle.ov_model.specs.Path.{Ping, skipped, pinged, PingFits, PingsFit, Round, ping_steps, pings_steps, ping_outcome, pings_out, sealed_out, sent_act, spent_reply, use_row, owed_where, hold_owed}
use Rattle.ov_model.specs.Next.{see, stepped, left_of, all_but_first, is_killed, looked}
use Rattle.ov_model.proofs.Counting.{draws_in-append}
use Rattle.ov_path.specs.Desks.{Holding, NoHold, View, Grows, SameLine, Leaves, Did, Called, IsPause, IsNextDue, owed_if, first_owed, after_first, first_of}
use Rattle.ov_path.specs.Stages.{stand_in, left_in, ticked, is_pause}
use Rattle.ov_path.specs.declared.stage.Pinging.{Pinging}
use Rattle.ov_path.specs.declared.stage.Pinging.TheVariants as pinging
use Rattle.ov_path.specs.declared.stage.Pings.{Pings}
use Rattle.ov_path.specs.declared.stage.Stage.TheVariants as stage
use Rattle.ov_path.specs.Walks.{Ticks, keep_step, Pinged, TickTrail, holding_in, Walking}
use Rattle.ov_path.proofs.Seeing.{stood, lefts, steps_in-append, judgements_in-append, releases-append, all_done, owes_on, no_first, next_left, see_released}

-- ---- one ping more

pub pings_fit_grows : (old new : ℕ → Option Material) → Grows old new → (due : List ℕ) (pings : List Ping) → PingsFit old due pings → PingsFit new due pings
pings_fit_grows old new grows [] [] fits = tt
pings_fit_grows old new grows [] (p ∷ pings) fits = absurd fits
pings_fit_grows old new grows (peer ∷ due) [] fits = absurd fits
pings_fit_grows old new grows (peer ∷ due) (skipped ∷ pings) fits = (tt, pings_fit_grows old new grows due pings fits.1)
pings_fit_grows old new grows (peer ∷ due) (pinged r ∷ pings) fits = ((fits.0.0, (grows r.hold.key r.material fits.0.1.0, fits.0.1.1)), pings_fit_grows old new grows due pings fits.1)

pings_fit-push : (material : ℕ → Option Material) (due : List ℕ) (pings : List Ping) (peer : ℕ) (p : Ping) → PingsFit material due pings → PingFits material peer p → PingsFit material (due ++ peer ∷ []) (pings ++ p ∷ [])
pings_fit-push material [] [] peer p fits more = (more, tt)
pings_fit-push material [] (q ∷ pings) peer p fits more = absurd fits
pings_fit-push material (x ∷ due) [] peer p fits more = absurd fits
pings_fit-push material (x ∷ due) (q ∷ pings) peer p fits more = (fits.0, pings_fit-push material due pings peer p fits.1 more)

pings_steps-push : (material : ℕ → Option Material) (via : Addr → Addr) (place : Place) (at : ℕ) (due : List ℕ) (pings : List Ping) (peer : ℕ) (p : Ping) → PingsFit material due pings → pings_steps via place at (due ++ peer ∷ []) (pings ++ p ∷ []) ≡ pings_steps via place at due pings ++ ping_steps via place at peer p
pings_steps-push material via place at [] [] peer p fits = append-nil (ping_steps via place at peer p)
pings_steps-push material via place at [] (q ∷ pings) peer p fits = absurd fits
pings_steps-push material via place at (x ∷ due) [] peer p fits = absurd fits
pings_steps-push material via place at (x ∷ due) (q ∷ pings) peer p fits =
    ap (λ ss. ping_steps via place at x q ++ ss) (pings_steps-push material via place at due pings peer p fits.1) ∙ sym (append_assoc (ping_steps via place at x q) (pings_steps via place at due pings) (ping_steps via place at peer p))

-- What a ping tells in the answer.
abbrev out_of : ℕ → PingOutcome → PingOut
out_of peer o = record { peer = peer; outcome = o }

pings_out-push : (material : ℕ → Option Material) (due : List ℕ) (pings : List Ping) (peer : ℕ) (p : Ping) → PingsFit material due pings → pings_out (due ++ peer ∷ []) (pings ++ p ∷ []) ≡ pings_out due pings ++ out_of peer (ping_outcome p) ∷ []
pings_out-push material [] [] peer p fits = refl
pings_out-push material [] (q ∷ pings) peer p fits = absurd fits
pings_out-push material (x ∷ due) [] peer p fits = absurd fits
pings_out-push material (x ∷ due) (q ∷ pings) peer p fits = ap (λ os. out_of x (ping_outcome q) ∷ os) (pings_out-push material due pings peer p fits.1)

sealed_pings-push : (outs : List PingOut) (o : PingOut) → sealed_pings (outs ++ o ∷ []) ≡ sealed_pings outs ++ sealed_ping o.outcome
sealed_pings-push [] o = append-nil (sealed_ping o.outcome)
sealed_pings-push (x ∷ outs) o = ap (λ ss. sealed_ping x.outcome ++ ss) (sealed_pings-push outs o) ∙ sym (append_assoc (sealed_ping x.outcome) (sealed_pings outs) (sealed_ping o.outcome))

-- ---- the tick so far

module _ {via : Addr → Addr} {place : Place} {line : Line} {w : View} {expired due : List ℕ} where
  ticks_as : {outs : List PingOut} {left : List ℕ} {more more_is : List Step} {draws draws_are : List DrawnId} → more ≡ more_is → draws ≡ draws_are → Ticks via place line w expired due outs left more draws → Ticks via place line w expired due outs left more_is draws_are
  ticks_as {outs} {left} {more} {more_is} {draws} {draws_are} same also t =
      subst (λ x. Ticks via place line w expired due outs left more_is x) also (subst (λ x. Ticks via place line w expired due outs left x draws) same t)

  -- A ping that is over is one more.
  ticks_pinged : {outs : List PingOut} {left : List ℕ} (peer : ℕ) (p : Ping) → PingFits w.material peer p → Ticks via place line w expired due outs (peer ∷ left) (ping_steps via place line.at peer p) (map id_of (sealed_ping (ping_outcome p))) → Ticks via place line w expired due (outs ++ out_of peer (ping_outcome p) ∷ []) left [] []
  ticks_pinged {outs} {left} peer p fits t =
      let start : Step = step_of place line.at (act.Do command.Tick) (reply.Ticked expired due) t.taken in
      let before : List Step = pings_steps via place line.at t.gone t.pings in
      let here : List Step = ping_steps via place line.at peer p in
      let gone : List Step = releases place line.at t.all in
      let grown : (gone ++ before) ++ here ≡ (gone ++ pings_steps via place line.at (t.gone ++ peer ∷ []) (t.pings ++ p ∷ [])) ++ [] =
      append_assoc gone before here ∙ ap (λ ss. gone ++ ss) (sym (pings_steps-push w.material via place line.at t.gone t.pings peer p t.fits)) ∙ sym (append-nil _) in
      let sealed : map id_of (sealed_pings outs) ++ map id_of (sealed_ping (ping_outcome p)) ≡ map id_of (sealed_pings (outs ++ out_of peer (ping_outcome p) ∷ [])) ++ [] =
      rw (sealed_pings-push outs (out_of peer (ping_outcome p)), map-append, append-nil) refl in
      record {
        taken = t.taken;
        all = t.all;
        gone = t.gone ++ peer ∷ [];
        pings = t.pings ++ p ∷ [];
        is_tick = t.is_tick;
        some = t.some;
        split = t.split ∙ sym (append_assoc t.gone (peer ∷ []) left);
        fits = pings_fit-push w.material t.gone t.pings peer p t.fits fits;
        outs_are = ap (λ os. os ++ out_of peer (ping_outcome p) ∷ []) t.outs_are ∙ sym (pings_out-push w.material t.gone t.pings peer p t.fits);
        steps = t.steps ∙ ap (λ ss. start ∷ ss) grown;
        judged = t.judged;
        draws = t.draws ∙ sealed;
      }

module _ {via : Addr → Addr} {place : Place} {line : Line} {w v : View} where
  -- One event more.
  ticks_more : {e : Event} {hold : Holding} {owing : List Owed} {expired due : List ℕ} {outs : List PingOut} {left : List ℕ} {more : List Step} {draws : List DrawnId} → Leaves w e hold owing v → judgements_in (e ∷ []) ≡ [] → Ticks via place line w expired due outs left more draws → Ticks via place line v expired due outs left (more ++ steps_in (e ∷ [])) (draws ++ draws_in (e ∷ []))
  ticks_more {e} {expired = expired} {due = due} {outs = outs} {more = more} {draws = draws} l quiet t =
      let start : List Step = step_of place line.at (act.Do command.Tick) (reply.Ticked expired due) t.taken ∷ (releases place line.at t.all ++ pings_steps via place line.at t.gone t.pings) in
      record {
        taken = t.taken;
        all = t.all;
        gone = t.gone;
        pings = t.pings;
        is_tick = t.is_tick;
        some = t.some;
        split = t.split;
        fits = pings_fit_grows w.material v.material l.grows t.gone t.pings t.fits;
        outs_are = t.outs_are;
        steps = ap steps_in l.events ∙ steps_in-append w.events (e ∷ []) ∙ ap (λ ss. ss ++ steps_in (e ∷ [])) t.steps ∙ append_assoc start more (steps_in (e ∷ []));
        judged = ap judgements_in l.events ∙ judgements_in-append w.events (e ∷ []) ∙ rw (t.judged, quiet) refl;
        draws = ap draws_in l.events ∙ draws_in-append w.events (e ∷ []) ∙ ap (λ ds. ds ++ draws_in (e ∷ [])) t.draws ∙ append_assoc (map id_of (sealed_pings outs)) draws (draws_in (e ∷ []));
      }

  -- Others did something.
  ticks_same : {expired due : List ℕ} {outs : List PingOut} {left : List ℕ} {more : List Step} {draws : List DrawnId} → SameLine w v → Ticks via place line w expired due outs left more draws → Ticks via place line v expired due outs left more draws
  ticks_same l t = record {
    taken = t.taken;
    all = t.all;
    gone = t.gone;
    pings = t.pings;
    is_tick = t.is_tick;
    some = t.some;
    split = t.split;
    fits = pings_fit_grows w.material v.material l.grows t.gone t.pings t.fits;
    outs_are = t.outs_are;
    steps = ap steps_in l.events ∙ t.steps;
    judged = ap judgements_in l.events ∙ t.judged;
    draws = ap draws_in l.events ∙ t.draws;
  }

  -- One event more of a ping whose outcome is known: a release, or no step.
  pinged_more : {h : HoldView} {u : Use} {p : Pings} {done : List Owed} {e : Event} {hold : Holding} {owing : List Owed} → Leaves w e hold owing v → steps_in (e ∷ []) ≡ [] → judgements_in (e ∷ []) ≡ [] → draws_in (e ∷ []) ≡ [] → Pinged via place line w h u p done → Pinged via place line v h u p done
  pinged_more {h} {u} {p} {done} {e} l no_step quiet no_draw t = record {
    peer = t.peer;
    m = t.m;
    outs = t.outs;
    fits = t.fits;
    has = l.grows _ _ t.has;
    outs_are = t.outs_are;
    ticks = ticks_as (rw no_step (append-nil _)) (rw no_draw (append-nil _)) (ticks_more l quiet t.ticks);
  }

  pinged_released : {h : HoldView} {u : Use} {p : Pings} {done : List Owed} {hold : Holding} {owing : List Owed} (o : Owed) → Leaves w (Stepped (release_of place line.at o)) hold owing v → Pinged via place line w h u p done → Pinged via place line v h u p (done ++ o ∷ [])
  pinged_released {h} {u} {p} {done} o l t =
      let look : Step = keep_step via place line w t.peer h in
      let use_steps : List Step = (use_row via place line.at deed.Tick h t.m u).steps in
      let grown : (use_steps ++ releases place line.at done) ++ release_of place line.at o ∷ [] ≡ use_steps ++ releases place line.at (done ++ o ∷ []) =
      append_assoc use_steps (releases place line.at done) (release_of place line.at o ∷ []) ∙ ap (λ ss. use_steps ++ ss) (sym (releases-append place line.at done o)) in
      record {
        peer = t.peer;
        m = t.m;
        outs = t.outs;
        fits = t.fits;
        has = l.grows _ _ t.has;
        outs_are = t.outs_are;
        ticks = ticks_as (ap (λ ss. look ∷ ss) grown) (append-nil _) (ticks_more l refl t.ticks);
      }

  pinged_same : {h : HoldView} {u : Use} {p : Pings} {done : List Owed} → SameLine w v → Pinged via place line w h u p done → Pinged via place line v h u p done
  pinged_same l t = record { peer = t.peer; m = t.m; outs = t.outs; fits = t.fits; has = l.grows _ _ t.has; outs_are = t.outs_are; ticks = ticks_same l t.ticks }

-- ---- pauses

-- Whether a give-back was the last one.
abbrev pub is_last : Given → Bool
is_last given.More = false
is_last given.Last = true

pub last_owed : (g : Given) (o : Owed) → owed_if g o ≡ owed_where (is_last g) o
last_owed given.More o = refl
last_owed given.Last o = refl

pub not_so : {A : Type 0} → false ≡ true → A
not_so e = absurd (let same : ◌≡◌ {A = Bool} false true = e in cc)

-- A ping after its returns is over.
pinged_over : {via : Addr → Addr} {place : Place} {line : Line} {w : View} {h : HoldView} {u : Use} {p : Pings} {done : List Owed} (key peer : Bool) → done ≡ hold_owed h key peer → Pinged via place line w h u p done → Ticks via place line w p.expired p.due p.outs (left_in p) [] []
pinged_over {via} {place} {line} {w} {h} {u} {p} {done} key peer all t =
    let r : Round = record { look = act.KeepLook t.peer; hold = h; material = t.m; made = u; key = key; peer = peer } in
    let use_steps : List Step = (use_row via place line.at deed.Tick h t.m u).steps in
    let whole = ticks_as (ap (λ os. keep_step via place line w t.peer h ∷ (use_steps ++ releases place line.at os)) all) refl t.ticks in
    let over = ticks_pinged t.peer (pinged r) (refl, (t.has, t.fits)) whole in
    subst (λ os. Ticks via place line w p.expired p.due os (left_in p) [] []) (sym t.outs_are) over

module _ {via : Addr → Addr} {place : Place} {line : Line} {w : View} where
  -- A tick between two pings that owes nothing.
  pub paused : (at : Pinging) (p : Pings) → is_pause at ≡ true → TickTrail via place line w at p → w.owing ≡ [] → Ticks via place line w p.expired p.due p.outs (left_in p) [] []
  paused pinging.Ticked p pause t none =
      let all : t.done ≡ t.all = all_done t.done w.owing t.all t.owes none in
      record {
        taken = t.taken;
        all = t.all;
        gone = [];
        pings = [];
        is_tick = t.is_tick;
        some = t.some;
        split = sym (ap (λ n. drop n p.due) t.first);
        fits = tt;
        outs_are = t.no_outs;
        steps = t.steps ∙ ap (λ os. step_of place line.at (act.Do command.Tick) (reply.Ticked p.expired p.due) t.taken ∷ releases place line.at os) all ∙ ap (λ ss. step_of place line.at (act.Do command.Tick) (reply.Ticked p.expired p.due) t.taken ∷ ss) (sym (append-nil (releases place line.at t.all)) ∙ sym (append-nil (releases place line.at t.all ++ [])));
        judged = t.judged;
        draws = t.draws ∙ rw t.no_outs refl;
      }
  paused pinging.Skipped p pause t none = t.ticks
  paused (pinging.PeerGiven h u) p pause t none =
      let keys : List Owed = owed_if t.key (owed.Key h.key) in
      let peers : List Owed = owed_if t.peer (owed.Peer h.peer) in
      let all : t.done ≡ peers = all_done t.done w.owing peers t.owes none in
      pinged_over (is_last t.key) (is_last t.peer) (ap (λ os. keys ++ os) all ∙ rw (last_owed t.key (owed.Key h.key), last_owed t.peer (owed.Peer h.peer)) refl) t.pinged
  paused (pinging.Looked peer h) p pause t none = not_so pause
  paused (pinging.Drew peer h d) p pause t none = not_so pause
  paused (pinging.Used h u) p pause t none = not_so pause
  paused (pinging.KeyGiven h u) p pause t none = not_so pause

pub pause_free : (at : Pinging) → is_pause at ≡ true → holding_in at ≡ NoHold
pause_free pinging.Ticked pause = refl
pause_free pinging.Skipped pause = refl
pause_free (pinging.PeerGiven h u) pause = refl
pause_free (pinging.Looked peer h) pause = not_so pause
pause_free (pinging.Drew peer h d) pause = not_so pause
pause_free (pinging.Used h u) pause = not_so pause
pause_free (pinging.KeyGiven h u) pause = not_so pause

pause_stands : (at : Pinging) → is_pause at ≡ true → IsPause (stand_in at)
pause_stands pinging.Ticked pause = tt
pause_stands pinging.Skipped pause = tt
pause_stands (pinging.PeerGiven h u) pause = tt
pause_stands (pinging.Looked peer h) pause = not_so pause
pause_stands (pinging.Drew peer h d) pause = not_so pause
pause_stands (pinging.Used h u) pause = not_so pause
pause_stands (pinging.KeyGiven h u) pause = not_so pause

pause_looks : (at : Pinging) (peer : ℕ) (r : Reply) → is_pause at ≡ true → stepped (stand_in at) (act.KeepLook peer) r ≡ looked r
pause_looks pinging.Ticked peer r pause = refl
pause_looks pinging.Skipped peer r pause = refl
pause_looks (pinging.PeerGiven h u) peer r pause = refl
pause_looks (pinging.Looked x h) peer r pause = not_so pause
pause_looks (pinging.Drew x h d) peer r pause = not_so pause
pause_looks (pinging.Used h u) peer r pause = not_so pause
pause_looks (pinging.KeyGiven h u) peer r pause = not_so pause

-- The next due peer may be looked at.
pub may_look : {via : Addr → Addr} {place : Place} {line : Line} {w : View} {at : Pinging} {p : Pings} (peer : ℕ) → Walking via place line w (stage.Ticking at p) → w.owing ≡ [] → is_pause at ≡ true → first_of (left_in p) ≡ Some peer → IsNextDue w peer
may_look {at = at} {p = p} peer k none pause is = record {
  hold = k.hold ∙ pause_free at pause;
  owing = none;
  pause = subst IsPause (sym k.stand) (pause_stands at pause);
  due = ap first_of k.due ∙ is;
  unjudged = (paused at p pause k.trail none).judged;
}

-- ---- the steps

-- After the look-up of the next due peer, with these outcomes.
abbrev pub looked_at : Pings → List PingOut → Pings
looked_at p outs = record { expired = p.expired; due = p.due; next = p.next + 1; outs = outs }

-- With one outcome more.
abbrev pub told_of : Pings → ℕ → PingOutcome → Pings
told_of p peer o = record { expired = p.expired; due = p.due; next = p.next; outs = p.outs ++ out_of peer o ∷ [] }

module _ {D : Type 0} {view : D → View} {does : D → Event → D → Type 0} {via : Addr → Addr} {place : Place} {line : Line} {d e : D} where
  pub ticked_step : (expired due : List ℕ) → line.deed ≡ deed.Tick → Walking via place line (view d) stage.Fresh → Called view does d place (record { at = line.at; act = act.Do command.Tick }) (reply.Ticked expired due) e → Walking via place line (view e) (stage.Ticking pinging.Ticked (ticked expired due))
  ticked_step expired due is_tick k called = record {
    stand = stood k.stand called.leaves;
    hold = called.leaves.hold_is ∙ k.hold;
    due = lefts k.due called.leaves;
    trail = record {
      taken = called.taken;
      all = called.joined;
      done = [];
      is_tick = is_tick;
      some = called.joins;
      steps = ap steps_in called.leaves.events ∙ rw k.trail.none refl;
      judged = ap judgements_in called.leaves.events ∙ rw k.trail.none refl;
      draws = ap draws_in called.leaves.events ∙ rw k.trail.none refl;
      owes = called.leaves.owing_is ∙ rw k.trail.owes refl;
      first = refl;
      no_outs = refl;
    };
  }

  -- The due peers that are left after a look-up.
  looked_left : {at : Pinging} {p : Pings} {peer : ℕ} (r : Reply) → Walking via place line (view d) (stage.Ticking at p) → first_of (left_in p) ≡ Some peer → Called view does d place (record { at = line.at; act = act.KeepLook peer }) r e → left_of (view e).events ≡ drop (p.next + 1) p.due
  looked_left {p = p} {peer = peer} r k is called = lefts k.due called.leaves ∙ ap all_but_first (next_left p.next p.due peer is)

  pub kept_step : {at : Pinging} {p : Pings} {peer : ℕ} (h : HoldView) (r : Reply) → Walking via place line (view d) (stage.Ticking at p) → (view d).owing ≡ [] → is_pause at ≡ true → first_of (left_in p) ≡ Some peer → r ≡ reply.Hold h → Called view does d place (record { at = line.at; act = act.KeepLook peer }) r e → Walking via place line (view e) (stage.Ticking (pinging.Looked peer h) (looked_at p p.outs))
  kept_step {at} {p} {peer} h r k none pause is r_is was =
      let called : Called view does d place (record { at = line.at; act = act.KeepLook peer }) (reply.Hold h) e = subst (λ z. Called view does d place (record { at = line.at; act = act.KeepLook peer }) z e) r_is was in
      let before = subst (λ l. Ticks via place line (view d) p.expired p.due p.outs l [] []) (next_left p.next p.due peer is) (paused at p pause k.trail none) in
      record {
        stand = stood k.stand called.leaves ∙ pause_looks at peer (reply.Hold h) pause;
        hold = called.leaves.hold_is;
        due = looked_left (reply.Hold h) k is called;
        trail = record {
          m = called.has.0;
          has = called.has.1;
          ticks = ticks_as (rw called.joins.0 refl) refl (ticks_more called.leaves refl before);
          owes = called.leaves.owing_is ∙ rw (none, called.joins.1) refl;
        };
      }

  pub skipped_step : {at : Pinging} {p : Pings} {peer : ℕ} (r : Reply) → Walking via place line (view d) (stage.Ticking at p) → (view d).owing ≡ [] → is_pause at ≡ true → first_of (left_in p) ≡ Some peer → r ≡ reply.Skip → Called view does d place (record { at = line.at; act = act.KeepLook peer }) r e → Walking via place line (view e) (stage.Ticking pinging.Skipped (looked_at p (p.outs ++ record { peer = peer; outcome = outcome.Skip } ∷ [])))
  skipped_step {at} {p} {peer} r k none pause is r_is was =
      let called : Called view does d place (record { at = line.at; act = act.KeepLook peer }) reply.Skip e = subst (λ z. Called view does d place (record { at = line.at; act = act.KeepLook peer }) z e) r_is was in
      let before = subst (λ l. Ticks via place line (view d) p.expired p.due p.outs l [] []) (next_left p.next p.due peer is) (paused at p pause k.trail none) in
      record {
        stand = stood k.stand called.leaves ∙ pause_looks at peer reply.Skip pause;
        hold = called.leaves.hold_is ∙ k.hold ∙ pause_free at pause;
        due = looked_left reply.Skip k is called;
        trail = record {
          ticks = ticks_pinged peer skipped tt (ticks_as (rw called.joins.0 refl) refl (ticks_more called.leaves refl before));
          owes = called.leaves.owing_is ∙ rw (none, called.joins.1) refl;
        };
      }

  pub ping_drew_step : {peer : ℕ} {h : HoldView} {p : Pings} (x : Drawn) → Walking via place line (view d) (stage.Ticking (pinging.Looked peer h) p) → Did view does d (Drew h.key x) e → Walking via place line (view e) (stage.Ticking (pinging.Drew peer h x) p)
  ping_drew_step x k did = record {
    stand = stood k.stand did.leaves;
    hold = did.leaves.hold_is ∙ k.hold;
    due = lefts k.due did.leaves;
    trail = record {
      m = k.trail.m;
      has = did.leaves.grows _ _ k.trail.has;
      ticks = ticks_as refl (append-nil _) (ticks_more did.leaves refl k.trail.ticks);
      owes = did.leaves.owing_is ∙ k.trail.owes;
    };
  }

  pub ping_sent_step : {peer : ℕ} {h : HoldView} {p : Pings} (i : ℕ) (m : Material) (x : Act) (r : Reply) → Walking via place line (view d) (stage.Ticking (pinging.Drew peer h (drawn.Id i)) p) → (view d).material h.key ≡ Some m → x ≡ sent_act h true keepalive → Called view does d place (record { at = line.at; act = x }) r e → Walking via place line (view e) (stage.Ticking (pinging.Used h (used.Sealed i)) (told_of p peer (outcome.Sealed (sealed_out h m i keepalive))))
  ping_sent_step {peer} {h} {p} i m x r k has x_is was =
      let P : Act → Type 0 = λ y. Called view does d place (record { at = line.at; act = y }) r e in
      let called : P (sent_act h true keepalive) = subst P x_is was in
      record {
        stand = stood k.stand called.leaves;
        hold = called.leaves.hold_is ∙ k.hold;
        due = lefts k.due called.leaves;
        trail = record {
          pinged = record {
            peer = peer;
            m = m;
            outs = p.outs;
            fits = tt;
            has = called.leaves.grows _ _ has;
            outs_are = refl;
            ticks = ticks_as (rw (called.fits, called.joins.0) refl) refl (ticks_more called.leaves refl k.trail.ticks);
          };
          owes = called.leaves.owing_is ∙ rw (k.trail.owes, called.joins.1) refl;
        };
      }

  pub ping_spend_step : {peer : ℕ} {h : HoldView} {p : Pings} (r : Reply) → spent_reply (is_killed r) ≡ r → Walking via place line (view d) (stage.Ticking (pinging.Drew peer h drawn.Spent) p) → Called view does d place (record { at = line.at; act = act.Spend h.peer h.key }) r e → Walking via place line (view e) (stage.Ticking (pinging.Used h (used.Spent (is_killed r))) (told_of p peer outcome.Spent))
  ping_spend_step {peer} {h} {p} r r_is k called = record {
    stand = stood k.stand called.leaves;
    hold = called.leaves.hold_is ∙ k.hold;
    due = lefts k.due called.leaves;
    trail = record {
      pinged = record {
        peer = peer;
        m = k.trail.m;
        outs = p.outs;
        fits = tt;
        has = called.leaves.grows _ _ k.trail.has;
        outs_are = refl;
        ticks = ticks_as (rw (called.joins.0, r_is) refl) refl (ticks_more called.leaves refl k.trail.ticks);
      };
      owes = called.leaves.owing_is ∙ rw (k.trail.owes, called.joins.1) refl;
    };
  }

  pub ping_key_step : {h : HoldView} {u : Use} {p : Pings} (g : Given) → Walking via place line (view d) (stage.Ticking (pinging.Used h u) p) → Did view does d (GaveKey h.key g) e → Walking via place line (view e) (stage.Ticking (pinging.KeyGiven h u) p)
  ping_key_step g k did = record {
    stand = stood k.stand did.leaves;
    hold = did.leaves.hold_is ∙ rw k.hold refl;
    due = lefts k.due did.leaves;
    trail = record {
      key = g;
      done = [];
      pinged = pinged_more did.leaves refl refl refl k.trail.pinged;
      owes = did.leaves.owing_is ∙ rw k.trail.owes refl;
    };
  }

  pub ping_peer_step : {h : HoldView} {u : Use} {p : Pings} (g : Given) → Walking via place line (view d) (stage.Ticking (pinging.KeyGiven h u) p) → (view d).owing ≡ [] → Did view does d (GavePeer h.peer g) e → Walking via place line (view e) (stage.Ticking (pinging.PeerGiven h u) p)
  ping_peer_step {h} {u} {p} g k none did =
      let keys : List Owed = owed_if k.trail.key (owed.Key h.key) in
      let all : k.trail.done ≡ keys = all_done k.trail.done (view d).owing keys k.trail.owes none in
      record {
        stand = stood k.stand did.leaves;
        hold = did.leaves.hold_is;
        due = lefts k.due did.leaves;
        trail = record {
          key = k.trail.key;
          peer = g;
          done = [];
          pinged = subst (λ os. Pinged via place line (view e) h u p os) (all ∙ sym (append-nil keys)) (pinged_more did.leaves refl refl refl k.trail.pinged);
          owes = did.leaves.owing_is ∙ rw none refl;
        };
      }

-- ---- releases, and what others did

module _ (via : Addr → Addr) (place : Place) (line : Line) (o : Owed) where
  pub tick_released : {w v : View} (at : Pinging) (p : Pings) → TickTrail via place line w at p → first_owed w.owing ≡ Some o → Leaves w (Stepped (release_of place line.at o)) w.hold (after_first w.owing) v → TickTrail via place line v at p
  tick_released {w} pinging.Ticked p t e l = record {
    taken = t.taken;
    all = t.all;
    done = t.done ++ o ∷ [];
    is_tick = t.is_tick;
    some = t.some;
    steps = ap steps_in l.events ∙ steps_in-append w.events (Stepped (release_of place line.at o) ∷ []) ∙ rw (t.steps, releases-append) refl;
    judged = ap judgements_in l.events ∙ judgements_in-append w.events (Stepped (release_of place line.at o) ∷ []) ∙ rw t.judged refl;
    draws = ap draws_in l.events ∙ draws_in-append w.events (Stepped (release_of place line.at o) ∷ []) ∙ rw t.draws refl;
    owes = rw l.owing_is (owes_on t.done w.owing t.all o t.owes e);
    first = t.first;
    no_outs = t.no_outs;
  }
  tick_released {w} pinging.Skipped p t e l = no_first o w.owing t.owes e
  tick_released {w} (pinging.Looked peer h) p t e l = no_first o w.owing t.owes e
  tick_released {w} (pinging.Drew peer h d) p t e l = no_first o w.owing t.owes e
  tick_released {w} (pinging.Used h u) p t e l = no_first o w.owing t.owes e
  tick_released {w} (pinging.KeyGiven h u) p t e l = record {
    key = t.key;
    done = t.done ++ o ∷ [];
    pinged = pinged_released o l t.pinged;
    owes = rw l.owing_is (owes_on t.done w.owing (owed_if t.key (owed.Key h.key)) o t.owes e);
  }
  tick_released {w} {v} (pinging.PeerGiven h u) p t e l =
      let keys : List Owed = owed_if t.key (owed.Key h.key) in
      record {
        key = t.key;
        peer = t.peer;
        done = t.done ++ o ∷ [];
        pinged = subst (λ os. Pinged via place line v h u p os) (append_assoc keys t.done (o ∷ [])) (pinged_released o l t.pinged);
        owes = rw l.owing_is (owes_on t.done w.owing (owed_if t.peer (owed.Peer h.peer)) o t.owes e);
      }

  pub see_ticking : (w : View) (at : Pinging) (p : Pings) → TickTrail via place line w at p → first_owed w.owing ≡ Some o → see (stand_in at) (Stepped (release_of place line.at o)) ≡ stand_in at
  see_ticking w pinging.Ticked p t e = see_released place line.at o stand.Replied tt
  see_ticking w pinging.Skipped p t e = no_first o w.owing t.owes e
  see_ticking w (pinging.Looked peer h) p t e = no_first o w.owing t.owes e
  see_ticking w (pinging.Drew peer h d) p t e = no_first o w.owing t.owes e
  see_ticking w (pinging.Used h u) p t e = no_first o w.owing t.owes e
  see_ticking w (pinging.KeyGiven h u) p t e = refl
  see_ticking w (pinging.PeerGiven h u) p t e = see_released place line.at o (stand.PeerGiven h u) tt

module _ (via : Addr → Addr) (place : Place) (line : Line) where
  pub tick_same : {w v : View} (at : Pinging) (p : Pings) → SameLine w v → TickTrail via place line w at p → TickTrail via place line v at p
  tick_same pinging.Ticked p l t = record { taken = t.taken; all = t.all; done = t.done; is_tick = t.is_tick; some = t.some; steps = ap steps_in l.events ∙ t.steps; judged = ap judgements_in l.events ∙ t.judged; draws = ap draws_in l.events ∙ t.draws; owes = rw l.owing t.owes; first = t.first; no_outs = t.no_outs }
  tick_same pinging.Skipped p l t = record { ticks = ticks_same l t.ticks; owes = l.owing ∙ t.owes }
  tick_same (pinging.Looked peer h) p l t = record { m = t.m; has = l.grows _ _ t.has; ticks = ticks_same l t.ticks; owes = l.owing ∙ t.owes }
  tick_same (pinging.Drew peer h d) p l t = record { m = t.m; has = l.grows _ _ t.has; ticks = ticks_same l t.ticks; owes = l.owing ∙ t.owes }
  tick_same (pinging.Used h u) p l t = record { pinged = pinged_same l t.pinged; owes = l.owing ∙ t.owes }
  tick_same (pinging.KeyGiven h u) p l t = record { key = t.key; done = t.done; pinged = pinged_same l t.pinged; owes = rw l.owing t.owes }
  tick_same (pinging.PeerGiven h u) p l t = record { key = t.key; peer = t.peer; done = t.done; pinged = pinged_same l t.pinged; owes = rw l.owing t.owes }
