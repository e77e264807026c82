-- A line that runs goes on: each event leads from one stage to the next.
use Rattle.std.proofs.Common.{ℕ, ◌≡◌, ◌≤◌, length, List, [], ◌∷◌, ◌++◌, refl, sym, ◌∙◌, ap, subst, append_assoc, Bool, true, false}
use Rattle.std.specs.Prelude.{Option, Some, None, unwrap_or, ⊤}
use Rattle.ov_base.specs.declared.address.Addr.{Addr}
use Rattle.ov_base.specs.declared.address.Transport.{Transport}
use Rattle.ov_model.specs.declared.place.Place.{Place}
use Rattle.ov_model.specs.declared.act.Act.{Act}
use Rattle.ov_model.specs.declared.act.Act.TheVariants as act
use Rattle.ov_model.specs.declared.command.Command.{Command}
use Rattle.ov_model.specs.declared.command.Command.TheVariants as command
use Rattle.ov_model.specs.declared.draw.Drawn.{Drawn}
use Rattle.ov_model.specs.declared.draw.Drawn.TheVariants as drawn
use Rattle.ov_model.specs.declared.hold.Given.{Given}
use Rattle.ov_model.specs.declared.hold.Owed.{Owed}
use Rattle.ov_model.specs.declared.hold.Owed.TheVariants as owed
use Rattle.ov_model.specs.declared.reply.HoldView.{HoldView}
use Rattle.ov_model.specs.declared.reply.Settled.{Settled}
use Rattle.ov_model.specs.declared.reply.Reply.{Reply}
use Rattle.ov_model.specs.declared.reply.Reply.TheVariants as reply
use Rattle.ov_model.specs.declared.replay.Verdict.{Verdict}
use Rattle.ov_model.specs.declared.replay.Verdict.TheVariants as verdict
use Rattle.ov_model.specs.declared.replay.Refusal.{Refusal}
use Rattle.ov_model.specs.declared.replay.Refusal.TheVariants as refused
use Rattle.ov_model.specs.declared.stand.Use.{Use}
use Rattle.ov_model.specs.declared.stand.Use.TheVariants as used
use Rattle.ov_model.specs.declared.stand.Stand.TheVariants as stand
use Rattle.ov_model.specs.declared.line.Line.{Line}
use Rattle.ov_model.specs.declared.line.Deed.{Deed}
use Rattle.ov_model.specs.declared.line.Deed.TheVariants as deed
use Rattle.ov_model.specs.declared.answer.Answer.{Answer}
use Rattle.ov_model.specs.declared.answer.Answer.TheVariants as answer
use Rattle.ov_model.specs.declared.answer.DropCause.TheVariants as drop
use Rattle.ov_model.specs.Tables.{Material}
use Rattle.ov_model.specs.Packets.{opened, packet_id_of}
use Rattle.ov_model.specs.Events.{Event, Stepped, Drew, GaveKey, GavePeer, release_of}
use Rattle.ov_model.specs.Path.{first, begins, IsLook, NotTick, removed, sent_act, settle_act, sealed_out, refused_as, cause_of, settled_answer, spent_reply}
use Rattle.ov_model.specs.Next as next
use Rattle.ov_model.specs.Next.{Ask, Table, see, see_all, stand_of, is_killed, began, looked, left_after, due_by}
use Rattle.ov_path.specs.Desks.{Holding, View, SameLine, Leaves, Did, Called, Joins, HasMaterial, HoldHas, IsSpendReply, is_tick, is_ticked, look_holds, judged_at, held_after, owed_if, first_owed, after_first}
use Rattle.ov_path.specs.Parts.{refusal, PurposeFits}
use Rattle.ov_path.specs.Stages.{stand_at, left_at, replied_at}
use Rattle.ov_path.specs.declared.stage.Purpose.{Purpose}
use Rattle.ov_path.specs.declared.stage.Purpose.TheVariants as purpose
use Rattle.ov_path.specs.declared.stage.Stage.{Stage}
use Rattle.ov_path.specs.declared.stage.Stage.TheVariants as stage
use Rattle.ov_path.specs.Walks.{judged_as, Opens, Held, AtKeyGiven, Trail, Walking}
use Rattle.ov_path.proofs.Seeing.{released-append, stood, lefts, all_done, owes_on, no_first, see_released, left_released}
use Rattle.ov_path.proofs.Ticks.{ticked_step, tick_released, see_ticking, tick_same}
use Rattle.ov_path.proofs.Beginning.{tick_line}

-- ---- what is held

module _ {via : Addr → Addr} {place : Place} {line : Line} {w v : View} {e : Event} {hold : Holding} {owing : List Owed} where
  -- One event more.
  held_more : {h : HoldView} {m : Material} {later : List Event} → Held via place line w h m later → Leaves w e hold owing v → Held via place line v h m (later ++ e ∷ [])
  held_more t l = record { look = t.look; begins_so = t.begins_so; looks = t.looks; has = l.grows _ _ t.has; events = l.events ∙ rw t.events refl }

held_as : {via : Addr → Addr} {place : Place} {line : Line} {w : View} {h : HoldView} {m : Material} {later other : List Event} → later ≡ other → Held via place line w h m later → Held via place line w h m other
held_as same t = record { look = t.look; begins_so = t.begins_so; looks = t.looks; has = t.has; events = rw (← same) t.events }

-- A line that seals sends a packet.
pub record Tx (d : Deed) : Type 0 where
  pub packet : List ℕ
  pub is : d ≡ deed.Tx packet

pub is_tx : (d : Deed) → PurposeFits d purpose.Seal → Tx d
is_tx (deed.Tx packet) fits = record { packet = packet; is = refl }
is_tx (deed.Rx from bytes) fits = absurd fits
is_tx (deed.Netlink m) fits = absurd fits
is_tx deed.Tick fits = absurd fits
is_tx deed.Down fits = absurd fits
is_tx (deed.Lost id reason) fits = absurd fits

-- What the call of a look-up says.
pub record LookSays (material : ℕ → Option Material) (before : Holding) (a : Act) (r : Reply) (taken : List ℕ) (joined : List Owed) : Type 0 where
  pub takes : taken ≡ []
  pub joins : joined ≡ []
  pub hold : held_after before a r ≡ look_holds before r
  pub has : HoldHas material r
  pub began_so : began a r ≡ looked r
  pub left_so : left_after [] a r ≡ []

pub look_says : (material : ℕ → Option Material) (before : Holding) (a : Act) (r : Reply) (taken : List ℕ) (joined : List Owed) → IsLook a → Joins a r taken joined → HasMaterial material a r → LookSays material before a r taken joined
look_says material before (act.TxLook x) r taken joined look joins has = record { takes = joins.0; joins = joins.1; hold = refl; has = has; began_so = refl; left_so = refl }
look_says material before (act.RxLook id key_id from) r taken joined look joins has = record { takes = joins.0; joins = joins.1; hold = refl; has = has; began_so = refl; left_so = refl }
look_says material before (act.Do c) r taken joined look joins has = absurd look
look_says material before (act.Sent peer inner outer ping) r taken joined look joins has = absurd look
look_says material before (act.Settle peer from kind inner outer) r taken joined look joins has = absurd look
look_says material before (act.Spend peer key) r taken joined look joins has = absurd look
look_says material before (act.KeepLook peer) r taken joined look joins has = absurd look
look_says material before (act.Released peer) r taken joined look joins has = absurd look
look_says material before (act.KeyReleased key) r taken joined look joins has = absurd look

-- A verdict that isn't Accept.
pub record IsRefused (h : HoldView) (v : Verdict) (x : Refusal) : Type 0 where
  pub stand : next.judged_as h v ≡ stand.Used h (used.Refused x)
  pub is : v ≡ refused_as x

is_refused : (h : HoldView) (v : Verdict) (x : Refusal) → refusal v ≡ Some x → IsRefused h v x
is_refused h verdict.Accept x e = absurd (let same : ◌≡◌ {A = Option Refusal} None (Some x) = e in cc)
is_refused h verdict.Zero x e = let same : refused.Zero ≡ x = ap (λ q. unwrap_or q x) e in record { stand = rw (← same) refl; is = rw (← same) refl }
is_refused h verdict.Old x e = let same : refused.Old ≡ x = ap (λ q. unwrap_or q x) e in record { stand = rw (← same) refl; is = rw (← same) refl }
is_refused h verdict.Below x e = let same : refused.Below ≡ x = ap (λ q. unwrap_or q x) e in record { stand = rw (← same) refl; is = rw (← same) refl }
is_refused h verdict.Again x e = let same : refused.Again ≡ x = ap (λ q. unwrap_or q x) e in record { stand = rw (← same) refl; is = rw (← same) refl }

is_accepted : (v : Verdict) → refusal v ≡ None → v ≡ verdict.Accept
is_accepted verdict.Accept e = refl
is_accepted verdict.Zero e = absurd (let same : ◌≡◌ {A = Option Refusal} (Some refused.Zero) None = e in cc)
is_accepted verdict.Old e = absurd (let same : ◌≡◌ {A = Option Refusal} (Some refused.Old) None = e in cc)
is_accepted verdict.Below e = absurd (let same : ◌≡◌ {A = Option Refusal} (Some refused.Below) None = e in cc)
is_accepted verdict.Again e = absurd (let same : ◌≡◌ {A = Option Refusal} (Some refused.Again) None = e in cc)

pub spend_reply : (r : Reply) → IsSpendReply r → spent_reply (is_killed r) ≡ r
spend_reply reply.Killed fits = refl
spend_reply reply.AlreadyGone fits = refl
spend_reply _ fits = absurd fits

plain_command : (c : Command) → is_tick c ≡ false → NotTick c
plain_command command.Tick is = absurd (let same : ◌≡◌ {A = Bool} true false = is in cc)
plain_command _ is = tt

plain_reply : (r : Reply) → is_ticked r ≡ false → replied_at r ≡ stage.Replied (answer.Reply r)
plain_reply (reply.Ticked expired due) is = absurd (let same : ◌≡◌ {A = Bool} true false = is in cc)
plain_reply _ is = refl

tick_command : (c : Command) → is_tick c ≡ true → c ≡ command.Tick
tick_command command.Tick is = refl
tick_command _ is = absurd (let same : ◌≡◌ {A = Bool} false true = is in cc)

tick_reply : (r : Reply) → is_ticked r ≡ true → r ≡ reply.Ticked (removed r) (due_by r)
tick_reply (reply.Ticked expired due) is = refl
tick_reply _ is = absurd (let same : ◌≡◌ {A = Bool} false true = is in cc)

plain_left : (c : Command) (r : Reply) → NotTick c → left_after [] (act.Do c) r ≡ []
plain_left command.Tick r not_tick = absurd not_tick
plain_left _ r not_tick = refl

-- ---- the steps

module _ {D : Type 0} {view : D → View} {does : D → Event → D → Type 0} {via : Addr → Addr} {place : Place} {line : Line} {d e : D} where
  pub drew_step : {h : HoldView} (x : Drawn) → Walking via place line (view d) (stage.Looked h purpose.Seal) → Did view does d (Drew h.key x) e → Walking via place line (view e) (stage.Drew h x)
  drew_step x k did = record {
    stand = stood k.stand did.leaves;
    hold = did.leaves.hold_is ∙ k.hold;
    due = lefts k.due did.leaves;
    trail = record { m = k.trail.m; fits = k.trail.fits; held = held_more k.trail.held did.leaves; owes = did.leaves.owing_is ∙ k.trail.owes };
  }

  plain_step : (c : Command) (r : Reply) → NotTick c → Walking via place line (view d) stage.Fresh → begins via line.deed ≡ first (act.Do c) → Called view does d place (record { at = line.at; act = act.Do c }) r e → Walking via place line (view e) (stage.Replied (answer.Reply r))
  plain_step c r not_tick k begins_so called = record {
    stand = stood k.stand called.leaves;
    hold = called.leaves.hold_is ∙ k.hold;
    due = lefts k.due called.leaves ∙ plain_left c r not_tick;
    trail = record {
      command = c;
      r = r;
      taken = called.taken;
      all = called.joined;
      done = [];
      begins_so = begins_so;
      not_tick = not_tick;
      some = called.joins;
      events = called.leaves.events ∙ rw k.trail.none refl;
      owes = called.leaves.owing_is ∙ rw k.trail.owes refl;
      answer = refl;
    };
  }

  -- What a command's reply says of the command: a tick's is Ticked, and no other's.
  replied_step : (c : Command) (r : Reply) (b : Bool) → is_ticked r ≡ b → Walking via place line (view d) stage.Fresh → begins via line.deed ≡ first (act.Do c) → Called view does d place (record { at = line.at; act = act.Do c }) r e → Walking via place line (view e) (replied_at r)
  replied_step c r false says k begins_so called =
      rw (plain_reply r says) (plain_step c r (plain_command c (sym called.fits ∙ says)) k begins_so called)
  replied_step c r true says k begins_so was =
      let P : Command → Reply → Type 0 = λ x y. Called view does d place (record { at = line.at; act = act.Do x }) y e in
      let is : c ≡ command.Tick = tick_command c (sym was.fits ∙ says) in
      let r_is : r ≡ reply.Ticked (removed r) (due_by r) = tick_reply r says in
      let called : P command.Tick (reply.Ticked (removed r) (due_by r)) = subst (λ y. P command.Tick y) r_is (subst (λ x. P x r) is was) in
      subst (λ y. Walking via place line (view e) (replied_at y)) (sym r_is) (ticked_step (removed r) (due_by r) (tick_line via line.deed (begins_so ∙ ap (λ x. first (act.Do x)) is)) k called)

  pub command_step : (c : Command) (r : Reply) → Walking via place line (view d) stage.Fresh → begins via line.deed ≡ first (act.Do c) → Called view does d place (record { at = line.at; act = act.Do c }) r e → Walking via place line (view e) (replied_at r)
  command_step c r k begins_so called = replied_step c r (is_ticked r) refl k begins_so called

  pub looked_step : (look : Act) (h : HoldView) (p : Purpose) (r : Reply) → Walking via place line (view d) stage.Fresh → begins via line.deed ≡ first look → IsLook look → PurposeFits line.deed p → r ≡ reply.Hold h → Called view does d place (record { at = line.at; act = look }) r e → Walking via place line (view e) (stage.Looked h p)
  looked_step look h p r k begins_so is_look fits r_is was =
      let called : Called view does d place (record { at = line.at; act = look }) (reply.Hold h) e = subst (λ z. Called view does d place (record { at = line.at; act = look }) z e) r_is was in
      let says : LookSays (view e).material (view d).hold look (reply.Hold h) called.taken called.joined = look_says (view e).material (view d).hold look (reply.Hold h) called.taken called.joined is_look called.joins called.has in
      record {
        stand = stood k.stand called.leaves ∙ says.began_so;
        hold = called.leaves.hold_is ∙ says.hold;
        due = lefts k.due called.leaves ∙ says.left_so;
        trail = record {
          m = says.has.0;
          fits = fits;
          held = record { look = look; begins_so = begins_so; looks = is_look; has = says.has.1; events = called.leaves.events ∙ rw (k.trail.none, says.takes) refl };
          owes = called.leaves.owing_is ∙ rw (k.trail.owes, says.joins) refl;
        };
      }

  pub sent_step : {h : HoldView} {packet : List ℕ} (i : ℕ) (m : Material) (x : Act) (r : Reply) → Walking via place line (view d) (stage.Drew h (drawn.Id i)) → line.deed ≡ deed.Tx packet → (view d).material h.key ≡ Some m → x ≡ sent_act h false packet → Called view does d place (record { at = line.at; act = x }) r e → Walking via place line (view e) (stage.Used h (used.Sealed i) (answer.Sealed (sealed_out h m i packet)))
  sent_step {h} {packet} i m x r k deed_is has x_is was =
      let P : Act → Type 0 = λ y. Called view does d place (record { at = line.at; act = y }) r e in
      let called : P (sent_act h false packet) = subst P x_is was in
      record {
        stand = stood k.stand called.leaves;
        hold = called.leaves.hold_is ∙ k.hold;
        due = lefts k.due called.leaves;
        trail = record {
          m = m;
          fits = rw deed_is tt;
          held = record { look = k.trail.held.look; begins_so = k.trail.held.begins_so; looks = k.trail.held.looks; has = called.leaves.grows _ _ has; events = called.leaves.events ∙ rw (k.trail.held.events, deed_is, called.fits, called.joins.0) refl };
          owes = called.leaves.owing_is ∙ rw (k.trail.owes, called.joins.1) refl;
          answer = rw deed_is refl;
        };
      }

  pub spend_step : {h : HoldView} (r : Reply) → Walking via place line (view d) (stage.Drew h drawn.Spent) → Called view does d place (record { at = line.at; act = act.Spend h.peer h.key }) r e → Walking via place line (view e) (stage.Used h (used.Spent (is_killed r)) (answer.Dropped drop.Spent))
  spend_step {h} r k called =
      let t = is_tx line.deed k.trail.fits in
      record {
        stand = stood k.stand called.leaves;
        hold = called.leaves.hold_is ∙ k.hold;
        due = lefts k.due called.leaves;
        trail = record {
          m = k.trail.m;
          fits = rw t.is tt;
          held = record { look = k.trail.held.look; begins_so = k.trail.held.begins_so; looks = k.trail.held.looks; has = called.leaves.grows _ _ k.trail.held.has; events = called.leaves.events ∙ rw (k.trail.held.events, t.is, called.joins.0, spend_reply r called.fits) refl };
          owes = called.leaves.owing_is ∙ rw (k.trail.owes, called.joins.1) refl;
          answer = rw t.is refl;
        };
      }

  pub bad_tag_step : {h : HoldView} {id : ℕ} {from : Transport} {bytes : List ℕ} (m : Material) (g : Given) → Walking via place line (view d) (stage.Looked h (purpose.Open id)) → line.deed ≡ deed.Rx from bytes → (view d).material h.key ≡ Some m → None ≡ opened m.decrypt bytes → Did view does d (GaveKey h.key g) e → Walking via place line (view e) (stage.KeyGiven h used.BadTag (answer.Dropped drop.BadTag))
  bad_tag_step m g k deed_is has closed did = record {
    stand = stood k.stand did.leaves;
    hold = did.leaves.hold_is ∙ rw k.hold refl;
    due = lefts k.due did.leaves;
    trail = record {
      m = m;
      key = g;
      done = [];
      fits = rw deed_is (sym closed);
      held = record { look = k.trail.held.look; begins_so = k.trail.held.begins_so; looks = k.trail.held.looks; has = did.leaves.grows _ _ has; events = did.leaves.events ∙ rw (k.trail.held.events, deed_is) refl };
      owes = did.leaves.owing_is ∙ rw k.trail.owes refl;
      answer = rw deed_is refl;
    };
  }

  pub judged_step : {h : HoldView} {id : ℕ} {from : Transport} {bytes packet : List ℕ} (m : Material) (x : Verdict) → Walking via place line (view d) (stage.Looked h (purpose.Open id)) → line.deed ≡ deed.Rx from bytes → (view d).material h.key ≡ Some m → Some packet ≡ opened m.decrypt bytes → length packet ≤ 65536 → id ≡ packet_id_of bytes → refusal x ≡ None → Did view does d (judged_at place h.key id line.at x) e → Walking via place line (view e) (stage.Judged h packet)
  judged_step {h} {id} {from} {bytes} {packet} m x k deed_is has inner short id_is accepts was =
      let P : ℕ → Verdict → Type 0 = λ n y. Did view does d (judged_at place h.key n line.at y) e in
      let did : P (packet_id_of bytes) verdict.Accept = subst (λ y. P (packet_id_of bytes) y) (is_accepted x accepts) (subst (λ n. P n x) id_is was) in
      record {
        stand = stood k.stand did.leaves;
        hold = did.leaves.hold_is ∙ k.hold;
        due = lefts k.due did.leaves;
        trail = record {
          m = m;
          later = judged_as place line.at h bytes verdict.Accept ∷ [];
          short = short;
          held = record { look = k.trail.held.look; begins_so = k.trail.held.begins_so; looks = k.trail.held.looks; has = did.leaves.grows _ _ has; events = did.leaves.events ∙ rw k.trail.held.events refl };
          opens = rw deed_is (sym inner, refl);
          owes = did.leaves.owing_is ∙ k.trail.owes;
        };
      }

  pub refused_step : {h : HoldView} {id : ℕ} {from : Transport} {bytes packet : List ℕ} (m : Material) (j : Verdict) (x : Refusal) → Walking via place line (view d) (stage.Looked h (purpose.Open id)) → line.deed ≡ deed.Rx from bytes → (view d).material h.key ≡ Some m → Some packet ≡ opened m.decrypt bytes → id ≡ packet_id_of bytes → refusal j ≡ Some x → Did view does d (judged_at place h.key id line.at j) e → Walking via place line (view e) (stage.Used h (used.Refused x) (answer.Dropped (cause_of x)))
  refused_step {h} {id} {from} {bytes} {packet} m j x k deed_is has inner id_is refuses was =
      let r : IsRefused h j x = is_refused h j x refuses in
      let P : ℕ → Type 0 = λ n. Did view does d (judged_at place h.key n line.at j) e in
      let did : P (packet_id_of bytes) = subst P id_is was in
      record {
        stand = stood k.stand did.leaves ∙ r.stand;
        hold = did.leaves.hold_is ∙ k.hold;
        due = lefts k.due did.leaves;
        trail = record {
          m = m;
          fits = rw deed_is (rw (← inner) refl);
          held = record { look = k.trail.held.look; begins_so = k.trail.held.begins_so; looks = k.trail.held.looks; has = did.leaves.grows _ _ has; events = did.leaves.events ∙ rw (k.trail.held.events, deed_is, r.is) refl };
          owes = did.leaves.owing_is ∙ k.trail.owes;
          answer = rw deed_is refl;
        };
      }

  pub settled_step : {h : HoldView} {from : Transport} {bytes packet : List ℕ} (s : Settled) (x : Act) (r : Reply) → Walking via place line (view d) (stage.Judged h packet) → line.deed ≡ deed.Rx from bytes → x ≡ settle_act via h from packet bytes → r ≡ reply.Settled s → Called view does d place (record { at = line.at; act = x }) r e → Walking via place line (view e) (stage.Used h (used.Settled s) (settled_answer s h packet))
  settled_step {h} {from} {bytes} {packet} s x r k deed_is x_is r_is was =
      let P : Act → Reply → Type 0 = λ y z. Called view does d place (record { at = line.at; act = y }) z e in
      let called : P (settle_act via h from packet bytes) (reply.Settled s) = subst (λ z. P (settle_act via h from packet bytes) z) r_is (subst (λ y. P y r) x_is was) in
      let Q : Deed → Type 0 = λ y. Opens place line.at h y k.trail.m k.trail.later packet in
      let opens : Q (deed.Rx from bytes) = subst Q deed_is k.trail.opens in
      let inner : opened k.trail.m.decrypt bytes ≡ Some packet = opens.0 in
      record {
        stand = stood k.stand called.leaves;
        hold = called.leaves.hold_is ∙ k.hold;
        due = lefts k.due called.leaves;
        trail = record {
          m = k.trail.m;
          fits = rw deed_is (rw inner refl);
          held = record { look = k.trail.held.look; begins_so = k.trail.held.begins_so; looks = k.trail.held.looks; has = called.leaves.grows _ _ k.trail.held.has; events = called.leaves.events ∙ rw (k.trail.held.events, opens.1, deed_is, inner, called.joins.0) refl };
          owes = called.leaves.owing_is ∙ rw (k.trail.owes, called.joins.1) refl;
          answer = rw deed_is (rw inner refl);
        };
      }

  pub key_given_step : {h : HoldView} {u : Use} {a : Answer} (g : Given) → Walking via place line (view d) (stage.Used h u a) → Did view does d (GaveKey h.key g) e → Walking via place line (view e) (stage.KeyGiven h u a)
  key_given_step g k did = record {
    stand = stood k.stand did.leaves;
    hold = did.leaves.hold_is ∙ rw k.hold refl;
    due = lefts k.due did.leaves;
    trail = record { m = k.trail.m; key = g; done = []; fits = k.trail.fits; held = held_more k.trail.held did.leaves; owes = did.leaves.owing_is ∙ rw k.trail.owes refl; answer = k.trail.answer };
  }

  pub peer_given_step : {h : HoldView} {u : Use} {a : Answer} (g : Given) → Walking via place line (view d) (stage.KeyGiven h u a) → (view d).owing ≡ [] → Did view does d (GavePeer h.peer g) e → Walking via place line (view e) (stage.PeerGiven h u a)
  peer_given_step {h} {u} {a} g k none did =
      let t : AtKeyGiven via place line (view d) h u a = k.trail in
      let all : t.done ≡ owed_if t.key (owed.Key h.key) = all_done t.done (view d).owing (owed_if t.key (owed.Key h.key)) t.owes none in
      record {
        stand = stood k.stand did.leaves;
        hold = did.leaves.hold_is;
        due = lefts k.due did.leaves;
        trail = record {
          m = t.m;
          key = t.key;
          peer = g;
          done = [];
          fits = t.fits;
          held = held_as (rw (← all) (rw append_assoc refl)) (held_more t.held did.leaves);
          owes = did.leaves.owing_is ∙ rw none refl;
          answer = t.answer;
        };
      }

-- ---- releases

module _ (via : Addr → Addr) (place : Place) (line : Line) (o : Owed) where
  released_trail : {w v : View} (s : Stage) → Trail via place line w s → first_owed w.owing ≡ Some o → Leaves w (Stepped (release_of place line.at o)) w.hold (after_first w.owing) v → Trail via place line v s
  released_trail {w} stage.Fresh t e l = no_first o w.owing t.owes e
  released_trail {w} (stage.Replied a) t e l = record {
    command = t.command;
    r = t.r;
    taken = t.taken;
    all = t.all;
    done = t.done ++ o ∷ [];
    begins_so = t.begins_so;
    not_tick = t.not_tick;
    some = t.some;
    events = l.events ∙ rw (t.events, released-append) refl;
    owes = rw l.owing_is (owes_on t.done w.owing t.all o t.owes e);
    answer = t.answer;
  }
  released_trail {w} (stage.Looked h p) t e l = no_first o w.owing t.owes e
  released_trail {w} (stage.Drew h d) t e l = no_first o w.owing t.owes e
  released_trail {w} (stage.Judged h packet) t e l = no_first o w.owing t.owes e
  released_trail {w} (stage.Used h u a) t e l = no_first o w.owing t.owes e
  released_trail {w} (stage.KeyGiven h u a) t e l = record {
    m = t.m;
    key = t.key;
    done = t.done ++ o ∷ [];
    fits = t.fits;
    held = held_as (rw (released-append, append_assoc) refl) (held_more t.held l);
    owes = rw l.owing_is (owes_on t.done w.owing (owed_if t.key (owed.Key h.key)) o t.owes e);
    answer = t.answer;
  }
  released_trail {w} (stage.PeerGiven h u a) t e l = record {
    m = t.m;
    key = t.key;
    peer = t.peer;
    done = t.done ++ o ∷ [];
    fits = t.fits;
    held = held_as (rw (released-append, append_assoc, append_assoc) refl) (held_more t.held l);
    owes = rw l.owing_is (owes_on t.done w.owing (owed_if t.peer (owed.Peer h.peer)) o t.owes e);
    answer = t.answer;
  }
  released_trail (stage.Ticking at p) t e l = tick_released via place line o at p t e l

  see_release : (w : View) (s : Stage) → Trail via place line w s → first_owed w.owing ≡ Some o → see (stand_at s) (Stepped (release_of place line.at o)) ≡ stand_at s
  see_release w stage.Fresh t e = no_first o w.owing t.owes e
  see_release w (stage.Replied a) t e = see_released place line.at o stand.Replied tt
  see_release w (stage.Looked h p) t e = refl
  see_release w (stage.Drew h d) t e = no_first o w.owing t.owes e
  see_release w (stage.Judged h packet) t e = no_first o w.owing t.owes e
  see_release w (stage.Used h u a) t e = refl
  see_release w (stage.KeyGiven h u a) t e = refl
  see_release w (stage.PeerGiven h u a) t e = see_released place line.at o (stand.PeerGiven h u) tt
  see_release w (stage.Ticking at p) t e = see_ticking via place line o w at p t e

-- ---- what others did, and the next hop

module _ {via : Addr → Addr} {place : Place} {line : Line} {w v : View} where
  held_same : {h : HoldView} {m : Material} {later : List Event} → SameLine w v → Held via place line w h m later → Held via place line v h m later
  held_same l t = record { look = t.look; begins_so = t.begins_so; looks = t.looks; has = l.grows _ _ t.has; events = l.events ∙ t.events }

module _ (via : Addr → Addr) (place : Place) (line : Line) where
  trail_same : {w v : View} (s : Stage) → SameLine w v → Trail via place line w s → Trail via place line v s
  trail_same stage.Fresh l t = record { none = l.events ∙ t.none; owes = l.owing ∙ t.owes }
  trail_same (stage.Replied a) l t = record { command = t.command; r = t.r; taken = t.taken; all = t.all; done = t.done; begins_so = t.begins_so; not_tick = t.not_tick; some = t.some; events = l.events ∙ t.events; owes = rw l.owing t.owes; answer = t.answer }
  trail_same (stage.Looked h p) l t = record { m = t.m; fits = t.fits; held = held_same l t.held; owes = l.owing ∙ t.owes }
  trail_same (stage.Drew h d) l t = record { m = t.m; fits = t.fits; held = held_same l t.held; owes = l.owing ∙ t.owes }
  trail_same (stage.Judged h packet) l t = record { m = t.m; later = t.later; short = t.short; held = held_same l t.held; opens = t.opens; owes = l.owing ∙ t.owes }
  trail_same (stage.Used h u a) l t = record { m = t.m; fits = t.fits; held = held_same l t.held; owes = l.owing ∙ t.owes; answer = t.answer }
  trail_same (stage.KeyGiven h u a) l t = record { m = t.m; key = t.key; done = t.done; fits = t.fits; held = held_same l t.held; owes = rw l.owing t.owes; answer = t.answer }
  trail_same (stage.Ticking at p) l t = tick_same via place line at p l t
  trail_same (stage.PeerGiven h u a) l t = record { m = t.m; key = t.key; peer = t.peer; done = t.done; fits = t.fits; held = held_same l t.held; owes = rw l.owing t.owes; answer = t.answer }

-- A line under way stays so whatever others do at the desk, who leave the line's own as it is.
pub walking_grows : {via : Addr → Addr} {place : Place} {line : Line} {w v : View} {s : Stage} → SameLine w v → Walking via place line w s → Walking via place line v s
walking_grows {via} {place} {line} {s = s} l k = record { stand = rw l.events k.stand; hold = l.hold ∙ k.hold; due = rw l.events k.due; trail = trail_same via place line s l k.trail }

-- A line that has not asked for a next hop yet may ask for any.
abbrev pub HasNotAsked : Stage → Deed → Type 0
HasNotAsked stage.Fresh d = ⊤
HasNotAsked (stage.Looked h (purpose.Open id)) d = ⊤
HasNotAsked (stage.Judged h packet) d = ⊤
HasNotAsked _ d = ⊥

rx_begins : (via vib : Addr → Addr) (d : Deed) (id : ℕ) → PurposeFits d (purpose.Open id) → begins vib d ≡ begins via d
rx_begins via vib (deed.Rx from bytes) id fits = refl
rx_begins via vib (deed.Tx packet) id fits = absurd fits
rx_begins via vib (deed.Netlink m) id fits = absurd fits
rx_begins via vib deed.Tick id fits = absurd fits
rx_begins via vib deed.Down id fits = absurd fits
rx_begins via vib (deed.Lost peer reason) id fits = absurd fits

opens_begins : (via vib : Addr → Addr) (place : Place) (at : ℕ) (h : HoldView) (d : Deed) (m : Material) (later : List Event) (packet : List ℕ) → Opens place at h d m later packet → begins vib d ≡ begins via d
opens_begins via vib place at h (deed.Rx from bytes) m later packet opens = refl
opens_begins via vib place at h (deed.Tx p) m later packet opens = absurd opens
opens_begins via vib place at h (deed.Netlink n) m later packet opens = absurd opens
opens_begins via vib place at h deed.Tick m later packet opens = absurd opens
opens_begins via vib place at h deed.Down m later packet opens = absurd opens
opens_begins via vib place at h (deed.Lost id reason) m later packet opens = absurd opens

held_asks : {via vib : Addr → Addr} {place : Place} {line : Line} {w : View} {h : HoldView} {m : Material} {later : List Event} → begins vib line.deed ≡ begins via line.deed → Held via place line w h m later → Held vib place line w h m later
held_asks same t = record { look = t.look; begins_so = same ∙ t.begins_so; looks = t.looks; has = t.has; events = t.events }

trail_asks : (via vib : Addr → Addr) (place : Place) (line : Line) (w : View) (s : Stage) → HasNotAsked s line.deed → Trail via place line w s → Trail vib place line w s
trail_asks via vib place line w stage.Fresh asks t = record { none = t.none; owes = t.owes }
trail_asks via vib place line w (stage.Looked h (purpose.Open id)) asks t = record { m = t.m; fits = t.fits; held = held_asks (rx_begins via vib line.deed id t.fits) t.held; owes = t.owes }
trail_asks via vib place line w (stage.Judged h packet) asks t = record { m = t.m; later = t.later; short = t.short; held = held_asks (opens_begins via vib place line.at h line.deed t.m t.later packet t.opens) t.held; opens = t.opens; owes = t.owes }
trail_asks via vib place line w (stage.Looked h purpose.Seal) asks t = absurd asks
trail_asks via vib place line w (stage.Replied a) asks t = absurd asks
trail_asks via vib place line w (stage.Drew h d) asks t = absurd asks
trail_asks via vib place line w (stage.Used h u a) asks t = absurd asks
trail_asks via vib place line w (stage.KeyGiven h u a) asks t = absurd asks
trail_asks via vib place line w (stage.PeerGiven h u a) asks t = absurd asks
trail_asks via vib place line w (stage.Ticking at p) asks t = absurd asks

pub walking_asks : {via vib : Addr → Addr} {place : Place} {line : Line} {w : View} {s : Stage} → HasNotAsked s line.deed → Walking via place line w s → Walking vib place line w s
walking_asks {via} {vib} {place} {line} {w} {s} asks k = record { stand = k.stand; hold = k.hold; due = k.due; trail = trail_asks via vib place line w s asks k.trail }

-- ---- a release

module _ {D : Type 0} {view : D → View} {does : D → Event → D → Type 0} {via : Addr → Addr} {place : Place} {line : Line} {d e : D} where
  pub release_step : {s : Stage} (o : Owed) → Walking via place line (view d) s → first_owed (view d).owing ≡ Some o → Did view does d (Stepped (release_of place line.at o)) e → Walking via place line (view e) s
  release_step {s} o k is did = record {
    stand = stood k.stand did.leaves ∙ see_release via place line o (view d) s k.trail is;
    hold = did.leaves.hold_is ∙ k.hold;
    due = lefts k.due did.leaves ∙ left_released place line.at o (left_at s);
    trail = released_trail via place line o s k.trail is did.leaves;
  }
