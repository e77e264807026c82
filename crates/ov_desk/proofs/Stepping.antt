-- What a step of the table leaves: any that a line may ask for.
use Rattle.std.proofs.Common.{ℕ, ◌≡◌, ◌<◌, List, [], ◌∷◌, ◌++◌, length, append-nil, refl, sym, ◌∙◌, ap, subst, arith, Bool, true, false}
use Rattle.std.specs.Prelude.{Option, Some, None, Contains, is_some, max, map}
use mathlib.Core.List.{IsPrefix}
use Rattle.ov_model.specs.declared.act.Act.{Act}
use Rattle.ov_model.specs.declared.act.Act.TheVariants as act
use Rattle.ov_model.specs.declared.act.Call.{Call}
use Rattle.ov_model.specs.declared.command.Command.{Command}
use Rattle.ov_model.specs.declared.draw.Drawn.TheVariants as drawn
use Rattle.ov_model.specs.declared.entry.Entry.{Entry}
use Rattle.ov_model.specs.declared.hold.Owed.{Owed}
use Rattle.ov_model.specs.declared.place.Place.{Place}
use Rattle.ov_model.specs.declared.reply.HoldView.{HoldView}
use Rattle.ov_model.specs.declared.reply.Reply.{Reply}
use Rattle.ov_model.specs.declared.reply.Reply.TheVariants as reply
use Rattle.ov_model.specs.declared.stand.Stand.{Stand}
use Rattle.ov_model.specs.declared.stand.Stand.TheVariants as stand
use Rattle.ov_model.specs.Events.{Event}
use Rattle.ov_model.specs.Keys.{key_of}
use Rattle.ov_model.specs.Next.{stand_of, stepped, is_killed}
use Rattle.ov_model.specs.Path.{spent_reply, spent_taken}
use Rattle.ov_model.specs.Runs.{IsRun, last_table, notes_of}
use Rattle.ov_model.specs.Step.{Outcome, step, May}
use Rattle.ov_model.specs.Tables.{Table, Material, empty_table}
use Rattle.ov_model.proofs.Going.{table_after-append}
use Rattle.ov_model.proofs.Removing.{tx_look_keeps, rx_look_keeps, keep_look_keeps, sent_keeps, settle_keeps, Spends, spend_spends}
use Rattle.ov_model.proofs.Tallies.{removed_differ}
use Rattle.ov_path.specs.Desks.{Holding, NoHold, Both, PeerLeft, HoldsKey, HoldsPeer, MayCall, IsSpent, Grows, IsReplyOf, Joins, HoldHas, HasMaterial, Called, held_after, look_holds, stepped_as}
use Rattle.ov_share.specs.Shares.{Sharing, IsShareOf}
use Rattle.ov_share.specs.Makings.{SpendKnown}
use Rattle.ov_table.specs.Cells.{key_cell}
use Rattle.ov_table.specs.Pairs.{pair_in}
use Rattle.ov_table.specs.Recorded.{Recorded, IsTold, entry_of, stepped as table_stepped}
use Rattle.ov_table.proofs.Held.{tx_held, rx_held, keep_held}
use Rattle.ov_table.proofs.Installed.{pair_installed}
use Rattle.ov_table.proofs.Told.{told_step}
use Rattle.ov_base.specs.Sums.{count_of}
use Rattle.ov_ticket.specs.Asks.{FoundLow, GotLow, Joined, MayAsk, IsIdle, found_cells, found_pair, got_cells}
use Rattle.ov_ticket.specs.Within.{cell_of}
use Rattle.ov_turn.proofs.Members.{has_here, counted_has}
use Rattle.ov_ticket.specs.Tickets.{StepAt}
use Rattle.ov_desk.specs.Sittings.{Sitting, shown_of, Happened}
use Rattle.ov_desk.specs.Kept.{IsKept, IsInRange, PairFits, IsDry, IsUnjudged, IsFew, cells_of_hold}
use Rattle.ov_desk.proofs.Standing.{GoesOn, call_on, not_dry, stands_by, unjudged_more}
use Rattle.ov_desk.proofs.Making.{key_grows, seen_on, entry_made}
use Rattle.ov_desk.proofs.Replies.{tx_fits, rx_fits, keep_fits, sent_done, settle_says, is_spend, killed_is, command_ticked}
use Rattle.ov_desk.proofs.Leaving.{pair_on, last_held}

-- ---- what may be asked under the lock

peer_held : (h : Holding) (peer : ℕ) → HoldsPeer h peer → IsInRange h → (peer < 4096) × (0 < count_of peer (cells_of_hold h))
peer_held (Both h) peer names range = subst (λ p. (p < 4096) × (0 < count_of p (cells_of_hold (Both h)))) names (range.0, counted_has h.peer (cells_of_hold (Both h)) (omega (arith, has_here h.peer (key_cell h.key ∷ []))))
peer_held NoHold peer names range = absurd names
peer_held (PeerLeft h) peer names range = absurd names

key_held : (h : Holding) (key : ℕ) → HoldsKey h key → 0 < count_of (key_cell key) (cells_of_hold h)
key_held (Both h) key names = subst (λ k. 0 < count_of (key_cell k) (cells_of_hold (Both h))) names (counted_has (key_cell h.key) (cells_of_hold (Both h)) (omega (arith, last_held h.peer (key_cell h.key))))
key_held NoHold key names = absurd names
key_held (PeerLeft h) key names = absurd names

module _ (d : Sitting) (held : List ℕ) (was : Option Material) (kept : IsKept d held was) (owes_are : d.share.sight.owes ≡ map cell_of d.owing) where
  idle : d.hold ≡ NoHold → d.owing ≡ [] → IsIdle d.share.sight.holds d.share.sight.owes
  idle free none = (kept.holds ∙ ap cells_of_hold free, owes_are ∙ ap (map cell_of) none)

  holds_peer : (peer : ℕ) → HoldsPeer d.hold peer → (peer < 4096) × (0 < count_of peer d.share.sight.holds)
  holds_peer peer names = subst (λ cs. (peer < 4096) × (0 < count_of peer cs)) (sym kept.holds) (peer_held d.hold peer names kept.range)

  pub may_ask : (a : Act) → MayCall (shown_of d) a → MayAsk d.share.sight.holds d.share.sight.owes a
  may_ask (act.Do c) may = idle may.0 may.1
  may_ask (act.TxLook a) may = idle may.0 may.1
  may_ask (act.RxLook id key_id from) may = idle may.0 may.1
  may_ask (act.KeepLook peer) may = idle may.hold may.owing
  may_ask (act.Sent peer inner outer ping) may = holds_peer peer may.0
  may_ask (act.Settle peer from k inner outer) may = holds_peer peer may.0
  may_ask (act.Spend peer key) may = (holds_peer peer may.0, subst (λ cs. 0 < count_of (key_cell key) cs) (sym kept.holds) (key_held d.hold key may.1))
  may_ask (act.Released peer) may = absurd may
  may_ask (act.KeyReleased key) may = absurd may

-- ---- the table of a history

abbrev told_of : List Entry → Recorded
told_of es = record { now = last_table es; journal = es; notes = notes_of es; taken = [] }

is_told : (es : List Entry) → IsRun es → IsTold (told_of es)
is_told es run = record { run = run; last = refl; notes = refl }

-- The history with the entry of a call.
abbrev after_call : List Entry → Place → Call → List Entry
after_call es place call = es ++ entry_of (last_table es) place call ∷ []

-- ---- look-ups

some_of : (o : Option Material) → is_some o ≡ true → (m : Material) × (o ≡ Some m)
some_of (Some m) some = (m, refl)
some_of None some = absurd (cc)

-- Of the key that a look-up holds the table has the pair, and the history says the same.
abbrev Installs : List Entry → Place → Call → Type 0
Installs es place call = (v : HoldView) → (step (last_table es) call).reply ≡ reply.Hold v → (m : Material) × (pair_in (step (last_table es) call).after v.key ≡ Some m) × (key_of (after_call es place call) v.key ≡ Some m)

installs : (es : List Entry) (place : Place) (call : Call) → IsRun es → May (last_table es) call → ((v : HoldView) → (step (last_table es) call).reply ≡ reply.Hold v → is_some (pair_in (step (last_table es) call).after v.key) ≡ true) → Installs es place call
installs es place call run may holds v is =
    let pair = some_of (pair_in (step (last_table es) call).after v.key) (holds v is) in
    (pair.0, pair.1, pair_installed (table_stepped (told_of es) place call) v.key pair.0 (told_step (told_of es) place call may (is_told es run)) pair.1)

-- What a look-up leaves to a line that held nothing.
record LookLeaves (material : ℕ → Option Material) (r : Reply) (pair : Option Material) : Type 0 where
  has_material : HoldHas material r
  cells : found_cells r ≡ cells_of_hold (look_holds NoHold r)
  range : IsInRange (look_holds NoHold r)
  fits : PairFits material (look_holds NoHold r) pair
  few : IsFew (look_holds NoHold r) []

look_leaves : (material : ℕ → Option Material) (t : Table) (r : Reply) (was pair : Option Material) → FoundLow r → ((v : HoldView) → r ≡ reply.Hold v → (m : Material) × (pair_in t v.key ≡ Some m) × (material v.key ≡ Some m)) → pair ≡ found_pair t r was → LookLeaves material r pair
look_leaves material t (reply.Hold v) was pair low installed pair_is =
    let i = installed v refl in
    record { has_material = (i.0, i.2); cells = refl; range = low; fits = (i.0, pair_is ∙ i.1, i.2); few = refl }
look_leaves material t _ was pair low installed pair_is = record { has_material = tt; cells = refl; range = tt; fits = tt; few = tt }

-- ---- what any step gives

-- What a step of the table gives that a line asked for.
record Fitting (d : Sitting) (es : List Entry) (place : Place) (call : Call) (o : Outcome) (joined : List Owed) (pair : Option Material) : Type 0 where
  fits : IsReplyOf call.act o.reply
  joins : Joins call.act o.reply o.taken joined
  has_material : HasMaterial (key_of (after_call es place call)) call.act o.reply
  cells : cells_of_hold d.hold ++ got_cells call.act o.reply ≡ cells_of_hold (held_after d.hold call.act o.reply)
  range : IsInRange (held_after d.hold call.act o.reply)
  pair_fits : PairFits (key_of (after_call es place call)) (held_after d.hold call.act o.reply) pair
  few : IsFew (held_after d.hold call.act o.reply) (d.owing ++ joined)
  spends : SpendKnown d.share.drawer.spent call.act

look_fits : (d : Sitting) (es : List Entry) (place : Place) (call : Call) (joined : List Owed) (pair : Option Material) → (let o : Outcome = step (last_table es) call in d.hold ≡ NoHold → d.owing ≡ [] → joined ≡ [] → held_after d.hold call.act o.reply ≡ look_holds d.hold o.reply → got_cells call.act o.reply ≡ found_cells o.reply
    → IsReplyOf call.act o.reply → Joins call.act o.reply o.taken joined → (HoldHas (key_of (after_call es place call)) o.reply → HasMaterial (key_of (after_call es place call)) call.act o.reply) → SpendKnown d.share.drawer.spent call.act → LookLeaves (key_of (after_call es place call)) o.reply pair → Fitting d es place call o joined pair)
look_fits d es place call joined pair free owes none held got fits joins has_material spends leaves =
    let o : Outcome = step (last_table es) call in
    let material : ℕ → Option Material = key_of (after_call es place call) in
    let holds : held_after d.hold call.act o.reply ≡ look_holds NoHold o.reply = held ∙ ap (λ h. look_holds h o.reply) free in
    let nothing : d.owing ++ joined ≡ [] = ap (λ os. os ++ joined) owes ∙ none in
    record {
      fits = fits;
      joins = joins;
      has_material = has_material leaves.has_material;
      cells = ap (λ h. cells_of_hold h ++ got_cells call.act o.reply) free ∙ got ∙ leaves.cells ∙ ap cells_of_hold (sym holds);
      range = subst IsInRange (sym holds) leaves.range;
      pair_fits = subst (λ h. PairFits material h pair) (sym holds) leaves.fits;
      few = subst (λ h. IsFew h (d.owing ++ joined)) (sym holds) (subst (λ os. IsFew (look_holds NoHold o.reply) os) (sym nothing) leaves.few);
      spends = spends;
    }

use_fits : (d : Sitting) (held : List ℕ) (was : Option Material) (es : List Entry) (place : Place) (call : Call) (joined : List Owed) (pair : Option Material) → IsKept d held was → (let o : Outcome = step (last_table es) call in held_after d.hold call.act o.reply ≡ d.hold → got_cells call.act o.reply ≡ [] → pair ≡ was
    → Grows (key_of d.share.sight.seen) (key_of (after_call es place call)) → joined ≡ [] → IsReplyOf call.act o.reply → Joins call.act o.reply o.taken joined → HasMaterial (key_of (after_call es place call)) call.act o.reply → SpendKnown d.share.drawer.spent call.act → Fitting d es place call o joined pair)
use_fits d held was es place call joined pair kept stays got same grows none fits joins has_material spends =
    let o : Outcome = step (last_table es) call in
    let material : ℕ → Option Material = key_of (after_call es place call) in
    let owing : d.owing ++ joined ≡ d.owing = ap (λ os. d.owing ++ os) none ∙ append-nil d.owing in
    record {
      fits = fits;
      joins = joins;
      has_material = has_material;
      cells = ap (λ cs. cells_of_hold d.hold ++ cs) got ∙ append-nil (cells_of_hold d.hold) ∙ ap cells_of_hold (sym stays);
      range = subst IsInRange (sym stays) kept.range;
      pair_fits = subst (λ h. PairFits material h pair) (sym stays) (subst (λ p. PairFits material d.hold p) (sym same) (pair_on (key_of d.share.sight.seen) material d.hold was grows kept.pair_is));
      few = subst (λ h. IsFew h (d.owing ++ joined)) (sym stays) (subst (λ os. IsFew d.hold os) (sym owing) kept.few);
      spends = spends;
    }

-- After a command the line holds nothing, as before.
command_fits : (d : Sitting) (es : List Entry) (place : Place) (at : ℕ) (c : Command) (joined : List Owed) (pair : Option Material) → d.hold ≡ NoHold → (let call : Call = record { at = at; act = act.Do c } in let o : Outcome = step (last_table es) call in Joins (act.Do c) o.reply o.taken joined → Fitting d es place call o joined pair)
command_fits d es place at c joined pair free joins =
    let t : Table = last_table es in
    record {
      fits = command_ticked t (max t.moment at) c;
      joins = joins;
      has_material = tt;
      cells = append-nil (cells_of_hold d.hold);
      range = subst IsInRange (sym free) tt;
      pair_fits = subst (λ h. PairFits (key_of (after_call es place (record { at = at; act = act.Do c }))) h pair) (sym free) tt;
      few = subst (λ h. IsFew h (d.owing ++ joined)) (sym free) tt;
      spends = tt;
    }

spent_known : (spent : List ℕ) (h : Holding) (s : Stand) (key : ℕ) → IsDry spent h s → HoldsKey h key → IsSpent s → Contains spent key
spent_known spent (Both h) (stand.Drew v drawn.Spent) key dry names is = subst (λ k. Contains spent k) names dry
spent_known spent (Both h) (stand.Drew v (drawn.Id n)) key dry names is = absurd is
spent_known spent (Both h) _ key dry names is = absurd is
spent_known spent NoHold s key dry names is = absurd names
spent_known spent (PeerLeft h) s key dry names is = absurd names

spent_pair : (t : Table) (killed : Bool) (was : Option Material) → found_pair t (spent_reply killed) was ≡ was
spent_pair t true was = refl
spent_pair t false was = refl

module _ (d : Sitting) (held : List ℕ) (was pair : Option Material) (es : List Entry) (place : Place) (joined : List Owed) (kept : IsKept d held was) (front : IsPrefix d.share.sight.seen es) (run : IsRun es) where
  grows_to : (call : Call) → Grows (key_of d.share.sight.seen) (key_of (after_call es place call))
  grows_to call = key_grows d.share.sight.seen (after_call es place call) (seen_on d.share.sight.seen es (after_call es place call) (entry_of (last_table es) place call) front refl)

  -- What any step gives that a line may ask for.
  call_fits : (at : ℕ) (a : Act) → MayCall (shown_of d) a → (let call : Call = record { at = at; act = a } in let o : Outcome = step (last_table es) call in May (last_table es) call → Joined a o.reply o.taken joined → GotLow a o.reply → pair ≡ found_pair o.after o.reply was → Fitting d es place call o joined pair)
  call_fits at (act.Do c) may may_be joins low pair_is = command_fits d es place at c joined pair may.0 joins
  call_fits at (act.TxLook a) may may_be joins low pair_is =
      let t : Table = last_table es in
      let now : ℕ = max t.moment at in
      let call : Call = record { at = at; act = act.TxLook a } in
      let o : Outcome = step t call in
      look_fits d es place call joined pair may.0 may.1 joins refl refl (tx_fits t now a) ((tx_look_keeps t now a).taken, joins) (λ x. x) tt
      (look_leaves (key_of (after_call es place call)) o.after o.reply was pair low (installs es place call run may_be (λ v is. tx_held t now a v is)) pair_is)
  call_fits at (act.RxLook id key_id from) may may_be joins low pair_is =
      let t : Table = last_table es in
      let now : ℕ = max t.moment at in
      let call : Call = record { at = at; act = act.RxLook id key_id from } in
      let o : Outcome = step t call in
      look_fits d es place call joined pair may.0 may.1 joins refl refl (rx_fits t now id key_id from) ((rx_look_keeps t now id key_id from).taken, joins) (λ x. x) tt
      (look_leaves (key_of (after_call es place call)) o.after o.reply was pair low (installs es place call run may_be (λ v is. rx_held t now id key_id from v is)) pair_is)
  call_fits at (act.KeepLook peer) may may_be joins low pair_is =
      let t : Table = last_table es in
      let now : ℕ = max t.moment at in
      let call : Call = record { at = at; act = act.KeepLook peer } in
      let o : Outcome = step t call in
      look_fits d es place call joined pair may.hold may.owing joins refl refl (keep_fits t now peer) ((keep_look_keeps t now peer).taken, joins) (λ x. x) tt
      (look_leaves (key_of (after_call es place call)) o.after o.reply was pair low (installs es place call run may_be (λ v is. keep_held t now peer v is)) pair_is)
  call_fits at (act.Sent peer inner outer ping) may may_be joins low pair_is =
      let t : Table = last_table es in
      let now : ℕ = max t.moment at in
      let call : Call = record { at = at; act = act.Sent peer inner outer ping } in
      let o : Outcome = step t call in
      let says : o.reply ≡ reply.Done = sent_done t now peer inner outer ping in
      use_fits d held was es place call joined pair kept refl refl (pair_is ∙ ap (λ r. found_pair o.after r was) says) (grows_to call) joins says ((sent_keeps t now peer inner outer ping).taken, joins) tt tt
  call_fits at (act.Settle peer from k inner outer) may may_be joins low pair_is =
      let t : Table = last_table es in
      let now : ℕ = max t.moment at in
      let call : Call = record { at = at; act = act.Settle peer from k inner outer } in
      let o : Outcome = step t call in
      let says = settle_says t now peer from k inner outer in
      use_fits d held was es place call joined pair kept refl refl (pair_is ∙ ap (λ r. found_pair o.after r was) says) (grows_to call) joins (rw says tt) ((settle_keeps t now peer from k inner outer).taken, joins) tt tt
  call_fits at (act.Spend peer key) may may_be joins low pair_is =
      let t : Table = last_table es in
      let now : ℕ = max t.moment at in
      let call : Call = record { at = at; act = act.Spend peer key } in
      let o : Outcome = step t call in
      let s : Spends t key o = spend_spends t now peer key in
      let taken : o.taken ≡ spent_taken (is_killed o.reply) key = s.taken ∙ ap (λ k. spent_taken k key) (sym (killed_is s.killed) ∙ ap is_killed (sym s.reply_is)) in
      use_fits d held was es place call joined pair kept refl refl (pair_is ∙ ap (λ r. found_pair o.after r was) s.reply_is ∙ spent_pair o.after s.killed was) (grows_to call) joins (rw s.reply_is (is_spend s.killed)) (taken, joins) tt
      (spent_known d.share.drawer.spent d.hold (stand_of d.events) key kept.dry may.1 may.2)
  call_fits at (act.Released peer) may may_be joins low pair_is = absurd may
  call_fits at (act.KeyReleased key) may may_be joins low pair_is = absurd may

-- ---- a step that was made

-- The desk after a step.
abbrev pub stepped_desk : Sitting → Sharing → Event → Act → Reply → (listed : List Owed) → Sitting
stepped_desk d s e a r listed = record d { share = s; events = d.events ++ e ∷ []; hold = held_after d.hold a r; owing = listed }

-- All that a step leaves.
pub record CallDone (d : Sitting) (place : Place) (call : Call) (r : Reply) (n : Sitting) (held : List ℕ) (pair : Option Material) : Type 0 where
  pub called : Called shown_of Happened d place call r n
  pub kept : IsKept n held pair

module _ (d : Sitting) (held held' : List ℕ) (was pair : Option Material) (place : Place) (call : Call) (s : Sharing) (event : Event) (listed : List Owed) (kept : IsKept d held was) (asks : MayCall (shown_of d) call.act) (of : IsShareOf d.common s) (same : s ≡ record d.share { sight = s.sight }) where
  step_done : (es : List Entry) (joined : List Owed) → (let o : Outcome = step (last_table es) call in let e : Entry = entry_of (last_table es) place call in IsPrefix d.share.sight.seen es → IsRun es → May (last_table es) call → event ≡ stepped_as place call o.reply o.taken → Joined call.act o.reply o.taken joined → listed ≡ d.owing ++ joined
      → s.sight.seen ≡ es ++ e ∷ [] → s.sight.own ≡ d.share.sight.own ++ (length es, e) ∷ [] → s.sight.share ≡ d.share.sight.share → s.sight.holds ≡ d.share.sight.holds ++ got_cells call.act o.reply → GotLow call.act o.reply → held' ≡ s.sight.holds → pair ≡ found_pair (last_table s.sight.seen) o.reply was
      → CallDone d place call o.reply (stepped_desk d s event call.act o.reply listed) held' pair)
  step_done es joined front run may event_is joins listed_are seen own share holds low held_is pair_is =
      let t : Table = last_table es in
      let o : Outcome = step t call in
      let e : Entry = entry_of t place call in
      let its : Event = stepped_as place call o.reply o.taken in
      let n : Sitting = stepped_desk d s event call.act o.reply listed in
      let table : last_table s.sight.seen ≡ o.after = ap last_table seen ∙ table_after-append empty_table es (e ∷ []) in
      let f : Fitting d es place call o joined pair = call_fits d held was pair es place joined kept front run call.at call.act asks may joins low (pair_is ∙ ap (λ u. found_pair u o.reply was) table) in
      let material : key_of s.sight.seen ≡ key_of (after_call es place call) = ap key_of seen in
      let goes : GoesOn d.events (stepped (stand_of d.events) call.act o.reply) = call_on (shown_of d) call.act o.reply asks kept.unjudged in
      let events : d.events ++ event ∷ [] ≡ d.events ++ its ∷ [] = ap (λ x. d.events ++ x ∷ []) event_is in
      let dry : IsDry s.drawer.spent (held_after d.hold call.act o.reply) (stand_of (d.events ++ its ∷ [])) = stands_by (λ x. IsDry s.drawer.spent (held_after d.hold call.act o.reply) x) d.events its (not_dry s.drawer.spent (held_after d.hold call.act o.reply) (stepped (stand_of d.events) call.act o.reply) goes.not_spent) in
      let unjudged : IsUnjudged (d.events ++ its ∷ []) = unjudged_more d.events its refl goes.early in
      record {
        called = record {
          taken = o.taken;
          joined = joined;
          fits = f.fits;
          joins = f.joins;
          apart = removed_differ es call run;
          has = subst (λ m. HasMaterial m call.act o.reply) (sym material) f.has_material;
          leaves = record {
            events = events;
            hold_is = refl;
            owing_is = listed_are;
            grows = key_grows d.share.sight.seen s.sight.seen (seen_on d.share.sight.seen es s.sight.seen e front seen);
            hops = tt;
          };
          done = record {
            common = refl;
            routes = refl;
            makes = entry_made d.share s es e (record { entry = e; taken = o.taken }) refl front seen own share same f.spends;
            first = tt;
          };
        };
        kept = record {
          of = of;
          held_is = held_is;
          holds = holds ∙ ap (λ cs. cs ++ got_cells call.act o.reply) kept.holds ∙ f.cells;
          range = f.range;
          pair_is = subst (λ m. PairFits m (held_after d.hold call.act o.reply) pair) (sym material) f.pair_fits;
          dry = subst (λ es'. IsDry s.drawer.spent (held_after d.hold call.act o.reply) (stand_of es')) (sym events) dry;
          unjudged = subst IsUnjudged (sym events) unjudged;
          few = subst (λ os. IsFew (held_after d.hold call.act o.reply) os) (sym listed_are) f.few;
        };
      }

  pub call_done : (r : Reply) → StepAt d.share.sight s.sight place call r event d.owing listed → held' ≡ s.sight.holds → pair ≡ found_pair (last_table s.sight.seen) r was → CallDone d place call r (stepped_desk d s event call.act r listed) held' pair
  call_done r made held_is pair_is =
      let o : Outcome = step (last_table made.before) call in
      subst (λ x. CallDone d place call x (stepped_desk d s event call.act x listed) held' pair) (sym made.reply)
      (step_done made.before made.joined made.front made.run made.may
      (subst (λ x. event ≡ stepped_as place call x o.taken) made.reply made.event_is) (subst (λ x. Joined call.act x o.taken made.joined) made.reply made.joins) made.listed_are made.seen made.own made.share
      (subst (λ x. s.sight.holds ≡ d.share.sight.holds ++ got_cells call.act x) made.reply made.holds) (subst (λ x. GotLow call.act x) made.reply made.low) held_is (subst (λ x. pair ≡ found_pair (last_table s.sight.seen) x was) made.reply pair_is))
