-- What a step leaves to link, to unlink and to hold, act by act, and what is so once all of it is done.
use Rattle.std.proofs.Common.{ℕ, ◌≡◌, ◌+◌, ◌<◌, ◌≤◌, List, [], ◌∷◌, ◌++◌, length, refl, sym, ap, ◌∙◌, subst, Bool, true, false, arith, append-nil}
use Rattle.std.specs.Prelude.{map, Option, Some}
use Rattle.std.specs.List.{AllByRecursion}
use Rattle.std.specs.VecDeque.{deque_capacity}
use Rattle.std.specs.declared.collections.VecDeque.{VecDeque}
use Rattle.std.specs.declared.alloc.Global.{Global}
use Rattle.std.proofs.lemmas.Bool.{eq-eqb, ne_eqb}
use Rattle.std.proofs.lemmas.List.{map-append}
use Rattle.ov_base.specs.Sums.{count_of}
use Rattle.ov_turn.specs.declared.inside.Inside.{Inside}
use Rattle.ov_turn.specs.Lists.{has, still, without}
use Rattle.ov_turn.specs.Insides.{IsSteady, inside_with, kept_of, holds_in, owes_in, live_in, to_link_in, to_unlink_in}
use Rattle.ov_turn.proofs.Members.{has_counted}
use Rattle.ov_model.specs.declared.act.Act.{Act}
use Rattle.ov_model.specs.declared.act.Act.TheVariants as act
use Rattle.ov_model.specs.declared.act.Call.{Call}
use Rattle.ov_base.specs.declared.address.Transport.{Transport}
use Rattle.ov_model.specs.declared.act.InnerKind.{InnerKind}
use Rattle.ov_model.specs.declared.reply.Settled.{Settled}
use Rattle.ov_model.specs.declared.command.Command.{Command}
use Rattle.ov_model.specs.declared.entry.Entry.{Entry}
use Rattle.ov_model.specs.declared.hold.Owed.{Owed}
use Rattle.ov_model.specs.declared.place.Place.{Place}
use Rattle.ov_model.specs.declared.reply.HoldView.{HoldView}
use Rattle.ov_model.specs.declared.reply.Reply.{Reply}
use Rattle.ov_model.specs.declared.reply.Reply.TheVariants as reply
use Rattle.ov_model.specs.Tables.{Peer, Table, serials_of, key_serials, keys_of}
use Rattle.ov_model.specs.Step.{Outcome, step, May, may_act, spend, sent, settle, settled_as}
use Rattle.ov_model.specs.Events.{Event}
use Rattle.ov_model.specs.Next.{is_killed}
use Rattle.ov_model.specs.Path.{removed, SomeOwed, spent_taken, spent_reply}
use Rattle.ov_model.specs.Removals.{times}
use Rattle.ov_model.proofs.Removing.{Keeps, Spends, spend_spends, tx_look_keeps, rx_look_keeps, keep_look_keeps, sent_keeps, settle_keeps}
use Rattle.ov_model.proofs.KeysTaken.{keys_serials}
use Rattle.ov_path.specs.Desks.{stepped_as}
use Rattle.ov_table.specs.Recorded.{Recorded, IsTold}
use Rattle.ov_table.specs.Cells.{key_cell, live_cells, dying_cells, made_cells, gone_cells}
use Rattle.ov_table.proofs.Becoming.{peer_cell, other_cell}
use Rattle.ov_ticket.specs.Within.{cell_of, IsSettled, IsUntouched, IsCounted, IsAnswered, IsReleasing}
use Rattle.ov_ticket.specs.Asks.{OwedFits, IsLow, found_cells, got_cells, FoundLow, GotLow, Joined}
use Rattle.ov_ticket.specs.Asked.{IsReady, IsAsked, MayHold, MayTidy, IsTidied, IsMade, spent_left}
use Rattle.ov_ticket.proofs.Stepping.{none_has, linked_all, steady_again}
use Rattle.ov_ticket.proofs.Settling.{answered, both_all}
use Rattle.ov_ticket.proofs.Looking.{peer_low, key_low, ReplyLives, Looks, tx_looks, rx_looks, keep_looks}
use Rattle.ov_ticket.proofs.Asking.{may_ask, frees_none, owes_stay, all_low}

-- ---- before the step

-- What may be asked for may be made.
pub ready_may : (it : Inside Recorded Entry) (a : Act) → IsReady it a → may_act (kept_of it).now a ≡ true
ready_may it a ready =
    let s = ready.settled in
    may_ask (kept_of it) s.told (holds_in it) (owes_in it) a ready.asks (λ c some. omega (arith, ap (has c) s.live, ap (has c) s.dying, ready.held c some))

-- Where there was no memory all is as it was.
pub untouched_settled : (a b : Inside Recorded Entry) → IsSettled a → IsUntouched a b → IsSettled b
untouched_settled a b s is = record {
  cells = is.steady.0.2 ∙ s.cells;
  told = subst IsTold (sym is.steady.1) s.told;
  history = ap (λ (k : Recorded). k.journal) is.steady.1 ∙ s.history ∙ sym is.steady.2;
  live = ap (λ (k : Recorded). live_cells k.now) is.steady.1 ∙ s.live ∙ sym is.steady.4;
  dying = ap (λ (k : Recorded). dying_cells k.now) is.steady.1 ∙ s.dying ∙ sym is.steady.5;
  linked = is.link ∙ s.linked;
  unlinked = is.unlink ∙ s.unlinked;
}

-- ---- after the step

spent_gone : (killed : Bool) (key : ℕ) → gone_cells (spent_taken killed key) (spent_reply killed) ≡ map key_cell (spent_taken (is_killed (spent_reply killed)) key)
spent_gone true key = refl
spent_gone false key = refl

spend_gone : (t : Table) (now peer key : ℕ) → gone_cells (spend t now peer key).taken (spend t now peer key).reply ≡ map key_cell (spent_taken (is_killed (spend t now peer key).reply) key)
spend_gone t now peer key =
    let s : Spends t key (spend t now peer key) = spend_spends t now peer key in
    rw (s.taken, s.reply_is) (spent_gone s.killed key)

plain_gone : (t : Table) (o : Outcome) → Keeps t o → gone_cells o.taken o.reply ≡ []
plain_gone t o keeps = rw (keeps.taken, keeps.removes_none) refl

-- The uses of a hold reply that nothing is held.
sent_finds : (t : Table) (now peer inner outer : ℕ) (ping : Bool) → (sent t now peer inner outer ping).reply ≡ reply.Done
unfolding sent
sent_finds t now peer inner outer ping = refl

settle_finds : (t : Table) (now peer : ℕ) (from : Option Transport) (k : InnerKind) (inner outer : ℕ) → (s : Settled) × ((settle t now peer from k inner outer).reply ≡ reply.Settled s)
unfolding settle
settle_finds t now peer from k inner outer = (settled_as peer k t.live, refl)

-- A step that made nothing leaves its goings alone to unlink.
asked : (old new : Inside Recorded Entry) (place : Place) (call : Call) (gone : List ℕ) → IsSettled old → IsCounted old new place call
    → made_cells call.act (step (kept_of old).now call).reply ≡ [] → gone_cells (step (kept_of old).now call).taken (step (kept_of old).now call).reply ≡ gone → IsAsked new gone
asked old new place call gone settled is makes takes = record {
  cells = is.same.2 ∙ settled.cells;
  told = is.told;
  history = is.history;
  live = is.live;
  dying = is.dying;
  linked = none_has (to_link_in new) (λ c. is.made c ∙ ap (count_of c) makes);
  left = λ c. is.gone c ∙ ap (count_of c) takes;
}

-- What a look-up found may be held.
may_hold : (t : Table) (r : Reply) (it : Inside Recorded Entry) (held : List ℕ) → ReplyLives t r → (kept_of it).now.live ≡ t.live → IsAsked it [] → holds_in it ≡ [] → held ≡ [] → MayHold r it held
may_hold t (reply.Hold h) it held lives same is free new =
    let now : Table = (kept_of it).now in
    let peer : 1 ≤ times h.peer (serials_of now.live) = subst (λ (ps : List Peer). 1 ≤ times h.peer (serials_of ps)) (sym same) lives.peer in
    let low : h.peer < 4096 = peer_low (kept_of it) is.told h.peer (omega arith) in
    record {
      cells = is.cells;
      peer = has_counted h.peer (live_in it) (omega (arith, ap (count_of h.peer) is.live, peer_cell h.peer (serials_of now.live) (key_serials (keys_of now.live)) low));
      key = has_counted (key_cell h.key) (live_in it) (let key = lives.key in omega (arith, ap (count_of (key_cell h.key)) is.live, other_cell h.key (serials_of now.live) (key_serials (keys_of now.live)), ap (times h.key) (keys_serials now.live), ap (λ (ps : List Peer). times h.key (key_serials (keys_of ps))) same, ap (times h.key) (keys_serials t.live)));
      low = low;
      linked = is.linked;
      free = free;
      new = new;
    }
may_hold t _ it held lives same is free new = tt

nothing_listed : (os : List Owed) → map cell_of os ≡ [] → os ≡ []
nothing_listed [] e = refl
nothing_listed (o ∷ os) e = absurd (let n = ap length e in omega arith)

module _ (old new : Inside Recorded Entry) (place : Place) (at : ℕ) (held : List ℕ) (listed : VecDeque Owed Global) where
  looks_tidy : (a : Act) (o : Outcome) → step (kept_of old).now (record { at = at; act = a }) ≡ o → made_cells a o.reply ≡ [] → Looks (kept_of old).now o → Keeps (kept_of old).now o → IsSettled old → holds_in old ≡ [] → held ≡ holds_in old → IsCounted old new place (record { at = at; act = a })
      → IsAsked new [] × MayHold o.reply new held
  looks_tidy a o is makes looks keeps settled free all counted =
      let call : Call = record { at = at; act = a } in
      let asks : IsAsked new [] = asked old new place call [] settled counted (ap (λ (q : Outcome). made_cells a q.reply) is ∙ makes) (ap (λ (q : Outcome). gone_cells q.taken q.reply) is ∙ plain_gone (kept_of old).now o keeps) in
      let same : (kept_of new).now.live ≡ (kept_of old).now.live = ap (λ (k : Recorded). k.now.live) counted.kept ∙ ap (λ (q : Outcome). q.after.live) is ∙ looks.live in
      (asks, may_hold (kept_of old).now o.reply new held looks.lives same asks (counted.holds ∙ free) (all ∙ free))

  -- What each step leaves to do.
  pub to_tidy : (a : Act) → IsReady old a → held ≡ holds_in old → OwedFits listed (owes_in old) → IsCounted old new place (record { at = at; act = a }) → MayTidy new a (step (kept_of old).now (record { at = at; act = a })).reply held listed
  to_tidy (act.Do command) ready all fits is = (
    answered old new place at command ready.settled ready.asks.1 is,
    record { nothing = nothing_listed listed.items (sym fits.owes_are ∙ ready.asks.1); room = fits.room },
  )
  to_tidy (act.Spend peer key) ready all fits is =
      let call : Call = record { at = at; act = act.Spend peer key } in (
        asked old new place call _ ready.settled is refl (spend_gone (kept_of old).now _ peer key),
        (let held_key = ready.asks.1 in let same = ap (count_of (key_cell key)) is.holds in omega arith),
      )
  to_tidy (act.TxLook a) ready all fits is =
      let t : Table = (kept_of old).now in
      let both = looks_tidy (act.TxLook a) _ refl refl (tx_looks t _ a) (tx_look_keeps t _ a) ready.settled ready.asks.0 all is in (both.0, both.1, refl)
  to_tidy (act.RxLook id key_id from) ready all fits is =
      let t : Table = (kept_of old).now in
      let both = looks_tidy (act.RxLook id key_id from) _ refl refl (rx_looks t _ id key_id from) (rx_look_keeps t _ id key_id from) ready.settled ready.asks.0 all is in (both.0, both.1, refl)
  to_tidy (act.KeepLook peer) ready all fits is =
      let t : Table = (kept_of old).now in
      let both = looks_tidy (act.KeepLook peer) _ refl refl (keep_looks t _ peer) (keep_look_keeps t _ peer) ready.settled ready.asks.0 all is in (both.0, both.1, refl)
  to_tidy (act.Sent peer inner outer ping) ready all fits is =
      let t : Table = (kept_of old).now in
      let call : Call = record { at = at; act = act.Sent peer inner outer ping } in
      let done : (step t call).reply ≡ reply.Done = sent_finds t _ peer inner outer ping in (
        asked old new place call [] ready.settled is refl (plain_gone t _ (sent_keeps t _ peer inner outer ping)),
        subst (λ (r : Reply). MayHold r new held) (sym done) tt,
        sym (ap found_cells done),
      )
  to_tidy (act.Settle peer from k inner outer) ready all fits is =
      let t : Table = (kept_of old).now in
      let call : Call = record { at = at; act = act.Settle peer from k inner outer } in
      let says = settle_finds t _ peer from k inner outer in (
        asked old new place call [] ready.settled is refl (plain_gone t _ (settle_keeps t _ peer from k inner outer)),
        subst (λ (r : Reply). MayHold r new held) (sym says.1) tt,
        sym (ap found_cells says.1),
      )
  to_tidy (act.Released peer) ready all fits is = absurd ready.asks
  to_tidy (act.KeyReleased key) ready all fits is = absurd ready.asks

-- ---- all is done

-- What was asked for, with nothing left to unlink.
asked_settled : (it new : Inside Recorded Entry) (gone : List ℕ) → IsAsked it gone → IsSteady it new → to_link_in new ≡ to_link_in it → to_unlink_in new ≡ [] → IsSettled new
asked_settled it new gone is steady link unlink = record {
  cells = steady.0.2 ∙ is.cells;
  told = subst IsTold (sym steady.1) is.told;
  history = ap (λ (k : Recorded). k.journal) steady.1 ∙ is.history ∙ sym steady.2;
  live = ap (λ (k : Recorded). live_cells k.now) steady.1 ∙ is.live ∙ sym steady.4;
  dying = ap (λ (k : Recorded). dying_cells k.now) steady.1 ∙ is.dying ∙ sym steady.5;
  linked = link ∙ is.linked;
  unlinked = unlink;
}

-- The keys and peers that a command took out are unlinked.
pub command_tidied : (it new : Inside Recorded Entry) (c : Command) (r : Reply) (l l' : List Owed) → IsAnswered it c r → l ≡ [] → IsReleasing l' new → SomeOwed (kept_of it).taken (removed r) l' → IsSteady it new → holds_in new ≡ holds_in it → IsTidied it new (act.Do c) r l l'
command_tidied it new c r l l' is nothing done some steady holds = record {
  steady = steady;
  settled = done.settled;
  joined = l';
  joins = some;
  low = all_low (kept_of new) done.settled.told l' done.out;
  listed_are = ap (λ (q : List Owed). q ++ l') (sym nothing);
  owes = done.owes ∙ ap (λ (q : List ℕ). q ++ map cell_of l') (sym is.owes);
  holds = holds ∙ sym (append-nil (holds_in it));
}

-- A killed key is left to unlink, and nothing else is.
pub killed_left : (it : Inside Recorded Entry) (key : ℕ) (r : Reply) → IsAsked it (map key_cell (spent_taken (is_killed r) key)) → r ≡ reply.Killed → has (key_cell key) (to_unlink_in it) ≡ 1
killed_left it key r is killed =
    let gone : has (key_cell key) (to_unlink_in it) ≡ count_of (key_cell key) (key_cell key ∷ []) = is.left (key_cell key) ∙ ap (λ (q : Reply). count_of (key_cell key) (map key_cell (spent_taken (is_killed q) key))) killed in
    gone ∙ own (key_cell key)
  where
    own : (c : ℕ) → count_of c (c ∷ []) ≡ 1
    own c = rw (eq-eqb c c refl) refl

spent_all : (key : ℕ) (r : Reply) (u : List ℕ) → ((c : ℕ) → has c u ≡ count_of c (map key_cell (spent_taken (is_killed r) key))) → spent_left r key u ≡ []
spent_all key reply.Killed u gone = linked_all (key_cell key) (Some (key_cell key)) u (without (key_cell key) u) refl gone refl
spent_all key _ u gone = none_has u gone

pub spend_tidied : (it new : Inside Recorded Entry) (peer key : ℕ) (r : Reply) (l : List Owed) → IsAsked it (map key_cell (spent_taken (is_killed r) key)) → IsSteady it new → to_link_in new ≡ to_link_in it → to_unlink_in new ≡ spent_left r key (to_unlink_in it) → holds_in new ≡ holds_in it → owes_in new ≡ owes_in it
    → IsTidied it new (act.Spend peer key) r l l
spend_tidied it new peer key r l is steady link unlink holds owes = record {
  steady = steady;
  settled = asked_settled it new _ is steady link (unlink ∙ spent_all key r (to_unlink_in it) is.left);
  joined = [];
  joins = refl;
  low = tt;
  listed_are = sym (append-nil l);
  owes = owes ∙ sym (append-nil (owes_in it));
  holds = holds ∙ sym (append-nil (holds_in it));
}

-- What a look-up found is held. Of another step nothing is left.
found_tidied : (it new : Inside Recorded Entry) (a : Act) (r : Reply) (l : List Owed) → Joined a r (kept_of it).taken [] → IsAsked it [] → got_cells a r ≡ found_cells r → IsSteady it new → to_link_in new ≡ to_link_in it → to_unlink_in new ≡ to_unlink_in it → holds_in new ≡ holds_in it ++ found_cells r → owes_in new ≡ owes_in it
    → IsTidied it new a r l l
found_tidied it new a r l joins is got steady link unlink holds owes = record {
  steady = steady;
  settled = asked_settled it new [] is steady link (unlink ∙ none_has (to_unlink_in it) is.left);
  joined = [];
  joins = joins;
  low = tt;
  listed_are = sym (append-nil l);
  owes = owes ∙ sym (append-nil (owes_in it));
  holds = holds ∙ ap (λ (cells : List ℕ). holds_in it ++ cells) (sym got);
}

pub spent_other : (r : Reply) (key : ℕ) (u : List ℕ) → (r ≡ reply.Killed → ⊥) → spent_left r key u ≡ u
spent_other reply.Killed key u differs = absurd (differs refl)
spent_other _ key u differs = refl

pub found_other : (r : Reply) → ((h : HoldView) → r ≡ reply.Hold h → ⊥) → found_cells r ≡ []
found_other (reply.Hold h) differs = absurd (differs h refl)
found_other _ differs = refl

-- A peer's cell is no key's.
pub no_key : (peer key : ℕ) → peer < 4096 → count_of (key_cell key) (peer ∷ []) ≡ 0
no_key peer key low = rw (ne_eqb peer (4096 + key) (λ e. absurd (omega arith))) refl

pub has_no_key : (peer key : ℕ) → peer < 4096 → has (key_cell key) (peer ∷ []) ≡ 0
has_no_key peer key low = rw (ne_eqb peer (4096 + key) (λ e. absurd (omega arith))) refl

-- What is so of a step that is neither a command nor a Spend.
pub record IsOther (it : Inside Recorded Entry) (a : Act) (r : Reply) (held : List ℕ) : Type 0 where
  pub asks : IsAsked it []
  pub hold : MayHold r it held
  pub got : got_cells a r ≡ found_cells r
  pub joins : Joined a r (kept_of it).taken []

pub is_other : (it : Inside Recorded Entry) (a : Act) (r : Reply) (held : List ℕ) (listed : VecDeque Owed Global) → ((c : Command) → a ≡ act.Do c → ⊥) → ((peer key : ℕ) → a ≡ act.Spend peer key → ⊥) → MayTidy it a r held listed → IsOther it a r held
is_other it (act.Do c) r held listed no_command no_spend may = absurd (no_command c refl)
is_other it (act.Spend peer key) r held listed no_command no_spend may = absurd (no_spend peer key refl)
is_other it (act.TxLook a) r held listed no_command no_spend may = record { asks = may.0; hold = may.1; got = may.2; joins = refl }
is_other it (act.RxLook id key_id from) r held listed no_command no_spend may = record { asks = may.0; hold = may.1; got = may.2; joins = refl }
is_other it (act.KeepLook peer) r held listed no_command no_spend may = record { asks = may.0; hold = may.1; got = may.2; joins = refl }
is_other it (act.Sent peer inner outer ping) r held listed no_command no_spend may = record { asks = may.0; hold = may.1; got = may.2; joins = refl }
is_other it (act.Settle peer from k inner outer) r held listed no_command no_spend may = record { asks = may.0; hold = may.1; got = may.2; joins = refl }
is_other it (act.Released peer) r held listed no_command no_spend may = record { asks = may.0; hold = may.1; got = may.2; joins = refl }
is_other it (act.KeyReleased key) r held listed no_command no_spend may = record { asks = may.0; hold = may.1; got = may.2; joins = refl }

pub other_tidied : (it new : Inside Recorded Entry) (a : Act) (r : Reply) (held : List ℕ) (l : List Owed) → IsOther it a r held → IsSteady it new → to_link_in new ≡ to_link_in it → to_unlink_in new ≡ to_unlink_in it → holds_in new ≡ holds_in it ++ found_cells r → owes_in new ≡ owes_in it
    → IsTidied it new a r l l
other_tidied it new a r held l is steady link unlink holds owes = found_tidied it new a r l is.joins is.asks is.got steady link unlink holds owes

-- ---- the step is the seat's entry

-- Nothing happened, and the kept value was lent and came back as it was.
pub lent_back : (b d : Inside Recorded Entry) (w : Recorded) → IsUntouched b d → w ≡ kept_of d → IsUntouched b (inside_with d w)
lent_back b d w is same = record {
  steady = steady_again b d (inside_with d w) is.steady ((refl, refl, refl), same, refl, refl, refl, refl);
  holds = is.holds;
  owes = is.owes;
  link = is.link;
  unlink = is.unlink;
}

-- Nothing happened behind it.
pub tidied_on : (b d e : Inside Recorded Entry) (a : Act) (r : Reply) (l l' : List Owed) → IsTidied b d a r l l' → IsUntouched d e → IsTidied b e a r l l'
tidied_on b d e a r l l' is same = record {
  steady = steady_again b d e is.steady same.steady;
  settled = untouched_settled d e is.settled same;
  joined = is.joined;
  joins = is.joins;
  low = is.low;
  listed_are = is.listed_are;
  owes = same.owes ∙ is.owes;
  holds = same.holds ∙ is.holds;
}

found_low : (r : Recorded) → IsTold r → (q : Reply) → ReplyLives r.now q → FoundLow q
found_low r told (reply.Hold h) is = ((let live = is.peer in peer_low r told h.peer (omega arith)), (let live = is.key in key_low r told h.key (omega arith)))
found_low r told _ is = tt

step_low : (r : Recorded) (at : ℕ) (a : Act) → IsTold r → GotLow a (step r.now (record { at = at; act = a })).reply
step_low r at (act.TxLook a) told = found_low r told _ (tx_looks r.now _ a).lives
step_low r at (act.RxLook id key_id from) told = found_low r told _ (rx_looks r.now _ id key_id from).lives
step_low r at (act.KeepLook peer) told = found_low r told _ (keep_looks r.now _ peer).lives
step_low r at _ told = tt

pub made : (a b d : Inside Recorded Entry) (place : Place) (call : Call) (r : Reply) (event : Event) (l l' : List Owed) → IsReady a call.act → IsCounted a b place call → r ≡ (step (kept_of a).now call).reply → IsTidied b d call.act r l l' → event ≡ stepped_as place call r (kept_of d).taken → IsMade a d place call r event l l'
made a b d place call r event l l' ready is says tidied tells =
    let s = ready.settled in
    let may : May (kept_of a).now call = ready_may a call.act ready in
    let steady = tidied.steady in
    let taken : (kept_of b).taken ≡ (step (kept_of a).now call).taken = ap (λ (k : Recorded). k.taken) is.kept in
    let now : (kept_of b).now ≡ (step (kept_of a).now call).after = ap (λ (k : Recorded). k.now) is.kept in
    let stay : owes_in b ≡ owes_in a = is.owes ∙ ap (λ (dying : List ℕ). still dying (owes_in a)) (sym is.dying ∙ ap dying_cells now)
    ∙ owes_stay (kept_of a) place call (owes_in a) s.told may (frees_none (holds_in a) (owes_in a) call.act ready.asks) (λ c some. omega (arith, ap (has c) s.dying, ready.owed_dies c some)) in
    record {
      settled = tidied.settled;
      same = (steady.0.0 ∙ is.same.0, steady.0.1 ∙ is.same.1, steady.0.2 ∙ is.same.2);
      may = may;
      reply = says;
      event_is = tells ∙ ap (stepped_as place call r) (ap (λ (k : Recorded). k.taken) steady.1 ∙ taken);
      seen = steady.2 ∙ is.seen;
      own = steady.3 ∙ is.own;
      joined = tidied.joined;
      joins = subst (λ (ks : List ℕ). Joined call.act r ks tidied.joined) taken tidied.joins;
      listed_are = tidied.listed_are;
      owes = tidied.owes ∙ ap (λ (q : List ℕ). q ++ map cell_of tidied.joined) stay;
      holds = tidied.holds ∙ ap (λ (q : List ℕ). q ++ got_cells call.act r) is.holds;
      low = subst (λ (q : Reply). GotLow call.act q) (sym says) (step_low (kept_of a) call.at call.act s.told);
    }

-- What is listed stays what is owed.
pub fits_on : (a d : Inside Recorded Entry) (b : Inside Recorded Entry) (place : Place) (call : Call) (r : Reply) (event : Event) (x y : VecDeque Owed Global) → IsMade a d place call r event x.items y.items → IsTidied b d call.act r x.items y.items → OwedFits x (owes_in a) → deque_capacity y ≡ deque_capacity x → OwedFits y (owes_in d)
fits_on a d b place call r event x y is tidied fits room = record {
  owes_are = is.owes ∙ ap (λ (q : List ℕ). q ++ map cell_of is.joined) fits.owes_are ∙ sym (map-append cell_of x.items is.joined) ∙ ap (map cell_of) (sym is.listed_are);
  low = subst (AllByRecursion IsLow) (sym tidied.listed_are) (both_all IsLow x.items tidied.joined fits.low tidied.low);
  room = (let was = fits.room in omega arith);
}
