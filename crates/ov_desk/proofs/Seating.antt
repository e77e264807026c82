-- What the fields of the desk keep true, and what its callers are told, after each call.
use Rattle.std.proofs.Common.{ℕ, ◌≡◌, ◌<◌, List, [], ◌∷◌, ◌++◌, refl, sym, ◌∙◌, ap, subst}
use Rattle.std.specs.Prelude.{Option, Result, Ok, Err, OnErr, map}
use Rattle.std.specs.VecDeque.{deque_capacity}
use Rattle.std.specs.declared.collections.VecDeque.{VecDeque}
use Rattle.std.specs.declared.alloc.Global.{Global}
use Rattle.ov_hold.specs.Holds.{Owes}
use Rattle.ov_model.specs.declared.act.Act.{Act}
use Rattle.ov_model.specs.declared.act.Call.{Call}
use Rattle.ov_model.specs.declared.draw.Drawn.{Drawn}
use Rattle.ov_model.specs.declared.entry.Entry.{Entry}
use Rattle.ov_model.specs.declared.hold.Given.{Given}
use Rattle.ov_model.specs.declared.hold.Owed.{Owed}
use Rattle.ov_model.specs.declared.line.Route.{Route}
use Rattle.ov_model.specs.declared.place.Place.{Place}
use Rattle.ov_model.specs.declared.replay.Verdict.{Verdict}
use Rattle.ov_model.specs.declared.reply.Reply.{Reply}
use Rattle.ov_model.specs.Events.{Event, Drew}
use Rattle.ov_model.specs.Next.{stand_of}
use Rattle.ov_model.specs.Runs.{last_table}
use Rattle.ov_model.specs.Tables.{Material}
use Rattle.ov_path.specs.Desks.{Holding, NoHold, HoldsKey, MayCall, IsLooked, Did, Called, SameLine, judged_at, owed_if, held_after}
use Rattle.ov_past.specs.Pasts.{gave}
use Rattle.ov_past.specs.Holds.{hold_without}
use Rattle.ov_replay.specs.Desk.{HasStepped}
use Rattle.ov_share.specs.Shares.{Common, Sharing, IsShareOf, IsFree, HasDrawn}
use Rattle.ov_ticket.specs.Asks.{OwedFits, MayAsk, found_pair}
use Rattle.ov_ticket.specs.Tickets.{HasSeen, StepAt, ReleasedAt}
use Rattle.ov_ticket.specs.Within.{cell_of}
use Rattle.ov_turn.specs.Lists.{without}
use Rattle.ov_turn.specs.Seats.{Sight}
use Rattle.ov_desk.specs.Sittings.{Sitting, shown_of, Happened, Stayed, GivesBack, WasReleased}
use Rattle.ov_desk.specs.Kept.{IsKept, IsSeated, IsDry, cells_of_hold, sitting}
use Rattle.ov_desk.proofs.Leaving.{Kept, CanGive, ReleaseDone, given_share, drawn_sight, draw_done, key_low, replay_done, table_stayed, can_give, give_done, give_fits, release_done}
use Rattle.ov_desk.proofs.Stepping.{CallDone, call_done, may_ask}

pub on_err : {T E P : Type 0} (r : Result T E) → P → OnErr r P
on_err (Ok x) p = tt
on_err (Err e) p = p

did_at : {was d n m : Sitting} {e : Event} → was ≡ d → m ≡ n → Did shown_of Happened was e n → Did shown_of Happened d e m
did_at {was} {d} {n} {m} {e} same is did = subst (λ x. Did shown_of Happened x e m) same (subst (λ x. Did shown_of Happened was e x) (sym is) did)

-- The share after a give-back, by the cell's number.
abbrev less_cell : Sharing → ℕ → (owes : List ℕ) → Sharing
less_cell s c owes = record s { sight = record s.sight { holds = without c s.sight.holds; owes = owes } }

module _ {w : Common} {routes : List Route} {share : Sharing} {past : List Event} {hold : Holding} {held : List ℕ} {pair : Option Material} {owed : VecDeque Owed Global} {d : Sitting} (seated : IsSeated w routes share past hold held pair owed) (is : sitting w routes share past hold owed.items ≡ d) where
  -- What is asked before.

  pub key_in_range : (key : ℕ) → HoldsKey d.hold key → key < 65536
  key_in_range key names = key_low hold key seated.kept.range (subst (λ (x : Sitting). HoldsKey x.hold key) (sym is) names)

  pub asks_seated : (a : Act) → MayCall (shown_of d) a → MayAsk share.sight.holds share.sight.owes a
  asks_seated a may = may_ask (sitting w routes share past hold owed.items) held pair seated.kept seated.fits.owes_are a (subst (λ x. MayCall (shown_of x) a) (sym is) may)

  pub gives_seated : (o : Owed) → GivesBack d.hold o → CanGive (sitting w routes share past hold owed.items) held o
  gives_seated o names = can_give (sitting w routes share past hold owed.items) held pair o seated.kept (subst (λ (x : Sitting). GivesBack x.hold o) (sym is) names)

  -- The line is over.

  pub free_seated : d.hold ≡ NoHold → d.owing ≡ [] → IsFree share
  free_seated free none = record {
    holds = seated.kept.holds ∙ ap cells_of_hold (ap (λ (x : Sitting). x.hold) is ∙ free);
    owes = seated.fits.owes_are ∙ ap (map cell_of) (ap (λ (x : Sitting). x.owing) is ∙ none);
  }

  pub over_seated : (later : List Event) → d.hold ≡ NoHold → later ≡ [] → IsSeated w routes share later hold held pair owed
  over_seated later free later_is = record {
    kept = subst (λ es. IsKept (sitting w routes share es hold owed.items) held pair) (sym later_is) (record {
      of = seated.kept.of;
      held_is = seated.kept.held_is;
      holds = seated.kept.holds;
      range = seated.kept.range;
      pair_is = seated.kept.pair_is;
      dry = subst (λ h. IsDry share.drawer.spent h (stand_of [])) (sym (ap (λ (x : Sitting). x.hold) is ∙ free)) tt;
      unjudged = λ early. refl;
      few = seated.kept.few;
    });
    fits = seated.fits;
  }

  -- A draw.

  pub drew_seated : (key : ℕ) (r : Drawn) (new : Sharing) (later : List Event) → HoldsKey d.hold key → IsLooked (stand_of d.events) → IsShareOf w new → HasDrawn share new key r → later ≡ past ++ Drew key r ∷ [] → IsSeated w routes new later hold held pair owed
  drew_seated key r new later names looked of did later_is =
      let done = draw_done (sitting w routes share past hold owed.items) held pair key r new seated.kept (subst (λ (x : Sitting). HoldsKey x.hold key) (sym is) names) (subst (λ (x : Sitting). IsLooked (stand_of x.events)) (sym is) looked) of did in
      record {
        kept = subst (λ es. IsKept (sitting w routes new es hold owed.items) held pair) (sym later_is) done.kept;
        fits = subst (λ (x : Sight Entry). OwedFits owed x.owes) (sym (drawn_sight share new key r did)) seated.fits;
      }

  -- A replay step.

  pub judged_seated : (place : Place) (key id at : ℕ) (v : Verdict) (new : Sharing) (later : List Event) → IsLooked (stand_of d.events) → IsShareOf w new → new ≡ record share { parts = new.parts } → HasStepped share.parts new.parts place key id at v → later ≡ past ++ judged_at place key id at v ∷ [] → IsSeated w routes new later hold held pair owed
  judged_seated place key id at v new later looked of same did later_is =
      let done = replay_done (sitting w routes share past hold owed.items) held pair place key id at v new seated.kept (subst (λ (x : Sitting). IsLooked (stand_of x.events)) (sym is) looked) of same did in
      record {
        kept = subst (λ es. IsKept (sitting w routes new es hold owed.items) held pair) (sym later_is) done.kept;
        fits = subst (λ (s : Sharing). OwedFits owed s.sight.owes) (sym same) seated.fits;
      }

  pub judged_did : (place : Place) (key id at : ℕ) (v : Verdict) (new : Sharing) (later : List Event) → IsLooked (stand_of d.events) → IsShareOf w new → new ≡ record share { parts = new.parts } → HasStepped share.parts new.parts place key id at v → later ≡ past ++ judged_at place key id at v ∷ [] → Did shown_of Happened d (judged_at place key id at v) (sitting w routes new later hold owed.items)
  judged_did place key id at v new later looked of same did later_is =
      let done = replay_done (sitting w routes share past hold owed.items) held pair place key id at v new seated.kept (subst (λ (x : Sitting). IsLooked (stand_of x.events)) (sym is) looked) of same did in
      did_at is (ap (λ es. sitting w routes new es hold owed.items) later_is) done.did

  -- A give-back.

  pub gave_seated : (o : Owed) (cell : ℕ) (g : Given) (new : Sharing) (later : List Event) (left : Holding) (held' : List ℕ) (owed' : VecDeque Owed Global) → GivesBack d.hold o → cell ≡ cell_of o → IsShareOf w new → new ≡ less_cell share cell new.sight.owes → Owes g cell share.sight.owes new.sight.owes → held' ≡ without cell held
      → left ≡ hold_without o hold → later ≡ past ++ gave o g ∷ [] → owed'.items ≡ owed.items ++ owed_if g o → deque_capacity owed' ≡ deque_capacity owed → IsSeated w routes new later left held' pair owed'
  gave_seated o cell g new later left held' owed' names cell_is of same owes less left_is later_is listed room =
      let names_was : GivesBack hold o = subst (λ (x : Sitting). GivesBack x.hold o) (sym is) names in
      let same_cell : new ≡ given_share share o new.sight.owes = same ∙ ap (λ c. less_cell share c new.sight.owes) cell_is in
      let done = give_done (sitting w routes share past hold owed.items) held held' pair o g new seated.kept names_was of same_cell (less ∙ ap (λ c. without c held) cell_is) in
      record {
        kept = subst (λ os. IsKept (sitting w routes new later left os) held' pair) (sym listed) (subst (λ h. IsKept (sitting w routes new later h (owed.items ++ owed_if g o)) held' pair) (sym left_is) (subst (λ es. IsKept (sitting w routes new es (hold_without o hold) (owed.items ++ owed_if g o)) held' pair) (sym later_is) done.kept));
        fits = give_fits (sitting w routes share past hold owed.items) held pair o g owed owed' share.sight.owes new.sight.owes seated.kept names_was seated.fits (subst (λ c. Owes g c share.sight.owes new.sight.owes) cell_is owes) listed room;
      }

  pub gave_told : (o : Owed) (cell : ℕ) (g : Given) (new : Sharing) (later : List Event) (left : Holding) (held' : List ℕ) (owed' : VecDeque Owed Global) → GivesBack d.hold o → cell ≡ cell_of o → IsShareOf w new → new ≡ less_cell share cell new.sight.owes → held' ≡ without cell held
      → left ≡ hold_without o hold → later ≡ past ++ gave o g ∷ [] → owed'.items ≡ owed.items ++ owed_if g o → Did shown_of Happened d (gave o g) (sitting w routes new later left owed'.items)
  gave_told o cell g new later left held' owed' names cell_is of same less left_is later_is listed =
      let names_was : GivesBack hold o = subst (λ (x : Sitting). GivesBack x.hold o) (sym is) names in
      let same_cell : new ≡ given_share share o new.sight.owes = same ∙ ap (λ c. less_cell share c new.sight.owes) cell_is in
      let done = give_done (sitting w routes share past hold owed.items) held held' pair o g new seated.kept names_was of same_cell (less ∙ ap (λ c. without c held) cell_is) in
      did_at is (ap (λ es. sitting w routes new es left owed'.items) later_is ∙ ap (λ h. sitting w routes new (past ++ gave o g ∷ []) h owed'.items) left_is ∙ ap (λ os. sitting w routes new (past ++ gave o g ∷ []) (hold_without o hold) os) listed) done.did

  -- A release.

  freed : (place : Place) (at : ℕ) (event : Event) (new : Sharing) (owed' : VecDeque Owed Global) → IsShareOf w new → new ≡ record share { sight = new.sight } → ReleasedAt share.sight new.sight place at event owed.items owed'.items → ReleaseDone (sitting w routes share past hold owed.items) place at (sitting w routes new (past ++ event ∷ []) hold owed'.items) held pair
  freed place at event new owed' of same made = release_done (sitting w routes share past hold owed.items) held pair place at event new owed'.items seated.kept of same made

  pub freed_seated : (place : Place) (at : ℕ) (event : Event) (new : Sharing) (later : List Event) (owed' : VecDeque Owed Global) → IsShareOf w new → new ≡ record share { sight = new.sight } → ReleasedAt share.sight new.sight place at event owed.items owed'.items → OwedFits owed' new.sight.owes → later ≡ past ++ event ∷ [] → IsSeated w routes new later hold held pair owed'
  freed_seated place at event new later owed' of same made fits later_is = record {
    kept = subst (λ es. IsKept (sitting w routes new es hold owed'.items) held pair) (sym later_is) (freed place at event new owed' of same made).kept;
    fits = fits;
  }

  pub freed_told : (place : Place) (at : ℕ) (event : Event) (new : Sharing) (later : List Event) (owed' : VecDeque Owed Global) → IsShareOf w new → new ≡ record share { sight = new.sight } → ReleasedAt share.sight new.sight place at event owed.items owed'.items → later ≡ past ++ event ∷ [] → WasReleased place at d (sitting w routes new later hold owed'.items)
  freed_told place at event new later owed' of same made later_is =
      subst (λ x. WasReleased place at x (sitting w routes new later hold owed'.items)) is
      (subst (λ es. WasReleased place at (sitting w routes share past hold owed.items) (sitting w routes new es hold owed'.items)) (sym later_is) (freed place at event new owed' of same made).released)

  -- A step of the table.

  stepped : (place : Place) (call : Call) (r : Reply) (event : Event) (new : Sharing) (held' : List ℕ) (pair' : Option Material) (owed' : VecDeque Owed Global) → MayCall (shown_of d) call.act → IsShareOf w new → new ≡ record share { sight = new.sight } → StepAt share.sight new.sight place call r event owed.items owed'.items → held' ≡ new.sight.holds → pair' ≡ found_pair (last_table new.sight.seen) r pair
      → CallDone (sitting w routes share past hold owed.items) place call r (sitting w routes new (past ++ event ∷ []) (held_after hold call.act r) owed'.items) held' pair'
  stepped place call r event new held' pair' owed' asks of same made held_is pair_is =
      call_done (sitting w routes share past hold owed.items) held held' pair pair' place call new event owed'.items seated.kept (subst (λ x. MayCall (shown_of x) call.act) (sym is) asks) of same r made held_is pair_is

  pub stepped_seated : (place : Place) (call : Call) (r : Reply) (event : Event) (new : Sharing) (later : List Event) (left : Holding) (held' : List ℕ) (pair' : Option Material) (owed' : VecDeque Owed Global) → MayCall (shown_of d) call.act → IsShareOf w new → new ≡ record share { sight = new.sight } → StepAt share.sight new.sight place call r event owed.items owed'.items
      → held' ≡ new.sight.holds → pair' ≡ found_pair (last_table new.sight.seen) r pair → OwedFits owed' new.sight.owes → later ≡ past ++ event ∷ [] → left ≡ held_after hold call.act r → IsSeated w routes new later left held' pair' owed'
  stepped_seated place call r event new later left held' pair' owed' asks of same made held_is pair_is fits later_is left_is = record {
    kept = subst (λ h. IsKept (sitting w routes new later h owed'.items) held' pair') (sym left_is) (subst (λ es. IsKept (sitting w routes new es (held_after hold call.act r) owed'.items) held' pair') (sym later_is) (stepped place call r event new held' pair' owed' asks of same made held_is pair_is).kept);
    fits = fits;
  }

  pub stepped_told : (place : Place) (call : Call) (r : Reply) (event : Event) (new : Sharing) (later : List Event) (left : Holding) (held' : List ℕ) (pair' : Option Material) (owed' : VecDeque Owed Global) → MayCall (shown_of d) call.act → IsShareOf w new → new ≡ record share { sight = new.sight } → StepAt share.sight new.sight place call r event owed.items owed'.items
      → held' ≡ new.sight.holds → pair' ≡ found_pair (last_table new.sight.seen) r pair → later ≡ past ++ event ∷ [] → left ≡ held_after hold call.act r → Called shown_of Happened d place call r (sitting w routes new later left owed'.items)
  stepped_told place call r event new later left held' pair' owed' asks of same made held_is pair_is later_is left_is =
      subst (λ x. Called shown_of Happened x place call r (sitting w routes new later left owed'.items)) is
      (subst (λ h. Called shown_of Happened (sitting w routes share past hold owed.items) place call r (sitting w routes new later h owed'.items)) (sym left_is)
      (subst (λ es. Called shown_of Happened (sitting w routes share past hold owed.items) place call r (sitting w routes new es (held_after hold call.act r) owed'.items)) (sym later_is) (stepped place call r event new held' pair' owed' asks of same made held_is pair_is).called))

  -- Want of memory at the table.

  unstepped : (new : Sharing) (held' : List ℕ) (pair' : Option Material) → IsShareOf w new → new ≡ record share { sight = new.sight } → HasSeen share.sight new.sight → held' ≡ new.sight.holds → pair' ≡ pair → Kept (sitting w routes share past hold owed.items) (sitting w routes new past hold owed.items) held' pair'
  unstepped new held' pair' of same saw held_is pair_is = table_stayed (sitting w routes share past hold owed.items) held held' pair pair' new seated.kept of same saw held_is pair_is

  pub unstepped_seated : (new : Sharing) (held' : List ℕ) (pair' : Option Material) (owed' : VecDeque Owed Global) → IsShareOf w new → new ≡ record share { sight = new.sight } → HasSeen share.sight new.sight → held' ≡ new.sight.holds → pair' ≡ pair → owed'.items ≡ owed.items → OwedFits owed' new.sight.owes → IsSeated w routes new past hold held' pair' owed'
  unstepped_seated new held' pair' owed' of same saw held_is pair_is listed fits = record {
    kept = subst (λ os. IsKept (sitting w routes new past hold os) held' pair') (sym listed) (unstepped new held' pair' of same saw held_is pair_is).kept;
    fits = fits;
  }

  pub unstepped_line : (new : Sharing) (held' : List ℕ) (pair' : Option Material) (owed' : VecDeque Owed Global) → IsShareOf w new → new ≡ record share { sight = new.sight } → HasSeen share.sight new.sight → held' ≡ new.sight.holds → pair' ≡ pair → owed'.items ≡ owed.items → SameLine (shown_of d) (shown_of (sitting w routes new past hold owed'.items))
  unstepped_line new held' pair' owed' of same saw held_is pair_is listed =
      subst (λ x. SameLine (shown_of x) (shown_of (sitting w routes new past hold owed'.items))) is
      (subst (λ os. SameLine (shown_of (sitting w routes share past hold owed.items)) (shown_of (sitting w routes new past hold os))) (sym listed) (unstepped new held' pair' of same saw held_is pair_is).line)

  pub unstepped_stayed : (new : Sharing) (held' : List ℕ) (pair' : Option Material) (owed' : VecDeque Owed Global) → IsShareOf w new → new ≡ record share { sight = new.sight } → HasSeen share.sight new.sight → held' ≡ new.sight.holds → pair' ≡ pair → owed'.items ≡ owed.items → Stayed d (sitting w routes new past hold owed'.items)
  unstepped_stayed new held' pair' owed' of same saw held_is pair_is listed =
      subst (λ x. Stayed x (sitting w routes new past hold owed'.items)) is
      (subst (λ os. Stayed (sitting w routes share past hold owed.items) (sitting w routes new past hold os)) (sym listed) (unstepped new held' pair' of same saw held_is pair_is).stayed)
