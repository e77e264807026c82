-- What each call of the desk but a step of the table leaves: the event, as its trait says, and all that is kept true.
use Rattle.std.proofs.Common.{ℕ, ◌≡◌, ◌%◌, ◌<◌, ◌≤◌, List, [], ◌∷◌, ◌++◌, length, append-nil, refl, sym, ◌∙◌, ap, subst, arith, inl, inr, true, false, if◌then◌else◌, ◌==◌}
use Rattle.std.specs.Prelude.{Option, Some, Contains, map}
use Rattle.std.specs.List.{AllByRecursion}
use Rattle.std.specs.VecDeque.{deque_capacity}
use Rattle.std.specs.declared.collections.VecDeque.{VecDeque}
use Rattle.std.specs.declared.alloc.Global.{Global}
use Rattle.std.proofs.lemmas.Bool.{cases_eq, eq-eqb, ne_eqb}
use Rattle.std.proofs.lemmas.List.{map-append}
use Rattle.std.proofs.lemmas.List.Elements.{Contains-push}
use Rattle.ov_base.specs.Sums.{count_of}
use Rattle.ov_draw.specs.Drawer.{Drawer}
use Rattle.ov_hold.specs.Holds.{Owes}
use Rattle.ov_model.specs.declared.draw.Drawn.{Drawn}
use Rattle.ov_model.specs.declared.draw.Drawn.TheVariants as drawn
use Rattle.ov_model.specs.declared.entry.Entry.{Entry}
use Rattle.ov_model.specs.declared.hold.Given.{Given}
use Rattle.ov_model.specs.declared.hold.Given.TheVariants as given
use Rattle.ov_model.specs.declared.hold.Owed.{Owed}
use Rattle.ov_model.specs.declared.hold.Owed.TheVariants as owed
use Rattle.ov_model.specs.declared.place.Place.{Place}
use Rattle.ov_model.specs.declared.replay.Verdict.{Verdict}
use Rattle.ov_model.specs.declared.stand.Stand.{Stand}
use Rattle.ov_model.specs.declared.stand.Stand.TheVariants as stand
use Rattle.ov_model.specs.Events.{Event, Stepped, Drew, GaveKey, GavePeer, judgements_in, release_of}
use Rattle.ov_model.specs.Keys.{key_of}
use Rattle.ov_model.specs.Next.{stand_of, see, drew, judged}
use Rattle.ov_model.specs.Tables.{Material}
use Rattle.ov_model.specs.Via.{via_of}
use Rattle.ov_path.specs.Desks.{Holding, NoHold, Both, PeerLeft, HoldsKey, Grows, SameLine, IsLooked, Did, judged_at, owed_if, hold_left, owed_left, after_first}
use Rattle.ov_path.proofs.Seeing.{seen}
use Rattle.ov_past.specs.Pasts.{gave}
use Rattle.ov_past.specs.Holds.{hold_without}
use Rattle.ov_replay.specs.Desk.{part_at, HasStepped, HasNotStepped, HasLooked}
use Rattle.ov_share.specs.Shares.{Sharing, IsShareOf, HasDrawn}
use Rattle.ov_share.specs.Makings.{Makes, HasGiven, SawMore}
use Rattle.ov_table.specs.Cells.{key_cell}
use Rattle.ov_ticket.specs.Asks.{IsLow, OwedFits}
use Rattle.ov_ticket.specs.Tickets.{HasSeen, ReleasedAt}
use Rattle.ov_ticket.specs.Within.{cell_of}
use Rattle.ov_turn.proofs.Fronts.{prefix_self}
use Rattle.ov_turn.proofs.Members.{has_here, counted_has}
use Rattle.ov_turn.specs.Lists.{has, without}
use Rattle.ov_turn.specs.Seats.{Sight}
use Rattle.ov_desk.specs.Sittings.{Sitting, shown_of, Happened, Stayed, GivesBack, WasReleased}
use Rattle.ov_desk.specs.Kept.{IsKept, IsInRange, PairFits, IsDry, IsEarly, IsUnjudged, IsFew, cells_of_hold}
use Rattle.ov_desk.proofs.Standing.{stands_by, unjudged_more, drew_unjudged, key_unjudged, peer_unjudged, drew_dry, judged_late, judged_not_spent, not_dry, release_stands}
use Rattle.ov_desk.proofs.Making.{key_grows, seen_on, entry_made, release_step, release_spends}

-- What a call leaves.
pub record EventDone (d : Sitting) (e : Event) (n : Sitting) (held : List ℕ) (pair : Option Material) : Type 0 where
  pub did : Did shown_of Happened d e n
  pub kept : IsKept n held pair

-- The desk with another share, after an event.
abbrev pub with_event : Sitting → Sharing → Event → Sitting
with_event d s e = record d { share = s; events = d.events ++ e ∷ [] }

-- ---- what is kept of the pair

pub pair_on : (old new : ℕ → Option Material) (h : Holding) (pair : Option Material) → Grows old new → PairFits old h pair → PairFits new h pair
pair_on old new (Both h) pair grows fits = (fits.0, fits.1, grows h.key fits.0 fits.2)
pair_on old new _ pair grows fits = tt

same_seen : (d : Sitting) (s : Sharing) → s.sight.seen ≡ d.share.sight.seen → Grows (key_of d.share.sight.seen) (key_of s.sight.seen)
same_seen d s same key m known = subst (λ l. key_of l key ≡ Some m) (sym same) known

-- ---- a draw

pub drawn_sight : (old new : Sharing) (key : ℕ) (r : Drawn) → HasDrawn old new key r → new.sight ≡ old.sight
drawn_sight old new key (drawn.Id n) h = ap (λ (s : Sharing). s.sight) h.0
drawn_sight old new key drawn.Spent h = ap (λ (s : Sharing). s.sight) h

drawn_spent : (old new : Sharing) (key : ℕ) → HasDrawn old new key drawn.Spent → new.drawer.spent ≡ old.drawer.spent ++ key ∷ []
drawn_spent old new key h = ap (λ (s : Sharing). s.drawer.spent) h

spent_dry : (spent : List ℕ) (key : ℕ) (h : Holding) (s : Stand) → HoldsKey h key → IsLooked s → Contains spent key → IsDry spent h (drew s drawn.Spent)
spent_dry spent key (Both h) (stand.Looked v) names looked there = subst (λ k. Contains spent k) (sym names) there
spent_dry spent key (Both h) _ names looked there = absurd looked
spent_dry spent key NoHold s names looked there = absurd names
spent_dry spent key (PeerLeft h) s names looked there = absurd names

drawn_dry : (old new : Sharing) (key : ℕ) (r : Drawn) (h : Holding) (s : Stand) → HoldsKey h key → IsLooked s → HasDrawn old new key r → r ≡ drawn.Spent → IsDry new.drawer.spent h (drew s drawn.Spent)
drawn_dry old new key r h s names looked did is =
    let its : HasDrawn old new key drawn.Spent = subst (λ x. HasDrawn old new key x) is did in
    spent_dry new.drawer.spent key h s names looked (subst (λ ks. Contains ks key) (sym (drawn_spent old new key its)) (Contains-push old.drawer.spent key))

pub key_low : (h : Holding) (key : ℕ) → IsInRange h → HoldsKey h key → key < 65536
key_low (Both h) key range names = subst (λ k. k < 65536) names range.1
key_low NoHold key range names = absurd names
key_low (PeerLeft h) key range names = absurd names

pub draw_done : (d : Sitting) (held : List ℕ) (pair : Option Material) (key : ℕ) (r : Drawn) (s : Sharing) → IsKept d held pair → HoldsKey d.hold key → IsLooked (stand_of d.events) → IsShareOf d.common s → HasDrawn d.share s key r → EventDone d (Drew key r) (with_event d s (Drew key r)) held pair
draw_done d held pair key r s kept names looked of did =
    let sight : s.sight ≡ d.share.sight = drawn_sight d.share s key r did in
    let grows : Grows (key_of d.share.sight.seen) (key_of s.sight.seen) = same_seen d s (ap (λ (x : Sight Entry). x.seen) sight) in
    record {
      did = record {
        leaves = record { events = refl; hold_is = refl; owing_is = refl; grows = grows; hops = refl };
        done = record { common = refl; routes = refl; makes = did; first = tt };
      };
      kept = record {
        of = of;
        held_is = kept.held_is ∙ ap (λ (x : Sight Entry). x.holds) (sym sight);
        holds = ap (λ (x : Sight Entry). x.holds) sight ∙ kept.holds;
        range = kept.range;
        pair_is = pair_on (key_of d.share.sight.seen) (key_of s.sight.seen) d.hold pair grows kept.pair_is;
        dry = stands_by (λ x. IsDry s.drawer.spent d.hold x) d.events (Drew key r) (drew_dry s.drawer.spent d.hold (stand_of d.events) r looked (drawn_dry d.share s key r d.hold (stand_of d.events) names looked did));
        unjudged = unjudged_more d.events (Drew key r) refl (drew_unjudged d.events r kept.unjudged);
        few = kept.few;
      };
    }

-- ---- a replay step

looked_early : (s : Stand) → IsLooked s → IsEarly s
looked_early (stand.Looked h) looked = tt
looked_early _ looked = absurd looked

pub replay_done : (d : Sitting) (held : List ℕ) (pair : Option Material) (place : Place) (key id at : ℕ) (v : Verdict) (s : Sharing) → IsKept d held pair → IsLooked (stand_of d.events) → IsShareOf d.common s → s ≡ record d.share { parts = s.parts } → HasStepped d.share.parts s.parts place key id at v
    → EventDone d (judged_at place key id at v) (with_event d s (judged_at place key id at v)) held pair
replay_done d held pair place key id at v s kept looked of same did =
    let sight : s.sight ≡ d.share.sight = ap (λ (x : Sharing). x.sight) same in
    let grows : Grows (key_of d.share.sight.seen) (key_of s.sight.seen) = same_seen d s (ap (λ (x : Sight Entry). x.seen) sight) in
    let event : Event = judged_at place key id at v in
    record {
      did = record {
        leaves = record { events = refl; hold_is = refl; owing_is = refl; grows = grows; hops = refl };
        done = record { common = refl; routes = refl; makes = record { stepped = did; same = same }; first = kept.unjudged (looked_early (stand_of d.events) looked) };
      };
      kept = record {
        of = of;
        held_is = kept.held_is ∙ ap (λ (x : Sight Entry). x.holds) (sym sight);
        holds = ap (λ (x : Sight Entry). x.holds) sight ∙ kept.holds;
        range = kept.range;
        pair_is = pair_on (key_of d.share.sight.seen) (key_of s.sight.seen) d.hold pair grows kept.pair_is;
        dry = stands_by (λ x. IsDry s.drawer.spent d.hold x) d.events event (not_dry s.drawer.spent d.hold (judged (stand_of d.events) v) (judged_not_spent (stand_of d.events) v looked));
        unjudged = λ early. absurd (judged_late (stand_of d.events) v looked (subst IsEarly (seen (stand_of d.events) d.events event refl) early));
        few = kept.few;
      };
    }

-- ---- want of memory

-- What stays where nothing was made.
pub record Kept (d n : Sitting) (held : List ℕ) (pair : Option Material) : Type 0 where
  pub line : SameLine (shown_of d) (shown_of n)
  pub stayed : Stayed d n
  pub kept : IsKept n held pair

stays : (d : Sitting) (held held' : List ℕ) (pair pair' : Option Material) (s : Sharing) → IsKept d held pair → IsShareOf d.common s → held' ≡ held → pair' ≡ pair → s.sight.holds ≡ d.share.sight.holds → Grows (key_of d.share.sight.seen) (key_of s.sight.seen) → SawMore d.share s → Kept d (record d { share = s }) held' pair'
stays d held held' pair pair' s kept of held_is pair_is holds grows saw = record {
  line = record { events = refl; hold = refl; owing = refl; grows = grows };
  stayed = record { same = refl; saw = saw };
  kept = record {
    of = of;
    held_is = held_is ∙ kept.held_is ∙ sym holds;
    holds = holds ∙ kept.holds;
    range = kept.range;
    pair_is = subst (λ p. PairFits (key_of s.sight.seen) d.hold p) (sym pair_is) (pair_on (key_of d.share.sight.seen) (key_of s.sight.seen) d.hold pair grows kept.pair_is);
    dry = subst (λ ks. IsDry ks d.hold (stand_of d.events)) (ap (λ (x : Drawer). x.spent) (sym saw.drawer)) kept.dry;
    unjudged = kept.unjudged;
    few = kept.few;
  };
}

pub replay_stayed : (d : Sitting) (held : List ℕ) (pair : Option Material) (key : ℕ) (s : Sharing) → IsKept d held pair → IsShareOf d.common s → s ≡ record d.share { parts = s.parts } → HasNotStepped d.share.parts s.parts key → Kept d (record d { share = s }) held pair
replay_stayed d held pair key s kept of same none =
    let sight : s.sight ≡ d.share.sight = ap (λ (x : Sharing). x.sight) same in
    let grows : Grows (key_of d.share.sight.seen) (key_of s.sight.seen) = same_seen d s (ap (λ (x : Sight Entry). x.seen) sight) in
    stays d held held pair pair s kept of refl refl (ap (λ (x : Sight Entry). x.holds) sight) grows (record {
      table = subst (λ (x : Sight Entry). HasSeen d.share.sight x) (sym sight) (record { front = prefix_self d.share.sight.seen; same = refl });
      shards = λ i. elim (cases_eq i (key % 8)) [
        | inl here ↦ subst (λ k. HasLooked (part_at d.share.parts k) (part_at s.parts k)) (sym here) none.here
        | inr other ↦ subst (λ p. HasLooked (part_at d.share.parts i) p) (sym (none.others i other)) (record { front = prefix_self (part_at d.share.parts i).seen; same = refl })
      ];
      drawer = ap (λ (x : Sharing). x.drawer) same;
      name = ap (λ (x : Sharing). x.name) same;
    })

pub table_stayed : (d : Sitting) (held held' : List ℕ) (pair pair' : Option Material) (s : Sharing) → IsKept d held pair → IsShareOf d.common s → s ≡ record d.share { sight = s.sight } → HasSeen d.share.sight s.sight → held' ≡ s.sight.holds → pair' ≡ pair → Kept d (record d { share = s }) held' pair'
table_stayed d held held' pair pair' s kept of same saw held_is pair_is =
    let holds : s.sight.holds ≡ d.share.sight.holds = ap (λ (x : Sight Entry). x.holds) saw.same in
    let parts : s.parts ≡ d.share.parts = ap (λ (x : Sharing). x.parts) same in
    stays d held held' pair pair' s kept of (held_is ∙ holds ∙ sym kept.held_is) pair_is holds (key_grows d.share.sight.seen s.sight.seen saw.front) (record {
      table = saw;
      shards = λ i. subst (λ ps. HasLooked (part_at d.share.parts i) (part_at ps i)) (sym parts) (record { front = prefix_self (part_at d.share.parts i).seen; same = refl });
      drawer = ap (λ (x : Sharing). x.drawer) same;
      name = ap (λ (x : Sharing). x.name) same;
    })

-- ---- a give-back

-- What a hold that may be given back says.
record MayGive (h : Holding) (o : Owed) (g : Given) : Type 0 where
  cell : cell_of o < 69632
  low : IsLow o
  held : has (cell_of o) (cells_of_hold h) ≡ 1
  left : without (cell_of o) (cells_of_hold h) ≡ cells_of_hold (hold_without o h)
  range : IsInRange (hold_without o h)
  pair : (material : ℕ → Option Material) (pair : Option Material) → PairFits material (hold_without o h) pair
  dry : (spent : List ℕ) (s : Stand) → IsDry spent (hold_without o h) s
  few : (owing : List Owed) → IsFew h owing → IsFew (hold_without o h) (owing ++ owed_if g o)
  room : (owing : List Owed) → IsFew h owing → length owing ≤ 1

one_owed : (g : Given) (o : Owed) (owing : List Owed) → owing ≡ [] → length (owing ++ owed_if g o) ≤ 1
one_owed given.Last o owing none = rw none (omega arith)
one_owed given.More o owing none = rw none (omega arith)

last_left : (peer cell : ℕ) → peer < 4096 → 4096 ≤ cell → without cell (peer ∷ cell ∷ []) ≡ peer ∷ []
last_left peer cell low high = rw (ne_eqb peer cell (λ same. (let e : peer ≡ cell = same in omega arith)), eq-eqb cell cell refl) refl

pub last_held : (peer cell : ℕ) → has cell (peer ∷ cell ∷ []) ≡ 1
last_held peer cell = elim (peer == cell) as (λ b. (if b then 1 else has cell (cell ∷ [])) ≡ 1) [ true ↦ refl | false ↦ has_here cell [] ]

may_give : (h : Holding) (o : Owed) (g : Given) → GivesBack h o → IsInRange h → MayGive h o g
may_give (Both h) (owed.Key k) g names range = subst (λ key. MayGive (Both h) (owed.Key key) g) names (record {
  cell = (let low : h.key < 65536 = range.1 in omega arith);
  low = tt;
  held = last_held h.peer (key_cell h.key);
  left = last_left h.peer (key_cell h.key) range.0 (omega arith);
  range = range.0;
  pair = λ material pair. tt;
  dry = λ spent s. tt;
  few = λ owing few. one_owed g (owed.Key h.key) owing few;
  room = λ owing few. rw few (omega arith);
})
may_give (PeerLeft h) (owed.Peer p) g names range = subst (λ peer. MayGive (PeerLeft h) (owed.Peer peer) g) names (record {
  cell = (let low : h.peer < 4096 = range in omega arith);
  low = range;
  held = has_here h.peer [];
  left = rw (eq-eqb h.peer h.peer refl) refl;
  range = tt;
  pair = λ material pair. tt;
  dry = λ spent s. tt;
  few = λ owing few. tt;
  room = λ owing few. few;
})
may_give NoHold (owed.Key k) g names range = absurd names
may_give NoHold (owed.Peer p) g names range = absurd names
may_give (PeerLeft h) (owed.Key k) g names range = absurd names
may_give (Both h) (owed.Peer p) g names range = absurd names

-- What the code asks before a give-back.
pub record CanGive (d : Sitting) (held : List ℕ) (o : Owed) : Type 0 where
  pub cell : cell_of o < 69632
  pub listed : has (cell_of o) held ≡ 1
  pub holds : 0 < count_of (cell_of o) d.share.sight.holds
  pub room : length d.owing ≤ 1

pub can_give : (d : Sitting) (held : List ℕ) (pair : Option Material) (o : Owed) → IsKept d held pair → GivesBack d.hold o → CanGive d held o
can_give d held pair o kept names =
    let may : MayGive d.hold o given.More = may_give d.hold o given.More names kept.range in
    let has_it : has (cell_of o) d.share.sight.holds ≡ 1 = ap (has (cell_of o)) kept.holds ∙ may.held in
    record {
      cell = may.cell;
      listed = ap (has (cell_of o)) kept.held_is ∙ has_it;
      holds = counted_has (cell_of o) d.share.sight.holds (omega (arith, has_it));
      room = may.room d.owing kept.few;
    }

-- The share after a give-back.
abbrev pub given_share : Sharing → Owed → (owes : List ℕ) → Sharing
given_share s o owes = record s { sight = record s.sight { holds = without (cell_of o) s.sight.holds; owes = owes } }

-- The desk after a give-back.
abbrev pub given_back : Sitting → Sharing → Owed → Given → Sitting
given_back d s o g = record d { share = s; events = d.events ++ gave o g ∷ []; hold = hold_without o d.hold; owing = d.owing ++ owed_if g o }

hold_left_is : (h : Holding) (o : Owed) (g : Given) → hold_without o h ≡ hold_left h (gave o g)
hold_left_is h (owed.Key k) g = refl
hold_left_is h (owed.Peer p) g = refl

owed_left_is : (os : List Owed) (o : Owed) (g : Given) → os ++ owed_if g o ≡ owed_left os (gave o g)
owed_left_is os (owed.Key k) g = refl
owed_left_is os (owed.Peer p) g = refl

gave_makes : (old new : Sharing) (o : Owed) (g : Given) → HasGiven old new → Makes old (gave o g) new
gave_makes old new (owed.Key k) g done = done
gave_makes old new (owed.Peer p) g done = done

gave_happened : (d n : Sitting) (o : Owed) (g : Given) → n.common ≡ d.common → n.routes ≡ d.routes → HasGiven d.share n.share → Happened d (gave o g) n
gave_happened d n (owed.Key k) g common routes done = record { common = common; routes = routes; makes = done; first = tt }
gave_happened d n (owed.Peer p) g common routes done = record { common = common; routes = routes; makes = done; first = tt }

gave_did : (d n : Sitting) (o : Owed) (g : Given) → n.events ≡ d.events ++ gave o g ∷ [] → n.hold ≡ hold_without o d.hold → n.owing ≡ d.owing ++ owed_if g o → n.common ≡ d.common → n.routes ≡ d.routes → HasGiven d.share n.share → Did shown_of Happened d (gave o g) n
gave_did d n (owed.Key k) g events hold owing common routes done = record {
  leaves = record { events = events; hold_is = hold; owing_is = owing; grows = same_seen d n.share done.seen; hops = ap via_of routes };
  done = gave_happened d n (owed.Key k) g common routes done;
}
gave_did d n (owed.Peer p) g events hold owing common routes done = record {
  leaves = record { events = events; hold_is = hold; owing_is = owing; grows = same_seen d n.share done.seen; hops = ap via_of routes };
  done = gave_happened d n (owed.Peer p) g common routes done;
}

gave_unjudged : (events : List Event) (o : Owed) (g : Given) → IsUnjudged events → IsUnjudged (events ++ gave o g ∷ [])
gave_unjudged events (owed.Key k) g unjudged = unjudged_more events (GaveKey k g) refl (key_unjudged events unjudged)
gave_unjudged events (owed.Peer p) g unjudged = unjudged_more events (GavePeer p g) refl (peer_unjudged events unjudged)

pub give_done : (d : Sitting) (held held' : List ℕ) (pair : Option Material) (o : Owed) (g : Given) (s : Sharing) → IsKept d held pair → GivesBack d.hold o → IsShareOf d.common s → s ≡ given_share d.share o s.sight.owes → held' ≡ without (cell_of o) held → EventDone d (gave o g) (given_back d s o g) held' pair
give_done d held held' pair o g s kept names of same held_is =
    let may : MayGive d.hold o g = may_give d.hold o g names kept.range in
    let sight : s.sight ≡ (given_share d.share o s.sight.owes).sight = ap (λ (x : Sharing). x.sight) same in
    let holds : s.sight.holds ≡ without (cell_of o) d.share.sight.holds = ap (λ (x : Sight Entry). x.holds) sight in
    let made : HasGiven d.share s = record {
      share = ap (λ (x : Sight Entry). x.share) sight;
      seen = ap (λ (x : Sight Entry). x.seen) sight;
      own = ap (λ (x : Sight Entry). x.own) sight;
      same = same ∙ ap (λ (x : Sight Entry). record d.share { sight = x }) (sym sight);
    } in
    record {
      did = gave_did d (given_back d s o g) o g refl refl refl refl refl made;
      kept = record {
        of = of;
        held_is = held_is ∙ ap (without (cell_of o)) kept.held_is ∙ sym holds;
        holds = holds ∙ ap (without (cell_of o)) kept.holds ∙ may.left;
        range = may.range;
        pair_is = may.pair (key_of s.sight.seen) pair;
        dry = may.dry s.drawer.spent (stand_of (d.events ++ gave o g ∷ []));
        unjudged = gave_unjudged d.events o g kept.unjudged;
        few = may.few d.owing kept.few;
      };
    }

-- What is owed after a give-back is listed, in its order.
low_more : (os : List Owed) (o : Owed) → AllByRecursion IsLow os → IsLow o → AllByRecursion IsLow (os ++ o ∷ [])
low_more [] o all low = (low, tt)
low_more (x ∷ os) o all low = (all.0, low_more os o all.1 low)

listed_more : (os : List Owed) (o : Owed) (owes owes' : List ℕ) (g : Given) → owes ≡ map cell_of os → Owes g (cell_of o) owes owes' → owes' ≡ map cell_of (os ++ owed_if g o)
listed_more os o owes owes' given.Last are is = is ∙ ap (λ cs. cs ++ cell_of o ∷ []) are ∙ sym (map-append cell_of os (o ∷ []))
listed_more os o owes owes' given.More are is = is ∙ are ∙ ap (map cell_of) (sym (append-nil os))

all_low : (os : List Owed) (o : Owed) (g : Given) → AllByRecursion IsLow os → IsLow o → AllByRecursion IsLow (os ++ owed_if g o)
all_low os o given.Last all low = low_more os o all low
all_low os o given.More all low = subst (λ xs. AllByRecursion IsLow xs) (sym (append-nil os)) all

pub give_fits : (d : Sitting) (held : List ℕ) (pair : Option Material) (o : Owed) (g : Given) (listed listed' : VecDeque Owed Global) (owes owes' : List ℕ) → IsKept d held pair → GivesBack d.hold o → OwedFits listed owes → Owes g (cell_of o) owes owes' → listed'.items ≡ listed.items ++ owed_if g o → deque_capacity listed' ≡ deque_capacity listed → OwedFits listed' owes'
give_fits d held pair o g listed listed' owes owes' kept names fits is are room =
    let may : MayGive d.hold o g = may_give d.hold o g names kept.range in
    record {
      owes_are = listed_more listed.items o owes owes' g fits.owes_are is ∙ ap (map cell_of) (sym are);
      low = subst (λ xs. AllByRecursion IsLow xs) (sym are) (all_low listed.items o g fits.low may.low);
      room = (let had : 69632 ≤ deque_capacity listed = fits.room in omega (arith, room));
    }

-- ---- a release

released_few : (h : Holding) (owing : List Owed) (o : Owed) (rest : List Owed) → owing ≡ o ∷ rest → IsFew h owing → IsFew h rest
released_few NoHold owing o rest is few = tt
released_few (Both h) owing o rest is few = absurd (let e : ◌≡◌ {A = List Owed} [] (o ∷ rest) = sym few ∙ is in cc)
released_few (PeerLeft h) owing o rest is few = (let long : length owing ≡ length (o ∷ rest) = ap length is in let most : length owing ≤ 1 = few in omega arith)

release_quiet : (place : Place) (at : ℕ) (o : Owed) → judgements_in (Stepped (release_of place at o) ∷ []) ≡ []
release_quiet place at (owed.Peer p) = refl
release_quiet place at (owed.Key k) = refl

-- What a release leaves.
pub record ReleaseDone (d : Sitting) (place : Place) (at : ℕ) (n : Sitting) (held : List ℕ) (pair : Option Material) : Type 0 where
  pub released : WasReleased place at d n
  pub kept : IsKept n held pair

pub release_done : (d : Sitting) (held : List ℕ) (pair : Option Material) (place : Place) (at : ℕ) (event : Event) (s : Sharing) (listed' : List Owed) → IsKept d held pair → IsShareOf d.common s → s ≡ record d.share { sight = s.sight } → ReleasedAt d.share.sight s.sight place at event d.owing listed'
    → ReleaseDone d place at (record d { share = s; events = d.events ++ event ∷ []; owing = listed' }) held pair
release_done d held pair place at event s listed' kept of same made =
    let o : Owed = made.first in
    let its : Event = Stepped (release_of place at o) in
    let events : d.events ++ event ∷ [] ≡ d.events ++ its ∷ [] = ap (λ e. d.events ++ e ∷ []) made.event_is in
    let front = seen_on d.share.sight.seen made.before s.sight.seen (release_of place at o).entry made.front made.seen in
    let grows : Grows (key_of d.share.sight.seen) (key_of s.sight.seen) = key_grows d.share.sight.seen s.sight.seen front in
    let stands : see (stand_of d.events) its ≡ stand_of d.events = release_stands place at o (stand_of d.events) in
    record {
      released = record {
        first = o;
        rest = listed';
        owing = made.listed_was;
        did = record {
          leaves = record { events = events; hold_is = refl; owing_is = ap after_first (sym made.listed_was); grows = grows; hops = tt };
          done = record {
            common = refl;
            routes = refl;
            makes = entry_made d.share s made.before (release_of place at o).entry (release_of place at o) (release_step _ place at o) made.front made.seen made.own made.share same (release_spends d.share.drawer.spent place at o);
            first = tt;
          };
        };
      };
      kept = record {
        of = of;
        held_is = kept.held_is ∙ sym made.holds;
        holds = made.holds ∙ kept.holds;
        range = kept.range;
        pair_is = pair_on (key_of d.share.sight.seen) (key_of s.sight.seen) d.hold pair grows kept.pair_is;
        dry = subst (λ es. IsDry s.drawer.spent d.hold (stand_of es)) (sym events) (stands_by (λ x. IsDry s.drawer.spent d.hold x) d.events its (subst (λ x. IsDry s.drawer.spent d.hold x) (sym stands) (subst (λ (x : Sharing). IsDry x.drawer.spent d.hold (stand_of d.events)) (sym same) kept.dry)));
        unjudged = subst (λ es. IsUnjudged es) (sym events) (unjudged_more d.events its (release_quiet place at o) (λ early. kept.unjudged (subst IsEarly stands early)));
        few = released_few d.hold d.owing o listed' made.listed_was kept.few;
      };
    }
