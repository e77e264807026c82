-- The packet ids of each key, over all lanes: each kind of event and an answer keep the count, and it ends as
-- the report's.
use Rattle.std.proofs.Common.{ℕ, ◌≡◌, ◌≢◌, ◌+◌, ◌<◌, ◌≤◌, zero, suc, List, [], ◌∷◌, ◌++◌, length, refl, sym, ap, ◌∙◌, subst, arith, inl, inr, append-nil, append_assoc, length-append}
use Rattle.std.specs.Prelude.{get_or, slice_get, slice_set, Some}
use Rattle.std.specs.List.{AllByRecursion}
use Rattle.std.proofs.lemmas.Bool.{cases_eq, eq-eqb, ne_eqb}
use Rattle.std.proofs.lemmas.Bool.Decides.{nat_tests}
use Rattle.std.proofs.lemmas.List.Quantifiers.{all_pairs_push}
use Rattle.ov_base.specs.Sums.{total, between}
use Rattle.ov_model.specs.declared.place.Place.{Place}
use Rattle.ov_model.specs.declared.act.Call.{Call}
use Rattle.ov_model.specs.declared.answer.Answer.{Answer}
use Rattle.ov_model.specs.declared.draw.Drawn.TheVariants as drawn
use Rattle.ov_model.specs.Step.{step}
use Rattle.ov_model.specs.Events.{Event, Stepped, Judged, Drew, GaveKey, GavePeer, draws_in, judgement_of}
use Rattle.ov_model.specs.Keys.{sealed_ids, ids_under, ids_of}
use Rattle.ov_model.specs.Removals.{times}
use Rattle.ov_model.proofs.Counting.{draws_in-append, ids_under-append, ids_of-push}
use Rattle.ov_model.proofs.Times.{times-append}
use Rattle.ov_core.specs.Worlds.{World, Seat, no_line, next_of, seat_stepped, after_step, judged_next, after_replay, drawn_of, next_after, after_draw, key_given, peer_given, after_key, after_peer}
use Rattle.ov_core.specs.Sessions.{Lane, Session, answered}
use Rattle.ov_core.specs.Sounds.{ids_drawn, over_lanes, RiseBelow, Counts}
use Rattle.ov_core.proofs.Owing.{total_changed_at}
use Rattle.ov_core.proofs.Seats.{set_case, set_there}
use Rattle.ov_core.proofs.Nexts.{next_stepped, next_drawn, next_others, drawn_cases}

-- ---- measures that add up

-- A measure of a list is the sum of its parts' measures.
record AddsUp (f : List ℕ → ℕ) : Type 0 where
  append : (xs ys : List ℕ) → f (xs ++ ys) ≡ f xs + f ys

times_adds : (n : ℕ) → AddsUp (times n)
times_adds n = record { append = λ xs ys. times-append n xs ys }

length_adds : AddsUp length
length_adds = record { append = λ xs ys. length-append xs ys }

adds_none : (f : List ℕ → ℕ) → AddsUp f → f [] ≡ 0
adds_none f adds = let twice : f [] ≡ f [] + f [] = adds.append [] [] in omega arith

-- ---- numbers that rise

all_more : {X : Type 0} (P : X → Type 0) (xs : List X) (x : X) → AllByRecursion P xs → P x → AllByRecursion P (xs ++ x ∷ [])
all_more P [] x all last = (last, tt)
all_more P (y ∷ xs) x all last = (all.0, all_more P xs x all.1 last)

all_weaker : (a b : ℕ) (xs : List ℕ) → a ≤ b → AllByRecursion (λ n. n < a) xs → AllByRecursion (λ n. n < b) xs
all_weaker a b [] more all = tt
all_weaker a b (x ∷ xs) more all = let first : x < a = all.0 in (omega arith, all_weaker a b xs more all.1)

below_at : (bound : ℕ) (xs : List ℕ) → AllByRecursion (λ n. n < bound) xs → (k d : ℕ) → k < length xs → get_or xs k d < bound
below_at bound [] all k d short = absurd (omega arith)
below_at bound (x ∷ xs) all zero d short = all.0
below_at bound (x ∷ xs) all (suc k) d short = below_at bound xs all.1 k d (omega arith)

rise_weaker : (a b : ℕ) (xs : List ℕ) → a ≤ b → RiseBelow a xs → RiseBelow b xs
rise_weaker a b xs more rises = record { rise = rises.rise; below = all_weaker a b xs more rises.below }

-- The bound itself may come next.
rise_more : (bound : ℕ) (xs : List ℕ) → RiseBelow bound xs → RiseBelow (bound + 1) (xs ++ bound ∷ [])
rise_more bound xs rises = record {
  rise = all_pairs_push (λ m n. m < n) xs bound rises.rise (below_at bound xs rises.below);
  below = all_more (λ n. n < bound + 1) xs bound (all_weaker bound (bound + 1) xs (omega arith) rises.below) (omega arith);
}

-- ---- an event that draws no id of the key

-- Lane i's seat has other events, with the same draws of the key.
seats_same : (f : List ℕ → ℕ) (key : ℕ) (seats : List Seat) (i : ℕ) (s r : Seat) → slice_get seats i ≡ Some s → ids_under key (draws_in r.events) ≡ ids_under key (draws_in s.events) → total (λ x. f (ids_under key (draws_in x.events))) (slice_set seats i r) ≡ total (λ x. f (ids_under key (draws_in x.events))) seats
seats_same f key seats i s r at same =
    let g : Seat → ℕ = λ x. f (ids_under key (draws_in x.events)) in
    let changed : total g (slice_set seats i r) + g s ≡ total g seats + g r = total_changed_at g seats i s r at in
    let alike : g r ≡ g s = ap f same in
    omega arith

-- The ids of a lane, where its seat may be the changed one.
drawn_same : (key : ℕ) (seats : List Seat) (i : ℕ) (s r : Seat) → slice_get seats i ≡ Some s → ids_under key (draws_in r.events) ≡ ids_under key (draws_in s.events) → (j : ℕ) (lane : Lane) (x : Seat) → slice_get (slice_set seats i r) j ≡ Some x → (y : Seat) × (slice_get seats j ≡ Some y) × (ids_drawn key lane x ≡ ids_drawn key lane y)
drawn_same key seats i s r at same j lane x now_at = elim (set_case seats i j r x now_at) [
  | inl here ↦ (s, rw here.0 at, rw here.1 (ap (λ ns. ids_of lane.answers key ++ ns) same))
  | inr other ↦ (x, other.1, refl)
]

counts_quiet : (s : Session) (v : World) (i : ℕ) (seat r : Seat) (key : ℕ) → slice_get s.world.seats i ≡ Some seat → v.seats ≡ slice_set s.world.seats i r → ids_under key (draws_in r.events) ≡ ids_under key (draws_in seat.events) → v.first ≡ s.world.first → next_of v key ≡ next_of s.world key → Counts s key → Counts (record s { world = v }) key
counts_quiet s v i seat r key at seats same first next counts =
    let after : Session = record s { world = v } in
    let over : (f : List ℕ → ℕ) → over_lanes f key after ≡ over_lanes f key s = λ f. (ap (λ n. total (λ lane. f (ids_of lane.answers key)) s.lanes + n) (ap (total (λ (x : Seat). f (ids_under key (draws_in x.events)))) seats ∙ seats_same f key s.world.seats i seat r at same)) in
    record {
      once = λ n. over (times n) ∙ counts.once n ∙ rw (next, first) refl;
      count = ap (λ n. v.first + n) (over length) ∙ rw (next, first) counts.count;
      rise = λ j lane x lane_at seat_at.
          let found = drawn_same key s.world.seats i seat r at same j lane x (subst (λ xs. slice_get xs j ≡ Some x) seats seat_at) in
          subst (λ ns. RiseBelow (next_of v key) ns) (sym found.2) (subst (λ b. RiseBelow b (ids_drawn key lane found.0)) (sym next) (counts.rise j lane found.0 lane_at found.1));
    }

-- ---- each event that draws nothing

none_drawn : (key : ℕ) (es : List Event) (e : Event) → draws_in (e ∷ []) ≡ [] → ids_under key (draws_in (es ++ e ∷ [])) ≡ ids_under key (draws_in es)
none_drawn key es e none = ap (ids_under key) (draws_in-append es (e ∷ []) ∙ ap (λ ds. draws_in es ++ ds) none ∙ append-nil (draws_in es))

pub counts_step : (s : Session) (i : ℕ) (seat : Seat) (place : Place) (call : Call) (key : ℕ) → slice_get s.world.seats i ≡ Some seat → Counts s key → Counts (record s { world = after_step s.world i seat place call }) key
counts_step s i seat place call key at counts =
    counts_quiet s (after_step s.world i seat place call) i seat (seat_stepped s.world.seats seat place call (step s.world.table.now call)) key at refl
    (none_drawn key seat.events (Stepped (record { entry = record { place = place; call = call; reply = (step s.world.table.now call).reply }; taken = (step s.world.table.now call).taken })) refl)
    refl (next_stepped s.world i seat place call key) counts

pub counts_replay : (s : Session) (i : ℕ) (seat : Seat) (place : Place) (judging id at : ℕ) (key : ℕ) → slice_get s.world.seats i ≡ Some seat → Counts s key → Counts (record s { world = after_replay s.world i seat place judging id at }) key
counts_replay s i seat place judging id at key seat_at counts =
    let e : Event = Judged (judgement_of (judged_next s.world place judging id at)) in
    counts_quiet s (after_replay s.world i seat place judging id at) i seat (record seat { events = seat.events ++ e ∷ [] }) key seat_at refl (none_drawn key seat.events e refl) refl refl counts

pub counts_key : (s : Session) (i : ℕ) (seat : Seat) (given key : ℕ) → slice_get s.world.seats i ≡ Some seat → Counts s key → Counts (record s { world = after_key s.world i seat given }) key
counts_key s i seat given key at counts =
    counts_quiet s (after_key s.world i seat given) i seat _ key at refl (none_drawn key seat.events (GaveKey given (key_given s.world i seat given)) refl) refl refl counts

pub counts_peer : (s : Session) (i : ℕ) (seat : Seat) (given key : ℕ) → slice_get s.world.seats i ≡ Some seat → Counts s key → Counts (record s { world = after_peer s.world i seat given }) key
counts_peer s i seat given key at counts =
    counts_quiet s (after_peer s.world i seat given) i seat _ key at refl (none_drawn key seat.events (GavePeer given (peer_given s.world i seat given)) refl) refl refl counts

-- ---- a draw

-- The ids of a key after one more was drawn of it.
one_drawn : (key n : ℕ) (es : List Event) → ids_under key (draws_in (es ++ Drew key (drawn.Id n) ∷ [])) ≡ ids_under key (draws_in es) ++ n ∷ []
one_drawn key n es =
    let parts : draws_in (es ++ Drew key (drawn.Id n) ∷ []) ≡ draws_in es ++ record { key = key; id = n } ∷ [] = draws_in-append es (Drew key (drawn.Id n) ∷ []) in
    let own : ids_under key (record { key = key; id = n } ∷ []) ≡ n ∷ [] = rw (eq-eqb key key refl) refl in
    ap (ids_under key) parts ∙ ids_under-append key (draws_in es) (record { key = key; id = n } ∷ []) ∙ ap (λ ns. ids_under key (draws_in es) ++ ns) own

-- The ids of another key.
other_drawn : (drew key n : ℕ) (es : List Event) → drew ≢ key → ids_under key (draws_in (es ++ Drew drew (drawn.Id n) ∷ [])) ≡ ids_under key (draws_in es)
other_drawn drew key n es differs =
    let parts : draws_in (es ++ Drew drew (drawn.Id n) ∷ []) ≡ draws_in es ++ record { key = drew; id = n } ∷ [] = draws_in-append es (Drew drew (drawn.Id n) ∷ []) in
    let none : ids_under key (record { key = drew; id = n } ∷ []) ≡ [] = rw (ne_eqb drew key differs) refl in
    ap (ids_under key) parts ∙ ids_under-append key (draws_in es) (record { key = drew; id = n } ∷ []) ∙ ap (λ ns. ids_under key (draws_in es) ++ ns) none ∙ append-nil (ids_under key (draws_in es))

-- A measure of a key's ids, once one more was drawn.
over_more : (f : List ℕ → ℕ) → AddsUp f → (s : Session) (v : World) (i : ℕ) (seat r : Seat) (key n : ℕ) → slice_get s.world.seats i ≡ Some seat → v.seats ≡ slice_set s.world.seats i r → ids_under key (draws_in r.events) ≡ ids_under key (draws_in seat.events) ++ n ∷ [] → over_lanes f key (record s { world = v }) ≡ over_lanes f key s + f (n ∷ [])
over_more f adds s v i seat r key n at seats more =
    let g : Seat → ℕ = λ x. f (ids_under key (draws_in x.events)) in
    let changed : total g (slice_set s.world.seats i r) + g seat ≡ total g s.world.seats + g r = total_changed_at g s.world.seats i seat r at in
    let grown : g r ≡ g seat + f (n ∷ []) = ap f more ∙ adds.append (ids_under key (draws_in seat.events)) (n ∷ []) in
    let same : total g v.seats ≡ total g (slice_set s.world.seats i r) = ap (total g) seats in
    omega arith

one_id : (first n : ℕ) (m : ℕ) → first ≤ n → between first n m + times m (n ∷ []) ≡ between first (n + 1) m
one_id first n m from = elim (cases_eq n m) [
  | inl same ↦ rw (eq-eqb n m same) (grind (arith, nat_tests))
  | inr other ↦ rw (ne_eqb n m other) (grind (arith, nat_tests))
]

-- The next id of a key was drawn for lane i.
counts_more : (s : Session) (v : World) (i : ℕ) (seat r : Seat) (key : ℕ) → slice_get s.world.seats i ≡ Some seat → v.seats ≡ slice_set s.world.seats i r → ids_under key (draws_in r.events) ≡ ids_under key (draws_in seat.events) ++ next_of s.world key ∷ [] → v.first ≡ s.world.first → next_of v key ≡ next_of s.world key + 1 → Counts s key → Counts (record s { world = v }) key
counts_more s v i seat r key at seats more first next counts =
    let n : ℕ = next_of s.world key in
    let after : Session = record s { world = v } in
    let count : s.world.first + over_lanes length key s ≡ n = counts.count in
    let longer : over_lanes length key after ≡ over_lanes length key s + 1 = over_more length length_adds s v i seat r key n at seats more in
    record {
      once = λ m. over_more (times m) (times_adds m) s v i seat r key n at seats more ∙ ap (λ k. k + times m (n ∷ [])) (counts.once m) ∙ one_id s.world.first n m (omega arith) ∙ rw (next, first) refl;
      count = (let whole : v.first + over_lanes length key after ≡ next_of v key = omega arith in whole);
      rise = λ j lane x lane_at seat_at.
          let now_at : slice_get (slice_set s.world.seats i r) j ≡ Some x = subst (λ xs. slice_get xs j ≡ Some x) seats seat_at in
          subst (λ b. RiseBelow b (ids_drawn key lane x)) (sym next) (elim (set_case s.world.seats i j r x now_at) [
            | inl here ↦
                let was : RiseBelow n (ids_drawn key lane seat) = counts.rise j lane seat lane_at (rw here.0 at) in
                let grown : ids_drawn key lane x ≡ ids_drawn key lane seat ++ n ∷ [] = rw here.1 (ap (λ ns. ids_of lane.answers key ++ ns) more ∙ sym (append_assoc (ids_of lane.answers key) (ids_under key (draws_in seat.events)) (n ∷ []))) in
                subst (RiseBelow (n + 1)) (sym grown) (rise_more n (ids_drawn key lane seat) was)
            | inr other ↦ rise_weaker n (n + 1) (ids_drawn key lane x) (omega arith) (counts.rise j lane x lane_at other.1)
          ]);
    }

-- Lane i asked a key's counter.
pub counts_draw : (s : Session) (i : ℕ) (seat : Seat) (drew key : ℕ) → slice_get s.world.seats i ≡ Some seat → drew < length s.world.next → Counts s key → Counts (record s { world = after_draw s.world i seat drew }) key
counts_draw s i seat drew key at below counts =
    let w : World = s.world in
    let v : World = after_draw w i seat drew in
    let n : ℕ = next_of w drew in
    let r : Seat = record seat { events = seat.events ++ Drew drew (drawn_of n) ∷ [] } in
    let asked : next_of v drew ≡ next_after n = next_drawn w i seat drew below in
    elim (drawn_cases n) [
      | inl given ↦ elim (cases_eq drew key) [
        | inl same ↦ counts_more s v i seat r key at refl
            (subst (λ k. ids_under k (draws_in r.events) ≡ ids_under k (draws_in seat.events) ++ next_of w k ∷ []) same (ap (λ d. ids_under drew (draws_in (seat.events ++ Drew drew d ∷ []))) given.1 ∙ one_drawn drew n seat.events))
            refl
            (subst (λ k. next_of v k ≡ next_of w k + 1) same (asked ∙ given.2)) counts
        | inr other ↦ counts_quiet s v i seat r key at refl
            (ap (λ d. ids_under key (draws_in (seat.events ++ Drew drew d ∷ []))) given.1 ∙ other_drawn drew key n seat.events other)
            refl (next_others w i seat drew key (λ same. other (sym same))) counts
      ]
      | inr none ↦ counts_quiet s v i seat r key at refl
          (ap (λ d. ids_under key (draws_in (seat.events ++ Drew drew d ∷ []))) none.1 ∙ none_drawn key seat.events (Drew drew drawn.Spent) refl)
          refl
          (elim (cases_eq drew key) [
            | inl same ↦ subst (λ k. next_of v k ≡ next_of w k) same (asked ∙ none.2)
            | inr other ↦ next_others w i seat drew key (λ same. other (sym same))
          ])
          counts
    ]

-- ---- an answer

-- What was drawn for a line is what its answer sealed.
over_answered : (f : List ℕ → ℕ) → AddsUp f → (s : Session) (w : World) (i : ℕ) (lane : Lane) (seat : Seat) (a : Answer) (key : ℕ) → slice_get s.lanes i ≡ Some lane → slice_get w.seats i ≡ Some seat → draws_in seat.events ≡ sealed_ids a → over_lanes f key (answered s w i lane a) ≡ over_lanes f key (record s { world = w })
over_answered f adds s w i lane seat a key lane_at seat_at sealed =
    let more : Lane = record lane { answers = lane.answers ++ a ∷ [] } in
    let by_lane : Lane → ℕ = λ l. f (ids_of l.answers key) in
    let by_seat : Seat → ℕ = λ x. f (ids_under key (draws_in x.events)) in
    let lanes : total by_lane (slice_set s.lanes i more) + by_lane lane ≡ total by_lane s.lanes + by_lane more = total_changed_at by_lane s.lanes i lane more lane_at in
    let seats : total by_seat (slice_set w.seats i no_line) + by_seat seat ≡ total by_seat w.seats + by_seat no_line = total_changed_at by_seat w.seats i seat no_line seat_at in
    let grown : by_lane more ≡ by_lane lane + f (ids_under key (sealed_ids a)) = ap f (ids_of-push lane.answers a key) ∙ adds.append (ids_of lane.answers key) (ids_under key (sealed_ids a)) in
    let drawn : by_seat seat ≡ f (ids_under key (sealed_ids a)) = ap (λ ds. f (ids_under key ds)) sealed in
    let none : by_seat no_line ≡ 0 = adds_none f adds in
    omega arith

-- Lane i's line is answered: what it sealed it drew.
pub counts_answered : (s : Session) (w : World) (i : ℕ) (lane : Lane) (seat : Seat) (a : Answer) (key : ℕ) → slice_get s.lanes i ≡ Some lane → slice_get w.seats i ≡ Some seat → draws_in seat.events ≡ sealed_ids a → Counts (record s { world = w }) key → Counts (answered s w i lane a) key
counts_answered s w i lane seat a key lane_at seat_at sealed counts =
    let more : Lane = record lane { answers = lane.answers ++ a ∷ [] } in
    let same : ids_drawn key more no_line ≡ ids_drawn key lane seat = append-nil (ids_of more.answers key) ∙ ids_of-push lane.answers a key ∙ ap (λ ds. ids_of lane.answers key ++ ids_under key ds) (sym sealed) in
    record {
      once = λ n. over_answered (times n) (times_adds n) s w i lane seat a key lane_at seat_at sealed ∙ counts.once n;
      count = ap (λ n. w.first + n) (over_answered length length_adds s w i lane seat a key lane_at seat_at sealed) ∙ counts.count;
      rise = λ j l x l_at x_at. elim (set_case w.seats i j no_line x x_at) [
        | inl here ↦ elim (set_case s.lanes i j more l l_at) [
          | inl own ↦
              let was : RiseBelow (next_of w key) (ids_drawn key lane seat) = counts.rise i lane seat lane_at seat_at in
              subst (RiseBelow (next_of w key)) (sym (rw (here.1, own.1) same)) was
          | inr other ↦ absurd (other.0 here.0)
        ]
        | inr there ↦ counts.rise j l x (sym (set_there s.lanes i j more there.0) ∙ l_at) there.1
      ];
    }
