-- Lines are dealt to their lanes, and lanes are put together and taken apart.
use Rattle.std.proofs.Common.{ℕ, zero, suc, ◌≡◌, ◌<◌, List, [], ◌∷◌, ◌++◌, length, refl, sym, ◌∙◌, ap, subst, arith, inl, inr, append-nil, if◌then◌else◌, slice_index_or, ◌==◌, ◌+◌, ◌≤◌, false, map, length-append}
use Rattle.std.specs.Prelude.{Some, None, get_or, slice_get, slice_set, take, drop, reverse}
use Rattle.std.specs.List.{AllByRecursion, range_with_len}
use Rattle.std.specs.Option.{option_to_list}
use Rattle.std.specs.declared.vec.Vec.{Vec}
use Rattle.std.specs.declared.alloc.Global.{Global}
use Rattle.std.proofs.lemmas.Bool.{cases_eq, eq-eqb, ne_eqb}
use Rattle.std.proofs.lemmas.List.{length-set, append_assoc, reverse-append, reverse-reverse, length-reverse, take_at}
use Rattle.std.proofs.lemmas.List.Elements.{filter-append, All-from_recursion, All-get_or}
use Rattle.std.proofs.lemmas.Option.{none-some, same_Some, slice_get_within, get_or_from_slice_get}
use Rattle.ov_base.specs.declared.address.Addr.{Addr}
use Rattle.ov_model.specs.declared.answer.Answer.{Answer}
use Rattle.ov_model.specs.declared.line.Line.{Line}
use Rattle.ov_model.specs.declared.replay.ReplayEntry.{ReplayEntry}
use Rattle.ov_model.specs.Legal.{lane_lines, LinesRise}
use Rattle.ov_model.specs.Limits.{shard_count}
use Rattle.ov_model.specs.Own.{LaneStands}
use Rattle.ov_model.specs.Sizes.{Fits}
use Rattle.ov_model.specs.Via.{via_of}
use Rattle.ov_model.proofs.Lanes.{all_weaker, shown_in_none}
use Rattle.ov_model.proofs.Parts.{filter_all}
use Rattle.ov_replay.specs.Desk.{part_at}
use Rattle.ov_share.specs.Keepings.{replays_of}
use Rattle.ov_share.specs.Passings.{Passing}
use Rattle.ov_lane.specs.Passes.{Shared, IsFresh, AreFreshFrom, AreFresh, AreAllPasses}
use Rattle.ov_lanes.specs.Dealt.{AreDealt, IsRoom, HaveRoom, AreSeated, Takes, Seats, new_lane, lanes_of}
use Rattle.ov_lanes.specs.Jobs.{Lane, IsReady, Stands, RanOut, AllRanOut, passes_of}
use Rattle.ov_lanes.proofs.Keeping.{all_from}
use Rattle.ov_lanes.proofs.Running.{head_begins, none_run}

-- What each lane ran, by its place, is what all ran.
pub all_ran : (old new : List Lane) → length new ≡ length old → ((i : ℕ) (d : Lane) → i < length old → RanOut (slice_index_or old i d) (slice_index_or new i d)) → AllRanOut old new
all_ran old new count each = record {
  count = count;
  each = λ i a b at bt. subst (λ x. RanOut x b) (get_or_from_slice_get old i a a at) (subst (λ y. RanOut (slice_index_or old i a) y) (get_or_from_slice_get new i b a bt) (each i a (slice_get_within old i a at)));
}

-- A lane ran out between two moments, by the equal ones of a call.
pub ran_between : (a b was is : Lane) → was ≡ a → is ≡ b → RanOut was is → RanOut a b
ran_between a b was is before after ran = subst (λ x. RanOut x b) before (subst (λ y. RanOut was y) after ran)

-- ---- lines dealt

set_same : {X : Type 0} (xs : List X) (k : ℕ) (x y : X) → slice_get (slice_set xs k x) k ≡ Some y → x ≡ y
set_same [] k x y at = absurd (let e : ◌≡◌ None (Some y) = at in cc)
set_same (z ∷ xs) zero x y at = let e : Some x ≡ Some y = at in cc
set_same (z ∷ xs) (suc k) x y at = set_same xs k x y at

set_other : {X : Type 0} (xs : List X) (k j : ℕ) (x : X) → (j ≡ k → ⊥) → slice_get (slice_set xs k x) j ≡ slice_get xs j
set_other [] k j x other = refl
set_other (z ∷ xs) zero zero x other = absurd (other refl)
set_other (z ∷ xs) zero (suc j) x other = refl
set_other (z ∷ xs) (suc k) zero x other = refl
set_other (z ∷ xs) (suc k) (suc j) x other = set_other xs k j x (λ same. other (ap suc same))

lines_same : (lines : List Line) (line : Line) (i : ℕ) → line.lane ≡ i → lane_lines (lines ++ line ∷ []) i ≡ lane_lines lines i ++ line ∷ []
lines_same lines line i same = filter-append (λ (l : Line). l.lane == i) lines (line ∷ []) ∙ ap (λ l. lane_lines lines i ++ l) (let first : ◌≡◌ {A = List Line} (if line.lane == i then line ∷ [] else []) (line ∷ []) = rw (eq-eqb line.lane i same) refl in first)

lines_other : (lines : List Line) (line : Line) (i : ℕ) → (line.lane ≡ i → ⊥) → lane_lines (lines ++ line ∷ []) i ≡ lane_lines lines i
lines_other lines line i other = filter-append (λ (l : Line). l.lane == i) lines (line ∷ []) ∙ ap (λ l. lane_lines lines i ++ l) (let first : ◌≡◌ {A = List Line} (if line.lane == i then line ∷ [] else []) [] = rw (ne_eqb line.lane i other) refl in first) ∙ append-nil (lane_lines lines i)

-- One line more goes to its lane.
pub dealt_line : (lines : List Line) (line : Line) (count : ℕ) (dealt : List (Vec Line Global)) (was is : Vec Line Global) → AreDealt lines count dealt → slice_get dealt line.lane ≡ Some was → is.items ≡ was.items ++ line ∷ [] → AreDealt (lines ++ line ∷ []) count (slice_set dealt line.lane is)
dealt_line lines line count dealt was is had at more = record {
  counted = length-set dealt line.lane is ∙ had.counted;
  each = λ i own there. elim (cases_eq i line.lane) [
    | inl same ↦
        let there' : slice_get (slice_set dealt line.lane is) line.lane ≡ Some own = subst (λ k. slice_get (slice_set dealt line.lane is) k ≡ Some own) same there in
        let new : is ≡ own = set_same dealt line.lane is own there' in
        ap (λ (v : Vec Line Global). v.items) (sym new) ∙ more ∙ ap (λ l. l ++ line ∷ []) (had.each line.lane was at) ∙ ap (λ k. lane_lines lines k ++ line ∷ []) (sym same) ∙ sym (lines_same lines line i (sym same))
    | inr other ↦ had.each i own (sym (set_other dealt line.lane i is other) ∙ there) ∙ sym (lines_other lines line i (λ same. other (sym same)))
  ];
}

-- What holds of all lines holds of the one at a place.
pub line_now : (P : Line → Type 0) (lines : List Line) (k : ℕ) (line : Line) → AllByRecursion P lines → (k < length lines) × (line ≡ get_or lines k line) → P line
line_now P lines k line all at = subst P (sym at.1) (All-get_or P lines k line at.0 (All-from_recursion P lines all))

-- ---- lanes put together, the last one first

module _ {X : Type 0} where
  -- One more is taken from the end.
  one_taken : (count : ℕ) (old mid new out : List X) (x : X) → mid ≡ new ++ option_to_list (Some x) → Takes count old mid out → Takes (count + 1) old new (x ∷ out)
  one_taken count old mid new out x one takes =
      let counted = takes.counted in
      record { whole = takes.whole ∙ ap (λ l. l ++ out) one ∙ append_assoc new (x ∷ []) out; counted = omega arith }

  -- Which is the last of those that were left.
  last_left : (old new out : List X) (x : X) → old ≡ new ++ x ∷ out → slice_get old (length new) ≡ Some x
  last_left old new out x whole = ap (λ l. slice_get l (length new)) whole ∙ here new
    where
      here : (xs : List X) → slice_get (xs ++ x ∷ out) (length xs) ≡ Some x
      here [] = refl
      here (y ∷ xs) = here xs

  -- How many are left.
  many_left : (count : ℕ) (old new out : List X) → Takes count old new out → length old ≡ length new + count
  many_left count old new out takes =
      let all : length old ≡ length new + length out = ap length takes.whole ∙ length-append new out in
      let counted = takes.counted in
      omega arith

  -- All are taken.
  all_taken : (count : ℕ) (old new out : List X) → count ≡ length old → Takes count old new out → old ≡ out
  all_taken count old [] out all takes = takes.whole
  all_taken count old (x ∷ new) out all takes =
      let left = many_left count old (x ∷ new) out takes in
      absurd (omega arith)

-- Before the first.
pub none_seated : (o : Shared) (passes : List Passing) (dealt : List (Vec Line Global)) (rooms : List (Vec Answer Global)) (lanes : List Lane) → lanes ≡ [] → Seats o 0 passes passes dealt dealt rooms rooms lanes
none_seated o passes dealt rooms lanes none = record {
  some_passes = [];
  some_dealt = [];
  some_rooms = [];
  passes_left = record { whole = sym (append-nil passes); counted = refl };
  dealt_left = record { whole = sym (append-nil dealt); counted = refl };
  rooms_left = record { whole = sym (append-nil rooms); counted = refl };
  are = none;
  ready = tt;
}

fresh_one : (o : Shared) (b : ℕ) (xs ys : List Passing) (p : Passing) → AreFreshFrom o b (xs ++ p ∷ ys) → IsFresh o (b + length xs) p
fresh_one o b [] ys p fresh = let same : b ≡ b + 0 = omega arith in subst (λ n. IsFresh o n p) same fresh.0
fresh_one o b (x ∷ xs) ys p fresh = let same : suc b + length xs ≡ b + suc (length xs) = omega arith in subst (λ n. IsFresh o n p) same (fresh_one o (suc b) xs ys p fresh.1)

lanes_counted : (o : Shared) (passes : List Passing) (dealt : List (Vec Line Global)) → length passes ≡ length dealt → length (lanes_of o passes dealt) ≡ length dealt
lanes_counted o [] dealt count = count
lanes_counted o (p ∷ passes) [] count = refl
lanes_counted o (p ∷ passes) (own ∷ dealt) count = ap suc (lanes_counted o passes dealt (omega arith))

pub many_seated : (o : Shared) (count : ℕ) (passes passes' : List Passing) (dealt dealt' : List (Vec Line Global)) (rooms rooms' : List (Vec Answer Global)) (lanes : List Lane) → Seats o count passes passes' dealt dealt' rooms rooms' lanes → length lanes ≡ count
many_seated o count passes passes' dealt dealt' rooms rooms' lanes seats =
    ap length seats.are ∙ length-reverse (lanes_of o seats.some_passes seats.some_dealt) ∙ lanes_counted o seats.some_passes seats.some_dealt (seats.passes_left.counted ∙ sym seats.dealt_left.counted) ∙ seats.dealt_left.counted

-- What the next lane is made of.
pub record IsNextSeat (o : Shared) (p : Passing) (own : Vec Line Global) (answers : Vec Answer Global) : Type 0 where
  pub number : ℕ
  pub fresh : IsFresh o number p
  pub room : IsRoom own answers
  pub fits : AllByRecursion (λ line. Fits line.deed) own.items

pub next_seat : (o : Shared) (lines : List Line) (count : ℕ) (passes passes' passes'' : List Passing) (dealt dealt' dealt'' : List (Vec Line Global)) (rooms rooms' rooms'' : List (Vec Answer Global)) (lanes : List Lane) (p : Passing) (own : Vec Line Global) (answers : Vec Answer Global)
    → AreFresh o (length dealt) passes → AreDealt lines (length dealt) dealt → HaveRoom dealt rooms → AllByRecursion (λ line. Fits line.deed) lines → Seats o count passes passes' dealt dealt' rooms rooms' lanes
    → passes' ≡ passes'' ++ option_to_list (Some p) → dealt' ≡ dealt'' ++ option_to_list (Some own) → rooms' ≡ rooms'' ++ option_to_list (Some answers) → IsNextSeat o p own answers
next_seat o lines count passes passes' passes'' dealt dealt' dealt'' rooms rooms' rooms'' lanes p own answers fresh are room fits seats pass_is own_is answers_is =
    let passes_out = one_taken count passes passes' passes'' seats.some_passes p pass_is seats.passes_left in
    let dealt_out = one_taken count dealt dealt' dealt'' seats.some_dealt own own_is seats.dealt_left in
    let rooms_out = one_taken count rooms rooms' rooms'' seats.some_rooms answers answers_is seats.rooms_left in
    let own_at : slice_get dealt (length dealt'') ≡ Some own = last_left dealt dealt'' seats.some_dealt own dealt_out.whole in
    let answers_at : slice_get rooms (length rooms'') ≡ Some answers = last_left rooms rooms'' seats.some_rooms answers rooms_out.whole in
    let dealt_many : length dealt ≡ length dealt'' + (count + 1) = many_left (count + 1) dealt dealt'' (own ∷ seats.some_dealt) dealt_out in
    let rooms_many : length rooms ≡ length rooms'' + (count + 1) = many_left (count + 1) rooms rooms'' (answers ∷ seats.some_rooms) rooms_out in
    let counted : length rooms ≡ length dealt = room.counted in
    let same : length rooms'' ≡ length dealt'' = omega arith in
    record {
      number = 0 + length passes'';
      fresh = fresh_one o 0 passes'' seats.some_passes p (subst (AreFreshFrom o 0) passes_out.whole fresh.each);
      room = room.each (length dealt'') own answers own_at (subst (λ i. slice_get rooms i ≡ Some answers) same answers_at);
      fits = subst (AllByRecursion (λ (line : Line). Fits line.deed)) (sym (are.each (length dealt'') own own_at)) (filter_all (λ (line : Line). Fits line.deed) (λ line. line.lane == length dealt'') lines fits);
    }

-- One lane more.
pub one_seated : (o : Shared) (count : ℕ) (passes passes' passes'' : List Passing) (dealt dealt' dealt'' : List (Vec Line Global)) (rooms rooms' rooms'' : List (Vec Answer Global)) (lanes lanes' : List Lane) (lane : Lane) (p : Passing) (own : Vec Line Global) (answers : Vec Answer Global)
    → Seats o count passes passes' dealt dealt' rooms rooms' lanes → passes' ≡ passes'' ++ option_to_list (Some p) → dealt' ≡ dealt'' ++ option_to_list (Some own) → rooms' ≡ rooms'' ++ option_to_list (Some answers)
    → lane ≡ new_lane o p own → IsReady lane → lanes' ≡ lanes ++ lane ∷ [] → Seats o (count + 1) passes passes'' dealt dealt'' rooms rooms'' lanes'
one_seated o count passes passes' passes'' dealt dealt' dealt'' rooms rooms' rooms'' lanes lanes' lane p own answers seats pass_is own_is answers_is new ready more = record {
  some_passes = p ∷ seats.some_passes;
  some_dealt = own ∷ seats.some_dealt;
  some_rooms = answers ∷ seats.some_rooms;
  passes_left = one_taken count passes passes' passes'' seats.some_passes p pass_is seats.passes_left;
  dealt_left = one_taken count dealt dealt' dealt'' seats.some_dealt own own_is seats.dealt_left;
  rooms_left = one_taken count rooms rooms' rooms'' seats.some_rooms answers answers_is seats.rooms_left;
  are = more ∙ ap (λ l. l ++ lane ∷ []) seats.are ∙ ap (λ l. reverse (lanes_of o seats.some_passes seats.some_dealt) ++ l ∷ []) new ∙ sym (reverse-append (new_lane o p own ∷ []) (lanes_of o seats.some_passes seats.some_dealt));
  ready = (subst IsReady new ready, seats.ready);
}

-- ---- lanes before their first lines

-- A lane that has made nothing stands before its first line.
none_stands : (via : Addr → Addr) (lane : ℕ) (shards : List (List ReplayEntry)) (lines : List Line) → AllByRecursion (λ shard. shard ≡ []) shards → LaneStands via lane [] [] shards lines [] [] []
none_stands via lane shards lines none = record {
  rise = tt;
  below = tt;
  placed = tt;
  runs = record {
    within = tt;
    judged_within = all_weaker (λ shard. shard ≡ []) (AllByRecursion (λ (r : ReplayEntry). r.place.lane ≡ lane → r.place.line ≤ 0)) (λ shard is. rw is tt) shards none;
    falls = tt;
    each = λ i below. absurd (omega arith);
    under_way = refl;
    judging = shown_in_none lane 0 shards (all_weaker (λ shard. shard ≡ []) (AllByRecursion (λ (r : ReplayEntry). r.place.lane ≡ lane → r.place.line ≡ 0 → ⊥)) (λ shard is. rw is tt) shards none);
  };
}

all_in_range : {X : Type 0} (P : X → Type 0) (f : ℕ → X) (b n : ℕ) → ((i : ℕ) → i < b + n → P (f i)) → AllByRecursion P (map f (range_with_len b n))
all_in_range P f b zero each = tt
all_in_range P f b (suc n) each = (each b (omega arith), all_in_range P f (b + 1) n (λ i below. each i (omega arith)))

new_stands : (o : Shared) (number : ℕ) (p : Passing) (own : Vec Line Global) → IsFresh o number p → Stands (new_lane o p own)
new_stands o number p own fresh =
    let via : Addr → Addr = via_of o.routes in
    let seen : p.share.sight.seen ≡ [] = fresh.nothing.seen in
    let made : p.share.sight.own ≡ [] = fresh.nothing.own in
    let shards : List (List ReplayEntry) = replays_of p.share in
    let none : AllByRecursion (λ (shard : List ReplayEntry). shard ≡ []) shards = all_in_range (λ (shard : List ReplayEntry). shard ≡ []) (λ i. map (λ e. e.1) (part_at p.share.parts i).own) 0 shard_count (λ i below. ap (λ (es : List (ℕ × ReplayEntry)). map (λ e. e.1) es) (fresh.nothing.parts_own i below)) in
    record {
      stands = subst (λ s. LaneStands via p.number s p.share.sight.own shards own.items [] [] []) (sym seen) (subst (λ es. LaneStands via p.number [] es shards own.items [] [] []) (sym made) (none_stands via p.number shards own.items none));
      replays = all_weaker (λ (shard : List ReplayEntry). shard ≡ []) (LinesRise p.number) (λ shard is. rw is tt) shards none;
      judged_placed = all_weaker (λ (shard : List ReplayEntry). shard ≡ []) (AllByRecursion (λ (r : ReplayEntry). r.place.lane ≡ p.number)) (λ shard is. rw is tt) shards none;
      drawn = fresh.nothing.drawn;
      rises = λ key i j d below least. absurd (omega arith);
      spent = rw made tt;
    }

-- Of what a lane at a place is.
record SeatAt (o : Shared) (number i : ℕ) (dealt : List (Vec Line Global)) (lane : Lane) : Type 0 where
  pass : Passing
  own : Vec Line Global
  fresh : IsFresh o number pass
  own_at : slice_get dealt i ≡ Some own
  is : lane ≡ new_lane o pass own

seat_at : (o : Shared) (b : ℕ) (passes : List Passing) (dealt : List (Vec Line Global)) (i : ℕ) (lane : Lane) → AreFreshFrom o b passes → slice_get (lanes_of o passes dealt) i ≡ Some lane → SeatAt o (b + i) i dealt lane
seat_at o b [] dealt i lane fresh at = absurd (none-some lane at)
seat_at o b (p ∷ passes) [] i lane fresh at = absurd (none-some lane at)
seat_at o b (p ∷ passes) (own ∷ dealt) zero lane fresh at =
    let same : b ≡ b + 0 = omega arith in
    record { pass = p; own = own; fresh = subst (λ n. IsFresh o n p) same fresh.0; own_at = refl; is = sym (same_Some (new_lane o p own) lane at) }
seat_at o b (p ∷ passes) (own ∷ dealt) (suc i) lane fresh at =
    let same : suc b + i ≡ b + suc i = omega arith in
    let later = seat_at o (suc b) passes dealt i lane fresh.1 at in
    record { pass = later.pass; own = later.own; fresh = subst (λ n. IsFresh o n later.pass) same later.fresh; own_at = later.own_at; is = later.is }

passes_seated : (o : Shared) (passes : List Passing) (dealt : List (Vec Line Global)) → length passes ≡ length dealt → passes_of (lanes_of o passes dealt) ≡ passes
passes_seated o [] dealt count = refl
passes_seated o (p ∷ passes) [] count = absurd (omega arith)
passes_seated o (p ∷ passes) (own ∷ dealt) count = ap (λ ps. p ∷ ps) (passes_seated o passes dealt (omega arith))

all_fresh : (o : Shared) (b : ℕ) (passes : List Passing) (i : ℕ) (p : Passing) → AreFreshFrom o b passes → slice_get passes i ≡ Some p → IsFresh o (b + i) p
all_fresh o b [] i p fresh at = absurd (none-some p at)
all_fresh o b (q ∷ passes) zero p fresh at = let same : b ≡ b + 0 = omega arith in subst (IsFresh o (b + 0)) (same_Some q p at) (subst (λ n. IsFresh o n q) same fresh.0)
all_fresh o b (q ∷ passes) (suc i) p fresh at = let same : suc b + i ≡ b + suc i = omega arith in subst (λ n. IsFresh o n p) same (all_fresh o (suc b) passes i p fresh.1 at)

-- The lanes of all passes, each with its lines, are at their table.
lanes_seated : (o : Shared) (lines : List Line) (passes : List Passing) (dealt : List (Vec Line Global)) → AreFresh o (length dealt) passes → AreAllPasses o passes → AreDealt lines (length dealt) dealt → AllByRecursion IsReady (lanes_of o passes dealt) → AreSeated o lines (length dealt) (lanes_of o passes dealt)
lanes_seated o lines passes dealt fresh all are ready =
    let lanes : List Lane = lanes_of o passes dealt in
    let from_none : (i : ℕ) → 0 + i ≡ i = λ i. omega arith in
    let seat : (i : ℕ) (lane : Lane) → slice_get lanes i ≡ Some lane → SeatAt o i i dealt lane = λ i lane at. subst (λ n. SeatAt o n i dealt lane) (from_none i) (seat_at o 0 passes dealt i lane fresh.each at) in
    let new : (i : ℕ) (p : Passing) → slice_get passes i ≡ Some p → IsFresh o i p = λ i p at. subst (λ n. IsFresh o n p) (from_none i) (all_fresh o 0 passes i p fresh.each at) in
    let same : passes ≡ passes_of lanes = sym (passes_seated o passes dealt fresh.counted) in
    record {
      head = record {
        work = record {
          all = subst (AreAllPasses o) same all;
          numbers = λ i lane at. let s = seat i lane at in (ap (λ (l : Lane). l.pass.number) s.is ∙ s.fresh.number_is, ap (λ (l : Lane). l.lines) s.is ∙ are.each i s.own s.own_at);
          ready = ready;
          tables = all_from (λ (lane : Lane). lane.table ≡ o) lanes (λ i lane at. ap (λ (l : Lane). l.table) (seat i lane at).is);
          stands = all_from (λ (lane : Lane). lane.stopped ≡ false → Stands lane) lanes (λ i lane at on. let s = seat i lane at in subst Stands (sym s.is) (new_stands o i s.pass s.own s.fresh));
        };
        on = all_from (λ (lane : Lane). lane.stopped ≡ false) lanes (λ i lane at. ap (λ (l : Lane). l.stopped) (seat i lane at).is);
        low = 0;
        runs = head_begins lines 0 (passes_of lanes) (none_run lines (passes_of lanes) (λ i p at. let its = new i p (ap (λ ps. slice_get ps i) same ∙ at) in (its.number_is, its.lines)))
            (subst (AllByRecursion (λ (p : Passing). p.share.sight.own ≡ [])) same (all_from (λ (p : Passing). p.share.sight.own ≡ []) passes (λ i p at. (new i p at).nothing.own)));
        saw = λ lane at. omega arith;
      };
      counted = lanes_counted o passes dealt fresh.counted;
    }

-- The lanes are all put together, and in their order again.
pub all_seated : (o : Shared) (lines : List Line) (count len : ℕ) (passes passes' : List Passing) (dealt dealt' : List (Vec Line Global)) (rooms rooms' : List (Vec Answer Global)) (lanes sliced turned : List Lane) → AreFresh o (length dealt) passes → AreAllPasses o passes → AreDealt lines (length dealt) dealt
    → Seats o count passes passes' dealt dealt' rooms rooms' lanes → count ≡ length dealt → sliced ≡ lanes → turned ≡ reverse sliced → length turned ≡ len → AreSeated o lines (length dealt) (take len (turned ++ drop (length turned) lanes))
all_seated o lines count len passes passes' dealt dealt' rooms rooms' lanes sliced turned fresh all are seats counted sliced_is turned_is long =
    let passes_all : passes ≡ seats.some_passes = all_taken count passes passes' seats.some_passes (counted ∙ sym fresh.counted) seats.passes_left in
    let dealt_all : dealt ≡ seats.some_dealt = all_taken count dealt dealt' seats.some_dealt counted seats.dealt_left in
    let made : lanes_of o seats.some_passes seats.some_dealt ≡ lanes_of o passes dealt = ap (λ ps. lanes_of o ps seats.some_dealt) (sym passes_all) ∙ ap (λ ds. lanes_of o passes ds) (sym dealt_all) in
    let is : turned ≡ lanes_of o passes dealt = turned_is ∙ ap (λ l. reverse l) (sliced_is ∙ seats.are) ∙ reverse-reverse (lanes_of o seats.some_passes seats.some_dealt) ∙ made in
    let whole : take len (turned ++ drop (length turned) lanes) ≡ lanes_of o passes dealt = take_at turned (drop (length turned) lanes) len long ∙ is in
    subst (AreSeated o lines (length dealt)) (sym whole) (lanes_seated o lines passes dealt fresh all are (subst (AllByRecursion IsReady) made seats.ready))
