-- What each call of the desk leaves that makes no step of the table: a draw, a replay step, the give-backs.
use Rattle.std.proofs.Common.{ℕ, zero, suc, ◌≡◌, ◌+◌, ◌%◌, ◌≤◌, ◌<◌, inl, inr, List, [], ◌∷◌, ◌++◌, length, get_or, refl, sym, ◌∙◌, ap, subst, arith, Bool, true, false, ◌==◌, ◌||◌, if◌then◌else◌}
use Rattle.std.specs.Prelude.{map, not, Some, slice_get, slice_set, slice_index_or}
use Rattle.std.proofs.lemmas.Bool.{ne_eqb}
use Rattle.ov_model.specs.declared.place.Place.{Place}
use Rattle.ov_model.specs.declared.draw.Drawn.{Drawn}
use Rattle.ov_model.specs.declared.hold.Given.{Given}
use Rattle.ov_model.specs.declared.hold.Owed.{Owed}
use Rattle.ov_model.specs.declared.hold.Owed.TheVariants as owed
use Rattle.ov_model.specs.declared.replay.ReplayEntry.{ReplayEntry}
use Rattle.ov_model.specs.Events.{Judged, Drew, Judgement}
use Rattle.ov_model.specs.Next.{stand_of}
use Rattle.ov_model.specs.Replay.{judged}
use Rattle.ov_model.specs.Step.{is_there, is_retired}
use Rattle.ov_model.specs.Lanes.{judged_in}
use Rattle.ov_path.specs.Desks.{Holding, NoHold, Both, PeerLeft, HoldsKey, IsLooked, HopsStay, hold_left, owed_left, owed_if}
use Rattle.ov_replay.specs.History.{History}
use Rattle.ov_core.specs.Worlds.{World, Seat, Makes, after_draw, after_replay, after_key, after_peer, next_of, next_after, drawn_of, holds_key, holds_peer, key_holds, peer_holds, given_where, without_key, without_hold, key_given, peer_given}
use Rattle.ov_core.specs.Sounds.{WorldSound}
use Rattle.ov_past.specs.Pasts.{gave}
use Rattle.ov_core.specs.Seats.{Sitting, Seated, seen, world_of, seat_of, shown_of, histories, via_in, is_held, has_key, has_peer, owing_if, owing_list, empty_seat, may_owe, Kept, last_if, given_by, GivesBack, given_back, after_drawn, after_judged, after_gave}
use Rattle.ov_past.specs.Holds.{hold_without}
use Rattle.ov_core.proofs.Seats.{length-slice_set, set_case, set_own, read_own, map_set, set_set}
use Rattle.ov_core.proofs.Leaving.{EventDone, below, seen_at, own_spare, quiet_done, one_owed, owing_if_is}
use Rattle.ov_core.proofs.Keeping.{keeps_draw, draws_below, keeps_replay, keeps_key, keeps_peer}

-- ---- a draw

pub draw_done : (d : Seated) (key : ℕ) → Kept d → HoldsKey (shown_of d).hold key → IsLooked (stand_of (shown_of d).events) → EventDone d (Drew key (drawn_of (get_or d.next key d.first))) (after_drawn d key)
draw_done d key kept held looked =
    let r : Drawn = drawn_of (get_or d.next key d.first) in
    let s : Sitting = record (seat_of d) { events = (seat_of d).events ++ Drew key r ∷ [] } in
    let w : World = world_of d in
    let seat : Seat = seen (seat_of d) in
    let at : slice_get w.seats d.turn ≡ Some seat = seen_at d kept in
    let is : world_of (after_drawn d key) ≡ after_draw w d.turn seat key =
    ap (λ (x : List Seat). record w { next = slice_set d.next key (next_after (next_of w key)); seats = x }) (map_set seen d.seats d.turn s) in
    quiet_done d (after_drawn d key) (Drew key r) s kept refl refl refl refl kept.numbers
    (record { events = refl; hold = refl; owing = refl; spare = own_spare d kept })
    refl
    (draws_below w d.turn seat key kept.sound at held, is)
    (subst WorldSound (sym is) (keeps_draw w d.turn seat key kept.sound at held looked))

-- ---- a replay step

-- The replay step of a shard, as the line sees it.
abbrev pub judgement_at : History → Place → (key id at : ℕ) → Judgement
judgement_at shard place key id at = record { place = place; key = key; id = id; at = at; verdict = (judged shard.entries place key id at).verdict }

histories_at : (shards : List History) (k : ℕ) (shard : History) → slice_get shards k ≡ Some shard → get_or (histories shards) k [] ≡ shard.entries
histories_at [] k shard at = absurd (cc)
histories_at (x ∷ xs) zero shard at = (let e : x ≡ shard = cc in ap (λ (s : History). s.entries) e)
histories_at (x ∷ xs) (suc k) shard at = histories_at xs k shard at

histories_in : (shards : List History) (k : ℕ) (shard : History) (r : ReplayEntry) → slice_get shards k ≡ Some shard → histories (slice_set shards k (record shard { entries = shard.entries ++ r ∷ [] })) ≡ judged_in (histories shards) k r
histories_in [] k shard r at = absurd (cc)
histories_in (x ∷ xs) zero shard r at = (let e : x ≡ shard = cc in rw (← e) refl)
histories_in (x ∷ xs) (suc k) shard r at = rw (histories_in xs k shard r at) refl

pub replay_done : (d : Seated) (shard : History) (place : Place) (key id moment : ℕ) → Kept d → HoldsKey (shown_of d).hold key → IsLooked (stand_of (shown_of d).events) → slice_get d.shards (key % 8) ≡ Some shard → EventDone d (Judged (judgement_at shard place key id moment)) (after_judged d shard place key id moment)
unfolding judged
replay_done d shard place key id moment kept held looked shard_is =
    let j : Judgement = judgement_at shard place key id moment in
    let s : Sitting = record (seat_of d) { events = (seat_of d).events ++ Judged j ∷ [] } in
    let w : World = world_of d in
    let seat : Seat = seen (seat_of d) in
    let at : slice_get w.seats d.turn ≡ Some seat = seen_at d kept in
    let entry : ReplayEntry = judged shard.entries place key id moment in
    let shards_are : histories (slice_set d.shards (key % 8) (record shard { entries = shard.entries ++ entry ∷ [] })) ≡ judged_in w.shards (key % 8) entry = histories_in d.shards (key % 8) shard entry shard_is in
    let has_entries : get_or w.shards (key % 8) [] ≡ shard.entries = histories_at d.shards (key % 8) shard shard_is in
    let is : world_of (after_judged d shard place key id moment) ≡ after_replay w d.turn seat place key id moment =
    rw (has_entries)
    (ap (λ (x : List Seat). record w { shards = histories (slice_set d.shards (key % 8) (record shard { entries = shard.entries ++ entry ∷ [] })); seats = x }) (map_set seen d.seats d.turn s)
    ∙ ap (λ (x : List (List ReplayEntry)). record w { shards = x; seats = slice_set w.seats d.turn (record seat { events = seat.events ++ Judged j ∷ [] }) }) shards_are) in
    quiet_done d (after_judged d shard place key id moment) (Judged j) s kept refl refl refl refl
    (λ k h at_k. elim (set_case d.shards (key % 8) k (record shard { entries = shard.entries ++ entry ∷ [] }) h at_k) [
      | inl here ↦ rw (here.1, here.0) (kept.numbers (key % 8) shard shard_is)
      | inr there ↦ kept.numbers k h there.1
    ])
    (record { events = refl; hold = refl; owing = refl; spare = own_spare d kept })
    refl is
    (subst WorldSound (sym is) (keeps_replay w d.turn seat place key id moment kept.sound at looked))

-- ---- who holds

none_bit : (b c : Bool) (n : ℕ) → (n == 0) ≡ not c → ((if b then 1 else 0) + n == 0) ≡ not (b || c)
none_bit true c n is = ne_eqb (1 + n) 0 (λ e. absurd (omega (arith, e)))
none_bit false c n is = (let same : 0 + n ≡ n = omega arith in rw same is)

key_bit : (h : Holding) (k : ℕ) → holds_key k h ≡ (if has_key k h then 1 else 0)
key_bit NoHold k = refl
key_bit (Both h) k = refl
key_bit (PeerLeft h) k = refl

peer_bit : (h : Holding) (p : ℕ) → holds_peer p h ≡ (if has_peer p h then 1 else 0)
peer_bit NoHold p = refl
peer_bit (Both h) p = refl
peer_bit (PeerLeft h) p = refl

-- Nobody holds a key where none of the seats has it.
pub key_none : (k : ℕ) (seats : List Sitting) → (key_holds k (map seen seats) == 0) ≡ not (is_held seats (owed.Key k))
key_none k [] = refl
key_none k (x ∷ xs) = rw (key_bit x.hold k) (none_bit (has_key k x.hold) (is_held xs (owed.Key k)) (key_holds k (map seen xs)) (key_none k xs))

pub peer_none : (p : ℕ) (seats : List Sitting) → (peer_holds p (map seen seats) == 0) ≡ not (is_held seats (owed.Peer p))
peer_none p [] = refl
peer_none p (x ∷ xs) = rw (peer_bit x.hold p) (none_bit (has_peer p x.hold) (is_held xs (owed.Peer p)) (peer_holds p (map seen xs)) (peer_none p xs))

given_same : (b c : Bool) (n : ℕ) → (n == 0) ≡ not c → last_if b c ≡ given_where b n
given_same false true n is = refl
given_same false false n is = refl
given_same true true n is = rw is refl
given_same true false n is = rw is refl

-- ---- the give-backs

-- After a give-back there is less to come to be owed.
owe_less : (h : Holding) (o : Owed) → GivesBack h o → may_owe (hold_without o h) + 1 ≤ may_owe h
owe_less (Both h) (owed.Key k) names = omega arith
owe_less NoHold (owed.Key k) names = absurd names
owe_less (PeerLeft h) (owed.Key k) names = absurd names
owe_less (PeerLeft h) (owed.Peer p) names = omega arith
owe_less (Both h) (owed.Peer p) names = absurd names
owe_less NoHold (owed.Peer p) names = absurd names

-- The seat of the lane without what it gives back.
abbrev pub left_of : Seated → Owed → Sitting
left_of d o = record (seat_of d) { hold = hold_without o (seat_of d).hold }

-- Its seat after the give-back.
abbrev gave_seat : Seated → Owed → Given → Sitting
gave_seat d o g = owing_list (record (left_of d o) { events = (seat_of d).events ++ gave o g ∷ [] }) (owed_if g o)

gave_hold : (h : Holding) (o : Owed) (g : Given) → hold_without o h ≡ hold_left h (gave o g)
gave_hold h (owed.Key k) g = refl
gave_hold h (owed.Peer p) g = refl

gave_owing : (os : List Owed) (o : Owed) (g : Given) → os ++ owed_if g o ≡ owed_left os (gave o g)
gave_owing os (owed.Key k) g = refl
gave_owing os (owed.Peer p) g = refl

-- What a give-back makes of the world, and that it keeps it sound.
record Gives (d : Seated) (o : Owed) : Type 0 where
  makes : Makes (world_of d) d.turn (seen (seat_of d)) (gave o (given_back d o)) (world_of (after_gave d o))
  sound : WorldSound (world_of (after_gave d o))
  hops : HopsStay (gave o (given_back d o)) (via_in d) (via_in d)

gives : (d : Seated) (o : Owed) → Kept d → GivesBack (shown_of d).hold o → Gives d o
gives d (owed.Key key) kept held =
    let o : Owed = owed.Key key in
    let w : World = world_of d in
    let seat : Seat = seen (seat_of d) in
    let left : List Sitting = slice_set d.seats d.turn (left_of d o) in
    let nobody : (key_holds key (without_key w.seats d.turn seat) == 0) ≡ not (is_held left o) = subst (λ (x : List Seat). (key_holds key x == 0) ≡ not (is_held left o)) (map_set seen d.seats d.turn (left_of d o)) (key_none key left) in
    let g_is : given_back d o ≡ key_given w d.turn seat key = given_same (is_retired key d.table.now.retired) (is_held left o) (key_holds key (without_key w.seats d.turn seat)) nobody in
    let is : world_of (after_gave d o) ≡ after_key w d.turn seat key =
    ap (λ (x : List Seat). record w { seats = x }) (map_set seen d.seats d.turn (gave_seat d o (given_back d o))) ∙ ap (λ g. record w { seats = slice_set w.seats d.turn (seen (gave_seat d o g)) }) g_is in
    record { makes = is; sound = subst WorldSound (sym is) (keeps_key w d.turn seat key kept.sound (seen_at d kept) held); hops = refl }
gives d (owed.Peer peer) kept held =
    let o : Owed = owed.Peer peer in
    let w : World = world_of d in
    let seat : Seat = seen (seat_of d) in
    let left : List Sitting = slice_set d.seats d.turn (left_of d o) in
    let nobody : (peer_holds peer (without_hold w.seats d.turn seat) == 0) ≡ not (is_held left o) = subst (λ (x : List Seat). (peer_holds peer x == 0) ≡ not (is_held left o)) (map_set seen d.seats d.turn (left_of d o)) (peer_none peer left) in
    let g_is : given_back d o ≡ peer_given w d.turn seat peer = given_same (is_there peer d.table.now.dying) (is_held left o) (peer_holds peer (without_hold w.seats d.turn seat)) nobody in
    let is : world_of (after_gave d o) ≡ after_peer w d.turn seat peer =
    ap (λ (x : List Seat). record w { seats = x }) (map_set seen d.seats d.turn (gave_seat d o (given_back d o))) ∙ ap (λ g. record w { seats = slice_set w.seats d.turn (seen (gave_seat d o g)) }) g_is in
    record { makes = is; sound = subst WorldSound (sym is) (keeps_peer w d.turn seat peer kept.sound (seen_at d kept) held); hops = refl }

pub gave_done : (d : Seated) (o : Owed) → Kept d → GivesBack (shown_of d).hold o → EventDone d (gave o (given_back d o)) (after_gave d o)
gave_done d o kept held =
    let g : Given = given_back d o in
    let its : Gives d o = gives d o kept held in
    let less : may_owe (hold_without o (seat_of d).hold) + 1 ≤ may_owe (seat_of d).hold = owe_less (seat_of d).hold o held in
    let spare : may_owe (seat_of d).hold ≤ (seat_of d).spare = own_spare d kept in
    let one : length (owed_if g o) ≤ 1 = one_owed g o in
    quiet_done d (after_gave d o) (gave o g) (gave_seat d o g) kept refl refl refl refl kept.numbers
    (record { events = refl; hold = gave_hold (seat_of d).hold o g; owing = gave_owing (seat_of d).owing o g; spare = omega arith })
    its.hops its.makes its.sound

-- ---- at the calls

pub draw_index : {d d0 : Seated} (key : ℕ) → d ≡ d0 → Kept d → HoldsKey (shown_of d0).hold key → key < length d.next
draw_index {d} key same kept held = draws_below (world_of d) d.turn (seen (seat_of d)) key kept.sound (seen_at d kept) (subst (λ (x : Seated). HoldsKey (shown_of x).hold key) (sym same) held)

pub draw_read : (d : Seated) (key x : ℕ) → key < length d.next → x ≡ slice_index_or d.next key x → x ≡ get_or d.next key d.first
draw_read d key x within is = read_own d.next key x d.first within is

pub draw_most : (d : Seated) (key x : ℕ) → Kept d → key < length d.next → x ≡ slice_index_or d.next key x → x ≤ 4294967296
draw_most d key x kept within is = subst (λ n. n ≤ 4294967296) (sym (draw_read d key x within is)) (kept.sound.most key)

pub read_seat : (d : Seated) (x : Sitting) → Kept d → x ≡ slice_index_or d.seats d.turn x → x ≡ seat_of d
read_seat d x kept is = read_own d.seats d.turn x empty_seat (below d kept) is

pub read_left : (d : Seated) (left x : Sitting) → Kept d → x ≡ slice_index_or (slice_set d.seats d.turn left) d.turn x → x ≡ left
read_left d left x kept is =
    read_own (slice_set d.seats d.turn left) d.turn x empty_seat (let long = length-slice_set d.seats d.turn left in let under = below d kept in omega arith) is
    ∙ set_own d.seats d.turn left empty_seat (below d kept)

-- The seats before the two changes of a give-back and between them, as its calls are given them: x is the seat
-- of the lane, and y the one without what was given back.
pub record GaveAt (d : Seated) (o : Owed) (x left y : Sitting) : Type 0 where
  pub x_is : x ≡ slice_index_or d.seats d.turn x
  pub left_is : left ≡ record x { hold = hold_without o x.hold }
  pub y_is : y ≡ slice_index_or (slice_set d.seats d.turn left) d.turn y

left_at : (d : Seated) (o : Owed) (x left y : Sitting) → Kept d → GaveAt d o x left y → (left ≡ left_of d o) × (y ≡ left_of d o)
left_at d o x left y kept at =
    let its : left ≡ left_of d o = at.left_is ∙ ap (λ (s : Sitting). record s { hold = hold_without o s.hold }) (read_seat d x kept at.x_is) in
    (its, read_left d left y kept at.y_is ∙ its)

-- There is room for the release.
pub gave_spare : {d d0 : Seated} (o : Owed) (x left y : Sitting) → d ≡ d0 → Kept d → GivesBack (shown_of d0).hold o → GaveAt d o x left y → 0 < y.spare
gave_spare {d} o x left y same kept held at =
    let less : may_owe (hold_without o (seat_of d).hold) + 1 ≤ may_owe (seat_of d).hold = owe_less (seat_of d).hold o (subst (λ (z : Seated). GivesBack (shown_of z).hold o) (sym same) held) in
    let spare : may_owe (seat_of d).hold ≤ (seat_of d).spare = own_spare d kept in
    subst (λ (s : Sitting). 0 < s.spare) (sym (left_at d o x left y kept at).1) (omega arith)

-- What was answered, and the seats then.
pub gave_is : (d : Seated) (o : Owed) (x left y new : Sitting) (g : Given) (shown : List Sitting) → Kept d → GaveAt d o x left y → new ≡ owing_if (record y { events = y.events ++ gave o g ∷ [] }) g o → shown ≡ slice_set d.seats d.turn left → g ≡ given_by d.table.now shown o
    → (g ≡ given_back d o) × (slice_set (slice_set d.seats d.turn left) d.turn new ≡ (after_gave d o).seats)
gave_is d o x left y new g shown kept at new_is shown_is g_is =
    let its = left_at d o x left y kept at in
    let given : g ≡ given_back d o = g_is ∙ ap (λ ss. given_by d.table.now ss o) (shown_is ∙ ap (λ s. slice_set d.seats d.turn s) its.0) in
    let made : new ≡ gave_seat d o g = new_is ∙ owing_if_is (record y { events = y.events ++ gave o g ∷ [] }) g o ∙ ap (λ (s : Sitting). owing_list (record s { events = s.events ++ gave o g ∷ [] }) (owed_if g o)) its.1 in
    (given, set_set d.seats d.turn left new ∙ ap (λ s. slice_set d.seats d.turn s) (made ∙ ap (λ z. gave_seat d o z) given))
