-- A turn that a lane's line took is a turn of the definition, and a sound script stays sound: what the loop over
-- turns cites.
use Rattle.std.proofs.Common.{ℕ, ◌≡◌, ◌≢◌, ◌+◌, zero, suc, List, [], ◌∷◌, ◌++◌, length, refl, sym, ◌∙◌, ap, subst, inl, inr, arith, append-nil, append_assoc}
use Rattle.std.specs.Prelude.{Some, replicate, slice_get, slice_set}
use Rattle.std.proofs.lemmas.List.{replicate_more}
use Rattle.ov_base.specs.declared.address.Addr.{Addr}
use Rattle.ov_model.specs.declared.place.Place.{Place}
use Rattle.ov_model.specs.declared.answer.Answer.{Answer}
use Rattle.ov_model.specs.declared.line.Line.{Line}
use Rattle.ov_model.specs.declared.line.Script.{Script}
use Rattle.ov_model.specs.Events.{Event, Stepped, Judged, Drew, GaveKey, GavePeer, judgement_of, judgements_in}
use Rattle.ov_model.specs.Keys.{key_of}
use Rattle.ov_model.specs.Legal.{lane_lines}
use Rattle.ov_model.specs.Next.{Nil, Replay, request, stand_of, left_of, see, next_owing}
use Rattle.ov_model.specs.Replay.{judged}
use Rattle.ov_model.specs.Step.{step}
use Rattle.ov_path.specs.Desks.{NoHold, View, Grows, stepped_as}
use Rattle.ov_path.specs.Stages.{stand_at, left_at}
use Rattle.ov_path.specs.Walks.{Walking, holding_of, IsOwn, IsOpen, Trail, GoesOn as WalkGoesOn, Over as WalkOver}
use Rattle.ov_path.specs.declared.stage.Stage.{Stage}
use Rattle.ov_path.specs.declared.stage.Stage.TheVariants as stage
use Rattle.ov_path.proofs.Going.{walking_grows}
use Rattle.ov_path.proofs.Seeing.{seen}
use Rattle.ov_core.specs.Worlds.{World, Seat, seen_from, seat_stepped, judged_next, drawn_of, next_of, key_given, peer_given, ask_of, happened, Makes}
use Rattle.ov_core.specs.Sessions.{Session, Lane, UnderWay, place_of, IsOver, world_after, Goes, answered, Answers, Turn, goes, answers, Turns, in_order, GoesOn, RunsLine, RunsLines}
use Rattle.ov_core.specs.Sounds.{WorldSound, Sound, IsOf}
use Rattle.ov_core.proofs.Seats.{length-slice_set, same_some, set_here, set_there, set_case}
use Rattle.ov_core.proofs.Moving.{key_of_more}
use Rattle.ov_core.proofs.Linking.{happened_by}
use Rattle.ov_core.proofs.Ends.{IsBegun, hold_by, open_asks, asks_known, over_next, judged_first}
use Rattle.ov_core.proofs.Happening.{JudgesFirst, sound_event, sound_over}
use Rattle.ov_core.proofs.Turning.{in_world}

-- ---- the seat after an event

-- Lane i's seat after an event of it, and the event as the seat has it.
record NextSeat (w : World) (i : ℕ) (s : Seat) (event : Event) (v : World) : Type 0 where
  new : Seat
  made : Event
  seats : v.seats ≡ slice_set w.seats i new
  events : new.events ≡ s.events ++ made ∷ []
  hold : new.hold ≡ hold_by s.hold made
  asked : request made ≡ request event
  grows : Grows (key_of w.table.journal) (key_of v.table.journal)
  first : v.first ≡ w.first

same_keys : (w v : World) → v.table ≡ w.table → Grows (key_of w.table.journal) (key_of v.table.journal)
same_keys w v same key m known = rw same known

next_seat : (w : World) (i : ℕ) (s : Seat) (event : Event) (v : World) → Makes w i s event v → NextSeat w i s event v
unfolding judged
next_seat w i s (Stepped e) v makes = rw makes.1 (record {
  new = seat_stepped w.seats s e.entry.place e.entry.call (step w.table.now e.entry.call);
  made = stepped_as e.entry.place e.entry.call (step w.table.now e.entry.call).reply (step w.table.now e.entry.call).taken;
  seats = refl;
  events = refl;
  hold = refl;
  asked = refl;
  grows = key_of_more w.table.journal _;
  first = refl;
})
next_seat w i s (Judged j) v makes = rw makes (record {
  new = record s { events = s.events ++ Judged (judgement_of (judged_next w j.place j.key j.id j.at)) ∷ [] };
  made = Judged (judgement_of (judged_next w j.place j.key j.id j.at));
  seats = refl;
  events = refl;
  hold = refl;
  asked = refl;
  grows = λ key m known. known;
  first = refl;
})
next_seat w i s (Drew key d) v makes = rw makes.1 (record {
  new = record s { events = s.events ++ Drew key (drawn_of (next_of w key)) ∷ [] };
  made = Drew key (drawn_of (next_of w key));
  seats = refl;
  events = refl;
  hold = refl;
  asked = refl;
  grows = λ k m known. known;
  first = refl;
})
next_seat w i s (GaveKey key g) v makes = rw makes (record {
  new = _;
  made = GaveKey key (key_given w i s key);
  seats = refl;
  events = refl;
  hold = refl;
  asked = refl;
  grows = λ k m known. known;
  first = refl;
})
next_seat w i s (GavePeer peer g) v makes = rw makes (record {
  new = _;
  made = GavePeer peer (peer_given w i s peer);
  seats = refl;
  events = refl;
  hold = refl;
  asked = refl;
  grows = λ k m known. known;
  first = refl;
})

-- Lanes that had no turn keep their seats.
pub others_seats : (w : World) (i k : ℕ) (s : Seat) (event : Event) (v : World) → Makes w i s event v → k ≢ i → slice_get v.seats k ≡ slice_get w.seats k
others_seats w i k s event v makes other = let n = next_seat w i s event v makes in rw n.seats (set_there w.seats i k n.new other)

-- And their lines run as they did.
pub others_walk : {via : Addr → Addr} {place : Place} {line : Line} {at : Stage} (w : World) (i : ℕ) (s t : Seat) (event : Event) (v : World) → Makes w i s event v → Walking via place line (seen_from via w t) at → Walking via place line (seen_from via v t) at
others_walk w i s t event v makes walking = walking_grows (record { events = refl; hold = refl; owing = refl; grows = (next_seat w i s event v makes).grows }) walking

-- ---- what a line's turn did

-- A turn of lane i's line made an event: what the walk and the desk say of it.
pub record Took (via : Addr → Addr) (s : Session) (i : ℕ) (u : UnderWay s i) (at : Stage) (event : Event) (v : World) : Type 0 where
  pub walking : Walking via (place_of i u.lane) u.line (seen_from via s.world u.seat) at
  pub is_open : IsOpen at u.seat.owing
  pub makes : Makes s.world i u.seat event v
  pub asked : request event ≡ ask_of via v u.seat u.line
  pub own : IsOwn (place_of i u.lane) u.line.at event

-- A line that made an event isn't at its beginning any more.
begun_stage : (via : Addr → Addr) (place : Place) (line : Line) (t : Stage) (es : List Event) (e : Event) (w : View) → Trail via place line w t → w.events ≡ es ++ e ∷ [] → IsBegun t
begun_stage via place line stage.Fresh [] e w trail is = absurd (let x : ◌≡◌ {A = List Event} [] (e ∷ []) = sym trail.none ∙ is in cc)
begun_stage via place line stage.Fresh (y ∷ es) e w trail is = absurd (let x : ◌≡◌ {A = List Event} [] (y ∷ (es ++ e ∷ [])) = sym trail.none ∙ is in cc)
begun_stage via place line (stage.Replied a) es e w trail is = tt
begun_stage via place line (stage.Looked h p) es e w trail is = tt
begun_stage via place line (stage.Drew h d) es e w trail is = tt
begun_stage via place line (stage.Judged h packet) es e w trail is = tt
begun_stage via place line (stage.Used h x a) es e w trail is = tt
begun_stage via place line (stage.KeyGiven h x a) es e w trail is = tt
begun_stage via place line (stage.PeerGiven h x a) es e w trail is = tt
begun_stage via place line (stage.Ticking p q) es e w trail is = tt

-- A replay step is asked for where the line has none yet.
judges_first : (e : Event) (es : List Event) → ((key id : ℕ) → request e ≡ Replay key id → judgements_in es ≡ []) → JudgesFirst e es
judges_first (Judged j) es none = none j.key j.id refl
judges_first (Stepped x) es none = tt
judges_first (Drew key d) es none = tt
judges_first (GaveKey key g) es none = tt
judges_first (GavePeer peer g) es none = tt

module _ {via : Addr → Addr} {s : Session} {i : ℕ} {u : UnderWay s i} {at : Stage} {event : Event} {v : World} where
  -- The seat at which the lane is then.
  new_seat : (t : Seat) → (took : Took via s i u at event v) → slice_get v.seats i ≡ Some t → t ≡ (next_seat s.world i u.seat event v took.makes).new
  new_seat t took t_is =
      let n = next_seat s.world i u.seat event v took.makes in
      same_some (slice_get v.seats i) t n.new t_is (ap (λ (ss : List Seat). slice_get ss i) n.seats ∙ set_here s.world.seats i n.new u.seat u.seat_is)

  -- What it asked for, by what was known of the keys before.
  asked_before : Took via s i u at event v → request event ≡ ask_of via s.world u.seat u.line
  asked_before took =
      let n = next_seat s.world i u.seat event v took.makes in
      let known = asks_known via (place_of i u.lane) u.line (seen_from via s.world u.seat) at u.seat.owing (key_of v.table.journal) took.walking.trail n.grows in
      took.asked ∙ rw (took.walking.stand, took.walking.due) known

  took_world : Took via s i u at event v → v ≡ world_after via s i u
  took_world took = happened_by s.world i u.seat (place_of i u.lane) u.line event v (ask_of via s.world u.seat u.line) took.makes took.own (asked_before took)

  -- The line goes on.
  pub took_goes : (t : Seat) (later : Stage) → Took via s i u at event v → slice_get v.seats i ≡ Some t → WalkGoesOn via (place_of i u.lane) u.line (seen_from via v t) later → Goes via i s (in_world s v)
  took_goes t later took t_is on =
      let n = next_seat s.world i u.seat event v took.makes in
      let events : t.events ≡ u.seat.events ++ n.made ∷ [] = ap (λ (x : Seat). x.events) (new_seat t took t_is) ∙ n.events in
      let begun : IsBegun later = begun_stage via (place_of i u.lane) u.line later u.seat.events n.made (seen_from via v t) on.0.trail events in
      record {
        under = u;
        after_is = ap (in_world s) (took_world took);
        seat = t;
        seat_is = t_is;
        more = λ over. open_asks via (place_of i u.lane) u.line (seen_from via v t) later t.owing on.0.trail begun on.1 (subst (λ x. IsOver (next_owing via (key_of v.table.journal) u.line.deed (stand_at later) x t.owing)) on.0.due (subst (λ x. IsOver (next_owing via (key_of v.table.journal) u.line.deed x (left_of t.events) t.owing)) on.0.stand over));
      }

  -- The line is over after its event.
  pub took_answers : (t : Seat) (a : Answer) → Took via s i u at event v → slice_get v.seats i ≡ Some t → WalkOver via (place_of i u.lane) u.line (seen_from via v t) a → Answers via i s (answered s v i u.lane a)
  took_answers t a took t_is over =
      let n = next_seat s.world i u.seat event v took.makes in
      let is : t ≡ n.new = new_seat t took t_is in
      let asked : request n.made ≡ next_owing via (key_of s.world.table.journal) u.line.deed (stand_at at) (left_at at) u.seat.owing = n.asked ∙ asked_before took ∙ rw (took.walking.stand, took.walking.due) refl in
      let left : hold_by (holding_of at) n.made ≡ NoHold = rw (← took.walking.hold) (sym n.hold ∙ sym (ap (λ (x : Seat). x.hold) is) ∙ over.hold) in
      let stands : stand_of t.events ≡ see (stand_at at) n.made = ap (λ (x : Seat). stand_of x.events) is ∙ rw n.events (seen (stand_at at) u.seat.events n.made took.walking.stand) in
      record {
        under = u;
        between = v;
        between_is = took_world took;
        seat = t;
        seat_is = t_is;
        over = rw (over.owes, stands, over.left) (over_next via (place_of i u.lane) u.line (seen_from via s.world u.seat) at u.seat.owing n.made (key_of s.world.table.journal) (key_of v.table.journal) took.walking.trail took.is_open refl asked left);
        answer = a;
        path = over.path;
        drawn = over.drawn;
        after_is = refl;
      }

  -- What was sound stays so.
  pub took_sound : Sound via s → WorldSound v → Took via s i u at event v → Sound via (in_world s v)
  took_sound sound world took =
      sound_event via s i u.lane u.line.at event v sound u.lane_is (record { seat = u.seat; seat_is = u.seat_is; makes = took.makes }) took.own
      (judges_first event u.seat.events (λ key id is. judged_first via (place_of i u.lane) u.line (seen_from via s.world u.seat) at u.seat.owing (key_of s.world.table.journal) key id took.walking.trail (sym is ∙ asked_before took ∙ rw (took.walking.stand, took.walking.due) refl))) world

-- ---- answers

-- A line that is over is answered.
pub over_sound : {via : Addr → Addr} (s : Session) (i : ℕ) (u : UnderWay s i) (v : World) (t : Seat) (a : Answer) → Sound via (in_world s v) → slice_get v.seats i ≡ Some t → WalkOver via (place_of i u.lane) u.line (seen_from via v t) a → Sound via (answered s v i u.lane a)
over_sound {via} s i u v t a sound t_is over = sound_over via (in_world s v) i u.lane t u.line a sound u.lane_is t_is u.line_is over

-- A line that is answered without an event.
pub none_answers : {via : Addr → Addr} (s : Session) (i : ℕ) (u : UnderWay s i) (a : Answer) → ask_of via s.world u.seat u.line ≡ Nil → WalkOver via (place_of i u.lane) u.line (seen_from via s.world u.seat) a → Answers via i s (answered s s.world i u.lane a)
none_answers {via} s i u a none over = record {
  under = u;
  between = s.world;
  between_is = sym (ap (happened s.world i u.seat (place_of i u.lane) u.line) none);
  seat = u.seat;
  seat_is = u.seat_is;
  over = rw none tt;
  answer = a;
  path = over.path;
  drawn = over.drawn;
  after_is = refl;
}

-- ---- the script stays this one

pub is_answered : {script : Script} {first : ℕ} (s : Session) (w : World) (i : ℕ) (lane : Lane) (a : Answer) → slice_get s.lanes i ≡ Some lane → w.first ≡ s.world.first → IsOf script first s → IsOf script first (answered s w i lane a)
is_answered s w i lane a lane_is same of = record {
  first_is = same ∙ of.first_is;
  count = length-slice_set s.lanes i (record lane { answers = lane.answers ++ a ∷ [] }) ∙ of.count;
  lines = λ k other other_is. elim (set_case s.lanes i k (record lane { answers = lane.answers ++ a ∷ [] }) other other_is) [
    | inl here ↦ ap (λ (l : Lane). l.lines) here.1 ∙ of.lines i lane lane_is ∙ ap (lane_lines _) (sym here.0)
    | inr there ↦ of.lines k other there.1
  ];
}

-- ---- turns in a row

pub turns_append : (via : Addr → Addr) (s m t : Session) (is js : List ℕ) → Turns via s is m → Turns via m js t → Turns via s (is ++ js) t
turns_append via s m t [] js first second = subst (λ x. Turns via x js t) first second
turns_append via s m t (i ∷ is) js first second = (first.0, first.1, turns_append via first.0 m t is js first.2 second)

pub turns_more : (via : Addr → Addr) (s m t : Session) (is : List ℕ) (i : ℕ) → Turns via s is m → Turn via i m t → Turns via s (is ++ i ∷ []) t
turns_more via s m t is i first turn = turns_append via s m t is (i ∷ []) first (t, turn, refl)

pub runs_more : (via : Addr → Addr) (s m t : Session) (lines : List Line) (line : Line) → RunsLines via s lines m → RunsLine via line.lane m t → RunsLines via s (lines ++ line ∷ []) t
runs_more via s m t [] line first runs = subst (λ x. RunsLines via x (line ∷ []) t) first (t, runs, refl)
runs_more via s m t (l ∷ lines) line first runs = (first.0, first.1, runs_more via first.0 m t lines line first.2 runs)

-- So many turns of one lane that end no line, as turns.
pub goes_turns : (via : Addr → Addr) (i n : ℕ) (s t : Session) → GoesOn via i n s t → Turns via s (replicate n i) t
goes_turns via i zero s t on = on
goes_turns via i (suc n) s t on = subst (λ is. Turns via s is t) (replicate_more n i ∙ ap (λ k. replicate k i) (let same : n + 1 ≡ suc n = omega arith in same)) (turns_more via s on.0 t (replicate n i) i (goes_turns via i n s on.0 on.1) (goes on.2))

-- A line that ran to its end had that many turns and one.
pub line_turns : (via : Addr → Addr) (i : ℕ) (s t : Session) → (runs : RunsLine via i s t) → Turns via s (replicate (runs.count + 1) i) t
line_turns via i s t runs = subst (λ is. Turns via s is t) (replicate_more runs.count i) (turns_more via s runs.between t (replicate runs.count i) i (goes_turns via i runs.count s runs.between runs.goes) (answers runs.answers))

-- Turns of the lanes in number order, with those of one lane more.
pub in_order_more : (b : ℕ) (ns : List ℕ) (n : ℕ) → in_order b (ns ++ n ∷ []) ≡ in_order b ns ++ replicate n (b + length ns)
in_order_more b [] n = append-nil (replicate n b) ∙ ap (replicate n) (let same : b ≡ b + 0 = omega arith in same)
in_order_more b (m ∷ ns) n =
    let same : suc b + length ns ≡ b + suc (length ns) = omega arith in
    ap (λ is. replicate m b ++ is) (in_order_more (suc b) ns n ∙ ap (λ k. in_order (suc b) ns ++ replicate n k) same) ∙ sym (append_assoc (replicate m b) (in_order (suc b) ns) (replicate n (b + suc (length ns))))
