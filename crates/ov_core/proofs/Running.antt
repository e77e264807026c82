-- Each lane's line stands ready while the lanes take their turns, from the beginning to the end.
use Rattle.std.proofs.Common.{ap, ℕ, ◌≡◌, ◌≢◌, ◌<◌, ◌≤◌, zero, suc, List, [], ◌∷◌, ◌++◌, length, refl, sym, ◌∙◌, subst, arith, inl, inr}
use Rattle.std.specs.Prelude.{replicate, Some, slice_get, slice_set}
use Rattle.std.specs.List.{AllByRecursion}
use Rattle.std.proofs.lemmas.Bool.{cases_lt}
use Rattle.std.proofs.lemmas.Option.{slice_get_within}
use Rattle.ov_base.specs.declared.address.Addr.{Addr}
use Rattle.ov_model.specs.declared.answer.Answer.{Answer}
use Rattle.ov_model.specs.declared.line.Script.{Script}
use Rattle.ov_model.specs.Events.{Event}
use Rattle.ov_model.specs.Keys.{key_of}
use Rattle.ov_model.specs.Legal.{Legal}
use Rattle.ov_model.specs.declared.place.Place.{Place}
use Rattle.ov_model.specs.declared.line.Line.{Line}
use Rattle.ov_model.specs.Next.{Ask, Table, Replay, Draw, GiveKey, GivePeer, Nil, Over as NoAsk}
use Rattle.ov_model.specs.Via.{via_of}
use Rattle.ov_path.specs.Desks.{Grows}
use Rattle.ov_path.specs.Walks.{GoesOn, Over}
use Rattle.ov_path.specs.declared.stage.Stage.{Stage}
use Rattle.ov_path.specs.declared.stage.Stage.TheVariants as stage
use Rattle.ov_path.proofs.Going.{walking_grows}
use Rattle.ov_core.specs.Worlds.{World, Seat, no_line, lane_count, seen_from, ask_of, happened, Makes}
use Rattle.ov_core.specs.Sessions.{Lane, Session, place_of, UnderWay, Goes, Answers, answered, Turn, goes, answers, passes, Turns, begun, IsDone, report_of}
use Rattle.ov_core.specs.Sounds.{WorldSound, Sound, IsOf}
use Rattle.ov_core.specs.Ready.{LaneReady, Running}
use Rattle.ov_core.proofs.Seats.{length-slice_set, same_some, set_case, set_here, set_there}
use Rattle.ov_core.proofs.Beginning.{get_replicate, sound_begun, is_begun}
use Rattle.ov_core.proofs.Reporting.{done_legal}
use Rattle.ov_core.proofs.Turning.{in_world}
use Rattle.ov_core.proofs.Taking.{Took, others_seats, others_walk, is_answered, took_goes, took_answers, took_sound, over_sound, none_answers}

-- ---- the lanes that have no turn

-- A lane whose own is as it was stands ready in a world that knows of its keys what was known.
ready_same : (via : Addr → Addr) (w v : World) (i : ℕ) (lane : Lane) (seat : Seat) (at : Stage) → Grows (key_of w.table.journal) (key_of v.table.journal) → LaneReady via w i lane seat at → LaneReady via v i lane seat at
ready_same via w v i lane seat at grows ready = record {
  goes = λ line line_is. let was = ready.goes line line_is in (walking_grows (record { events = refl; hold = refl; owing = refl; grows = grows }) was.0, was.1);
  rests = ready.rests;
}

-- All lanes but one stand ready.
record OthersReady (via : Addr → Addr) (s : Session) (stages : List Stage) (i : ℕ) : Type 0 where
  each : (k : ℕ) (lane : Lane) (seat : Seat) (at : Stage) → k ≢ i → slice_get s.lanes k ≡ Some lane → slice_get s.world.seats k ≡ Some seat → slice_get stages k ≡ Some at → LaneReady via s.world k lane seat at

others_ready : (via : Addr → Addr) (s : Session) (stages : List Stage) (i : ℕ) (seat : Seat) (event : Event) (v : World) → Makes s.world i seat event v → Running via s stages → OthersReady via (in_world s v) stages i
others_ready via s stages i seat event v makes running = record {
  each = λ k lane u at differs lane_is u_is at_is.
      let was : LaneReady via s.world k lane u at = running.ready k lane u at lane_is (sym (others_seats s.world i k seat event v makes differs) ∙ u_is) at_is in
      record {
        goes = λ line line_is. let stood = was.goes line line_is in (others_walk s.world i seat u event v makes stood.0, stood.1);
        rests = was.rests;
      };
}

-- ---- a turn

-- Lane i's line goes on.
goes_ready : (via : Addr → Addr) (s : Session) (stages : List Stage) (i : ℕ) (u : UnderWay s i) (now : Stage) (v : World) (new : Seat) → length stages ≡ length s.lanes → Sound via (in_world s v) → OthersReady via (in_world s v) stages i → slice_get v.seats i ≡ Some new → GoesOn via (place_of i u.lane) u.line (seen_from via v new) now → Running via (in_world s v) (slice_set stages i now)
goes_ready via s stages i u now v new staged sound others new_is on = record {
  sound = sound;
  staged = length-slice_set stages i now ∙ staged;
  ready = λ k lane seat at lane_is seat_is at_is. elim (set_case stages i k now at at_is) [
    | inl here ↦
        let its_lane : lane ≡ u.lane = same_some (slice_get s.lanes i) lane u.lane (subst (λ n. slice_get s.lanes n ≡ Some lane) here.0 lane_is) u.lane_is in
        let its_seat : seat ≡ new = same_some (slice_get v.seats i) seat new (subst (λ n. slice_get v.seats n ≡ Some seat) here.0 seat_is) new_is in
        let own : LaneReady via v i u.lane new now = record {
          goes = λ line line_is. (let its_line : line ≡ u.line = same_some (slice_get u.lane.lines (length u.lane.answers)) line u.line line_is u.line_is in subst (λ x. GoesOn via (place_of i u.lane) x (seen_from via v new) now) (sym its_line) on);
          rests = λ none. absurd (let below : length u.lane.answers < length u.lane.lines = slice_get_within u.lane.lines (length u.lane.answers) u.line u.line_is in omega arith);
        } in
        rw (here.0, its_lane, its_seat, here.1) own
    | inr there ↦ others.each k lane seat at there.0 lane_is seat_is there.1
  ];
}

-- A lane with nothing under way stands ready for its next line, where it has one.
fresh_ready : (via : Addr → Addr) (w : World) (i : ℕ) (lane : Lane) → LaneReady via w i lane no_line stage.Fresh
fresh_ready via w i lane = record {
  goes = λ line line_is. (record { stand = refl; hold = refl; due = refl; trail = record { none = refl; owes = refl } }, tt);
  rests = λ none. (refl, refl);
}

-- Lane i's line is answered.
answered_ready : (via : Addr → Addr) (s : Session) (stages : List Stage) (i : ℕ) (u : UnderWay s i) (v : World) (new : Seat) (a : Answer) → length stages ≡ length s.lanes → Sound via (answered s v i u.lane a) → OthersReady via (in_world s v) stages i → slice_get v.seats i ≡ Some new → Running via (answered s v i u.lane a) (slice_set stages i stage.Fresh)
answered_ready via s stages i u v new a staged sound others new_is =
    let more : Lane = record u.lane { answers = u.lane.answers ++ a ∷ [] } in
    let after : Session = answered s v i u.lane a in
    record {
      sound = sound;
      staged = length-slice_set stages i stage.Fresh ∙ staged ∙ sym (length-slice_set s.lanes i more);
      ready = λ k lane seat at lane_is seat_is at_is. elim (set_case stages i k stage.Fresh at at_is) [
        | inl here ↦
            let its_seat : seat ≡ no_line = same_some (slice_get (slice_set v.seats i no_line) i) seat no_line (subst (λ n. slice_get (slice_set v.seats i no_line) n ≡ Some seat) here.0 seat_is) (set_here v.seats i no_line new new_is) in
            rw (its_seat, here.1) (fresh_ready via after.world k lane)
        | inr there ↦
            let lane_was : slice_get s.lanes k ≡ Some lane = sym (set_there s.lanes i k more there.0) ∙ lane_is in
            let seat_was : slice_get v.seats k ≡ Some seat = sym (set_there v.seats i k no_line there.0) ∙ seat_is in
            ready_same via v after.world k lane seat at (λ key m known. known) (others.each k lane seat at there.0 lane_was seat_was there.1)
      ];
    }

-- A turn made an event, and the line goes on: it is the definition's turn, and all lanes stand ready.
pub turn_goes : {via : Addr → Addr} {s : Session} {i : ℕ} {u : UnderWay s i} {at : Stage} {event : Event} {v : World} (stages : List Stage) (now : Stage) (new : Seat) → Running via s stages → WorldSound v → (t : Took via s i u at event v) → slice_get v.seats i ≡ Some new → GoesOn via (place_of i u.lane) u.line (seen_from via v new) now → Goes via i s (in_world s v) × Running via (in_world s v) (slice_set stages i now)
turn_goes {via} {s} {i} {u} {at} {event} {v} stages now new running world t new_is on =
    (took_goes new now t new_is on, goes_ready via s stages i u now v new running.staged (took_sound running.sound world t) (others_ready via s stages i u.seat event v t.makes running) new_is on)

-- A turn made an event, which was the line's last.
pub turn_answers : {via : Addr → Addr} {s : Session} {i : ℕ} {u : UnderWay s i} {at : Stage} {event : Event} {v : World} (stages : List Stage) (new : Seat) (a : Answer) → Running via s stages → WorldSound v → (t : Took via s i u at event v) → slice_get v.seats i ≡ Some new → Over via (place_of i u.lane) u.line (seen_from via v new) a → Answers via i s (answered s v i u.lane a) × Running via (answered s v i u.lane a) (slice_set stages i stage.Fresh)
turn_answers {via} {s} {i} {u} {at} {event} {v} stages new a running world t new_is over =
    (took_answers new a t new_is over, answered_ready via s stages i u v new a running.staged (over_sound s i u v new a (took_sound running.sound world t) new_is over) (others_ready via s stages i u.seat event v t.makes running) new_is)

-- A turn answered the line without an event.
pub turn_answers_at_once : {via : Addr → Addr} {s : Session} {i : ℕ} (u : UnderWay s i) (stages : List Stage) (a : Answer) → Running via s stages → ask_of via s.world u.seat u.line ≡ Nil → Over via (place_of i u.lane) u.line (seen_from via s.world u.seat) a → Answers via i s (answered s s.world i u.lane a) × Running via (answered s s.world i u.lane a) (slice_set stages i stage.Fresh)
turn_answers_at_once {via} {s} {i} u stages a running asks over =
    (none_answers s i u a asks over, answered_ready via s stages i u s.world u.seat a running.staged (over_sound s i u s.world u.seat a running.sound u.seat_is over) (record { each = λ k lane seat at differs lane_is seat_is at_is. running.ready k lane seat at lane_is seat_is at_is }) u.seat_is)

-- ---- the beginning

-- Before any turn each lane stands ready for its first line.
pub running_begun : (via : Addr → Addr) (script : Script) (first : ℕ) → first ≤ 4294967296 → Running via (begun script first) (replicate lane_count stage.Fresh)
running_begun via script first most = record {
  sound = sound_begun via script first most;
  staged = sym (is_begun script first).count;
  ready = λ i lane seat at lane_is seat_is at_is.
      let fresh : at ≡ stage.Fresh = get_replicate lane_count i stage.Fresh at at_is in
      let none : seat ≡ no_line = get_replicate lane_count i no_line seat seat_is in
      rw (none, fresh) (fresh_ready via (begun script first).world i lane);
}

-- ---- the script stays this one

same_first : (w : World) (i : ℕ) (seat : Seat) (place : Place) (line : Line) (ask : Ask) → (happened w i seat place line ask).first ≡ w.first
same_first w i seat place line (Table a) = refl
same_first w i seat place line (Replay key id) = refl
same_first w i seat place line (Draw key) = refl
same_first w i seat place line (GiveKey key) = refl
same_first w i seat place line (GivePeer peer) = refl
same_first w i seat place line Nil = refl
same_first w i seat place line NoAsk = refl

-- A turn leaves the script and where its counters began.
pub turn_is : (via : Addr → Addr) {script : Script} {first : ℕ} {i : ℕ} {s after : Session} → Turn via i s after → IsOf script first s → IsOf script first after
turn_is via {script} {first} {i} {s} (goes g) of =
    let u : UnderWay s i = g.under in
    subst (IsOf script first) (sym g.after_is) (record { first_is = same_first s.world i u.seat (place_of i u.lane) u.line (ask_of via s.world u.seat u.line) ∙ of.first_is; count = of.count; lines = of.lines })
turn_is via {script} {first} {i} {s} (answers g) of =
    let u : UnderWay s i = g.under in
    let same : g.between.first ≡ s.world.first = ap (λ (w : World). w.first) g.between_is ∙ same_first s.world i u.seat (place_of i u.lane) u.line (ask_of via s.world u.seat u.line) in
    subst (IsOf script first) (sym g.after_is) (is_answered s g.between i u.lane g.answer u.lane_is same of)
turn_is via {script} {first} {i} {s} (passes p) of = subst (IsOf script first) (sym p.same) of

pub turns_are : (via : Addr → Addr) {script : Script} {first : ℕ} {s after : Session} (is : List ℕ) → Turns via s is after → IsOf script first s → IsOf script first after
turns_are via {script} {first} {s} [] turns of = subst (IsOf script first) (sym turns) of
turns_are via (i ∷ is) turns of = turns_are via is turns.2 (turn_is via turns.1 of)

-- ---- the end

module _ {X : Type 0} where
  all_members : (P : X → Type 0) (xs : List X) → ((i : ℕ) (x : X) → slice_get xs i ≡ Some x → P x) → AllByRecursion P xs
  all_members P [] each = tt
  all_members P (x ∷ xs) each = (each 0 x refl, all_members P xs (λ i y at. each (suc i) y at))

  -- A list has a member at each place below its length.
  pub member_at : (xs : List X) (i : ℕ) → i < length xs → (x : X) × (slice_get xs i ≡ Some x)
  member_at [] i below = absurd (omega arith)
  member_at (x ∷ xs) zero below = (x, refl)
  member_at (x ∷ xs) (suc i) below = member_at xs i (omega arith)

-- All lines are answered.
abbrev pub AllAnswered : List Lane → Type 0
AllAnswered lanes = (i : ℕ) (lane : Lane) → slice_get lanes i ≡ Some lane → length lane.lines ≤ length lane.answers

-- A sound lane has no more answers than lines.
answers_most : (via : Addr → Addr) (s : Session) (i : ℕ) (lane : Lane) (seat : Seat) → Sound via s → slice_get s.lanes i ≡ Some lane → slice_get s.world.seats i ≡ Some seat → length lane.answers ≤ length lane.lines
answers_most via s i lane seat sound lane_is seat_is = elim (cases_lt (length lane.lines) (length lane.answers)) [
  | inl past ↦ absurd (
      let line_is = ((sound.lanes i lane seat lane_is seat_is).runs.each (length lane.lines) past).line_is in
      let below : length lane.lines < length lane.lines = slice_get_within lane.lines (length lane.lines) _ line_is in
      omega arith)
  | inr most ↦ most
]

-- Where all lines are answered nothing is under way.
pub running_done : (via : Addr → Addr) (s : Session) (stages : List Stage) → Running via s stages → AllAnswered s.lanes → IsDone s
running_done via s stages running all = record {
  lanes = all_members (λ lane. length lane.answers ≡ length lane.lines) s.lanes (λ i lane lane_is.
      let below : i < length s.lanes = slice_get_within s.lanes i lane lane_is in
      let seated : length s.world.seats ≡ length s.lanes = running.sound.seated in
      let seat = member_at s.world.seats i (omega arith) in
      let most : length lane.answers ≤ length lane.lines = answers_most via s i lane seat.0 running.sound lane_is seat.1 in
      let least : length lane.lines ≤ length lane.answers = all i lane lane_is in
      omega arith);
  seats = all_members (λ seat. seat ≡ no_line) s.world.seats (λ i seat seat_is.
      let below : i < length s.world.seats = slice_get_within s.world.seats i seat seat_is in
      let seated : length s.world.seats ≡ length s.lanes = running.sound.seated in
      let staged : length stages ≡ length s.lanes = running.staged in
      let lane = member_at s.lanes i (omega arith) in
      let at = member_at stages i (omega arith) in
      ((running.ready i lane.0 seat at.0 lane.1 seat_is at.1).rests (all i lane.0 lane.1)).0);
}

-- The report of a script that ran to its end is legal.
pub running_legal : (script : Script) (first : ℕ) (s : Session) (stages : List Stage) → AllByRecursion (λ line. line.lane < lane_count) script.lines → Running (via_of script.routes) s stages → IsOf script first s → AllAnswered s.lanes → Legal script first (report_of s)
running_legal script first s stages lanes running of all = done_legal script first s lanes running.sound of (running_done (via_of script.routes) s stages running all)
