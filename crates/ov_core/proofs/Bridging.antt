-- A turn at the world as it is kept is a turn of the definition.
use Rattle.std.proofs.Common.{ℕ, ◌≡◌, List, [], ◌∷◌, ◌++◌, length, refl, sym, ◌∙◌, ap, subst}
use Rattle.std.specs.Prelude.{map, Some, slice_get, slice_set}
use Rattle.ov_base.specs.declared.address.Addr.{Addr}
use Rattle.ov_model.specs.declared.answer.Answer.{Answer}
use Rattle.ov_model.specs.declared.line.Line.{Line}
use Rattle.ov_model.specs.Next.{Nil}
use Rattle.ov_model.specs.Via.{via_of}
use Rattle.ov_path.specs.Desks.{View, NoHold}
use Rattle.ov_path.specs.Walks.{GoesOn, Over, Made, MadeOrNone, made, nothing, next_at}
use Rattle.ov_path.specs.declared.stage.Stage.{Stage}
use Rattle.ov_path.specs.declared.stage.Stage.TheVariants as stage
use Rattle.ov_core.specs.Worlds.{World, Seat, no_line, Makes, seen_from}
use Rattle.ov_core.specs.Sessions.{Lane, Session, place_of, UnderWay, Goes, Answers, answered}
use Rattle.ov_core.specs.Ready.{Running}
use Rattle.ov_core.specs.Seats.{Sitting, Seated, Happened, Kept, seen, seat_of, shown_of, world_of, via_in, after_line}
use Rattle.ov_core.proofs.Seats.{same_some, map_set}
use Rattle.ov_core.proofs.Leaving.{seen_at}
use Rattle.ov_core.proofs.Taking.{Took}
use Rattle.ov_core.proofs.Running.{turn_goes, turn_answers, turn_answers_at_once}

-- The script that runs, of the world as it is kept and the lanes.
abbrev pub session_of : Seated → List Lane → Session
session_of d lanes = record { world = world_of d; lanes = lanes }

-- The seat of the lane that has its turn, as the definitions have it.
abbrev pub own_seat : Seated → Seat
own_seat d = seen (seat_of d)

-- The line under way of the lane that has its turn.
abbrev pub under : (d : Seated) (lanes : List Lane) (lane : Lane) (line : Line) → Kept d → slice_get lanes d.turn ≡ Some lane → slice_get lane.lines (length lane.answers) ≡ Some line → UnderWay (session_of d lanes) d.turn
under d lanes lane line kept lane_is line_is = record { lane = lane; seat = own_seat d; line = line; lane_is = lane_is; seat_is = seen_at d kept; line_is = line_is }

-- What a turn at the desk made is what a turn of the lane took.
took : (via : Addr → Addr) (d e : Seated) (lanes : List Lane) (lane : Lane) (line : Line) (at : Stage) (kept : Kept d) (lane_is : slice_get lanes d.turn ≡ Some lane) (line_is : slice_get lane.lines (length lane.answers) ≡ Some line) → GoesOn via (place_of d.turn lane) line (seen_from via (world_of d) (own_seat d)) at → (m : Made shown_of Happened via (place_of d.turn lane) line d e) → Took via (session_of d lanes) d.turn (under d lanes lane line kept lane_is line_is) at m.event (world_of e)
took via d e lanes lane line at kept lane_is line_is goes m =
    let there = m.done.happened in
    let same : there.seat ≡ own_seat d = same_some (slice_get (world_of d).seats d.turn) there.seat (own_seat d) there.seat_is (seen_at d kept) in
    record {
      walking = goes.0;
      is_open = goes.1;
      makes = subst (λ (x : Seat). Makes (world_of d) d.turn x m.event (world_of e)) same there.makes;
      asked = m.asks;
      own = m.own;
    }

-- The lane's seat after the turn.
seat_after : (d e : Seated) → Kept e → e.turn ≡ d.turn → slice_get (world_of e).seats d.turn ≡ Some (own_seat e)
seat_after d e kept same = subst (λ n. slice_get (world_of e).seats n ≡ Some (own_seat e)) same (seen_at e kept)

-- What the line sees of a world whose routes are those that it asks by.
seen_own : (via : Addr → Addr) (d e : Seated) → via ≡ via_in d → e.routes ≡ d.routes → shown_of e ≡ seen_from via (world_of e) (own_seat e)
seen_own via d e hops same = ap (λ (x : Addr → Addr). seen_from x (world_of e) (own_seat e)) (ap (λ rs. via_of rs) same ∙ sym hops)

-- A turn after which the line goes on.
pub turn_more : (via : Addr → Addr) (d e : Seated) (lanes : List Lane) (stages : List Stage) (lane : Lane) (line : Line) (at now : Stage) → Kept d → Kept e → Running via (session_of d lanes) stages → slice_get lanes d.turn ≡ Some lane → slice_get lane.lines (length lane.answers) ≡ Some line → slice_get stages d.turn ≡ Some at → via ≡ via_in d → Made shown_of Happened via (place_of d.turn lane) line d e → GoesOn via (place_of d.turn lane) line (shown_of e) now → Goes via d.turn (session_of d lanes) (session_of e lanes) × Running via (session_of e lanes) (slice_set stages d.turn now)
turn_more via d e lanes stages lane line at now kept kept_e running lane_is line_is at_is hops m goes =
    let before : GoesOn via (place_of d.turn lane) line (seen_from via (world_of d) (own_seat d)) at = (running.ready d.turn lane (own_seat d) at lane_is (seen_at d kept) at_is).goes line line_is in
    turn_goes stages now (own_seat e) running kept_e.sound (took via d e lanes lane line at kept lane_is line_is before m) (seat_after d e kept_e m.done.turn)
    (subst (λ (w : View). GoesOn via (place_of d.turn lane) line w now) (seen_own via d e hops m.done.routes) goes)

-- ---- a turn that answers

-- The world once the line is forgotten, where its seat holds and owes nothing.
free_world : (e : Seated) → (seat_of e).hold ≡ NoHold → (seat_of e).owing ≡ [] → record (world_of e) { seats = slice_set (world_of e).seats e.turn no_line } ≡ world_of (after_line e)
free_world e hold owing =
    let free : Sitting = record (seat_of e) { events = [] } in
    let is_free : seen free ≡ no_line = rw (hold, owing) refl in
    let seats : map seen (slice_set e.seats e.turn free) ≡ slice_set (world_of e).seats e.turn no_line = map_set seen e.seats e.turn free ∙ ap (slice_set (world_of e).seats e.turn) is_free in
    ap (λ (xs : List Seat). record (world_of e) { seats = xs }) (sym seats)

-- The lanes with one answer more.
abbrev pub with_answer : List Lane → ℕ → Lane → Answer → List Lane
with_answer lanes i lane a = slice_set lanes i (record lane { answers = lane.answers ++ a ∷ [] })

free_session : (d e : Seated) (lanes : List Lane) (lane : Lane) (a : Answer) → e.turn ≡ d.turn → (seat_of e).hold ≡ NoHold → (seat_of e).owing ≡ [] → answered (session_of d lanes) (world_of e) d.turn lane a ≡ session_of (after_line e) (with_answer lanes d.turn lane a)
free_session d e lanes lane a same hold owing =
    let world : record (world_of e) { seats = slice_set (world_of e).seats d.turn no_line } ≡ world_of (after_line e) = subst (λ n. record (world_of e) { seats = slice_set (world_of e).seats n no_line } ≡ world_of (after_line e)) same (free_world e hold owing) in
    ap (λ (w : World). record { world = w; lanes = with_answer lanes d.turn lane a }) world

-- What is said of the answered script is said of the world whose line is forgotten.
abbrev AnsweredBy : (Addr → Addr) → Seated → List Lane → List Stage → Session → Type 0
AnsweredBy via d lanes stages after = Answers via d.turn (session_of d lanes) after × Running via after (slice_set stages d.turn stage.Fresh)

-- A turn that answers the line, with an event or without one.
pub turn_over : (via : Addr → Addr) (d e : Seated) (lanes : List Lane) (stages : List Stage) (lane : Lane) (line : Line) (at : Stage) (a : Answer) → Kept d → Kept e → Running via (session_of d lanes) stages → slice_get lanes d.turn ≡ Some lane → slice_get lane.lines (length lane.answers) ≡ Some line → slice_get stages d.turn ≡ Some at → via ≡ via_in d → MadeOrNone shown_of Happened via (place_of d.turn lane) line d e → Over via (place_of d.turn lane) line (shown_of e) a → Answers via d.turn (session_of d lanes) (session_of (after_line e) (with_answer lanes d.turn lane a)) × Running via (session_of (after_line e) (with_answer lanes d.turn lane a)) (slice_set stages d.turn stage.Fresh)
turn_over via d e lanes stages lane line at a kept kept_e running lane_is line_is at_is hops (made m) over =
    let before : GoesOn via (place_of d.turn lane) line (seen_from via (world_of d) (own_seat d)) at = (running.ready d.turn lane (own_seat d) at lane_is (seen_at d kept) at_is).goes line line_is in
    subst (AnsweredBy via d lanes stages) (free_session d e lanes lane a m.done.turn over.hold over.owes)
    (turn_answers stages (own_seat e) a running kept_e.sound (took via d e lanes lane line at kept lane_is line_is before m) (seat_after d e kept_e m.done.turn)
    (subst (λ (w : View). Over via (place_of d.turn lane) line w a) (seen_own via d e hops m.done.routes) over))
turn_over via d e lanes stages lane line at a kept kept_e running lane_is line_is at_is hops (nothing asks same) over =
    let own : Over via (place_of d.turn lane) line (shown_of d) a = subst (λ x. Over via (place_of d.turn lane) line (shown_of x) a) same over in
    let none : next_at via line (shown_of d) (shown_of d) ≡ Nil = subst (λ x. next_at via line (shown_of d) (shown_of x) ≡ Nil) same asks in
    subst (λ x. AnsweredBy via d lanes stages (session_of (after_line x) (with_answer lanes d.turn lane a))) (sym same)
    (subst (AnsweredBy via d lanes stages) (free_session d d lanes lane a refl own.hold own.owes)
    (turn_answers_at_once (under d lanes lane line kept lane_is line_is) stages a running none (subst (λ (w : View). Over via (place_of d.turn lane) line w a) (seen_own via d d hops refl) own)))
