-- A script that runs stays sound with each event of a lane and with each answer.
use Rattle.std.proofs.Common.{ℕ, ◌≡◌, ◌<◌, List, [], ◌∷◌, ◌++◌, length, refl, sym, ◌∙◌, ap, subst, arith}
use Rattle.std.specs.Prelude.{Some, slice_get, slice_set}
use Rattle.std.proofs.lemmas.Option.{slice_get_within}
use Rattle.ov_base.specs.declared.address.Addr.{Addr}
use Rattle.ov_model.specs.declared.place.Place.{Place}
use Rattle.ov_model.specs.declared.act.Call.{Call}
use Rattle.ov_model.specs.declared.answer.Answer.{Answer}
use Rattle.ov_model.specs.declared.line.Line.{Line}
use Rattle.ov_model.specs.declared.replay.ReplayEntry.{ReplayEntry}
use Rattle.ov_model.specs.Events.{Event, Judged, judgement_of, steps_of, steps_in, judgements_in}
use Rattle.ov_model.specs.Keys.{key_of}
use Rattle.ov_model.specs.Path.{Path}
use Rattle.ov_model.specs.Replay.{judged}
use Rattle.ov_model.specs.Step.{step}
use Rattle.ov_model.proofs.Lanes.{all_append, all_judged}
use Rattle.ov_core.specs.Worlds.{World, Seat, no_line, seat_stepped, after_step, shard_of, judged_next, after_replay}
use Rattle.ov_core.specs.Sessions.{Lane, Session, place_of, answered}
use Rattle.ov_core.specs.Sounds.{WorldSound, LaneSound, Counts, Sound}
use Rattle.ov_core.proofs.Seats.{length-slice_set, each_seat, each_both}
use Rattle.ov_core.proofs.Moving.{step_made, steps_more, runs_quiet, other_step, own_step, other_judged, own_judged_step, own_answered}

-- A script that runs, in another world.
abbrev pub in_world : Session → World → Session
in_world s w = record s { world = w }

-- The packet ids of all keys count.
abbrev pub AllCount : Session → Type 0
AllCount s = (key : ℕ) → Counts s key

-- ---- a step of the table

pub sound_step : (via : Addr → Addr) (s : Session) (i : ℕ) (lane : Lane) (seat : Seat) (place : Place) (call : Call) → Sound via s → slice_get s.lanes i ≡ Some lane → slice_get s.world.seats i ≡ Some seat → place ≡ place_of i lane
    → WorldSound (after_step s.world i seat place call) → AllCount (in_world s (after_step s.world i seat place call)) → Sound via (in_world s (after_step s.world i seat place call))
sound_step via s i lane seat place call sound lane_is seat_is at world counts =
    let w : World = s.world in
    let v : World = after_step w i seat place call in
    let new : Seat = seat_stepped w.seats seat place call (step w.table.now call) in
    let last = sound.world.told.last in
    let lane_at : place.lane ≡ i = ap (λ (p : Place). p.lane) at in
    record {
      world = world;
      seated = length-slice_set w.seats i new ∙ sound.seated;
      within = rw (steps_more w.table place call last) (all_append (λ e. e.entry.place.lane < length s.lanes) (steps_of w.table.journal) (step_made w.table place call ∷ []) sound.within (rw lane_at (slice_get_within s.lanes i lane lane_is), tt));
      judged_within = sound.judged_within;
      lanes = each_seat (LaneSound via w.table.journal w.shards) (LaneSound via v.table.journal v.shards) s.lanes w.seats i lane seat new sound.lanes lane_is seat_is
          (λ own. record { runs = own_step via w.table w.shards place call i lane seat.events last at own.runs; rise = own.rise })
          (λ k m u other each. record { runs = other_step via w.table w.shards place call k m u.events last (λ e. other (sym e ∙ lane_at)) each.runs; rise = each.rise });
      counts = counts;
    }

-- ---- a replay step

place_kept : (w : World) (place : Place) (key id at : ℕ) → (judged_next w place key id at).place ≡ place
unfolding judged
place_kept w place key id at = refl

pub sound_judged : (via : Addr → Addr) (s : Session) (i : ℕ) (lane : Lane) (seat : Seat) (place : Place) (key id at : ℕ) → Sound via s → slice_get s.lanes i ≡ Some lane → slice_get s.world.seats i ≡ Some seat → place ≡ place_of i lane → judgements_in seat.events ≡ []
    → WorldSound (after_replay s.world i seat place key id at) → AllCount (in_world s (after_replay s.world i seat place key id at)) → Sound via (in_world s (after_replay s.world i seat place key id at))
sound_judged via s i lane seat place key id at sound lane_is seat_is its none world counts =
    let w : World = s.world in
    let v : World = after_replay w i seat place key id at in
    let r : ReplayEntry = judged_next w place key id at in
    let r_at : r.place ≡ place = place_kept w place key id at in
    let lane_at : r.place.lane ≡ i = ap (λ (p : Place). p.lane) (r_at ∙ its) in
    let below : shard_of key < length w.shards = (let eight : length w.shards ≡ 8 = sound.world.eight in omega arith) in
    let new : Seat = record seat { events = seat.events ++ Judged (judgement_of r) ∷ [] } in
    record {
      world = world;
      seated = length-slice_set w.seats i new ∙ sound.seated;
      within = sound.within;
      judged_within = all_judged (λ e. e.place.lane < length s.lanes) w.shards (shard_of key) r sound.judged_within (rw lane_at (slice_get_within s.lanes i lane lane_is));
      lanes = each_seat (LaneSound via w.table.journal w.shards) (LaneSound via v.table.journal v.shards) s.lanes w.seats i lane seat new sound.lanes lane_is seat_is
          (λ own. own_judged_step via w.table.journal w.shards (shard_of key) r i lane seat (r_at ∙ its) below none own)
          (λ k m u other each. other_judged via w.table.journal w.shards (shard_of key) r k m u (λ e. other (sym e ∙ lane_at)) each);
      counts = counts;
    }

-- ---- an event that is no step and no replay step

-- The world after such an event has the table and the shards that it had, and lane i has one event more.
pub sound_quiet : (via : Addr → Addr) (s : Session) (i : ℕ) (lane : Lane) (seat new : Seat) (e : Event) (v : World) → Sound via s → slice_get s.lanes i ≡ Some lane → slice_get s.world.seats i ≡ Some seat → steps_in (e ∷ []) ≡ [] → judgements_in (e ∷ []) ≡ []
    → v.table ≡ s.world.table → v.shards ≡ s.world.shards → v.seats ≡ slice_set s.world.seats i new → new.events ≡ seat.events ++ e ∷ [] → WorldSound v → AllCount (in_world s v) → Sound via (in_world s v)
sound_quiet via s i lane seat new e v sound lane_is seat_is no_step not_judged table shards seats events world counts =
    let w : World = s.world in
    record {
      world = world;
      seated = rw seats (length-slice_set w.seats i new ∙ sound.seated);
      within = rw table sound.within;
      judged_within = rw shards sound.judged_within;
      lanes = λ k m u m_is u_is. each_seat (LaneSound via w.table.journal w.shards) (LaneSound via v.table.journal v.shards) s.lanes w.seats i lane seat new sound.lanes lane_is seat_is
          (λ own. record { runs = rw (table, shards, events) (runs_quiet seat.events e no_step not_judged own.runs); rise = rw shards own.rise })
          (λ k m u other each. record { runs = rw (table, shards) each.runs; rise = rw shards each.rise })
          k m u m_is (subst (λ (ss : List Seat). slice_get ss k ≡ Some u) seats u_is);
      counts = counts;
    }

-- ---- an answer

pub sound_answered : (via : Addr → Addr) (s : Session) (i : ℕ) (lane : Lane) (seat : Seat) (line : Line) (a : Answer) → Sound via s → slice_get s.lanes i ≡ Some lane → slice_get s.world.seats i ≡ Some seat → slice_get lane.lines (length lane.answers) ≡ Some line
    → Path (key_of s.world.table.journal) via (place_of i lane) line (steps_in seat.events) (judgements_in seat.events) a → WorldSound (answered s s.world i lane a).world → AllCount (answered s s.world i lane a) → Sound via (answered s s.world i lane a)
sound_answered via s i lane seat line a sound lane_is seat_is line_is path world counts =
    let w : World = s.world in
    let v : World = (answered s w i lane a).world in
    let more : Lane = record lane { answers = lane.answers ++ a ∷ [] } in
    let long : length (slice_set s.lanes i more) ≡ length s.lanes = length-slice_set s.lanes i more in
    record {
      world = world;
      seated = length-slice_set w.seats i no_line ∙ sound.seated ∙ sym long;
      within = rw long sound.within;
      judged_within = rw long sound.judged_within;
      lanes = each_both (LaneSound via w.table.journal w.shards) (LaneSound via v.table.journal v.shards) s.lanes w.seats i lane more seat no_line sound.lanes lane_is seat_is
          (λ own. own_answered via w.table.journal w.shards i lane seat no_line line a line_is path refl own)
          (λ k m u other each. each);
      counts = counts;
    }
