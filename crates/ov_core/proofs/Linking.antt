-- An event that a line asked for is the event of the definition.
use Rattle.std.proofs.Common.{ℕ, ◌≡◌, refl, ◌∙◌, ap}
use Rattle.ov_model.specs.declared.place.Place.{Place}
use Rattle.ov_model.specs.declared.act.Call.{Call}
use Rattle.ov_model.specs.declared.line.Line.{Line}
use Rattle.ov_model.specs.Events.{Event, Stepped, Judged, Drew, GaveKey, GavePeer}
use Rattle.ov_model.specs.Next.{Ask, request}
use Rattle.ov_path.specs.Walks.{IsOwn}
use Rattle.ov_core.specs.Worlds.{World, Seat, after_step, after_replay, Makes, happened}

step_at : (w : World) (i : ℕ) (s : Seat) (p place : Place) (call : Call) (at : ℕ) → p ≡ place → call.at ≡ at → after_step w i s p call ≡ after_step w i s place (record { at = at; act = call.act })
step_at w i s p place call at same moment = rw (same, ← moment) refl

replay_at : (w : World) (i : ℕ) (s : Seat) (p place : Place) (key id m at : ℕ) → p ≡ place → m ≡ at → after_replay w i s p key id m ≡ after_replay w i s place key id at
replay_at w i s p place key id m at same moment = rw (same, moment) refl

-- What it asked for was asked for.
pub made_by : (w : World) (i : ℕ) (s : Seat) (place : Place) (line : Line) (event : Event) (v : World) → Makes w i s event v → IsOwn place line.at event → v ≡ happened w i s place line (request event)
made_by w i s place line (Stepped e) v makes own = makes.1 ∙ step_at w i s e.entry.place place e.entry.call line.at own.0 own.1
made_by w i s place line (Judged j) v makes own = makes ∙ replay_at w i s j.place place j.key j.id j.at line.at own.0 own.1
made_by w i s place line (Drew key d) v makes own = makes.1
made_by w i s place line (GaveKey key g) v makes own = makes
made_by w i s place line (GavePeer peer g) v makes own = makes

pub happened_by : (w : World) (i : ℕ) (s : Seat) (place : Place) (line : Line) (event : Event) (v : World) (ask : Ask) → Makes w i s event v → IsOwn place line.at event → request event ≡ ask → v ≡ happened w i s place line ask
happened_by w i s place line event v ask makes own asked = made_by w i s place line event v makes own ∙ ap (happened w i s place line) asked
