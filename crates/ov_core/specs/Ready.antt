-- Where the lines of a script stand while its lanes take their turns.
use Rattle.std.specs.Prelude.{ℕ, ◌≡◌, ◌≤◌, List, length, Some, slice_get}
use Rattle.ov_base.specs.declared.address.Addr.{Addr}
use Rattle.ov_model.specs.declared.line.Line.{Line}
use Rattle.ov_path.specs.declared.stage.Stage.{Stage}
use Rattle.ov_path.specs.declared.stage.Stage.TheVariants as stage
use Rattle.ov_path.specs.Walks.{GoesOn}
use Rattle.ov_core.specs.Worlds.{World, Seat, seen_from, no_line}
use Rattle.ov_core.specs.Sessions.{Lane, Session, place_of}
use Rattle.ov_core.specs.Sounds.{Sound}

-- A lane's line under way stands at this stage, and its next turn may come; a lane without a line left has nothing
-- under way.
pub record LaneReady (via : Addr → Addr) (w : World) (i : ℕ) (lane : Lane) (seat : Seat) (at : Stage) : Type 0 where
  pub goes : (line : Line) → slice_get lane.lines (length lane.answers) ≡ Some line → GoesOn via (place_of i lane) line (seen_from via w seat) at
  pub rests : length lane.lines ≤ length lane.answers → (seat ≡ no_line) × (at ≡ stage.Fresh)

-- A script runs: it is sound, and each lane's line stands at its stage.
pub record Running (via : Addr → Addr) (s : Session) (stages : List Stage) : Type 0 where
  pub sound : Sound via s
  pub staged : length stages ≡ length s.lanes
  pub ready : (i : ℕ) (lane : Lane) (seat : Seat) (at : Stage) → slice_get s.lanes i ≡ Some lane → slice_get s.world.seats i ≡ Some seat → slice_get stages i ≡ Some at → LaneReady via s.world i lane seat at
