-- What a lane's pass is, where there is one: it is out only while a line runs.
use Rattle.std.specs.Prelude.{ℕ, ◌≤◌, [], Option, Some, None, length}
use Rattle.ov_draw.specs.Drawer.{Counters}
use Rattle.ov_share.specs.Passings.{Passing}
use Rattle.ov_share.specs.Shares.{blank_sight}
use Rattle.ov_lanes.specs.Jobs.{Lane, IsReady}

-- What the pass has.
abbrev pub pass_in : Counters → Option Passing → Passing
pass_in counters (Some pass) = pass
pass_in counters None = record { number = 0; lines = 0; share = record { name = None; sight = blank_sight 0; parts = []; drawer = record { of = counters; share = 0; drawn = []; spent = [] } } }

-- There is a pass.
abbrev pub IsThere : Option Passing → Type 0
IsThere (Some pass) = Unit {0}
IsThere None = ⊥

-- What is kept true of a lane: its pass is there, it is ready, and there is room for the answers of all its lines.
pub record IsKept (pass : Option Passing) (room : ℕ) (lane : Lane) : Type 0 where
  pub there : IsThere pass
  pub ready : IsReady lane
  pub room_is : length lane.lines ≤ room
