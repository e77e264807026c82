-- A script's lines, dealt to their lanes, and the lanes before their first lines.
use Rattle.std.specs.Prelude.{◌≡◌, ℕ, ◌≤◌, false, List, [], ◌∷◌, ◌++◌, length, reverse, slice_get, Some}
use Rattle.std.specs.List.{AllByRecursion}
use Rattle.std.specs.declared.vec.Vec.{Vec}
use Rattle.std.specs.declared.alloc.Global.{Global}
use Rattle.std.specs.Vec.{vec_capacity}
use Rattle.ov_model.specs.declared.answer.Answer.{Answer}
use Rattle.ov_model.specs.declared.line.Line.{Line}
use Rattle.ov_model.specs.Legal.{lane_lines}
use Rattle.ov_lane.specs.Passes.{Shared}
use Rattle.ov_share.specs.Passings.{Passing}
use Rattle.ov_lanes.specs.Jobs.{Lane, IsReady, AreAtHead}

-- Each lane has its lines, in the order of the script.
pub record AreDealt (lines : List Line) (count : ℕ) (dealt : List (Vec Line Global)) : Type 0 where
  pub counted : length dealt ≡ count
  pub each : (i : ℕ) (own : Vec Line Global) → slice_get dealt i ≡ Some own → own.items ≡ lane_lines lines i

-- No line is answered, and there is room for an answer to each.
pub record IsRoom (own : Vec Line Global) (answers : Vec Answer Global) : Type 0 where
  pub none : answers.items ≡ []
  pub room : length own.items ≤ vec_capacity answers

-- Of each lane.
pub record HaveRoom (dealt : List (Vec Line Global)) (rooms : List (Vec Answer Global)) : Type 0 where
  pub counted : length rooms ≡ length dealt
  pub each : (i : ℕ) (own : Vec Line Global) (answers : Vec Answer Global) → slice_get dealt i ≡ Some own → slice_get rooms i ≡ Some answers → IsRoom own answers

-- So many lanes are at their table, before their first lines.
pub record AreSeated (o : Shared) (lines : List Line) (count : ℕ) (lanes : List Lane) : Type 0 where
  pub head : AreAtHead o lines 0 0 lanes
  pub counted : length lanes ≡ count

-- A lane before its first line.
abbrev pub new_lane : Shared → Passing → Vec Line Global → Lane
new_lane o p own = record { table = o; pass = p; lines = own.items; answers = []; stopped = false }

-- The lanes of some passes, each with its lines.
abbrev pub lanes_of : Shared → List Passing → List (Vec Line Global) → List Lane
lanes_of o [] dealt = []
lanes_of o (p ∷ passes) [] = []
lanes_of o (p ∷ passes) (own ∷ dealt) = new_lane o p own ∷ lanes_of o passes dealt

-- From the end on so many were taken.
pub record Takes {X : Type 0} (count : ℕ) (old new out : List X) : Type 0 where
  pub whole : old ≡ new ++ out
  pub counted : length out ≡ count

-- From the end on so many lanes were put together, the last one first.
pub record Seats (o : Shared) (count : ℕ) (passes passes' : List Passing) (dealt dealt' : List (Vec Line Global)) (rooms rooms' : List (Vec Answer Global)) (lanes : List Lane) : Type 0 where
  pub some_passes : List Passing
  pub some_dealt : List (Vec Line Global)
  pub some_rooms : List (Vec Answer Global)
  pub passes_left : Takes count passes passes' some_passes
  pub dealt_left : Takes count dealt dealt' some_dealt
  pub rooms_left : Takes count rooms rooms' some_rooms
  pub are : lanes ≡ reverse (lanes_of o some_passes some_dealt)
  pub ready : AllByRecursion IsReady (lanes_of o some_passes some_dealt)
