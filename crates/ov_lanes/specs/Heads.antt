-- What the passes know of the head of a script: of which of its lines an entry is, by its position.
use Rattle.std.specs.Prelude.{ℕ, ◌≡◌, slice_get, Some, ◌<◌, ◌≤◌, List, length, take, nat_le, if◌then◌else◌}
use Rattle.std.specs.List.{AllByRecursion}
use Rattle.ov_base.specs.Sums.{total}
use Rattle.ov_model.specs.declared.entry.Entry.{Entry}
use Rattle.ov_model.specs.declared.line.Line.{Line}
use Rattle.ov_model.specs.declared.place.Place.{Place}
use Rattle.ov_model.specs.Legal.{lane_lines}
use Rattle.ov_share.specs.Passings.{Passing}
use Rattle.ov_lanes.specs.Threads.{IsPlaceOf}

-- How many of the head's lines were over before a position: `ends` are the lengths that the journal had after each of them.
abbrev pub over_at : List ℕ → ℕ → ℕ
over_at ends position = total (λ end. if nat_le end position then 1 else 0) ends

-- An entry at its position: while lines of the head are left, it is of the first that isn't over; behind the head it is of no
-- line of the head.
pub record InTurn (lines : List Line) (ends : List ℕ) (e : ℕ × Entry) : Type 0 where
  pub head : over_at ends e.0 < length ends → IsPlaceOf lines (over_at ends e.0) e.1.place
  pub behind : length ends ≤ over_at ends e.0 → (n : ℕ) → IsPlaceOf lines n e.1.place → length ends ≤ n

-- The same of each entry of each pass.
abbrev pub AllInTurn : List Line → List ℕ → List Passing → Type 0
AllInTurn lines ends passes = AllByRecursion (λ p. AllByRecursion (InTurn lines ends) p.share.sight.own) passes

-- While the head runs: an entry at its position is of a line of the head that is over, by the ends of those that are.
pub record InHead (lines : List Line) (ends : List ℕ) (e : ℕ × Entry) : Type 0 where
  pub over : over_at ends e.0 < length ends
  pub is : IsPlaceOf lines (over_at ends e.0) e.1.place

-- The same of each entry of each pass.
abbrev pub AllInHead : List Line → List ℕ → List Passing → Type 0
AllInHead lines ends passes = AllByRecursion (λ p. AllByRecursion (InHead lines ends) p.share.sight.own) passes

-- An entry of the head's next line, made when the journal was between these lengths.
pub record IsNext (lines : List Line) (n low high : ℕ) (e : ℕ × Entry) : Type 0 where
  pub from : low ≤ e.0
  pub below : e.0 < high
  pub is : IsPlaceOf lines n e.1.place

-- An entry behind the head: it was made when the journal was at least so long, and its lane's lines of the head, of which
-- there are `head` in all, are before its line.
pub record IsBehind (lines : List Line) (head low : ℕ) (e : ℕ × Entry) : Type 0 where
  pub from : low ≤ e.0
  pub later : length (lane_lines (take head lines) e.1.place.lane) ≤ e.1.place.line

-- The place of a lane's line behind its lines among the first of the script.
pub record IsLater (lines : List Line) (head lane : ℕ) (place : Place) : Type 0 where
  pub lane_is : place.lane ≡ lane
  pub later : length (lane_lines (take head lines) lane) ≤ place.line

-- The passes are numbered from 0, and each has answered its lane's lines among the first of the script, so many.
pub record HaveRun (lines : List Line) (n : ℕ) (passes : List Passing) : Type 0 where
  pub each : (i : ℕ) (p : Passing) → slice_get passes i ≡ Some p → (p.number ≡ i) × (p.lines ≡ length (lane_lines (take n lines) i))

-- The first lines of the script, so many, are answered one after the other: each entry of a pass is of one of them, in the
-- order of the lines, and `low` is at least the length of the journal after the last of them.
pub record HeadRuns (lines : List Line) (n low : ℕ) (passes : List Passing) : Type 0 where
  pub ends : List ℕ
  pub count : length ends ≡ n
  pub most : AllByRecursion (λ end. end ≤ low) ends
  pub turns : AllInHead lines ends passes
  pub run : HaveRun lines n passes
