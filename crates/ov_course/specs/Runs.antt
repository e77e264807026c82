-- A line at a desk of any kind: the events that happened there, and how the line ended.
use Rattle.std.specs.Prelude.{◌≡◌, ℕ, List, [], ◌∷◌, ◌++◌}
use Rattle.ov_base.specs.declared.address.Addr.{Addr}
use Rattle.ov_model.specs.declared.answer.Answer.{Answer}
use Rattle.ov_model.specs.declared.line.Line.{Line}
use Rattle.ov_model.specs.declared.place.Place.{Place}
use Rattle.ov_model.specs.Events.{Event}
use Rattle.ov_path.specs.Desks.{View, SameLine}
use Rattle.ov_path.specs.Walks.{IsOwn, Over}

-- `view` is what a desk shows to the line that stands at it, `does` what an event makes of the desk, and `keeps` what stays of it
-- where there was no memory.
module _ {D : Type 0} (view : D → View) (does : D → Event → D → Type 0) where
  -- These events of one line happened at the desk, one after the other, and each stands behind those that the desk had shown.
  abbrev pub Ran : Place → ℕ → List Event → D → D → Type 0
  Ran place at [] old new = new ≡ old
  Ran place at (e ∷ es) old new = (between : D) × does old e between × IsOwn place at e × ((view between).events ≡ (view old).events ++ e ∷ []) × Ran place at es between new

  -- A line that had not begun was run to its end, with this answer: what it shows happened at the desk, one event after the other.
  pub record LineDone (via : Addr → Addr) (place : Place) (line : Line) (old new : D) (a : Answer) : Type 0 where
    pub over : Over via place line (view new) a
    pub ran : Ran place line.at (view new).events old new

  -- A line that had not begun was stopped by want of memory: what it shows happened at the desk, one event after the other, and
  -- then no more.
  pub record LineStopped (keeps : D → D → Type 0) (place : Place) (line : Line) (old new : D) : Type 0 where
    pub between : D
    pub ran : Ran place line.at (view between).events old between
    pub same : SameLine (view between) (view new)
    pub kept : keeps between new
