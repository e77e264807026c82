-- What lines have added to a lane's own entries.
use Rattle.std.specs.Prelude.{ℕ, ◌≡◌, ◌<◌, ◌≤◌, List, ◌++◌, length}
use Rattle.std.specs.List.{AllByRecursion}
use mathlib.Core.List.{IsPrefix}
use Rattle.ov_model.specs.declared.entry.Entry.{Entry}
use Rattle.ov_model.specs.declared.place.Place.{Place}
use Rattle.ov_share.specs.Shares.{Sharing}

-- More entries stand behind the lane's own: each was made behind all that the lane had seen, stands in what it has seen now,
-- and has a place of this kind.
pub record HasAdded (kind : Place → Type 0) (old new : Sharing) : Type 0 where
  pub more : List (ℕ × Entry)
  pub own : new.sight.own ≡ old.sight.own ++ more
  pub front : IsPrefix old.sight.seen new.sight.seen
  pub late : AllByRecursion (λ e. length old.sight.seen ≤ e.0) more
  pub below : AllByRecursion (λ e. e.0 < length new.sight.seen) more
  pub placed : AllByRecursion (λ e. kind e.1.place) more
