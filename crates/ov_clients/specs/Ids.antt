-- What a thread's draws of the key 0 have left.
use Rattle.std.specs.Prelude.{◌≡◌, ℕ, ◌+◌, ◌<◌, List, [], map, length, Contains}
use Rattle.ov_draw.specs.Drawer.{Counters, Drawer}

-- a seat of these counters that has drawn nothing
abbrev pub IsFresh : Counters → Drawer → Type 0
IsFresh counters seat = (seat.of ≡ counters) × (seat.drawn ≡ []) × (seat.spent ≡ [])

-- after `count` draws the seat has these ids of the key 0, in order, and was answered Spent the other times
pub record HasDrawn (counters : Counters) (part count : ℕ) (seat : Drawer) (ids : List ℕ) : Type 0 where
  pub of : seat.of ≡ counters
  pub share : seat.share ≡ part
  pub drawn : seat.drawn ≡ map (λ n. (0, n)) ids
  pub counted : length ids + length seat.spent ≡ count
  pub spent : 0 < length seat.spent → Contains seat.spent 0
