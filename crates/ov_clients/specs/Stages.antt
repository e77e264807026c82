-- One thing that is held by the cell 0, and who was told that it was the last to hold it.
use Rattle.std.specs.Prelude.{◌≡◌, ◌≢◌, ℕ, ◌⊎◌, List, [], ◌∷◌}
use Rattle.ov_base.specs.Sums.{count_of}
use Rattle.ov_model.specs.declared.hold.Given.{Given}
use Rattle.ov_model.specs.declared.hold.Given.TheVariants.{More, Last}
use Rattle.ov_turn.specs.declared.kept.Kept.{Ghosts}
use Rattle.ov_turn.specs.declared.lock.TicketLock.{TicketLock}
use Rattle.ov_turn.specs.declared.lock.LockSeat.{LockSeat}
use Rattle.ov_turn.specs.Seats.{IsSeatOf, cells_of, holds_of, owes_of}
use Rattle.ov_clients.specs.declared.stage.Deed.{Deed}
use Rattle.ov_clients.specs.declared.stage.Deed.TheVariants.{Made, Ended}
use Rattle.ov_clients.specs.declared.stage.Stage.{Stage}
use Rattle.ov_clients.specs.declared.stage.Stage.TheVariants.{Unmade, Live, Dying}

-- what was done
abbrev pub deeds : Stage → List Deed
deeds Unmade = []
deeds Live = Made ∷ []
deeds Dying = Made ∷ Ended ∷ []

-- the cells that are live
abbrev pub live_cells : Stage → List ℕ
live_cells Unmade = []
live_cells Live = 0 ∷ []
live_cells Dying = []

-- the cells that are dying
abbrev pub dying_cells : Stage → List ℕ
dying_cells Unmade = []
dying_cells Live = []
dying_cells Dying = 0 ∷ []

-- one was told Last, and the other More
abbrev pub IsOneLast : Given → Given → Type 0
IsOneLast one two = ((one ≡ Last) × (two ≡ More)) ⊎ ((one ≡ More) × (two ≡ Last))

module _ {S I : Type 0} {K : Ghosts S I} where
  -- a seat of a lock with one cell, that holds these cells, none but the cell 0, and owes nothing
  pub record Keeps (lock : TicketLock S I) (seat : LockSeat S I K) (held : List ℕ) : Type 0 where
    pub of : IsSeatOf lock seat
    pub cells : cells_of lock ≡ 1
    pub holds : holds_of seat ≡ held
    pub only : (c : ℕ) → c ≢ 0 → count_of c held ≡ 0
    pub owes : owes_of seat ≡ []
