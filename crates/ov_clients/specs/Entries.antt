-- What threads that append entries to one history have done.
use Rattle.std.specs.Prelude.{◌≡◌, ℕ, ◌+◌, ◌≤◌, List, [], ◌∷◌, ◌++◌, length}
use Rattle.ov_turn.specs.declared.kept.Kept.{Ghosts}
use Rattle.ov_turn.specs.declared.lock.TicketLock.{TicketLock}
use Rattle.ov_turn.specs.declared.lock.LockSeat.{LockSeat}
use Rattle.ov_turn.specs.Seats.{IsSeatOf, share_of, seen_of, own_of, holds_of, owes_of}
use Rattle.ov_turn.specs.Lists.{IsWhole}
use Rattle.ov_clients.specs.declared.journal.Entry.{Entry}

-- a thread's entries, numbered from k on, at positions that rise from `low` on and stay below `high`
abbrev pub InOrder : ℕ → ℕ → ℕ → List (ℕ × Entry) → ℕ → Type 0
InOrder thread k low [] high = low ≤ high
InOrder thread k low (e ∷ es) high = (low ≤ e.0) × (e.1 ≡ record { thread = thread; number = k }) × InOrder thread (k + 1) (e.0 + 1) es high

-- the history has the entries of two threads and no other: each position has one of them, and each thread's entries stand in it once, in order
abbrev pub AreBoth : List Entry → ℕ → ℕ → Type 0
AreBoth log first second = (length log ≡ first + second) × ((own other : List (ℕ × Entry)) × (length own ≡ first) × (length other ≡ second) × InOrder 1 0 0 own (length log) × InOrder 2 0 0 other (length log) × IsWhole log (own ++ other))

module _ {S : Type 0} {K : Ghosts S Entry} where
  -- a seat that has appended so many entries of a thread, and holds and owes nothing
  pub record HasAppended (lock : TicketLock S Entry) (part thread count : ℕ) (seat : LockSeat S Entry K) : Type 0 where
    pub of : IsSeatOf lock seat
    pub share : share_of seat ≡ part
    pub holds : holds_of seat ≡ []
    pub owes : owes_of seat ≡ []
    pub counted : length (own_of seat) ≡ count
    pub order : InOrder thread 0 0 (own_of seat) (length (seen_of seat))
