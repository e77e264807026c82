-- What a lane's desk keeps true of its fields.
use Rattle.std.specs.Prelude.{◌≡◌, ⊤, ℕ, ◌<◌, ◌≤◌, List, [], ◌∷◌, length, Option, Some, Contains}
use Rattle.std.specs.declared.collections.VecDeque.{VecDeque}
use Rattle.std.specs.declared.alloc.Global.{Global}
use Rattle.ov_model.specs.declared.draw.Drawn.TheVariants as drawn
use Rattle.ov_model.specs.declared.hold.Owed.{Owed}
use Rattle.ov_model.specs.declared.line.Route.{Route}
use Rattle.ov_model.specs.declared.stand.Stand.{Stand}
use Rattle.ov_model.specs.declared.stand.Stand.TheVariants as stand
use Rattle.ov_model.specs.Events.{Event, judgements_in}
use Rattle.ov_model.specs.Keys.{key_of}
use Rattle.ov_model.specs.Next.{stand_of}
use Rattle.ov_model.specs.Tables.{Material}
use Rattle.ov_path.specs.Desks.{Holding, NoHold, Both, PeerLeft}
use Rattle.ov_share.specs.Shares.{Common, Sharing, IsShareOf}
use Rattle.ov_table.specs.Cells.{key_cell}
use Rattle.ov_ticket.specs.Asks.{OwedFits}
use Rattle.ov_desk.specs.Sittings.{Sitting}

-- The desk, by its fields.
abbrev pub sitting : Common → List Route → Sharing → List Event → Holding → List Owed → Sitting
sitting words routes share events hold owing = record { common = words; routes = routes; share = share; events = events; hold = hold; owing = owing }

-- The cells that a hold takes: the peer's, and its key's until that is given back.
abbrev pub cells_of_hold : Holding → List ℕ
cells_of_hold NoHold = []
cells_of_hold (Both h) = h.peer ∷ key_cell h.key ∷ []
cells_of_hold (PeerLeft h) = h.peer ∷ []

-- What is held has serials in range, so that no peer's cell is a key's.
abbrev pub IsInRange : Holding → Type 0
IsInRange NoHold = ⊤
IsInRange (Both h) = (h.peer < 4096) × (h.key < 65536)
IsInRange (PeerLeft h) = h.peer < 4096

-- The two directions that are kept are those of the key that is held.
abbrev pub PairFits : (ℕ → Option Material) → Holding → Option Material → Type 0
PairFits material (Both h) pair = (m : Material) × (pair ≡ Some m) × (material h.key ≡ Some m)
PairFits material _ pair = ⊤

-- A lane that found its key spent: the key stands among those that it found so.
abbrev pub IsDry : List ℕ → Holding → Stand → Type 0
IsDry spent (Both h) (stand.Drew view drawn.Spent) = Contains spent h.key
IsDry spent _ _ = ⊤

-- A line that may still be judged: it has not looked up yet, or it has and did nothing since.
abbrev pub IsEarly : Stand → Type 0
IsEarly stand.Fresh = ⊤
IsEarly (stand.Looked h) = ⊤
IsEarly _ = ⊥

-- Such a line has judged nothing.
abbrev pub IsUnjudged : List Event → Type 0
IsUnjudged events = IsEarly (stand_of events) → judgements_in events ≡ []

-- A line that holds a peer and its key owes nothing, and one that holds the peer alone owes the key at most. So there is room
-- for what the give-backs may leave to it.
abbrev pub IsFew : Holding → List Owed → Type 0
IsFew NoHold owing = ⊤
IsFew (Both h) owing = owing ≡ []
IsFew (PeerLeft h) owing = length owing ≤ 1

-- What is kept true, but for the room.
pub record IsKept (d : Sitting) (held : List ℕ) (pair : Option Material) : Type 0 where
  pub of : IsShareOf d.common d.share
  pub held_is : held ≡ d.share.sight.holds
  pub holds : d.share.sight.holds ≡ cells_of_hold d.hold
  pub range : IsInRange d.hold
  pub pair_is : PairFits (key_of d.share.sight.seen) d.hold pair
  pub dry : IsDry d.share.drawer.spent d.hold (stand_of d.events)
  pub unjudged : IsUnjudged d.events
  pub few : IsFew d.hold d.owing

-- What is kept true of the fields.
pub record IsSeated (words : Common) (routes : List Route) (share : Sharing) (events : List Event) (hold : Holding) (held : List ℕ) (pair : Option Material) (owed : VecDeque Owed Global) : Type 0 where
  pub kept : IsKept (sitting words routes share events hold owed.items) held pair
  pub fits : OwedFits owed share.sight.owes
