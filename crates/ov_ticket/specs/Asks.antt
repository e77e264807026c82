-- What a seat asks for under a ticket of its own: which steps it may, what they leave it to hold and to release.
use Rattle.std.specs.Prelude.{◌≡◌, ⊤, ℕ, ◌<◌, ◌≤◌, List, [], ◌∷◌, Option, map}
use Rattle.std.specs.List.{AllByRecursion}
use Rattle.std.specs.VecDeque.{deque_capacity}
use Rattle.std.specs.declared.collections.VecDeque.{VecDeque}
use Rattle.std.specs.declared.alloc.Global.{Global}
use Rattle.ov_base.specs.Sums.{count_of}
use Rattle.ov_model.specs.declared.act.Act.{Act}
use Rattle.ov_model.specs.declared.act.Act.TheVariants as act
use Rattle.ov_model.specs.declared.hold.Owed.{Owed}
use Rattle.ov_model.specs.declared.hold.Owed.TheVariants as owed
use Rattle.ov_model.specs.declared.reply.Reply.{Reply}
use Rattle.ov_model.specs.declared.reply.Reply.TheVariants as reply
use Rattle.ov_model.specs.Path.{SomeOwed, removed}
use Rattle.ov_model.specs.Tables.{Table, Material}
use Rattle.ov_table.specs.Cells.{key_cell}
use Rattle.ov_table.specs.Pairs.{pair_in}
use Rattle.ov_ticket.specs.Within.{cell_of}

-- A peer that is owed has a serial below 4,096: a greater one would name the cell of a key.
abbrev pub IsLow : Owed → Type 0
IsLow (owed.Peer p) = p < 4096
IsLow (owed.Key k) = ⊤

-- What is listed is what is owed, in its order, and there is room for as many as there are cells.
pub record OwedFits (listed : VecDeque Owed Global) (owes : List ℕ) : Type 0 where
  pub owes_are : owes ≡ map cell_of listed.items
  pub low : AllByRecursion IsLow listed.items
  pub room : 69632 ≤ deque_capacity listed

-- Nothing is held or owed.
abbrev pub IsIdle : (holds owes : List ℕ) → Type 0
IsIdle holds owes = (holds ≡ []) × (owes ≡ [])

-- A peer that is held. Its serial is below 4,096: a greater one would name the cell of a key.
abbrev pub HoldsPeer : List ℕ → ℕ → Type 0
HoldsPeer holds peer = (peer < 4096) × (0 < count_of peer holds)

-- A key that is held.
abbrev pub HoldsKey : List ℕ → ℕ → Type 0
HoldsKey holds key = 0 < count_of (key_cell key) holds

-- Which steps a seat may ask for: a command and a look-up where it holds and owes nothing, the others of the peer and the
-- key that it holds. Releases are asked for otherwise.
abbrev pub MayAsk : (holds owes : List ℕ) → Act → Type 0
MayAsk holds owes (act.Do c) = IsIdle holds owes
MayAsk holds owes (act.TxLook a) = IsIdle holds owes
MayAsk holds owes (act.RxLook id key_id from) = IsIdle holds owes
MayAsk holds owes (act.KeepLook peer) = IsIdle holds owes
MayAsk holds owes (act.Sent peer inner outer ping) = HoldsPeer holds peer
MayAsk holds owes (act.Settle peer from k inner outer) = HoldsPeer holds peer
MayAsk holds owes (act.Spend peer key) = HoldsPeer holds peer × HoldsKey holds key
MayAsk holds owes (act.Released peer) = ⊥
MayAsk holds owes (act.KeyReleased key) = ⊥

-- The cells of the peer and of the key that a reply says are held.
abbrev pub found_cells : Reply → List ℕ
found_cells (reply.Hold h) = h.peer ∷ key_cell h.key ∷ []
found_cells _ = []

-- The two directions that are kept after a reply: those of the key that it says is held, or else what was kept.
abbrev pub found_pair : Table → Reply → Option Material → Option Material
found_pair t (reply.Hold h) was = pair_in t h.key
found_pair t _ was = was

-- What a step takes hold of: what its look-up found.
abbrev pub got_cells : Act → Reply → List ℕ
got_cells (act.TxLook a) r = found_cells r
got_cells (act.RxLook id key_id from) r = found_cells r
got_cells (act.KeepLook peer) r = found_cells r
got_cells _ r = []

-- A peer that a reply says is held may be asked for later, and its key has a counter.
abbrev pub FoundLow : Reply → Type 0
FoundLow (reply.Hold h) = (h.peer < 4096) × (h.key < 65536)
FoundLow _ = ⊤

-- The peer and the key that a look-up found.
abbrev pub GotLow : Act → Reply → Type 0
GotLow (act.TxLook a) r = FoundLow r
GotLow (act.RxLook id key_id from) r = FoundLow r
GotLow (act.KeepLook peer) r = FoundLow r
GotLow _ r = ⊤

-- Which releases a step leaves to the seat: after a command those of some of the keys that it took out of a slot, and then
-- of some of the peers that it removed; after another step none, since the seat holds what such a step takes.
abbrev pub Joined : Act → Reply → (taken : List ℕ) → (joined : List Owed) → Type 0
Joined (act.Do c) r taken joined = SomeOwed taken (removed r) joined
Joined _ r taken joined = joined ≡ []
