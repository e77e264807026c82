-- The plain desk of the tests: one peer, one key, the events of its line as they came, and at most one
-- release that is owed.
use Rattle.std.specs.Prelude.{ℕ, ◌≡◌, ◌+◌, ◌≤◌, List, [], ◌∷◌, ◌++◌, Bool, true, false, Option, Some, None}
use Rattle.ov_base.specs.declared.address.Addr.{Addr}
use Rattle.ov_model.specs.declared.act.Act.{Act}
use Rattle.ov_model.specs.declared.act.Act.TheVariants as act
use Rattle.ov_model.specs.declared.hold.Owed.{Owed}
use Rattle.ov_model.specs.declared.reply.HoldView.{HoldView}
use Rattle.ov_model.specs.declared.reply.Reply.{Reply}
use Rattle.ov_model.specs.Tables.{Material}
use Rattle.ov_model.specs.Events.{Event}
use Rattle.ov_model.specs.Path.{spent_taken}
use Rattle.ov_model.specs.Next.{is_killed, stand_of}
use Rattle.ov_path.specs.Desks.{View, Holding, NoHold, Both, PeerLeft, IsLooked, Joins}

-- The events of a line, and the room for more.
pub record Past : Type 0 where
  pub events : List Event
  pub room : ℕ

-- drew: the hold has drawn; hop: the next hop of every address, where one is given.
pub record Kept : Type 0 where
  pub events : List Event
  pub room : ℕ
  pub hold : Holding
  pub drew : Bool
  pub owing : Option Owed
  pub pair : Material
  pub hop : Option Addr

-- At most one member, as a list.
abbrev pub listed : Option Owed → List Owed
listed None = []
listed (Some o) = o ∷ []

-- The desk has one key for all serials.
abbrev pub one_key : Material → ℕ → Option Material
one_key m key = Some m

-- The next hop that the plain desk gives, or else the address itself.
abbrev pub hop_or : Option Addr → Addr → Addr
hop_or None a = a
hop_or (Some hop) a = hop

-- What the plain desk shows.
abbrev pub shown_of : Kept → View
shown_of k = record { events = k.events; hold = k.hold; owing = listed k.owing; material = one_key k.pair; via = hop_or k.hop }

-- What is held: a peer, with its key or after it.
abbrev pub holding_at : Option HoldView → Bool → Holding
holding_at None left = NoHold
holding_at (Some h) true = PeerLeft h
holding_at (Some h) false = Both h

-- The key that a step took out of its slot: a spent one.
abbrev pub taken_by : Act → Reply → List ℕ
taken_by (act.Spend peer key) r = spent_taken (is_killed r) key
taken_by _ r = []

-- What is owed after a step: what joined it is what the step lets join.
pub record Joined (a : Act) (r : Reply) (before after : Option Owed) : Type 0 where
  pub joined : List Owed
  pub joins : Joins a r (taken_by a r) joined
  pub is : listed after ≡ listed before ++ joined

-- The events that may come before the next call that can take room: the two give-backs, a release and
-- one to spare for each that may be owed, and a draw.
abbrev pub need : Holding → Bool → ℕ
need NoHold drew = 0
need (PeerLeft h) drew = 3
need (Both h) true = 6
need (Both h) false = 7

-- The room that a release that is owed may still take.
abbrev pub owes : Option Owed → ℕ
owes None = 0
owes (Some o) = 2

-- What the plain desk keeps true.
pub record Sound (k : Kept) : Type 0 where
  pub spare : need k.hold k.drew + owes k.owing ≤ k.room
  pub drawn : k.drew ≡ true → ¬ IsLooked (stand_of k.events)
