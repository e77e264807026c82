-- Under the lock: what a step that was asked for leaves to link, to unlink and to hold, and what it is once all is done.
use mathlib.Core.List.{IsPrefix}
use Rattle.std.specs.Prelude.{◌≡◌, ⊤, ℕ, ◌+◌, ◌<◌, ◌≤◌, List, [], ◌∷◌, ◌++◌, length, map}
use Rattle.std.specs.List.{AllByRecursion}
use Rattle.std.specs.declared.collections.VecDeque.{VecDeque}
use Rattle.std.specs.declared.alloc.Global.{Global}
use Rattle.ov_base.specs.Sums.{count_of}
use Rattle.ov_turn.specs.declared.inside.Inside.{Inside}
use Rattle.ov_turn.specs.Lists.{has, without}
use Rattle.ov_turn.specs.Seats.{Sight}
use Rattle.ov_turn.specs.Insides.{IsSame, IsSteady, share_in, kept_of, seen_in, own_in, holds_in, owes_in, live_in, dying_in, to_link_in, to_unlink_in, cells_in}
use Rattle.ov_model.specs.declared.act.Call.{Call}
use Rattle.ov_model.specs.declared.act.Act.{Act}
use Rattle.ov_model.specs.declared.act.Act.TheVariants as act
use Rattle.ov_model.specs.declared.entry.Entry.{Entry}
use Rattle.ov_model.specs.declared.hold.Owed.{Owed}
use Rattle.ov_model.specs.declared.place.Place.{Place}
use Rattle.ov_model.specs.declared.reply.HoldView.{HoldView}
use Rattle.ov_model.specs.declared.reply.Reply.{Reply}
use Rattle.ov_model.specs.declared.reply.Reply.TheVariants as reply
use Rattle.ov_model.specs.Events.{Event}
use Rattle.ov_model.specs.Step.{step, May}
use Rattle.ov_model.specs.Next.{is_killed}
use Rattle.ov_model.specs.Path.{spent_taken}
use Rattle.ov_path.specs.Desks.{stepped_as}
use Rattle.ov_table.specs.Recorded.{Recorded, entry_of, IsTold}
use Rattle.ov_table.specs.Cells.{key_cell, live_cells, dying_cells}
use Rattle.ov_ticket.specs.Within.{cell_of, IsSettled, IsAnswered, HasRoom}
use Rattle.ov_ticket.specs.Asks.{IsLow, HoldsKey, MayAsk, found_cells, got_cells, GotLow, Joined}

-- The seat has entered with what it had, and has seen the whole history. What it holds is live or dying, and what it owes
-- is dying.
pub record IsEntered (s : Sight Entry) (it : Inside Recorded Entry) : Type 0 where
  pub settled : IsSettled it
  pub share : share_in it ≡ s.share
  pub front : IsPrefix s.seen (seen_in it)
  pub own : own_in it ≡ s.own
  pub holds : holds_in it ≡ s.holds
  pub owes : owes_in it ≡ s.owes
  pub held : (c : ℕ) → 0 < count_of c (holds_in it) → has c (live_in it) + has c (dying_in it) ≡ 1
  pub owed_dies : (c : ℕ) → 0 < count_of c (owes_in it) → has c (dying_in it) ≡ 1
  pub once : (c : ℕ) → count_of c (owes_in it) ≤ 1

-- Inside, a step may be asked for.
pub record IsReady (it : Inside Recorded Entry) (a : Act) : Type 0 where
  pub settled : IsSettled it
  pub asks : MayAsk (holds_in it) (owes_in it) a
  pub held : (c : ℕ) → 0 < count_of c (holds_in it) → has c (live_in it) + has c (dying_in it) ≡ 1
  pub owed_dies : (c : ℕ) → 0 < count_of c (owes_in it) → has c (dying_in it) ≡ 1

-- What is left to unlink once a spent key was unlinked, where it was killed.
abbrev pub spent_left : Reply → ℕ → List ℕ → List ℕ
spent_left reply.Killed key cells = without (key_cell key) cells
spent_left _ key cells = cells

-- A step that is no command was made at the table. It left nothing to link, and these cells to unlink.
pub record IsAsked (it : Inside Recorded Entry) (gone : List ℕ) : Type 0 where
  pub cells : cells_in it ≡ 69632
  pub told : IsTold (kept_of it)
  pub history : (kept_of it).journal ≡ seen_in it
  pub live : live_cells (kept_of it).now ≡ live_in it
  pub dying : dying_cells (kept_of it).now ≡ dying_in it
  pub linked : to_link_in it ≡ []
  pub left : (c : ℕ) → has c (to_unlink_in it) ≡ count_of c gone

-- The peer and the key of a hold are live, and nothing is held yet.
pub record CanHold (h : HoldView) (it : Inside Recorded Entry) (held : List ℕ) : Type 0 where
  pub cells : cells_in it ≡ 69632
  pub peer : has h.peer (live_in it) ≡ 1
  pub key : has (key_cell h.key) (live_in it) ≡ 1
  pub low : h.peer < 4096
  pub linked : to_link_in it ≡ []
  pub free : holds_in it ≡ []
  pub new : held ≡ []

-- What a reply says is held may be held.
abbrev pub MayHold : Reply → Inside Recorded Entry → (held : List ℕ) → Type 0
MayHold (reply.Hold h) it held = CanHold h it held
MayHold _ it held = ⊤

-- A step was made at the table, and what it made, took out or found is left to link, to unlink or to hold.
abbrev pub MayTidy : Inside Recorded Entry → Act → Reply → (held : List ℕ) → VecDeque Owed Global → Type 0
MayTidy it (act.Do c) r held listed = IsAnswered it c r × HasRoom listed
MayTidy it (act.Spend peer key) r held listed = IsAsked it (map key_cell (spent_taken (is_killed r) key)) × HoldsKey (holds_in it) key
MayTidy it a r held listed = IsAsked it [] × MayHold r it held × (got_cells a r ≡ found_cells r)

-- After a step all is linked, unlinked and held that it left so.
pub record IsTidied (old new : Inside Recorded Entry) (a : Act) (r : Reply) (listed listed' : List Owed) : Type 0 where
  pub steady : IsSteady old new
  pub settled : IsSettled new
  pub joined : List Owed
  pub joins : Joined a r (kept_of old).taken joined
  pub low : AllByRecursion IsLow joined
  pub listed_are : listed' ≡ listed ++ joined
  pub owes : owes_in new ≡ owes_in old ++ map cell_of joined
  pub holds : holds_in new ≡ holds_in old ++ got_cells a r

-- A step was made, and is the seat's own entry.
pub record IsMade (old new : Inside Recorded Entry) (place : Place) (call : Call) (r : Reply) (event : Event) (listed listed' : List Owed) : Type 0 where
  pub settled : IsSettled new
  pub same : IsSame old new
  pub may : May (kept_of old).now call
  pub reply : r ≡ (step (kept_of old).now call).reply
  pub event_is : event ≡ stepped_as place call r (step (kept_of old).now call).taken
  pub seen : seen_in new ≡ seen_in old ++ entry_of (kept_of old).now place call ∷ []
  pub own : own_in new ≡ own_in old ++ (length (seen_in old), entry_of (kept_of old).now place call) ∷ []
  pub joined : List Owed
  pub joins : Joined call.act r (step (kept_of old).now call).taken joined
  pub listed_are : listed' ≡ listed ++ joined
  pub owes : owes_in new ≡ owes_in old ++ map cell_of joined
  pub holds : holds_in new ≡ holds_in old ++ got_cells call.act r
  pub low : GotLow call.act r
