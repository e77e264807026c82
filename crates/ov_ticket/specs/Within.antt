-- Under the lock: what the seat inside knows of the table, and what one step, its links and its unlinks make of it.
use Rattle.std.specs.Prelude.{◌≡◌, ℕ, ◌+◌, suc, ◌⊎◌, ◌<◌, ◌≤◌, List, [], ◌∷◌, ◌++◌, Option, Some, None, length, map}
use Rattle.std.specs.List.{AllByRecursion}
use Rattle.std.specs.VecDeque.{deque_capacity}
use Rattle.std.specs.declared.collections.VecDeque.{VecDeque}
use Rattle.std.specs.declared.alloc.Global.{Global}
use Rattle.ov_base.specs.Sums.{count_of}
use Rattle.ov_turn.specs.declared.inside.Inside.{Inside}
use Rattle.ov_turn.specs.Lists.{has, still}
use Rattle.ov_turn.specs.Insides.{IsSame, IsSteady, kept_of, seen_in, own_in, holds_in, owes_in, live_in, dying_in, to_link_in, to_unlink_in, cells_in}
use Rattle.ov_model.specs.declared.act.Call.{Call}
use Rattle.ov_model.specs.declared.act.Act.TheVariants as act
use Rattle.ov_model.specs.declared.entry.Entry.{Entry}
use Rattle.ov_model.specs.declared.command.Command.{Command}
use Rattle.ov_model.specs.declared.hold.Owed.{Owed}
use Rattle.ov_model.specs.declared.hold.Owed.TheVariants as owed
use Rattle.ov_model.specs.declared.place.Place.{Place}
use Rattle.ov_model.specs.declared.reply.Reply.{Reply}
use Rattle.ov_model.specs.Step.{step}
use Rattle.ov_model.specs.Events.{Step, step_of, releases}
use Rattle.ov_model.specs.Removals.{times}
use Rattle.ov_model.specs.Tables.{Table, serials_of, key_serials}
use Rattle.ov_model.specs.Path.{SomeOf, SomeOwed, removed}
use Rattle.ov_table.specs.Recorded.{Recorded, entry_of, stepped, IsTold}
use Rattle.ov_table.specs.Cells.{key_cell, live_cells, dying_cells, made_cells, gone_cells}

-- The cell of what is owed.
abbrev pub cell_of : Owed → ℕ
cell_of (owed.Peer p) = p
cell_of (owed.Key k) = key_cell k

-- The call that lets a peer or a key go.
abbrev pub release_call : ℕ → Owed → Call
release_call at (owed.Peer p) = record { at = at; act = act.Released p }
release_call at (owed.Key k) = record { at = at; act = act.KeyReleased k }

-- The cell, where there is one.
abbrev pub cell_list : Option ℕ → List ℕ
cell_list None = []
cell_list (Some c) = c ∷ []

-- Entries that stand in a history from a position on.
abbrev pub from_position : ℕ → List Entry → List (ℕ × Entry)
from_position p [] = []
from_position p (e ∷ es) = (p, e) ∷ from_position (suc p) es

-- The entries of some steps.
abbrev pub entries_of : List Step → List Entry
entries_of steps = map (λ s. s.entry) steps

-- The table is as at the last append, or as it was found, and nothing is left to link or to unlink.
pub record IsSettled (it : Inside Recorded Entry) : Type 0 where
  pub cells : cells_in it ≡ 69632
  pub told : IsTold (kept_of it)
  pub history : (kept_of it).journal ≡ seen_in it
  pub live : live_cells (kept_of it).now ≡ live_in it
  pub dying : dying_cells (kept_of it).now ≡ dying_in it
  pub linked : to_link_in it ≡ []
  pub unlinked : to_unlink_in it ≡ []

-- Nothing happened.
pub record IsUntouched (old new : Inside Recorded Entry) : Type 0 where
  pub steady : IsSteady old new
  pub holds : holds_in new ≡ holds_in old
  pub owes : owes_in new ≡ owes_in old
  pub link : to_link_in new ≡ to_link_in old
  pub unlink : to_unlink_in new ≡ to_unlink_in old

-- A call was made at the table, and its entry is the seat's. What was made is left to link, and what is gone to unlink.
pub record IsCounted (old new : Inside Recorded Entry) (place : Place) (call : Call) : Type 0 where
  pub same : IsSame old new
  pub told : IsTold (kept_of new)
  pub kept : kept_of new ≡ stepped (kept_of old) place call
  pub seen : seen_in new ≡ seen_in old ++ entry_of (kept_of old).now place call ∷ []
  pub own : own_in new ≡ own_in old ++ (length (seen_in old), entry_of (kept_of old).now place call) ∷ []
  pub history : (kept_of new).journal ≡ seen_in new
  pub live : live_cells (kept_of new).now ≡ live_in new
  pub dying : dying_cells (kept_of new).now ≡ dying_in new
  pub holds : holds_in new ≡ holds_in old
  pub owes : owes_in new ≡ still (dying_in new) (owes_in old)
  pub made : (c : ℕ) → has c (to_link_in new) ≡ count_of c (made_cells call.act (step (kept_of old).now call).reply)
  pub gone : (c : ℕ) → has c (to_unlink_in new) ≡ count_of c (gone_cells (step (kept_of old).now call).taken (step (kept_of old).now call).reply)

-- What was gone is owed and listed, or somebody holds it still.
abbrev pub OwesOne : Owed → (owes owes' : List ℕ) → (listed listed' : List Owed) → Type 0
OwesOne gone owes owes' listed listed' =
    ((owes' ≡ owes ++ cell_of gone ∷ []) × (listed' ≡ listed ++ gone ∷ [])) ⊎ ((owes' ≡ owes) × (listed' ≡ listed))

-- The cells of some keys, or of some peers, by their serials.
abbrev pub cells_as : (kind : ℕ → Owed) → List ℕ → List ℕ
cells_as kind serials = map (λ s. cell_of (kind s)) serials

-- Of some serials those are owed and listed that nobody holds, in their order.
pub record OwesSome (kind : ℕ → Owed) (serials owes owes' : List ℕ) (listed listed' : List Owed) : Type 0 where
  pub some : List ℕ
  pub of : SomeOf serials some
  pub owes_are : owes' ≡ owes ++ cells_as kind some
  pub listed_are : listed' ≡ listed ++ map kind some

-- The keys, or the peers, with these serials are unlinked.
pub record IsUnlinked (kind : ℕ → Owed) (serials : List ℕ) (old new : Inside Recorded Entry) (listed listed' : List Owed) : Type 0 where
  pub steady : IsSteady old new
  pub holds : holds_in new ≡ holds_in old
  pub link : to_link_in new ≡ to_link_in old
  pub unlink : (c : ℕ) → has c (to_unlink_in new) + count_of c (cells_as kind serials) ≡ has c (to_unlink_in old)
  pub owes : OwesSome kind serials (owes_in old) (owes_in new) listed listed'
  pub few : length listed' ≤ length listed + length serials

-- They are left to unlink, and there is room to list them.
pub record MayUnlink (kind : ℕ → Owed) (serials : List ℕ) (it : Inside Recorded Entry) (listed : List Owed) (room : ℕ) : Type 0 where
  pub cells : cells_in it ≡ 69632
  pub left : (c : ℕ) → count_of c (cells_as kind serials) ≤ has c (to_unlink_in it)
  pub fits : length listed + length serials ≤ room

-- It is on its way out: among the dying peers, or among the retired keys.
abbrev pub IsOut : Table → Owed → Type 0
IsOut t (owed.Peer p) = 0 < times p (serials_of t.dying)
IsOut t (owed.Key k) = 0 < times k (key_serials t.retired)

-- These releases are what the seat owes, each once.
pub record IsReleasing (os : List Owed) (it : Inside Recorded Entry) : Type 0 where
  pub settled : IsSettled it
  pub owes : owes_in it ≡ map cell_of os
  pub once : (c : ℕ) → count_of c (owes_in it) ≤ 1
  pub out : AllByRecursion (IsOut (kept_of it).now) os

-- A command was made at the table, and what it made and took out is left to link and to unlink.
pub record IsAnswered (it : Inside Recorded Entry) (command : Command) (r : Reply) : Type 0 where
  pub cells : cells_in it ≡ 69632
  pub told : IsTold (kept_of it)
  pub history : (kept_of it).journal ≡ seen_in it
  pub live : live_cells (kept_of it).now ≡ live_in it
  pub dying : dying_cells (kept_of it).now ≡ dying_in it
  pub owes : owes_in it ≡ []
  pub made : (c : ℕ) → has c (to_link_in it) ≡ count_of c (made_cells (act.Do command) r)
  pub gone : (c : ℕ) → has c (to_unlink_in it) ≡ count_of c (gone_cells (kept_of it).taken r)
  pub peers : (x : ℕ) → times x (removed r) ≤ times x (serials_of (kept_of it).now.dying)
  pub keys : (x : ℕ) → times x (kept_of it).taken ≤ times x (key_serials (kept_of it).now.retired)

-- Nothing is listed, and there is room for as many as there are cells.
pub record HasRoom (owed : VecDeque Owed Global) : Type 0 where
  pub nothing : owed.items ≡ []
  pub room : 69632 ≤ deque_capacity owed

-- These entries and no others came behind those that were seen, and they are the seat's own.
pub record HasMade (made : List Entry) (old new : Inside Recorded Entry) : Type 0 where
  pub same : IsSame old new
  pub holds : holds_in new ≡ holds_in old
  pub seen : seen_in new ≡ seen_in old ++ made
  pub own : own_in new ≡ own_in old ++ from_position (length (seen_in old)) made

-- What a command makes at a table: its step, and the releases of what it took out and nobody held.
abbrev pub made_by : Table → Place → ℕ → Command → List Owed → List Step
made_by t place at command os =
    let call : Call = record { at = at; act = act.Do command } in
    step_of place at (act.Do command) (step t call).reply (step t call).taken ∷ releases place at os

-- A command was served, and all that it left to the seat is released.
pub record IsServed (old new : Inside Recorded Entry) (place : Place) (at : ℕ) (command : Command) (r : Reply) : Type 0 where
  pub os : List Owed
  pub settled : IsSettled new
  pub owes : owes_in new ≡ []
  pub reply : r ≡ (step (kept_of old).now (record { at = at; act = act.Do command })).reply
  pub some : SomeOwed (step (kept_of old).now (record { at = at; act = act.Do command })).taken (removed r) os
  pub made : HasMade (entries_of (made_by (kept_of old).now place at command os)) old new
