-- The rule of the cells.
use Rattle.std.specs.Prelude.{◌≡◌, ℕ, ◌+◌, ◌*◌, ◌<◌, ◌≤◌, List, slice_index}
use Rattle.ov_base.specs.Sums.{count_of}
use Rattle.ov_turn.specs.Lists.{has}
use Rattle.ov_turn.specs.Views.{Lists}

-- One cell: whether it is listed live, dying, left to link and left to unlink (1 or 0), its word, how many seats hold it, and how many owe its release
pub record IsCell (count c live dying to_link to_unlink word held owed : ℕ) : Type 0 where
  -- The word is twice the number of seats that hold the cell, plus one while it is linked: where it is live and not left to link, or left to unlink
  pub counted : c < count → word + to_link ≡ 2 * held + live + to_unlink
  pub apart : live + dying ≤ 1
  pub linking : to_link ≤ live
  pub unlinking : to_unlink ≤ dying
  -- Only cells of the table are listed
  pub small : count ≤ c → live + dying ≡ 0
  -- A cell that is held is live or dying
  pub known : 0 < held → live + dying ≡ 1
  -- Nobody holds a cell that is left to link
  pub fresh : 0 < to_link → held ≡ 0
  -- A dying cell at 0 is owed by exactly one seat, and no other cell is owed
  pub owed_one : dying ≡ 1 → word ≡ 0 → owed ≡ 1
  pub owed_none : 0 < owed → (dying ≡ 1) × (word ≡ 0)

-- All cells: the lists are those of the kept value, or what the seat inside knows of it since its last append. The cells' words begin at 3
abbrev pub AreCells : ℕ → Lists → List ℕ → (ℕ → ℕ) → (ℕ → ℕ) → Type 0
AreCells count lists words held owed =
    (c : ℕ) → IsCell count c (has c lists.live) (has c lists.dying) (has c lists.to_link) (has c lists.to_unlink) (slice_index words (3 + c)) (held c) (owed c)

-- What may become of the live and the dying cells with one entry, by a seat that owes the releases `owed`
pub record MayBecome (count : ℕ) (live dying owed live' dying' : List ℕ) : Type 0 where
  pub apart : (c : ℕ) → has c live' + has c dying' ≤ 1
  -- A cell that becomes live is a cell of the table and was neither live nor dying
  pub to_live : (c : ℕ) → has c live' ≡ 1 → has c live ≡ 0 → (c < count) × (has c dying ≡ 0)
  -- A cell that becomes dying was live
  pub to_dying : (c : ℕ) → has c dying' ≡ 1 → has c dying ≡ 0 → has c live ≡ 1
  -- A cell that leaves the live ones becomes dying
  pub from_live : (c : ℕ) → has c live ≡ 1 → has c live' ≡ 0 → has c dying' ≡ 1
  -- A cell that leaves the dying ones is owed by the seat
  pub from_dying : (c : ℕ) → has c dying ≡ 1 → has c dying' ≡ 0 → 0 < count_of c owed
