-- The draw rule: what holds of the counter words and of the views of all seats between any two steps.
use Rattle.std.specs.Prelude.{◌≡◌, ℕ, ◌+◌, ◌<◌, ◌≤◌, ◌==◌, if◌then◌else◌, min, List, [], length, Contains, slice_index, Option, None, Some}
use mathlib.Core.Option.{some}
use lib.ListN.{get_elem?}
use Rattle.atomic_table.specs.Table.{State}
use Rattle.ov_base.specs.Sums.{total, between}
use Rattle.ov_draw.specs.Drawer.{times}
use Rattle.ov_draw.specs.declared.hand.Hand.{Hand}

-- a seat's share
abbrev pub share : Hand → ℕ
share v = v.share

-- how often the id n of the key k stands in a seat's draws
abbrev pub draws_of : ℕ → ℕ → Hand → ℕ
draws_of k n v = times k n v.drawn

-- 1 where that key is k, else 0
abbrev pub stands_in : ℕ → Option ℕ → ℕ
stands_in k None = 0
stands_in k (Some j) = if j == k then 1 else 0

-- 1 for a seat that stands between its load of the key's word and its addition to it, else 0
abbrev pub stands_at : ℕ → Hand → ℕ
stands_at k v = stands_in k v.standing

-- one seat's view. A seat that was joined into another has no share, and nothing else
pub record Fits (first : ℕ) (words : List ℕ) (v : Hand) : Type 0 where
  pub left : v.share ≡ 0 → (v.drawn ≡ []) × (v.spent ≡ []) × (v.standing ≡ None)
  pub begins : 0 < v.share → v.first ≡ first
  -- where a seat has a key among its spent keys, that key's word is at 4294967296 or above
  pub ended : (k : ℕ) → Contains v.spent k → 4294967296 ≤ slice_index words k

-- the rule: what holds of the words and of all views
pub record Kept (first count : ℕ) (s : State (Unit {0}) Hand) : Type 0 where
  -- a word for each key, at `first` or above
  pub wide : length s.words ≡ count
  pub low : (k : ℕ) → k < count → first ≤ slice_index s.words k
  -- the shares of all seats are together 4294967296
  pub shares : total share s.views ≡ 4294967296
  -- each number from `first` up to but not including the lesser of the word and 4294967296 stands in exactly one seat's draws, once, and no other number stands in any
  pub once : (k n : ℕ) → total (draws_of k n) s.views ≡ between first (min (slice_index s.words k) 4294967296) n
  -- no word wraps: it and the seats that stand at it are at most 8589934591
  pub room : (k : ℕ) → slice_index s.words k + total (stands_at k) s.views ≤ 8589934591
  pub each : (id : ℕ) (v : Hand) → get_elem? s.views id ≡ some v → Fits first s.words v
