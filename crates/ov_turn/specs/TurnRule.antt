-- The rule of the table's words, in all of which the views of all seats take part.
use Rattle.std.specs.Prelude.{◌≡◌, ℕ, ◌+◌, ◌%◌, ◌^◌, ◌<◌, ◌≤◌, true, false, List, [], length, slice_index}
use mathlib.Core.Option.{some}
use mathlib.Core.List.{IsPrefix}
use lib.ListN.{get_elem?}
use Rattle.atomic_table.specs.Table.{State}
use Rattle.ov_base.specs.Sums.{total, between, count_of}
use Rattle.ov_turn.specs.declared.view.View.{View}
use Rattle.ov_turn.specs.Lists.{AreOf}
use Rattle.ov_turn.specs.Views.{Lists, share, has_ticket, waits, is_inside, owns, holds, owes, lists_of, blank}
use Rattle.ov_turn.specs.HoldRule.{AreCells}

-- The kept value's lists while nobody is inside
abbrev pub at_rest : {S : Type 0} → (S → List ℕ) → (S → List ℕ) → S → Lists
at_rest live dying y = record { live = live y; dying = dying y; to_link = []; to_unlink = [] }

-- The first seat of a table has the whole share
abbrev pub whole : {I : Type 0} → ℕ → View I
whole count = blank count 4294967296 []

-- What holds of each view, where `served` is the ticket that is served, `log` the history and `lists` the cells
pub record Fits {I : Type 0} (count served : ℕ) (log : List I) (lists : Lists) (v : View I) : Type 0 where
  -- A view that another seat took in has nothing
  pub idle : v.share ≡ 0 → (v.queued ≡ false) × (v.own ≡ []) × (v.holds ≡ []) × (v.owes ≡ [])
  pub sized : 0 < v.share → v.cells ≡ count
  -- What was seen begins the history
  pub seen : IsPrefix v.seen log
  pub also : IsPrefix v.also log
  -- The seat inside has the ticket that is served, and knows the history and the cells
  pub inside : v.inside ≡ true → (v.queued ≡ true) × (v.ticket ≡ served) × (v.seen ≡ log) × (lists_of v ≡ lists)
  -- A seat holds a cell at most once
  pub once : (c : ℕ) → count_of c v.holds ≤ 1
  -- Its own entries are those that the history has at their positions
  pub entries : AreOf log v.own

-- The words are ticket, serving, length and the cells. The two counts of tickets go on beyond 2 ^ 64, and the words have them modulo 2 ^ 64
pub record IsTurned {S I : Type 0} (history : S → List I) (live dying : S → List ℕ) (count : ℕ) (s : State S (View I)) : Type 0 where
  pub served : ℕ
  pub drawn : ℕ
  pub log : List I
  pub lists : Lists
  pub wide : length s.words ≡ 3 + count
  pub slots : length s.homes ≡ 1
  pub tickets : slice_index s.words 0 ≡ drawn % 2 ^ 64
  pub serving : slice_index s.words 1 ≡ served % 2 ^ 64
  pub long : slice_index s.words 2 ≡ length log
  pub shares : total share s.views ≡ 4294967296
  -- The tickets from `served` up to but not including `drawn` are out, each with one seat, and no others
  pub out : (t : ℕ) → total (has_ticket t) s.views ≡ between served drawn t
  pub line : total waits s.views + served ≡ drawn
  -- The slot is at home unless a seat is inside, and the value in it has the history and the cells
  pub home : total is_inside s.views ≡ 0 → (y : S) × (get_elem? s.homes 0 ≡ some (some y)) × (history y ≡ log) × (at_rest live dying y ≡ lists)
  -- Each position of the history stands in exactly one seat's own entries, once
  pub once : (p : ℕ) → total (owns p) s.views ≡ between 0 (length log) p
  pub each : (id : ℕ) (v : View I) → get_elem? s.views id ≡ some v → Fits count served log lists v
  pub cells : AreCells count lists s.words (λ c. total (holds c) s.views) (λ c. total (owes c) s.views)
