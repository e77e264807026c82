-- What each step tells its seat: of the step, the seat before, the number found and the seat after.
use Rattle.std.specs.Prelude.{◌≡◌, ◌≢◌, ℕ, ◌+◌, ◌-◌, ◌%◌, ◌^◌, ◌<◌, ◌≤◌, ◌⊎◌, true, false, List, [], ◌∷◌, ◌++◌, length}
use mathlib.Core.List.{IsPrefix}
use Rattle.atomic_table.specs.Table.{Me, Step, rest}
use Rattle.ov_base.specs.Sums.{count_of}
use Rattle.ov_turn.specs.declared.view.View.{View}
use Rattle.ov_turn.specs.Lists.{has, newly, still}
use Rattle.ov_turn.specs.Views.{blank, lists_fit}

module _ {I : Type 0} where
  -- with the ticket t
  abbrev pub in_line : View I → ℕ → View I
  in_line v t = record v { queued = true; ticket = t }

  -- inside, where the history and the cells are these
  abbrev pub entered : View I → List I → List ℕ → List ℕ → View I
  entered v log live dying = record v { inside = true; seen = log; live = live; dying = dying; to_link = []; to_unlink = [] }

  -- with one entry more, at the end of what was seen
  abbrev pub appended : View I → I → List ℕ → List ℕ → View I
  appended v x live dying = record v {
    seen = v.seen ++ x ∷ [];
    own = v.own ++ (length v.seen, x) ∷ [];
    owes = still dying v.owes;
    live = live;
    dying = dying;
    to_link = newly v.live live;
    to_unlink = newly v.dying dying;
  }

  -- outside again
  abbrev pub outside : View I → View I
  outside v = record v { queued = false; inside = false; live = []; dying = []; to_link = []; to_unlink = [] }

  -- with other holds, other owed cells and other cells to link and to unlink
  abbrev pub holding : View I → List ℕ → List ℕ → List ℕ → List ℕ → View I
  holding v held owed to_link to_unlink = record v { holds = held; owes = owed; to_link = to_link; to_unlink = to_unlink }

  -- the seat after a split
  abbrev pub first_part : View I → View I
  first_part v = record v { share = v.share - 1 }

  -- the new seat of a split
  abbrev pub second_part : View I → View I
  second_part v = blank v.cells 1 v.seen

  -- the seat after a join: it has what both had
  abbrev pub both_parts : View I → View I → View I
  both_parts v w = record v { share = v.share + w.share; also = w.seen; own = v.own ++ w.own; holds = v.holds ++ w.holds; owes = v.owes ++ w.owes }

  -- the seat that was joined into another
  abbrev pub no_part : View I
  no_part = blank 0 0 []

module _ {S I : Type 0} where
  -- the seat has drawn its ticket
  abbrev pub queues : Step S → Me S (View I) → ℕ → Me S (View I) → Type 0
  queues st m n w = (t : ℕ) × (n ≡ t % 2 ^ 64) × (w ≡ (in_line m.0 t, m.1))

  -- the seat is outside, and the slot has the kept value again
  abbrev pub leaves : Step S → Me S (View I) → ℕ → Me S (View I) → Type 0
  leaves st m n w = w ≡ (outside m.0, rest m.1)

  -- the longer of the two histories is seen, and both begin it; and no cell is owed twice
  abbrev pub meets : Step S → Me S (View I) → ℕ → Me S (View I) → Type 0
  meets st m n w =
      (w ≡ (record m.0 { seen = w.0.seen; also = [] }, m.1))
      × IsPrefix m.0.seen w.0.seen
      × IsPrefix m.0.also w.0.seen
      × ((w.0.seen ≡ m.0.seen) ⊎ (w.0.seen ≡ m.0.also))
      × ((c : ℕ) → count_of c m.0.owes ≤ 1)

module _ {S I : Type 0} (history : S → List I) (live dying : S → List ℕ) where
  -- the seat's ticket is served: it has the kept value y, whose history begins with what was seen and which lists the cells that the seat holds and owes, each owed once
  abbrev pub Enters : Me S (View I) → Me S (View I) → S → Type 0
  Enters m w y =
      (w ≡ (entered m.0 (history y) (live y) (dying y), (0, y) ∷ m.1))
      × IsPrefix m.0.seen (history y)
      × ((c : ℕ) → 0 < count_of c m.0.holds → has c (live y) + has c (dying y) ≡ 1)
      × ((c : ℕ) → 0 < count_of c m.0.owes → has c (dying y) ≡ 1)
      × ((c : ℕ) → count_of c m.0.owes ≤ 1)
      × (lists_fit w.0 ≡ true)

  -- the seat has the kept value, where the ticket that is served is its own
  abbrev pub enters : Step S → Me S (View I) → ℕ → Me S (View I) → Type 0
  enters st m n w = (n ≡ m.0.ticket % 2 ^ 64 → (y : S) × Enters m w y) × (n ≢ m.0.ticket % 2 ^ 64 → w ≡ m)

  -- the kept value's history is what was seen and one entry more
  abbrev pub appends : Step S → Me S (View I) → ℕ → Me S (View I) → Type 0
  appends st m n w =
      (y : S) (x : I)
      → m.1 ≡ (0, y) ∷ []
      → history y ≡ m.0.seen ++ x ∷ []
      → (w ≡ (appended m.0 x (live y) (dying y), m.1)) × (lists_fit w.0 ≡ true)
