-- What a seat's view becomes at each step, and what the step tells.
use Rattle.std.specs.Prelude.{◌≡◌, ℕ, ◌+◌, ◌-◌, ◌<◌, ◌≤◌, [], ◌∷◌, ◌++◌, None, Some}
use Rattle.atomic_table.specs.Table.{Me, Step}
use Rattle.ov_draw.specs.Drawer.{times, IsAbove, IsEnded}
use Rattle.ov_draw.specs.declared.hand.Hand.{Hand}

-- the first seat of counters that begin at `first`
abbrev pub whole : ℕ → Hand
whole first = record { share = 4294967296; first = first; drawn = []; spent = []; standing = None }

-- the seat found ids left of the key k, and has yet to add
abbrev pub with_standing : Hand → ℕ → Hand
with_standing v k = record v { standing = Some k }

-- the seat has drawn the id n of the key k
abbrev pub with_draw : Hand → ℕ → ℕ → Hand
with_draw v k n = record v { drawn = v.drawn ++ (k, n) ∷ []; standing = None }

-- the seat found no id left of the key k
abbrev pub with_spent : Hand → ℕ → Hand
with_spent v k = record v { spent = v.spent ++ k ∷ []; standing = None }

-- the seat after a split
abbrev pub kept_part : Hand → Hand
kept_part v = record v { share = v.share - 1 }

-- the new seat of a split
abbrev pub new_part : Hand → Hand
new_part v = record { share = 1; first = v.first; drawn = []; spent = []; standing = None }

-- the seat after a join: it has what both had
abbrev pub both_parts : Hand → Hand → Hand
both_parts v w = record v { share = v.share + w.share; drawn = v.drawn ++ w.drawn; spent = v.spent ++ w.spent }

-- the seat that was joined into another
abbrev pub spent_part : Hand
spent_part = record { share = 0; first = 0; drawn = []; spent = []; standing = None }

-- a seat as the steps see it
abbrev pub Sat : Type 0
Sat = Me (Unit {0}) Hand

-- the load: the seat found ids left of the key, or none
abbrev pub looked : Step (Unit {0}) → Sat → ℕ → Sat → Type 0
looked st m n w = (w.1 ≡ m.1) × (n < 4294967296 → w.0 ≡ with_standing m.0 st.word) × (4294967296 ≤ n → w.0 ≡ with_spent m.0 st.word)

-- the addition: it gave the number that it found, which is above all draws of this key before, or there
-- was none left
abbrev pub took : Step (Unit {0}) → Sat → ℕ → Sat → Type 0
took st m n w = (w.1 ≡ m.1) × (n < 4294967296 → (w.0 ≡ with_draw m.0 st.word n) × (m.0.first ≤ n) × IsAbove st.word n m.0.drawn) × (4294967296 ≤ n → w.0 ≡ with_spent m.0 st.word)

-- the load after a join: no draw stands twice in what the seat has
abbrev pub compared : Step (Unit {0}) → Sat → ℕ → Sat → Type 0
compared st m n w = (w ≡ m) × ((k x : ℕ) → times k x m.0.drawn ≤ 1)

-- the last load: the draws of the one seat that is left are all draws
abbrev pub settled : Step (Unit {0}) → Sat → ℕ → Sat → Type 0
settled st m n w = (w ≡ m) × IsEnded m.0.first m.0.drawn m.0.spent
