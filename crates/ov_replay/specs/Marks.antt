-- What a ring of marks tells of a packet id.
use Rattle.std.specs.Prelude.{◌≡◌, ◌≢◌, ℕ, ◌%◌, ◌/◌, Bool, ◌==◌, slice_index}
use Rattle.std.specs.Int.{bit_at}
use Rattle.ov_model.specs.Limits.{window_places}
use Rattle.ov_replay.specs.declared.marks.Marks.{Marks}

-- Whether the place of an id, which it shares with each id that is as many places away as there are, is marked.
unfoldable pub is_marked : Marks → ℕ → Bool
is_marked marks id = bit_at (slice_index marks.words (id % window_places / 64)) (id % window_places % 64) == 1

-- Each id with another place is marked as before.
abbrev pub KeepsOthers : Marks → Marks → ℕ → Type 0
KeepsOthers old new id = (other : ℕ) → other % window_places ≢ id % window_places → is_marked new other ≡ is_marked old other
