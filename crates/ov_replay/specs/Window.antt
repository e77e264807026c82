-- What a window stands for: a list of accepted ids, which it does not keep.
use Rattle.std.specs.Prelude.{◌≡◌, ℕ, ◌+◌, ◌<◌, ◌≤◌, ◌==◌, List, [], ◌∷◌}
use Rattle.std.specs.List.{list_any}
use Rattle.ov_model.specs.Limits.{window_places}
use Rattle.ov_model.specs.Replay.{Accepted, greatest_id, floor_of}
use Rattle.ov_replay.specs.Marks.{is_marked}
use Rattle.ov_replay.specs.declared.window.Window.{Window}

-- The moment of the last accept, 0 where there is none.
abbrev pub last_moment : List Accepted → ℕ
last_moment [] = 0
last_moment (a ∷ []) = a.moment
last_moment (a ∷ b ∷ l) = last_moment (b ∷ l)

-- The window stands for the list and has the moment m. Its marks tell of each id that is within the places below the highest.
pub record Stands (w : Window) (l : List Accepted) (m : ℕ) : Type 0 where
  pub moment : w.moment ≡ m
  pub highest : w.highest ≡ greatest_id l
  pub last : w.last ≡ last_moment l
  pub floor : w.floor ≡ floor_of l (last_moment l)
  pub marks : (id : ℕ) → 0 < id → id ≤ w.highest → w.highest < id + window_places → is_marked w.marks id ≡ list_any (λ a. a.id == id) l
