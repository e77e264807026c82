-- No serial stands twice.
use Rattle.std.specs.Prelude.{ℕ, ◌+◌, ◌≤◌, ◌≡◌, List}
use Rattle.ov_model.specs.Removals.{times}

-- No serial stands twice in two lists together, and none from `made` on stands there: each was given once, in order.
pub record Apart (here there : List ℕ) (made : ℕ) : Type 0 where
  pub once : (x : ℕ) → times x here + times x there ≤ 1
  pub unmade : (x : ℕ) → made ≤ x → times x here + times x there ≡ 0
