-- What becomes of a text that is given to a page before a sink.
use Rattle.std.specs.Prelude.{ℕ, ◌+◌, ◌≡◌, ◌<◌, ◌≤◌, ◌⊎◌, List, [], ◌∷◌, ◌++◌, Option, length}
use Rattle.std.specs.Io.KnownBytes.{Appends}
use Rattle.ov_base.specs.Outside.{Rose}
use Rattle.ov_report.specs.declared.page.PrintStop.{PrintStop}
use Rattle.ov_report.specs.declared.page.PrintStop.TheVariants as stop

-- The lines of a list's members, numbered from a number on.
abbrev pub texts : {X : Type 0} → (ℕ → X → List ℕ) → ℕ → List X → List ℕ
texts line n [] = []
texts line n (x ∷ xs) = line n x ++ texts line (n + 1) xs

-- The bytes at which a page is full, and is written.
abbrev pub full_page : ℕ
full_page = 65536

-- The page held some bytes and was given a text: the sink took a part of both from the front, and the
-- rest is left. It took nothing before there was enough for a page.
pub record Passed (old new : Option (List ℕ)) (held text rest : List ℕ) : Type 0 where
  pub sent : List ℕ
  pub taken : Appends old new sent
  pub split : held ++ text ≡ sent ++ rest
  pub early : (sent ≡ []) ⊎ (full_page ≤ length (held ++ text))

-- The page couldn't take all of the text: some of it never came to the sink. Where a write failed, the
-- sink's count of faults rose.
pub record Stopped (why : PrintStop) (old new : Option (List ℕ)) (before now : ℕ) (held text : List ℕ) : Type 0 where
  pub rest : List ℕ
  pub passed : Passed old new held text rest
  pub some : 0 < length rest
  pub rose : why ≡ stop.Write → Rose before now
