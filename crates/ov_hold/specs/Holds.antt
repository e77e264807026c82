-- Who owes a release, and which cells a `Held` has.
use Rattle.std.specs.Prelude.{◌≡◌, ℕ, ◌<◌, List, [], ◌∷◌, ◌++◌}
use Rattle.ov_base.specs.Sums.{count_of}
use Rattle.ov_model.specs.declared.hold.Given.{Given}
use Rattle.ov_model.specs.declared.hold.Given.TheVariants.{More, Last}
use Rattle.ov_turn.specs.Lists.{has}

-- whoever is told Last owes the release of the cell beside what it owed, and whoever is told More owes what it owed
abbrev pub Owes : Given → ℕ → List ℕ → List ℕ → Type 0
Owes Last c before after = after ≡ before ++ c ∷ []
Owes More c before after = after ≡ before

-- each of these cells is held by the seat that holds those
abbrev pub AreHeld : List ℕ → List ℕ → Type 0
AreHeld held holds = (c : ℕ) → has c held ≡ 1 → 0 < count_of c holds
