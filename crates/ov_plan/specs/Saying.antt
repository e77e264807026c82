-- What words ask the program to say of itself.
use Rattle.std.specs.Prelude.{ℕ, ◌≡◌, ◌⊎◌, List, [], ◌∷◌, codes}
use Rattle.ov_plan.specs.declared.saying.About.{About}
use Rattle.ov_plan.specs.declared.saying.About.TheVariants.{Help, Version}

-- The words for the help and for the version.
abbrev pub Names : About → List ℕ → Type 0
Names Help word = (word ≡ codes "--help") ⊎ (word ≡ codes "-h")
Names Version word = word ≡ codes "--version"

-- Words ask for it: they are one of its words, alone.
abbrev pub Asks : List (List ℕ) → About → Type 0
Asks words it = (word : List ℕ) × (words ≡ word ∷ []) × Names it word
