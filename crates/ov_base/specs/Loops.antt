-- What of a text a sink may have taken.
use Rattle.std.specs.Prelude.{ℕ, List, Option, ◌<◌, length, take}
use Rattle.std.specs.Io.KnownBytes.{Appends}

-- what is written grew by the first bytes of the text, and not by all of it
abbrev pub AppendsPart : Option (List ℕ) → Option (List ℕ) → List ℕ → Type 0
AppendsPart old new text = (n : ℕ) × (n < length text) × Appends old new (take n text)
