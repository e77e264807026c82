-- Those that are gone, in the order in which they joined.
use Rattle.std.specs.Prelude.{ℕ, ◌≡◌, ◌+◌, suc, List, [], ◌∷◌, length, Bool, false, ◌==◌, if◌then◌else◌, Option, Some, None, slice_get}
use Rattle.ov_index.specs.Index.{present, standing}

-- Those that are gone; how many more may join; and the number below which the serials of those lie that may join.
pub record Listed (X : Type 0) : Type 0 where
  pub items : List X
  pub room : ℕ
  pub serials : ℕ

-- Whether one has this serial.
abbrev pub has_number : {X : Type 0} → (X → ℕ) → ℕ → X → Bool
has_number serial_of serial x = serial_of x == serial

-- Whether one is there and has this serial.
abbrev pub is_number : {X : Type 0} → (X → ℕ) → ℕ → Option X → Bool
is_number serial_of serial None = false
is_number serial_of serial (Some x) = serial_of x == serial

-- A place, where there is one and the one with this serial stands there.
abbrev pub place_if : {X : Type 0} → (X → ℕ) → List (Option X) → ℕ → Option ℕ → Option ℕ
place_if serial_of slots serial None = None
place_if serial_of slots serial (Some k) = if is_number serial_of serial (standing slots k) then Some k else None

-- The place that a serial leads to, where the one with this serial stands there.
abbrev pub place_in : {X : Type 0} → (X → ℕ) → List ℕ → List (Option X) → ℕ → Option ℕ
place_in serial_of places slots serial = place_if serial_of slots serial (slice_get places serial)

-- How many holes stand in front of the first that is there.
abbrev pub holes_in_front : {X : Type 0} → List (Option X) → ℕ
holes_in_front [] = 0
holes_in_front (None ∷ slots) = suc (holes_in_front slots)
holes_in_front (Some x ∷ slots) = 0

-- Each one's serial leads to its place, and the holes are counted right: those in front, and all.
pub record IsListed {X : Type 0} (serial_of : X → ℕ) (places : List ℕ) (slots : List (Option X)) (front holes : ℕ) : Type 0 where
  pub known : (k : ℕ) (x : X) → slice_get slots k ≡ Some (Some x) → slice_get places (serial_of x) ≡ Some k
  pub leading : front ≡ holes_in_front slots
  pub counted : holes + length (present slots) ≡ length slots
