-- The field of SP 800-38D, section 6.3: polynomials in x whose coefficients are zero (false) and one
-- (true), modulo 1 + x + x^2 + x^7 + x^128. A polynomial is the list of its coefficients, that of x^0
-- first; those past the list's end are zero.
use Rattle.std.specs.Prelude.{ℕ, zero, suc, Bool, true, false, not, List, [], ◌∷◌, take, replicate}
use Rattle.std.specs.Prelude.{slice_index_or}

-- the sum of two coefficients, without carry
unfoldable pub add : Bool → Bool → Bool
add true b = not b
add false b = b

-- the sum of two polynomials
unfoldable pub plus : List Bool → List Bool → List Bool
plus [] q = q
plus (a ∷ p) [] = a ∷ p
plus (a ∷ p) (b ∷ q) = add a b ∷ plus p q

-- a coefficient times a polynomial
unfoldable pub scaled : Bool → List Bool → List Bool
scaled true q = q
scaled false q = []

-- the whole product of two polynomials, before the remainder is taken
unfoldable pub product : List Bool → List Bool → List Bool
product [] q = []
product (a ∷ p) q = plus (scaled a q) (false ∷ product p q)

-- what x^128 is modulo the field's polynomial: 1 + x + x^2 + x^7, the standard's block R
unfoldable pub overflow : List Bool
overflow =
    true ∷ true ∷ true ∷ false ∷ false ∷ false ∷ false ∷ true ∷ replicate 120 false

-- x times a remainder: each coefficient moves up by one, and that of x^127 counts as x^128
unfoldable pub raised : List Bool → List Bool
raised r = plus (false ∷ take 127 r) (scaled (slice_index_or r 127 false) overflow)

-- the remainder modulo the field's polynomial, which has 128 coefficients
unfoldable pub remainder : List Bool → List Bool
remainder [] = replicate 128 false
remainder (c ∷ p) = plus (c ∷ replicate 127 false) (raised (remainder p))

-- the product in the field (section 6.3, its sign •)
unfoldable pub times : List Bool → List Bool → List Bool
times p q = remainder (product p q)

-- the power of a polynomial in the field
unfoldable pub power : List Bool → ℕ → List Bool
power h zero = true ∷ replicate 127 false
power h (suc k) = times h (power h k)

-- the polynomial x
unfoldable pub variable : List Bool
variable = false ∷ true ∷ replicate 126 false
