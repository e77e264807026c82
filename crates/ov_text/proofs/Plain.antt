-- Digits and addresses have no character that a JSON text escapes.
use Rattle.std.proofs.Common.{ℕ, zero, suc, ◌≡◌, ◌<◌, ◌/◌, ◌%◌, ◌∙◌, List, [], ◌∷◌, ◌++◌, get_or, slice_index, refl, sym, ap, append_assoc, arith, inl, inr, Fits, w8}
use Rattle.std.specs.Prelude.{codes, decimal}
use Rattle.std.specs.Fmt.{digits}
use Rattle.std.specs.Net.Text.{ipv4_text}
use Rattle.std.proofs.lemmas.Bool.{cases_lt}
use Rattle.std.proofs.lemmas.List.Concat.{flat_map-append}
use Rattle.json.specs.Print.{escape, escape_byte}
use Rattle.hex.specs.Hex.{encode_lower, encode_with, lower_digits}
use Rattle.serde_json.proofs.OnLiterals.{serde_json_on_literals}

-- The values of a function on the numbers below a bound, from the greatest on.
abbrev values : (ℕ → List ℕ) → ℕ → List (List ℕ)
values f zero = []
values f (suc n) = f n ∷ values f n

-- Two functions with the same values agree on each number.
agree_below : (f g : ℕ → List ℕ) (n k : ℕ) → values f n ≡ values g n → k < n → f k ≡ g k
agree_below f g zero k same below = absurd (omega arith)
agree_below f g (suc n) k same below =
    let first : f n ≡ g n = cc in
    let more : values f n ≡ values g n = cc in
    elim (cases_lt k n) [
      | inl less ↦ agree_below f g n k more less
      | inr top ↦ let e : k ≡ n = omega arith in rw e first
    ]

escape-append : (a b : List ℕ) → escape (a ++ b) ≡ escape a ++ escape b
escape-append a b = flat_map-append escape_byte a b

both_plain : (a b : List ℕ) → escape a ≡ a → escape b ≡ b → escape (a ++ b) ≡ a ++ b
both_plain a b x y = escape-append a b ∙ rw (x, y) refl

-- A digit of a byte, and a byte in decimal.
digit_plain : (k : ℕ) → k < 16 → escape (slice_index lower_digits k ∷ []) ≡ slice_index lower_digits k ∷ []
unfolding serde_json_on_literals
digit_plain k below = agree_below (λ j. escape (slice_index lower_digits j ∷ [])) (λ j. slice_index lower_digits j ∷ []) 16 k refl below

pub decimal_plain : (k : ℕ) → k < 256 → escape (decimal k) ≡ decimal k
unfolding serde_json_on_literals digits
decimal_plain k below = agree_below (λ j. escape (decimal j)) decimal 256 k refl below

-- The digits of bytes.
pub digits_plain : (bytes : List ℕ) → ((k : ℕ) → Fits w8 (get_or bytes k 0)) → escape (encode_lower bytes) ≡ encode_lower bytes
unfolding encode_with
digits_plain [] fits = refl
digits_plain (b ∷ bytes) fits =
    let byte : Fits w8 b = fits 0 in
    let high : escape (slice_index lower_digits (b / 16) ∷ []) ≡ slice_index lower_digits (b / 16) ∷ [] = digit_plain (b / 16) (omega (arith, byte.fits)) in
    let low : escape (slice_index lower_digits (b % 16) ∷ []) ≡ slice_index lower_digits (b % 16) ∷ [] = digit_plain (b % 16) (omega arith) in
    both_plain (slice_index lower_digits (b / 16) ∷ []) (slice_index lower_digits (b % 16) ∷ encode_lower bytes) high
    (both_plain (slice_index lower_digits (b % 16) ∷ []) (encode_lower bytes) low (digits_plain bytes (λ k. fits (suc k))))

-- An IPv4 address in dotted decimal.
dot_plain : escape (codes ".") ≡ codes "."
unfolding serde_json_on_literals
dot_plain = refl

abbrev octet : List ℕ → ℕ → List ℕ
octet o k = decimal (slice_index o k)

pub ipv4_parts : (o : List ℕ) → ipv4_text o ≡ octet o 0 ++ (codes "." ++ (octet o 1 ++ (codes "." ++ (octet o 2 ++ (codes "." ++ octet o 3)))))
ipv4_parts o = simp append_assoc

pub ipv4_plain : (o : List ℕ) → escape (octet o 0) ≡ octet o 0 → escape (octet o 1) ≡ octet o 1 → escape (octet o 2) ≡ octet o 2 → escape (octet o 3) ≡ octet o 3 → escape (ipv4_text o) ≡ ipv4_text o
ipv4_plain o a b c d =
    ap escape (ipv4_parts o)
    ∙ both_plain (octet o 0) _ a (both_plain (codes ".") _ dot_plain (both_plain (octet o 1) _ b (both_plain (codes ".") _ dot_plain (both_plain (octet o 2) _ c (both_plain (codes ".") _ dot_plain d)))))
    ∙ sym (ipv4_parts o)
