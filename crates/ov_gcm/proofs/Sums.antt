-- Sums of lists of bytes.
use Rattle.std.proofs.Common.{◌≡◌, ℕ, suc, ◌<◌, ◌≤◌, List, [], ◌∷◌, ◌++◌, length, get_or, refl, ap, ◌∙◌, arith}
use Rattle.std.specs.Prelude.{bit_xor}
use Rattle.std.specs.Int.Bits.{xor_assoc, xor_self, xor_zero_r}
use Rattle.ov_aes.specs.Field.{plus}

-- a list whose elements are sums is the sum
pub plus-elements : (xs ys sums : List ℕ) → length sums ≡ length xs → length xs ≤ length ys → ((k : ℕ) → k < length xs → get_or sums k 0 ≡ bit_xor (get_or xs k 0) (get_or ys k 0)) → sums ≡ plus xs ys
plus-elements [] ys [] long enough each = refl
plus-elements [] ys (z ∷ zs) long enough each = absurd (omega arith)
plus-elements (x ∷ xs) [] zs long enough each = absurd (omega arith)
plus-elements (x ∷ xs) (y ∷ ys) [] long enough each = absurd (omega arith)
plus-elements (x ∷ xs) (y ∷ ys) (z ∷ zs) long enough each =
    let here : z ≡ bit_xor x y = each 0 (omega arith) in
    let rest = plus-elements xs ys zs (omega arith) (omega arith) (λ k below. each (suc k) (omega arith)) in
    λ i. here i ∷ rest i

-- a sum of lists in two parts, of which the first parts are equally long
pub plus-append : (xs xs' ys ys' : List ℕ) → length xs ≡ length ys → plus (xs ++ xs') (ys ++ ys') ≡ plus xs ys ++ plus xs' ys'
plus-append [] xs' [] ys' long = refl
plus-append [] xs' (y ∷ ys) ys' long = absurd (omega arith)
plus-append (x ∷ xs) xs' [] ys' long = absurd (omega arith)
plus-append (x ∷ xs) xs' (y ∷ ys) ys' long = ap (λ zs. bit_xor x y ∷ zs) (plus-append xs xs' ys ys' (omega arith))

-- a sum added once more to the second list gives the first back
pub plus-plus : (xs ys : List ℕ) → length xs ≤ length ys → plus (plus xs ys) ys ≡ xs
plus-plus [] ys enough = refl
plus-plus (x ∷ xs) [] enough = absurd (omega arith)
plus-plus (x ∷ xs) (y ∷ ys) enough =
    let here = xor_assoc x y y ∙ ap (bit_xor x) (xor_self y) ∙ xor_zero_r x in
    let rest = plus-plus xs ys (omega arith) in
    λ i. here i ∷ rest i
