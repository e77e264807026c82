-- Products, powers and sums of the field as products by Horner's rule.
use Rattle.std.proofs.Common.{◌≡◌, ℕ, zero, suc, ◌+◌, ◌^◌, ◌<◌, Bool, true, false, List, [], ◌∷◌, ◌++◌, length, replicate, bit_xor, refl, sym, ap, ap₂, ◌∙◌, arith}
use Rattle.std.proofs.lemmas.List.{length_push}
use Rattle.std.specs.Int.Bits.{xor_assoc, xor_zero_r}
use Rattle.ov_ghash.specs.Polynomial.{plus, product, remainder, times, power, variable}
use Rattle.ov_ghash.specs.Block.{bits, sum_of_powers}
use Rattle.ov_ghash.specs.Turn.{turn, turns, part, horner}
use Rattle.ov_ghash.proofs.Turning.{horner-lt, horner-xor, horner-horner, horner-plus, horner-product, horner-turns}
use Rattle.ov_ghash.proofs.BitLists.{plus-bits, bits-zero, raised-bits, horner-bits}

-- a polynomial as a block, reduced: the product with the block of the polynomial one
pub value_of : List Bool → ℕ
value_of p = horner p (2 ^ 127)

pub value_of-lt : (p : List Bool) → value_of p < 2 ^ 128
unfolding value_of
value_of-lt p = horner-lt p (2 ^ 127) (omega arith)

one_coefficient : (c : Bool) → bits 128 (part c (2 ^ 127)) ≡ c ∷ replicate 127 false
unfolding bits part
one_coefficient true = refl
one_coefficient false = refl

pub remainder-is : (p : List Bool) → remainder p ≡ bits 128 (value_of p)
unfolding remainder value_of horner
remainder-is [] = sym (bits-zero 128)
remainder-is (c ∷ p) =
    rw (remainder-is p, raised-bits (value_of p) (value_of-lt p), ← one_coefficient c)
    (plus-bits 128 (part c (2 ^ 127)) (turn (value_of p)))

pub value_of-bits : (v : ℕ) → v < 2 ^ 128 → value_of (bits 128 v) ≡ v
unfolding value_of
value_of-bits v small = horner-bits v small

pub value_of-plus : (p q : List Bool) → value_of (plus p q) ≡ bit_xor (value_of p) (value_of q)
unfolding value_of
value_of-plus p q = horner-plus p q (2 ^ 127)

pub value_of-times : (p q : List Bool) → value_of (times p q) ≡ horner p (value_of q)
unfolding times value_of
value_of-times p q =
    rw (remainder-is (product p q)) (value_of-bits (value_of (product p q)) (value_of-lt (product p q)) ∙ horner-product p q (2 ^ 127))

times-horner : (p q : List Bool) → times p q ≡ bits 128 (horner p (value_of q))
unfolding times value_of
times-horner p q = remainder-is (product p q) ∙ ap (bits 128) (horner-product p q (2 ^ 127))

-- the product with a block
pub times-bits : (p : List Bool) (b : ℕ) → b < 2 ^ 128 → times p (bits 128 b) ≡ bits 128 (horner p b)
times-bits p b small = times-horner p (bits 128 b) ∙ ap (λ (v : ℕ). bits 128 (horner p v)) (value_of-bits b small)

times_comm : (p q : List Bool) → times p q ≡ times q p
unfolding value_of
times_comm p q = times-horner p q ∙ ap (bits 128) (horner-horner p q (2 ^ 127)) ∙ sym (times-horner q p)

-- the products of two blocks either way
pub horner_comm : (a b : ℕ) → a < 2 ^ 128 → b < 2 ^ 128 → horner (bits 128 a) b ≡ horner (bits 128 b) a
horner_comm a b small_a small_b =
    ap (horner (bits 128 a)) (sym (horner-bits b small_b)) ∙ horner-horner (bits 128 a) (bits 128 b) (2 ^ 127)
    ∙ ap (horner (bits 128 b)) (horner-bits a small_a)

times-is : (p q : List Bool) → times p q ≡ bits 128 (value_of (times p q))
unfolding times
times-is p q =
    let whole : List Bool = product p q in
    remainder-is whole
    ∙ ap (bits 128) (sym (ap value_of (remainder-is whole) ∙ value_of-bits (value_of whole) (value_of-lt whole)))

power-zero : (h : List Bool) → value_of (power h 0) ≡ 2 ^ 127
unfolding power value_of horner part turn
power-zero h = refl

horner-variable : (h : ℕ) → horner variable h ≡ turn h
unfolding variable horner part turn
horner-variable h = rw (xor_zero_r h) refl

value_of-power-variable : (k : ℕ) → value_of (power variable k) ≡ turns k (2 ^ 127)
unfolding turns power
value_of-power-variable zero = power-zero variable
value_of-power-variable (suc k) =
    value_of-times variable (power variable k) ∙ horner-variable (value_of (power variable k)) ∙ ap turn (value_of-power-variable k)

-- k turns of a block are the product with x^k
pub turns-are-times : (k z : ℕ) → z < 2 ^ 128 → bits 128 (turns k z) ≡ times (power variable k) (bits 128 z)
unfolding value_of
turns-are-times k z small =
    let x_to_k : List Bool = power variable k in
    let turned : horner x_to_k z ≡ turns k z =
    ap (horner x_to_k) (sym (horner-bits z small)) ∙ horner-horner x_to_k (bits 128 z) (2 ^ 127)
    ∙ ap (horner (bits 128 z)) (value_of-power-variable k) ∙ horner-turns k (bits 128 z) (2 ^ 127)
    ∙ ap (turns k) (horner-bits z small) in
    sym (times-bits x_to_k z small ∙ ap (bits 128) turned)

-- x times the next power
value_of-times-power-suc : (h x : List Bool) (k : ℕ) → value_of (times x (power h (suc k))) ≡ horner h (value_of (times x (power h k)))
unfolding power
value_of-times-power-suc h x k =
    value_of-times x (times h (power h k)) ∙ ap (horner x) (value_of-times h (power h k))
    ∙ horner-horner x h (value_of (power h k)) ∙ ap (horner h) (sym (value_of-times x (power h k)))

value_of-times-power-zero : (h x : List Bool) → value_of (times x (power h 0)) ≡ value_of x
unfolding value_of
value_of-times-power-zero h x = value_of-times x (power h 0) ∙ ap (horner x) (power-zero h)

value_of-zero : value_of (replicate 128 false) ≡ 0
unfolding value_of horner part turn
value_of-zero = refl

pub sum_of_powers-is : (h : List Bool) (xs : List (List Bool)) → sum_of_powers h xs ≡ bits 128 (value_of (sum_of_powers h xs))
unfolding sum_of_powers
sum_of_powers-is h [] = rw value_of-zero (sym (bits-zero 128))
sum_of_powers-is h (x ∷ xs) =
    let term : List Bool = times x (power h (length xs + 1)) in
    let sum : List Bool = sum_of_powers h xs in
    ap₂ plus (times-is x (power h (length xs + 1))) (sum_of_powers-is h xs)
    ∙ plus-bits 128 (value_of term) (value_of sum) ∙ ap (bits 128) (sym (value_of-plus term sum))

-- one more block: the sum so far and the block, times the subkey
pub sum_of_powers-push : (h : List Bool) (xs : List (List Bool)) (x : List Bool)
    → value_of (sum_of_powers h (xs ++ x ∷ [])) ≡ horner h (bit_xor (value_of (sum_of_powers h xs)) (value_of x))
unfolding sum_of_powers
sum_of_powers-push h [] x =
    rw (value_of-plus (times x (power h 1)) (replicate 128 false), value_of-zero, xor_zero_r, value_of-times-power-suc h x 0, value_of-times-power-zero h x) refl
sum_of_powers-push h (y ∷ ys) x =
    let term : List Bool = times y (power h (length ys + 1)) in
    let sum : List Bool = sum_of_powers h ys in
    let longer : length (ys ++ x ∷ []) + 1 ≡ suc (length ys + 1) = omega (arith, length_push ys x) in
    rw (longer, value_of-plus (times y (power h (suc (length ys + 1)))) (sum_of_powers h (ys ++ x ∷ [])), value_of-times-power-suc h y (length ys + 1), sum_of_powers-push h ys x)
    (sym (horner-xor h (value_of term) (bit_xor (value_of sum) (value_of x)))
    ∙ ap (horner h) (sym (xor_assoc (value_of term) (value_of sum) (value_of x)) ∙ ap (λ (v : ℕ). bit_xor v (value_of x)) (sym (value_of-plus term sum))))

-- Algorithm 2 of SP 800-38D, section 6.4: one block after the other
pub sum_of_powers_step : (h : List Bool) (xs : List (List Bool)) (x : List Bool)
    → sum_of_powers h (xs ++ x ∷ []) ≡ times (plus (sum_of_powers h xs) x) h
sum_of_powers_step h xs x =
    let sum : List Bool = sum_of_powers h xs in
    sum_of_powers-is h (xs ++ x ∷ [])
    ∙ ap (bits 128) (sum_of_powers-push h xs x ∙ ap (horner h) (sym (value_of-plus sum x)))
    ∙ sym (times-horner h (plus sum x)) ∙ times_comm h (plus sum x)
