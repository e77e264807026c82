-- The bits of a number as a list, and the polynomial that they are.
use Rattle.std.proofs.Common.{◌≡◌, ℕ, zero, suc, ◌+◌, ◌*◌, ◌/◌, ◌%◌, ◌^◌, ◌<◌, ◌≤◌, Bool, false, eqb, List, [], ◌∷◌, ◌++◌, length, replicate, take, get_or, bit_xor, refl, sym, ap, ◌∙◌, subst, arith, suc-add, zero-add, add_comm}
use Rattle.std.proofs.Math.Nat.{pow-suc, zero-mul, one-mul, mod-one}
use Rattle.std.proofs.Math.Numerals.{one-add}
use Rattle.std.proofs.lemmas.Nat.{shr-shr, shr_split, shl_below, pow_pos, pow-add, mod-pow-add, mod_below}
use Rattle.std.proofs.lemmas.Nat.Bits.{bit_at_xor, bit_at-lt, bit_at_above, bit_at_cat_low, bit_at-zero, bit_at_lowest}
use Rattle.std.proofs.lemmas.List.{take_at, get_or_at}
use Rattle.std.specs.Int.Bits.{xor_zero_r, xor_shifted}
use Rattle.std.specs.Int.{bit_at}
use Rattle.ov_ghash.specs.Polynomial.{add, plus, scaled, overflow, raised}
use Rattle.ov_ghash.specs.Block.{bits, number}
use Rattle.ov_ghash.specs.Turn.{turn, part, horner}
use Rattle.ov_ghash.proofs.Turning.{turn-double}

pub length-bits : (n v : ℕ) → length (bits n v) ≡ n
unfolding bits
length-bits zero v = refl
length-bits (suc n) v = ap suc (length-bits n v)

add-bit : (a b : ℕ) → a < 2 → b < 2 → add (eqb a 1) (eqb b 1) ≡ eqb ((a + b) % 2) 1
unfolding add
add-bit zero zero p q = refl
add-bit zero (suc zero) p q = refl
add-bit (suc zero) zero p q = refl
add-bit (suc zero) (suc zero) p q = refl
add-bit zero (suc (suc b)) p q = absurd (omega arith)
add-bit (suc zero) (suc (suc b)) p q = absurd (omega arith)
add-bit (suc (suc a)) b p q = absurd (omega arith)

pub plus-bits : (n a b : ℕ) → plus (bits n a) (bits n b) ≡ bits n (bit_xor a b)
unfolding bits plus
plus-bits zero a b = refl
plus-bits (suc n) a b =
    rw (plus-bits n a b, add-bit (bit_at a n) (bit_at b n) (bit_at-lt a n) (bit_at-lt b n), ← bit_at_xor a b n) refl

-- the highest n of n + k bits, and the rest
pub bits_split : (n k v : ℕ) → bits (n + k) v ≡ bits n (v / 2 ^ k) ++ bits k v
unfolding bits
bits_split zero k v = ap (λ (m : ℕ). bits m v) (zero-add k)
bits_split (suc n) k v =
    let moved : bit_at v (n + k) ≡ bit_at (v / 2 ^ k) n =
    ap (λ (x : ℕ). v / 2 ^ x % 2) (add_comm n k) ∙ sym (ap (λ (x : ℕ). x % 2) (shr-shr v k n)) in
    rw (suc-add, bits_split n k v, moved) refl

bit_at-mod : (i n v : ℕ) → i < n → bit_at (v % 2 ^ n) i ≡ bit_at v i
bit_at-mod i n v below =
    sym (bit_at_cat_low (v / 2 ^ n) n (v % 2 ^ n) i below) ∙ ap (λ (x : ℕ). bit_at x i) (shr_split v n)

bits-mod-le : (i n v : ℕ) → i ≤ n → bits i (v % 2 ^ n) ≡ bits i v
unfolding bits
bits-mod-le zero n v within = refl
bits-mod-le (suc i) n v within = rw (bit_at-mod i n v (omega arith), bits-mod-le i n v (omega arith)) refl

-- only the lowest n bits count
pub bits-mod : (n v : ℕ) → bits n (v % 2 ^ n) ≡ bits n v
bits-mod n v = bits-mod-le n n v (omega arith)

pub bits-zero : (n : ℕ) → bits n 0 ≡ replicate n false
unfolding bits
bits-zero zero = refl
bits-zero (suc n) = rw (bit_at-zero n, bits-zero n) refl

pub bits-one : (v : ℕ) → bits 1 v ≡ eqb (v % 2) 1 ∷ []
unfolding bits
bits-one v = rw (bit_at_lowest v) refl

-- all bits but the last are those of the half
bits-half : (v : ℕ) → bits 128 v ≡ bits 127 (v / 2) ++ (eqb (v % 2) 1 ∷ [])
bits-half v = bits_split 127 1 v ∙ ap (λ (p : List Bool). bits 127 (v / 2) ++ p) (bits-one v)

-- a half has no bit at the top
bits-of_half : (v : ℕ) → v < 2 ^ 128 → bits 128 (v / 2) ≡ false ∷ bits 127 (v / 2)
unfolding bits
bits-of_half v small = rw (bit_at_above (v / 2) 127 127 (omega arith) (omega arith)) refl

plus-nil : (p : List Bool) → plus p [] ≡ p
unfolding plus
plus-nil [] = refl
plus-nil (a ∷ p) = refl

overflow-is : overflow ≡ bits 128 (0xe1 * 2 ^ 120)
unfolding overflow bits
overflow-is = refl

plus-overflow : (a b : ℕ) → b < 2 → plus (bits 128 a) (scaled (eqb b 1) overflow) ≡ bits 128 (bit_xor a (b * (0xe1 * 2 ^ 120)))
unfolding scaled
plus-overflow a zero small = plus-nil (bits 128 a) ∙ ap (bits 128) (sym (xor_zero_r a))
plus-overflow a (suc zero) small = rw overflow-is (plus-bits 128 a (0xe1 * 2 ^ 120))
plus-overflow a (suc (suc b)) small = absurd (omega arith)

-- x times a remainder is a turn
pub raised-bits : (v : ℕ) → v < 2 ^ 128 → raised (bits 128 v) ≡ bits 128 (turn v)
unfolding raised turn
raised-bits v small =
    let front : take 127 (bits 128 v) ≡ bits 127 (v / 2) =
    ap (take 127) (bits-half v) ∙ take_at (bits 127 (v / 2)) (eqb (v % 2) 1 ∷ []) 127 (length-bits 127 (v / 2)) in
    let last : get_or (bits 128 v) 127 false ≡ eqb (v % 2) 1 =
    ap (λ (p : List Bool). get_or p 127 false) (bits-half v)
    ∙ get_or_at (bits 127 (v / 2)) (eqb (v % 2) 1) [] false 127 (length-bits 127 (v / 2)) in
    rw (front, last, ← bits-of_half v small) (plus-overflow (v / 2) (v % 2) (omega arith))

part-bit : (b h : ℕ) → b < 2 → part (eqb b 1) h ≡ b * h
unfolding part
part-bit zero h small = sym (zero-mul h)
part-bit (suc zero) h small = sym (one-mul h)
part-bit (suc (suc b)) h small = absurd (omega arith)

-- one bit more below 2 ^ suc n
mod-bit : (n v : ℕ) → v % 2 ^ suc n ≡ bit_at v n * 2 ^ n + v % 2 ^ n
mod-bit n v = ap (λ (x : ℕ). v % 2 ^ x) (sym (one-add n)) ∙ mod-pow-add v 1 n

pub split_times : (b r x y z : ℕ) → x ≡ y * z → b * x + r * z ≡ (b * y + r) * z
split_times b r x y z e = rw e (omega arith)

-- the polynomial of n bits as a block: its highest coefficients are the block's first bits
pub horner-bits-more : (n m v : ℕ) → n + m ≡ 128 → horner (bits n v) (2 ^ 127) ≡ v % 2 ^ n * 2 ^ m
unfolding bits horner
horner-bits-more zero m v e = sym (ap (λ (x : ℕ). x * 2 ^ m) (mod-one v) ∙ zero-mul (2 ^ m))
horner-bits-more (suc n) m v e =
    let rest : ℕ = v % 2 ^ n * 2 ^ m in
    let width : n + m ≡ 127 = omega arith in
    let shifted : v % 2 ^ n * 2 ^ suc m ≡ rest * 2 = omega (arith, ap (λ (x : ℕ). v % 2 ^ n * x) (pow-suc 2 m)) in
    let small : rest < 2 ^ 127 = subst (λ (w : ℕ). rest < 2 ^ w) width (shl_below (v % 2 ^ n) n m (mod_below v (2 ^ n) (pow_pos n))) in
    rw (part-bit (bit_at v n) (2 ^ 127) (bit_at-lt v n), horner-bits-more n (suc m) v (omega arith), shifted, turn-double rest)
    (xor_shifted (bit_at v n) 127 rest small
    ∙ split_times (bit_at v n) (v % 2 ^ n) (2 ^ 127) (2 ^ n) (2 ^ m) (ap (λ (w : ℕ). 2 ^ w) (sym width) ∙ pow-add 2 n m)
    ∙ ap (λ (x : ℕ). x * 2 ^ m) (sym (mod-bit n v)))

pub horner-bits : (v : ℕ) → v < 2 ^ 128 → horner (bits 128 v) (2 ^ 127) ≡ v
horner-bits v small = horner-bits-more 128 0 v refl ∙ omega arith

number-bit : (b : ℕ) (p : List Bool) → b < 2 → number (eqb b 1 ∷ p) ≡ b * 2 ^ length p + number p
unfolding number
number-bit zero p small = omega arith
number-bit (suc zero) p small = omega arith
number-bit (suc (suc b)) p small = absurd (omega arith)

pub number-bits : (n v : ℕ) → number (bits n v) ≡ v % 2 ^ n
unfolding bits number
number-bits zero v = sym (mod-one v)
number-bits (suc n) v =
    number-bit (bit_at v n) (bits n v) (bit_at-lt v n)
    ∙ rw (length-bits n v, number-bits n v) (sym (mod-bit n v))
