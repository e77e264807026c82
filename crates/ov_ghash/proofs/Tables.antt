-- Products by table: four bits of a block at a time, and eight.
use Rattle.std.proofs.Common.{◌≡◌, ℕ, zero, suc, ◌+◌, ◌-◌, ◌/◌, ◌%◌, ◌^◌, ◌<◌, List, length, get_or, bit_xor, sym, ap, ap₂, ◌∙◌, arith, zero-add, subst, ⊎_elim}
use Rattle.std.proofs.Math.Nat.{one-mul}
use Rattle.std.proofs.lemmas.Bool.{cases_lt}
use Rattle.std.proofs.lemmas.Nat.{xor_comm}
use Rattle.std.proofs.lemmas.List.FromFn.{get_or-map-range_with_len, fill_by_all}
use Rattle.std.specs.Int.Bits.{xor_shifted, xor_zero_r}
use Rattle.ov_ghash.specs.Block.{bits}
use Rattle.ov_ghash.specs.Turn.{turn, turns, part, horner, products}
use Rattle.ov_ghash.proofs.Turning.{horner-plus, horner-append, horner-turns}
use Rattle.ov_ghash.proofs.BitLists.{length-bits, plus-bits, bits_split, bits-mod}

pub get_or-products : (h n : ℕ) → n < 16 → get_or (products h) n 0 ≡ horner (bits 4 n) h
unfolding products
get_or-products h n below =
    get_or-map-range_with_len (λ n. horner (bits 4 n) h) 0 16 n n 0 below (zero-add n)

-- a byte by its two halves
pub horner-byte : (n h : ℕ) → horner (bits 8 n) h ≡ bit_xor (horner (bits 4 (n / 16)) h) (horner (bits 4 (n % 16)) (turns 4 h))
horner-byte n h =
    ap (λ p. horner p h) (bits_split 4 4 n) ∙ horner-append (bits 4 (n / 16)) (bits 4 n) h
    ∙ ap₂ (λ (k v : ℕ). bit_xor (horner (bits 4 (n / 16)) h) (turns k v)) (length-bits 4 (n / 16)) (ap (λ p. horner p h) (sym (bits-mod 4 n)))
    ∙ ap (bit_xor (horner (bits 4 (n / 16)) h)) (sym (horner-turns 4 (bits 4 (n % 16)) h))

-- one byte more, above the k bits that are done
pub horner-byte-more : (k y h : ℕ) → horner (bits (8 + k) y) h ≡ bit_xor (horner (bits 8 (y / 2 ^ k % 256)) h) (turns 8 (horner (bits k y) h))
horner-byte-more k y h =
    let high : ℕ = y / 2 ^ k in
    ap (λ p. horner p h) (bits_split 8 k y) ∙ horner-append (bits 8 high) (bits k y) h
    ∙ ap₂ (λ (v n : ℕ). bit_xor v (turns n (horner (bits k y) h))) (ap (λ p. horner p h) (sym (bits-mod 8 high))) (length-bits 8 high)

-- the first p places of a table have the products of h
pub AreProducts : ℕ → ℕ → List ℕ → Type 0
AreProducts h p t = (k : ℕ) → k < p → get_or t k 0 ≡ horner (bits 4 k) h

-- the places that `double` fills
pub AreProducts_double : (h j p v : ℕ) (s t : List ℕ) → p ≡ 2 ^ j → v ≡ horner (bits 4 p) h → AreProducts h p s
    → ((k : ℕ) → k < p → get_or t k 0 ≡ get_or s k 0) → ((k : ℕ) → k < p → get_or t (p + k) 0 ≡ bit_xor (get_or s k 0) v)
    → AreProducts h (p + p) t
unfolding AreProducts
AreProducts_double h j p v s t power is_product before kept added k below =
    ⊎_elim (λ lower. kept k lower ∙ before k lower)
    (λ upper.
    let n : ℕ = k - p in
    let in_front : n < p = omega arith in
    let place : p + n ≡ k = omega arith in
    let front_small : n < 2 ^ j = subst (λ (x : ℕ). n < x) power in_front in
    let joined : bit_xor n p ≡ k = xor_comm n p ∙ ap (λ (x : ℕ). bit_xor x n) (power ∙ sym (one-mul (2 ^ j)))
    ∙ xor_shifted 1 j n front_small ∙ ap (λ (x : ℕ). x + n) (one-mul (2 ^ j) ∙ sym power) ∙ place in
    ap (λ (x : ℕ). get_or t x 0) (sym place) ∙ added n in_front
    ∙ ap₂ bit_xor (before n in_front) is_product
    ∙ sym (horner-plus (bits 4 n) (bits 4 p) h) ∙ ap (λ q. horner q h) (plus-bits 4 n p ∙ ap (bits 4) joined))
    (cases_lt k p)

pub AreProducts_first : (h : ℕ) (t : List ℕ) → get_or t 0 0 ≡ 0 → AreProducts h 1 t
unfolding AreProducts horner bits part turn
AreProducts_first h t zeroth zero below = zeroth
AreProducts_first h t zeroth (suc k) below = absurd (omega arith)

pub AreProducts_all : (h : ℕ) (t : List ℕ) → length t ≡ 16 → AreProducts h 16 t → products h ≡ t
unfolding AreProducts products
AreProducts_all h t long all = sym (fill_by_all (λ n. horner (bits 4 n) h) t 16 0 long all)

pub horner_8 : (h : ℕ) → h ≡ horner (bits 4 8) h
unfolding bits horner part turn
horner_8 h = sym (xor_zero_r h)

pub horner_4 : (h : ℕ) → turn h ≡ horner (bits 4 4) h
unfolding bits horner part turn
horner_4 h = ap turn (sym (xor_zero_r h))

pub horner_2 : (h : ℕ) → turn (turn h) ≡ horner (bits 4 2) h
unfolding bits horner part turn
horner_2 h = ap (λ v. turn (turn v)) (sym (xor_zero_r h))

pub horner_1 : (h : ℕ) → turn (turn (turn h)) ≡ horner (bits 4 1) h
unfolding bits horner part turn
horner_1 h = ap (λ v. turn (turn (turn v))) (sym (xor_zero_r h))
