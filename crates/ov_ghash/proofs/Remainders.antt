-- A vector of bytes past x^128, byte by byte, and the bytes of its remainder.
use Rattle.std.proofs.Common.{◌≡◌, ℕ, zero, suc, ◌+◌, ◌-◌, ◌*◌, ◌/◌, ◌%◌, ◌^◌, ◌<◌, List, [], ◌∷◌, map, length, get_or, bit_xor, refl, sym, ap, ap₂, ◌∙◌, zero-add}
use lib.Lanes.{zip2}
use Rattle.std.specs.List.{range_with_len}
use Rattle.std.specs.Int.Bits.{xor_assoc, xor_zero_l, xor_zero_r}
use Rattle.std.proofs.lemmas.List.FromFn.{get_or-map-range_with_len}
use Rattle.ov_ghash.specs.Turn.{turn, turns}
use Rattle.ov_ghash.specs.Parts.{part_kept, part_passed}
use Rattle.ov_ghash.proofs.ByBytes.{by_bytes, by_bytes-agree, by_bytes-xor, by_bytes-turns}
use Rattle.ov_ghash.proofs.RowFacts.{vector, front, vector-split, vector-moved, vector-xor}

pub kept-is : (low : List ℕ) → zip2 bit_xor (zip2 bit_xor (zip2 bit_xor low (map (λ b. b / 2) low)) (map (λ b. b / 4) low)) (map (λ b. b / 128) low) ≡ map part_kept low
unfolding part_kept
kept-is [] = refl
kept-is (b ∷ bs) = ap (λ rest. part_kept b ∷ rest) (kept-is bs)

pub passed-is : (low : List ℕ) → zip2 bit_xor (zip2 bit_xor (map (λ b. b * 128 % 256) low) (map (λ b. b * 64 % 256) low)) (map (λ b. b * 2 % 256) low) ≡ map part_passed low
unfolding part_passed
passed-is [] = refl
passed-is (b ∷ bs) = ap (λ rest. part_passed b ∷ rest) (passed-is bs)

-- ---- one byte

byte_turned : ℕ → ℕ
byte_turned b = turns 128 (b * 2 ^ 120)

byte_parts : ℕ → ℕ
byte_parts b = bit_xor (part_kept b * 2 ^ 120) (turns 8 (part_passed b * 2 ^ 120))

all-bytes : map byte_turned (range_with_len 0 256) ≡ map byte_parts (range_with_len 0 256)
unfolding byte_turned byte_parts turns turn part_kept part_passed
all-bytes = refl

one-byte : (b : ℕ) → b < 256 → byte_turned b ≡ byte_parts b
one-byte b small =
    sym (get_or-map-range_with_len byte_turned 0 256 b b 0 small (zero-add b))
    ∙ ap (λ (xs : List ℕ). get_or xs b 0) all-bytes
    ∙ get_or-map-range_with_len byte_parts 0 256 b b 0 small (zero-add b)

-- ---- all bytes

get_or-map : (f : ℕ → ℕ) → f 0 ≡ 0 → (xs : List ℕ) (k : ℕ) → get_or (map f xs) k 0 ≡ f (get_or xs k 0)
get_or-map f none [] k = sym none
get_or-map f none (x ∷ xs) zero = refl
get_or-map f none (x ∷ xs) (suc k) = get_or-map f none xs k

none_passed : part_passed 0 ≡ 0
unfolding part_passed
none_passed = refl

none_kept : part_kept 0 ≡ 0
unfolding part_kept
none_kept = refl

vector-parts : (low : List ℕ) → ((k : ℕ) → get_or low k 0 < 256) → turns 128 (vector low) ≡ bit_xor (vector (map part_kept low)) (turns 8 (vector (map part_passed low)))
unfolding vector byte_turned byte_parts
vector-parts low small =
    let at : ℕ → ℕ = λ i. get_or low (15 - i) 0 in
    sym (by_bytes-turns 16 128 (λ i. at i * 2 ^ 120))
    ∙ by_bytes-agree 16 (λ i. turns 128 (at i * 2 ^ 120)) (λ i. bit_xor (get_or (map part_kept low) (15 - i) 0 * 2 ^ 120) (turns 8 (get_or (map part_passed low) (15 - i) 0 * 2 ^ 120)))
    (λ i below. one-byte (at i) (small (15 - i))
    ∙ ap₂ (λ (a b : ℕ). bit_xor (a * 2 ^ 120) (turns 8 (b * 2 ^ 120)))
    (sym (get_or-map part_kept none_kept low (15 - i))) (sym (get_or-map part_passed none_passed low (15 - i))))
    ∙ by_bytes-xor 16 (λ i. get_or (map part_kept low) (15 - i) 0 * 2 ^ 120) (λ i. turns 8 (get_or (map part_passed low) (15 - i) 0 * 2 ^ 120))
    ∙ ap (bit_xor (by_bytes 16 (λ i. get_or (map part_kept low) (15 - i) 0 * 2 ^ 120)))
    (by_bytes-turns 16 8 (λ i. get_or (map part_passed low) (15 - i) 0 * 2 ^ 120))

-- the sum that `reduced` computes
pub remainder-is : (high low kept passed moved : List ℕ) → length high ≡ 16 → length kept ≡ 16 → length moved ≡ 16 → length (zip2 bit_xor high kept) ≡ 16
    → ((k : ℕ) → get_or low k 0 < 256) → get_or low 15 0 ≡ 0 → kept ≡ map part_kept low → passed ≡ map part_passed low
    → get_or moved 0 0 ≡ 0 → ((k : ℕ) → k < 15 → get_or moved (k + 1) 0 ≡ get_or passed k 0)
    → vector (zip2 bit_xor (zip2 bit_xor high kept) moved) ≡ bit_xor (vector high) (turns 128 (vector low))
remainder-is high low kept passed moved long_high long_kept long_moved long_sum small none kept_is passed_is first rest =
    let last : get_or passed 15 0 ≡ 0 =
    ap (λ (xs : List ℕ). get_or xs 15 0) passed_is ∙ get_or-map part_passed none_passed low 15 ∙ ap part_passed none ∙ none_passed in
    let passed_front : vector passed ≡ front passed =
    vector-split passed ∙ ap (bit_xor (front passed)) last ∙ xor_zero_r (front passed) in
    let moved_is : vector moved ≡ turns 8 (vector passed) =
    vector-moved moved passed rest ∙ ap (λ (x : ℕ). bit_xor (x * 2 ^ 120) (turns 8 (front passed))) first
    ∙ xor_zero_l (turns 8 (front passed)) ∙ ap (turns 8) (sym passed_front) in
    vector-xor (zip2 bit_xor high kept) moved long_sum long_moved
    ∙ ap₂ bit_xor (vector-xor high kept long_high long_kept) moved_is
    ∙ xor_assoc (vector high) (vector kept) (turns 8 (vector passed))
    ∙ ap (bit_xor (vector high))
    ((λ t. bit_xor (vector (kept_is t)) (turns 8 (vector (passed_is t)))) ∙ sym (vector-parts low small))
