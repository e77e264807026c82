-- The digits of bytes, sixteen bytes at a time.
use Rattle.std.proofs.Common.{ℕ, suc, ◌≡◌, ◌<◌, ◌≤◌, ◌+◌, ◌*◌, ◌/◌, ◌%◌, ◌^◌, ◌∙◌, List, [], ◌∷◌, ◌++◌, map, length, get_or, slice_index, take, drop, take-append-drop, replicate, bit_and, cond, refl, sym, ap, subst, arith, Fits, w8, append_assoc, append-nil, ◌-◌, length-drop, false, leb}
use Rattle.std.specs.Simd.Lanes.{zip2, Each1, pick_l}
use Rattle.std.proofs.lemmas.Bool.{lt-leb}
use Rattle.std.proofs.lemmas.List.{length-map}
use Rattle.std.proofs.lemmas.List.{take_more}
use Rattle.std.proofs.Math.Seq.{take-add, take-length}
use Rattle.std.proofs.lemmas.Nat.{and_mask}
use Rattle.std.proofs.lemmas.Simd.{swz_l, SwzOk, SwzOk-from_below, zip2_splat, pick_l_whole, map-map}
use Rattle.hex.specs.Hex.{encode_lower, encode_with, lower_digits}

pub encode-append : (xs ys : List ℕ) → encode_lower (xs ++ ys) ≡ encode_lower xs ++ encode_lower ys
unfolding encode_with
encode-append [] ys = refl
encode-append (x ∷ xs) ys = ap (λ t. slice_index lower_digits (x / 16) ∷ slice_index lower_digits (x % 16) ∷ t) (encode-append xs ys)

-- The slice from a place on, as it is lent for a call.
pub lent : (n : ℕ) (bytes : List ℕ) → take (length bytes - n) (drop n bytes) ≡ drop n bytes
lent n bytes = rw (← length-drop n bytes) (take-length (drop n bytes))

-- At first nothing is put.
pub none_yet : (page : List ℕ) → page ≡ page ++ encode_lower []
unfolding encode_with
none_yet page = sym (append-nil page)

-- The digits of one block more.
pub block_more : (page held new bytes : List ℕ) (i : ℕ)
    → held ≡ page ++ encode_lower (take i bytes) → new ≡ held ++ encode_lower (take 16 (drop i bytes))
    → new ≡ page ++ encode_lower (take (i + 16) bytes)
block_more page held new bytes i is put =
    put ∙ ap (λ t. t ++ encode_lower (take 16 (drop i bytes))) is
    ∙ append_assoc page (encode_lower (take i bytes)) (encode_lower (take 16 (drop i bytes)))
    ∙ ap (λ t. page ++ t) (sym (encode-append (take i bytes) (take 16 (drop i bytes))) ∙ ap encode_lower (sym (take-add i 16 bytes)))

-- The digits of one byte.
pub byte_digits : (b : ℕ) → slice_index lower_digits (b / 16) ∷ slice_index lower_digits (b % 16) ∷ [] ≡ encode_lower (b ∷ [])
unfolding encode_with
byte_digits b = refl

-- The digits of one byte more.
pub byte_more : (page held new bytes : List ℕ) (i d byte : ℕ) → i < length bytes → byte ≡ get_or bytes i d
    → held ≡ page ++ encode_lower (take i bytes) → new ≡ held ++ encode_lower (byte ∷ []) → new ≡ page ++ encode_lower (take (i + 1) bytes)
byte_more page held new bytes i d byte below at is put =
    put ∙ ap (λ t. t ++ encode_lower (byte ∷ [])) is ∙ append_assoc page (encode_lower (take i bytes)) (encode_lower (byte ∷ []))
    ∙ ap (λ t. page ++ t) (sym (encode-append (take i bytes) (byte ∷ [])) ∙ ap encode_lower (ap (λ b. take i bytes ++ b ∷ []) at ∙ sym (take_more bytes i d below)))

-- The blocks and the rest.
pub all_bytes : (bytes : List ℕ) (n : ℕ) → encode_lower (take n bytes) ++ encode_lower (drop n bytes) ≡ encode_lower bytes
all_bytes bytes n = sym (encode-append (take n bytes) (drop n bytes)) ∙ ap encode_lower (take-append-drop n bytes)

-- ---- a look-up of sixteen lanes at once

below_top : (j : ℕ) → j < 16 → leb 128 j ≡ false
below_top j below = lt-leb 128 j (omega arith)

-- Each lane is the digit at its position.
looked_up : (js : List ℕ) (i : ℕ) → i + length js ≤ 16 → Each1 (λ j. j < 16) js → swz_l w8 16 lower_digits i js ≡ map (λ j. slice_index lower_digits j) js
looked_up [] i fits below = refl
looked_up (j ∷ js) i fits below =
    let small : j < 16 = below.0 in
    let place : 16 * (i / 16) + j ≡ j = omega arith in
    let first : cond (leb 128 j) 0 (get_or lower_digits (16 * (i / 16) + j) 0) ≡ slice_index lower_digits j = ap (λ t. cond t 0 (get_or lower_digits (16 * (i / 16) + j) 0)) (below_top j small) ∙ ap (λ k. get_or lower_digits k 0) place in
    ap (λ x. x ∷ swz_l w8 16 lower_digits (suc i) js) first ∙ ap (λ t. slice_index lower_digits j ∷ t) (looked_up js (suc i) (omega arith) below.1)

high_below : (v : List ℕ) → Each1 (Fits w8) v → Each1 (λ j. j < 16) (map (λ b. b / 16) v)
high_below [] fits = tt
high_below (b ∷ v) fits = let small : b < 256 = fits.0.fits in (omega arith, high_below v fits.1)

low_below : (v : List ℕ) → Each1 (λ j. j < 16) (map (λ b. b % 16) v)
low_below [] = tt
low_below (b ∷ v) = (omega arith, low_below v)

masked : (v : List ℕ) → map (λ b. bit_and b 15) v ≡ map (λ b. b % 16) v
masked [] = refl
masked (b ∷ v) = ap (λ x. x ∷ map (λ y. bit_and y 15) v) (and_mask b 4) ∙ ap (λ t. b % 16 ∷ t) (masked v)

high_is : (v : List ℕ) → length v ≡ 16 → zip2 (λ a b. a / 2 ^ b) v (replicate 16 4) ≡ map (λ b. b / 16) v
high_is v long = zip2_splat (λ a b. a / 2 ^ b) v 16 4 long

low_is : (v : List ℕ) → length v ≡ 16 → zip2 bit_and v (replicate 16 15) ≡ map (λ b. b % 16) v
low_is v long = zip2_splat bit_and v 16 15 long ∙ masked v

pub high_fits : (v : List ℕ) → length v ≡ 16 → Each1 (Fits w8) v → SwzOk w8 16 16 0 (zip2 (λ a b. a / 2 ^ b) v (replicate 16 4))
high_fits v long fits = SwzOk-from_below w8 16 1 16 0 _ refl (omega (arith, ap (λ l. length l) (high_is v long), length-map v (λ b. b / 16))) (subst (Each1 (λ j. j < 16)) (sym (high_is v long)) (high_below v fits))

pub low_fits : (v : List ℕ) → length v ≡ 16 → SwzOk w8 16 16 0 (zip2 bit_and v (replicate 16 15))
low_fits v long = SwzOk-from_below w8 16 1 16 0 _ refl (omega (arith, ap (λ l. length l) (low_is v long), length-map v (λ b. b % 16))) (subst (Each1 (λ j. j < 16)) (sym (low_is v long)) (low_below v))

pub high_digits_are : (v : List ℕ) → length v ≡ 16 → Each1 (Fits w8) v → swz_l w8 16 lower_digits 0 (zip2 (λ a b. a / 2 ^ b) v (replicate 16 4)) ≡ map (λ b. slice_index lower_digits (b / 16)) v
high_digits_are v long fits =
    ap (swz_l w8 16 lower_digits 0) (high_is v long)
    ∙ looked_up (map (λ b. b / 16) v) 0 (omega (arith, length-map v (λ b. b / 16))) (high_below v fits)
    ∙ map-map (λ j. slice_index lower_digits j) (λ b. b / 16) v

pub low_digits_are : (v : List ℕ) → length v ≡ 16 → swz_l w8 16 lower_digits 0 (zip2 bit_and v (replicate 16 15)) ≡ map (λ b. slice_index lower_digits (b % 16)) v
low_digits_are v long =
    ap (swz_l w8 16 lower_digits 0) (low_is v long)
    ∙ looked_up (map (λ b. b % 16) v) 0 (omega (arith, length-map v (λ b. b % 16))) (low_below v)
    ∙ map-map (λ j. slice_index lower_digits j) (λ b. b % 16) v

-- Both digits of each byte in turn.
abbrev first_half : List ℕ
first_half = 0 ∷ 16 ∷ 1 ∷ 17 ∷ 2 ∷ 18 ∷ 3 ∷ 19 ∷ 4 ∷ 20 ∷ 5 ∷ 21 ∷ 6 ∷ 22 ∷ 7 ∷ 23 ∷ []

abbrev second_half : List ℕ
second_half = 8 ∷ 24 ∷ 9 ∷ 25 ∷ 10 ∷ 26 ∷ 11 ∷ 27 ∷ 12 ∷ 28 ∷ 13 ∷ 29 ∷ 14 ∷ 30 ∷ 15 ∷ 31 ∷ []

abbrev both : List ℕ → List ℕ
both v = map (λ b. slice_index lower_digits (b / 16)) v ++ map (λ b. slice_index lower_digits (b % 16)) v

woven_each : (a b c d e f g h i j k l m n o p : ℕ) → let v = a ∷ b ∷ c ∷ d ∷ e ∷ f ∷ g ∷ h ∷ i ∷ j ∷ k ∷ l ∷ m ∷ n ∷ o ∷ p ∷ [] in pick_l 0 (both v) first_half ++ pick_l 0 (both v) second_half ≡ encode_lower v
unfolding encode_with
woven_each a b c d e f g h i j k l m n o p = refl

woven : (v : List ℕ) → length v ≡ 16 → pick_l 0 (both v) first_half ++ pick_l 0 (both v) second_half ≡ encode_lower v
woven v long =
    subst (λ u. pick_l 0 (both u) first_half ++ pick_l 0 (both u) second_half ≡ encode_lower u) (pick_l_whole 0 v 16 long)
    (woven_each (get_or v 0 0) (get_or v 1 0) (get_or v 2 0) (get_or v 3 0) (get_or v 4 0) (get_or v 5 0) (get_or v 6 0) (get_or v 7 0) (get_or v 8 0) (get_or v 9 0) (get_or v 10 0) (get_or v 11 0) (get_or v 12 0) (get_or v 13 0) (get_or v 14 0) (get_or v 15 0))

pub woven_from : (v high low : List ℕ) → length v ≡ 16 → high ≡ map (λ b. slice_index lower_digits (b / 16)) v → low ≡ map (λ b. slice_index lower_digits (b % 16)) v
    → pick_l 0 (high ++ low) first_half ++ pick_l 0 (high ++ low) second_half ≡ encode_lower v
woven_from v high low long is_high is_low =
    let same : high ++ low ≡ both v = ap (λ t. t ++ low) is_high ∙ ap (λ t. map (λ b. slice_index lower_digits (b / 16)) v ++ t) is_low in
    ap (λ t. pick_l 0 t first_half ++ pick_l 0 t second_half) same ∙ woven v long
