-- Vectors of bytes as numbers, and the rows of the products of half bytes.
use Rattle.std.proofs.Common.{◌≡◌, ℕ, zero, suc, ◌+◌, ◌-◌, ◌*◌, ◌/◌, ◌%◌, ◌^◌, ◌<◌, ◌≤◌, List, [], ◌∷◌, ◌++◌, map, length, get_or, bit_xor, Fits, w8, refl, sym, ap, ap₂, ◌∙◌, arith, zero-add, subst, ⊎_elim, replicate}
use Rattle.std.specs.Int.{w128, byte_at, bytes_low_first, bytes_high_first, to_le_bytes, to_be_bytes}
use Rattle.std.specs.Int.Bits.{xor_assoc, xor_zero_l, xor_zero_r, xor_shifted}
use Rattle.std.proofs.Math.Nat.{mul-le-mul_left}
use Rattle.std.proofs.lemmas.Nat.{xor_shr, xor_mod, xor_lt, xor_block, pow-add, shl_below, div-mul-add}
use Rattle.std.proofs.lemmas.List.FromFn.{get_or-map-range_with_len, fill_by_all}
use Rattle.std.proofs.lemmas.Simd.{get_or-zip2, length-zip2, get_or-replicate, Each1-from_get_or}
use lib.Lanes.{zip2, Each1}
use Rattle.std.specs.List.{range_with_len}
use Rattle.std.proofs.lemmas.List.{get_or-append_right, get_or_past}
use Rattle.std.proofs.lemmas.Bool.{cases_lt}
use Rattle.ov_ghash.specs.Block.{bits, number_of}
use Rattle.ov_ghash.specs.Turn.{turns, horner}
use Rattle.ov_ghash.specs.Rows.{rows}
use Rattle.ov_ghash.proofs.Turning.{turns-xor, turns-shift, horner-lt}
use Rattle.ov_ghash.proofs.BitLists.{split_times}
use Rattle.ov_ghash.proofs.Field.{horner_comm}
use Rattle.ov_ghash.proofs.Tables.{horner-byte}
use Rattle.ov_ghash.proofs.ByBytes.{by_bytes, by_bytes-agree, by_bytes-xor, by_bytes-horner, by_bytes-first, by_bytes_swap, by_its_bytes, byte-product, byte_at-is, turns-turns, turns_swap}

-- ---- a vector as a number

-- f (n - 1) ... f 0 as the digits of a number
digits : ℕ → (ℕ → ℕ) → ℕ
digits zero f = 0
digits (suc n) f = f n * 2 ^ (8 * n) + digits n f

digits-lt : (n : ℕ) (f : ℕ → ℕ) → ((i : ℕ) → f i < 256) → digits n f < 2 ^ (8 * n)
unfolding digits
digits-lt zero f small = omega arith
digits-lt (suc n) f small =
    let longer : 8 * suc n ≡ 8 + 8 * n = omega arith in
    let more : 2 ^ (8 + 8 * n) ≡ 2 ^ 8 * 2 ^ (8 * n) = pow-add 2 8 (8 * n) in
    let rest = digits-lt n f small in
    let top : f n ≤ 255 = omega (arith, small n) in
    rw longer (omega (arith, more, rest, mul-le-mul_left (2 ^ (8 * n)) top))

by_bytes-digits : (n m : ℕ) (f : ℕ → ℕ) → ((i : ℕ) → f i < 256) → n + m ≡ 16 → by_bytes n (λ i. f i * 2 ^ 120) ≡ digits n f * 2 ^ (8 * m)
unfolding digits by_bytes
by_bytes-digits zero m f small e = omega arith
by_bytes-digits (suc n) m f small e =
    let d : ℕ = digits n f in
    let rest : ℕ = d * 2 ^ (8 * m) in
    let longer : 8 * suc m ≡ 8 * m + 8 = omega arith in
    let shifted : d * 2 ^ (8 * suc m) ≡ rest * 2 ^ 8 = rw longer (omega (arith, ap (λ (x : ℕ). d * x) (pow-add 2 (8 * m) 8))) in
    let width : 8 * n + 8 * m ≡ 120 = omega arith in
    let below : rest < 2 ^ 120 = subst (λ (w : ℕ). rest < 2 ^ w) width (shl_below d (8 * n) (8 * m) (digits-lt n f small)) in
    ap (λ (x : ℕ). bit_xor (f n * 2 ^ 120) (turns 8 x)) (by_bytes-digits n (suc m) f small (omega arith) ∙ shifted)
    ∙ ap (bit_xor (f n * 2 ^ 120)) (turns-shift 8 rest)
    ∙ xor_shifted (f n) 120 rest below
    ∙ split_times (f n) d (2 ^ 120) (2 ^ (8 * n)) (2 ^ (8 * m)) (ap (λ (w : ℕ). 2 ^ w) (sym width) ∙ pow-add 2 (8 * n) (8 * m))

-- the number that the 16 bytes of a vector are
unfoldable pub vector : List ℕ → ℕ
vector v = by_bytes 16 (λ i. get_or v (15 - i) 0 * 2 ^ 120)

number_of-digits : (v : List ℕ) → number_of v ≡ digits 16 (λ i. get_or v (15 - i) 0)
unfolding number_of digits
number_of-digits v = omega arith

pub number_of-lt : (v : List ℕ) → ((k : ℕ) → get_or v k 0 < 256) → number_of v < 2 ^ 128
number_of-lt v small =
    let below : digits 16 (λ i. get_or v (15 - i) 0) < 2 ^ 128 = digits-lt 16 (λ i. get_or v (15 - i) 0) (λ i. small (15 - i)) in
    omega (arith, number_of-digits v, below)

pub number_of-vector : (v : List ℕ) → ((k : ℕ) → get_or v k 0 < 256) → number_of v ≡ vector v
unfolding vector
number_of-vector v small =
    number_of-digits v ∙ omega (arith, by_bytes-digits 16 0 (λ i. get_or v (15 - i) 0) (λ i. small (15 - i)) refl)

shl-xor : (a b : ℕ) → bit_xor a b * 2 ^ 120 ≡ bit_xor (a * 2 ^ 120) (b * 2 ^ 120)
shl-xor a b =
    let left : a * 2 ^ 120 + 0 ≡ a * 2 ^ 120 = omega arith in
    let right : b * 2 ^ 120 + 0 ≡ b * 2 ^ 120 = omega arith in
    let whole : bit_xor a b * 2 ^ 120 + 0 ≡ bit_xor a b * 2 ^ 120 = omega arith in
    sym whole ∙ sym (xor_block 120 a b 0 0 (omega arith) (omega arith)) ∙ ap₂ bit_xor left right

pub vector-xor : (xs ys : List ℕ) → length xs ≡ 16 → length ys ≡ 16 → vector (zip2 bit_xor xs ys) ≡ bit_xor (vector xs) (vector ys)
unfolding vector
vector-xor xs ys long_xs long_ys =
    by_bytes-agree 16 (λ i. get_or (zip2 bit_xor xs ys) (15 - i) 0 * 2 ^ 120) (λ i. bit_xor (get_or xs (15 - i) 0 * 2 ^ 120) (get_or ys (15 - i) 0 * 2 ^ 120))
    (λ i below. ap (λ (x : ℕ). x * 2 ^ 120) (get_or-zip2 bit_xor xs ys (15 - i) 0 0 0 (omega arith) (omega arith))
    ∙ shl-xor (get_or xs (15 - i) 0) (get_or ys (15 - i) 0))
    ∙ by_bytes-xor 16 (λ i. get_or xs (15 - i) 0 * 2 ^ 120) (λ i. get_or ys (15 - i) 0 * 2 ^ 120)

-- ---- a vector that is moved on by a byte

-- all bytes but the last, moved on by one
pub front : List ℕ → ℕ
front v = by_bytes 15 (λ i. get_or v (14 - i) 0 * 2 ^ 120)

pub vector-split : (v : List ℕ) → vector v ≡ bit_xor (front v) (get_or v 15 0)
unfolding vector front
vector-split v =
    by_bytes-first 15 (λ i. get_or v (15 - i) 0 * 2 ^ 120)
    ∙ ap₂ bit_xor
    (by_bytes-agree 15 (λ i. get_or v (15 - suc i) 0 * 2 ^ 120) (λ i. get_or v (14 - i) 0 * 2 ^ 120)
    (λ i below. let place : 15 - suc i ≡ 14 - i = omega arith in ap (λ (k : ℕ). get_or v k 0 * 2 ^ 120) place))
    (turns-shift 120 (get_or v 15 0))

pub vector-moved : (r v : List ℕ) → ((k : ℕ) → k < 15 → get_or r (k + 1) 0 ≡ get_or v k 0) → vector r ≡ bit_xor (get_or r 0 0 * 2 ^ 120) (turns 8 (front v))
unfolding vector front by_bytes
vector-moved r v rest =
    ap (λ (x : ℕ). bit_xor (get_or r 0 0 * 2 ^ 120) (turns 8 x))
    (by_bytes-agree 15 (λ i. get_or r (15 - i) 0 * 2 ^ 120) (λ i. get_or v (14 - i) 0 * 2 ^ 120)
    (λ i below. let place : 15 - i ≡ 14 - i + 1 = omega arith in
    ap (λ (k : ℕ). get_or r k 0 * 2 ^ 120) place ∙ ap (λ (x : ℕ). x * 2 ^ 120) (rest (14 - i) (omega arith))))

-- one row more: what falls out of the high vector goes into the low one
pub row-more : (row high low moved_high next : List ℕ) → length row ≡ 16 → length moved_high ≡ 16
    → get_or moved_high 0 0 ≡ 0 → ((k : ℕ) → k < 15 → get_or moved_high (k + 1) 0 ≡ get_or high k 0)
    → get_or next 0 0 ≡ get_or high 15 0 → ((k : ℕ) → k < 15 → get_or next (k + 1) 0 ≡ get_or low k 0) → get_or low 15 0 ≡ 0
    → bit_xor (vector (zip2 bit_xor row moved_high)) (turns 128 (vector next)) ≡ bit_xor (vector row) (turns 8 (bit_xor (vector high) (turns 128 (vector low))))
row-more row high low moved_high next long_row long_high zeroth rest fallen after none =
    let f : ℕ = turns 8 (front high) in
    let last : ℕ = get_or high 15 0 in
    let carried : ℕ = turns 8 last in
    let low_part : ℕ = turns 8 (turns 128 (front low)) in
    let moved_is : vector moved_high ≡ f =
    vector-moved moved_high high rest ∙ ap (λ (x : ℕ). bit_xor (x * 2 ^ 120) f) zeroth ∙ xor_zero_l f in
    let next_is : turns 128 (vector next) ≡ bit_xor carried low_part =
    ap (turns 128) (vector-moved next low after ∙ ap (λ (x : ℕ). bit_xor (x * 2 ^ 120) (turns 8 (front low))) fallen)
    ∙ turns-xor 128 (last * 2 ^ 120) (turns 8 (front low))
    ∙ ap₂ bit_xor (turns-turns 8 120 (last * 2 ^ 120) ∙ ap (turns 8) (turns-shift 120 last)) (turns_swap 128 8 (front low)) in
    let low_is : vector low ≡ front low =
    vector-split low ∙ ap (bit_xor (front low)) none ∙ xor_zero_r (front low) in
    let before : turns 8 (bit_xor (vector high) (turns 128 (vector low))) ≡ bit_xor (bit_xor f carried) low_part =
    turns-xor 8 (vector high) (turns 128 (vector low))
    ∙ ap₂ bit_xor (ap (turns 8) (vector-split high) ∙ turns-xor 8 (front high) last) (ap (λ (x : ℕ). turns 8 (turns 128 x)) low_is) in
    ap₂ bit_xor (vector-xor row moved_high long_row long_high ∙ ap (bit_xor (vector row)) moved_is) next_is
    ∙ xor_assoc (vector row) f (bit_xor carried low_part)
    ∙ ap (bit_xor (vector row)) (sym (xor_assoc f carried low_part) ∙ sym before)

-- ---- the rows

get_or-rows : (h k : ℕ) → k < 256 → get_or (rows h) k 0 ≡ byte_at (k / 16) (horner (bits 4 (k % 16)) h)
unfolding rows
get_or-rows h k below =
    get_or-map-range_with_len (λ k. byte_at (k / 16) (horner (bits 4 (k % 16)) h)) 0 256 k k 0 below (zero-add k)

byte_at-xor : (i a b : ℕ) → byte_at i (bit_xor a b) ≡ bit_xor (byte_at i a) (byte_at i b)
byte_at-xor i a b =
    rw (byte_at-is i (bit_xor a b), byte_at-is i a, byte_at-is i b, xor_shr a b (8 * i))
    (xor_mod (a / 2 ^ (8 * i)) (b / 2 ^ (8 * i)) 8)

-- byte i of the product of a byte, by its halves
pub rows-byte : (h i b : ℕ) → i < 16 → b < 256 → bit_xor (get_or (rows h) (16 * i + b / 16) 0) (get_or (rows (turns 4 h)) (16 * i + b % 16) 0) ≡ byte_at i (horner (bits 8 b) h)
rows-byte h i b small_i small_b =
    let high_place : (16 * i + b / 16) / 16 ≡ i = omega arith in
    let high_half : (16 * i + b / 16) % 16 ≡ b / 16 = omega arith in
    let low_place : (16 * i + b % 16) / 16 ≡ i = omega arith in
    let low_half : (16 * i + b % 16) % 16 ≡ b % 16 = omega arith in
    rw (get_or-rows h (16 * i + b / 16) (omega arith), get_or-rows (turns 4 h) (16 * i + b % 16) (omega arith), high_place, high_half, low_place, low_half)
    (sym (byte_at-xor i (horner (bits 4 (b / 16)) h) (horner (bits 4 (b % 16)) (turns 4 h)))
    ∙ ap (byte_at i) (sym (horner-byte b h)))

-- row i of the products of a block's bytes, as a number
unfoldable pub row_of : ℕ → List ℕ → ℕ → ℕ
row_of h b i = by_bytes 16 (λ m. byte_at i (horner (bits 8 (get_or b (15 - m) 0)) h) * 2 ^ 120)

pub vector-row : (h i : ℕ) (b v : List ℕ) → ((k : ℕ) → k < 16 → get_or v k 0 ≡ byte_at i (horner (bits 8 (get_or b k 0)) h)) → vector v ≡ row_of h b i
unfolding vector row_of
vector-row h i b v same =
    by_bytes-agree 16 (λ m. get_or v (15 - m) 0 * 2 ^ 120) (λ m. byte_at i (horner (bits 8 (get_or b (15 - m) 0)) h) * 2 ^ 120)
    (λ m below. ap (λ (x : ℕ). x * 2 ^ 120) (same (15 - m) (omega arith)))

vector-is : (v : List ℕ) → vector v ≡ by_bytes 16 (λ m. get_or v (15 - m) 0 * 2 ^ 120)
unfolding vector
vector-is v = refl

-- all rows together are the product
pub rows-all : (h : ℕ) (b : List ℕ) → h < 2 ^ 128 → ((k : ℕ) → get_or b k 0 < 256) → by_bytes 16 (row_of h b) ≡ horner (bits 128 (number_of b)) h
unfolding row_of
rows-all h b small bytes =
    let byte : ℕ → ℕ = λ m. get_or b (15 - m) 0 in
    by_bytes_swap 16 16 (λ i m. byte_at i (horner (bits 8 (byte m)) h) * 2 ^ 120)
    ∙ by_bytes-agree 16 (λ m. by_bytes 16 (λ i. byte_at i (horner (bits 8 (byte m)) h) * 2 ^ 120)) (λ m. horner (bits 128 h) (byte m * 2 ^ 120))
    (λ m below. sym (by_its_bytes (horner (bits 8 (byte m)) h) (horner-lt (bits 8 (byte m)) h small)) ∙ byte-product (byte m) h (bytes (15 - m)) small)
    ∙ sym (by_bytes-horner 16 h (λ m. byte m * 2 ^ 120))
    ∙ ap (horner (bits 128 h)) (sym (vector-is b) ∙ sym (number_of-vector b bytes))
    ∙ horner_comm h (number_of b) small (number_of-lt b bytes)

-- ---- how the rows are laid

get_or-low_first_more : (n i k q : ℕ) → k < n → get_or (bytes_low_first i n q) k 0 ≡ byte_at (i + k) q
get_or-low_first_more zero i k q below = absurd (omega arith)
get_or-low_first_more (suc n) i zero q below = let place : i ≡ i + 0 = omega arith in ap (λ (j : ℕ). byte_at j q) place
get_or-low_first_more (suc n) i (suc k) q below =
    let place : suc i + k ≡ i + suc k = omega arith in
    get_or-low_first_more n (suc i) k q (omega arith) ∙ ap (λ (j : ℕ). byte_at j q) place

pub get_or-low_first : (q k : ℕ) → k < 16 → get_or (to_le_bytes w128 q) k 0 ≡ byte_at k q
get_or-low_first q k below = get_or-low_first_more 16 0 k q below ∙ ap (λ (j : ℕ). byte_at j q) (zero-add k)

pub rows-are : (h : ℕ) (xs : List ℕ) → length xs ≡ 256 → ((k : ℕ) → k < 256 → get_or xs k 0 ≡ byte_at (k / 16) (horner (bits 4 (k % 16)) h)) → rows h ≡ xs
unfolding rows
rows-are h xs long each = sym (fill_by_all (λ k. byte_at (k / 16) (horner (bits 4 (k % 16)) h)) xs 256 0 long each)

-- ---- vectors

pub bytes_small : (v : List ℕ) → Each1 (Fits w8) v → (k : ℕ) → get_or v k 0 < 256
bytes_small [] fits k = omega arith
bytes_small (x ∷ xs) fits zero = fits.0.fits
bytes_small (x ∷ xs) fits (suc k) = bytes_small xs fits.1 k

-- the last byte of one vector and all but the last of another
pub moved-rest : (before v : List ℕ) → length before ≡ 16 → (k : ℕ) → k < 15
    → get_or (map (λ j. get_or (before ++ v) (15 + j) 0) (range_with_len 0 16)) (k + 1) 0 ≡ get_or v k 0
moved-rest before v long k below =
    let place : 15 + (k + 1) - 16 ≡ k = omega arith in
    get_or-map-range_with_len (λ j. get_or (before ++ v) (15 + j) 0) 0 16 (k + 1) (k + 1) 0 (omega arith) (zero-add (k + 1))
    ∙ get_or-append_right before v 16 (15 + (k + 1)) 0 long (omega arith)
    ∙ ap (λ (x : ℕ). get_or v x 0) place

pub splat-at : (f : ℕ → ℕ → ℕ) (xs : List ℕ) (y k : ℕ) → length xs ≡ 16 → k < 16 → get_or (zip2 f xs (replicate 16 y)) k 0 ≡ f (get_or xs k 0) y
splat-at f xs y k long below =
    get_or-zip2 f xs (replicate 16 y) k 0 0 0 (omega (arith, long)) below
    ∙ ap (f (get_or xs k 0)) (get_or-replicate 16 k y 0 below)

pub splat_small : (f : ℕ → ℕ → ℕ) (xs : List ℕ) (y : ℕ) → length xs ≡ 16 → Each1 (Fits w8) xs → ((x : ℕ) → x < 256 → f x y < 16)
    → Each1 (λ x. x < 16) (zip2 f xs (replicate 16 y))
splat_small f xs y long fits small =
    Each1-from_get_or (λ x. x < 16) (zip2 f xs (replicate 16 y)) 0
    (λ k below. let inside : k < 16 = omega (arith, length-zip2 f xs (replicate 16 y) long, long, below) in
    subst (λ (x : ℕ). x < 16) (sym (splat-at f xs y k long inside)) (small (get_or xs k 0) (bytes_small xs fits k)))

pub zeros : (n k : ℕ) → get_or {A = ℕ} (replicate n 0) k 0 ≡ 0
zeros zero k = refl
zeros (suc n) zero = refl
zeros (suc n) (suc k) = zeros n k

-- the zeros of the low vector, of which one row more fills one place more
pub zeros-more : (next low : List ℕ) (place fallen : ℕ) → length next ≡ 16 → get_or next 0 0 ≡ fallen
    → ((k : ℕ) → k < 15 → get_or next (k + 1) 0 ≡ get_or low k 0) → (place ≡ 0 → fallen ≡ 0)
    → ((k : ℕ) → place ≤ k + 1 → get_or low k 0 ≡ 0) → (k : ℕ) → place + 1 ≤ k + 1 → get_or next k 0 ≡ 0
zeros-more next low place fallen long first rest start before zero past = first ∙ start (omega (arith, past))
zeros-more next low place fallen long first rest start before (suc k) past =
    ⊎_elim
    (λ lt. let here : suc k ≡ k + 1 = omega arith in
    ap (λ (x : ℕ). get_or next x 0) here ∙ rest k lt ∙ before k (omega (arith, past)))
    (λ ge. get_or_past next (suc k) 0 (omega (arith, long)))
    (cases_lt k 15)

-- ---- sums of vectors, and the bytes of a number

pub zip2_small : (xs ys : List ℕ) → length xs ≡ 16 → length ys ≡ 16 → ((k : ℕ) → get_or xs k 0 < 256) → ((k : ℕ) → get_or ys k 0 < 256)
    → (k : ℕ) → get_or (zip2 bit_xor xs ys) k 0 < 256
zip2_small xs ys long_xs long_ys small_xs small_ys k =
    ⊎_elim
    (λ lt. subst (λ (x : ℕ). x < 256) (sym (get_or-zip2 bit_xor xs ys k 0 0 0 (omega (arith, long_xs)) (omega (arith, long_ys))))
    (xor_lt 8 (get_or xs k 0) (get_or ys k 0) (small_xs k) (small_ys k)))
    (λ ge. let long : length (zip2 bit_xor xs ys) ≡ 16 = length-zip2 bit_xor xs ys (long_xs ∙ sym long_ys) ∙ long_xs in
    let none = get_or_past (zip2 bit_xor xs ys) k 0 (omega (arith, long)) in omega (arith, none))
    (cases_lt k 16)

pub number_of-xor : (xs ys : List ℕ) → length xs ≡ 16 → length ys ≡ 16 → ((k : ℕ) → get_or xs k 0 < 256) → ((k : ℕ) → get_or ys k 0 < 256)
    → number_of (zip2 bit_xor xs ys) ≡ bit_xor (number_of xs) (number_of ys)
number_of-xor xs ys long_xs long_ys small_xs small_ys =
    number_of-vector (zip2 bit_xor xs ys) (zip2_small xs ys long_xs long_ys small_xs small_ys)
    ∙ vector-xor xs ys long_xs long_ys
    ∙ ap₂ bit_xor (sym (number_of-vector xs small_xs)) (sym (number_of-vector ys small_ys))

byte_at-lt : (i q : ℕ) → byte_at i q < 256
byte_at-lt i q = let is = byte_at-is i q in omega (arith, is)

high_first-small : (n q k : ℕ) → get_or (bytes_high_first n q) k 0 < 256
high_first-small zero q k = omega arith
high_first-small (suc n) q zero = byte_at-lt n q
high_first-small (suc n) q (suc k) = high_first-small n q k

vector-bytes : (q : ℕ) → vector (to_be_bytes w128 q) ≡ by_bytes 16 (λ i. byte_at i q * 2 ^ 120)
unfolding vector by_bytes
vector-bytes q = refl

pub number_of-bytes : (q : ℕ) → q < 2 ^ 128 → number_of (to_be_bytes w128 q) ≡ q
number_of-bytes q small =
    number_of-vector (to_be_bytes w128 q) (high_first-small 16 q) ∙ vector-bytes q ∙ sym (by_its_bytes q small)

-- ---- the bytes of a vector's number are the vector

-- f (n - 1) ... f 0
listed : ℕ → (ℕ → ℕ) → List ℕ
listed zero f = []
listed (suc n) f = f n ∷ listed n f

high_first-digits : (n rest : ℕ) (f : ℕ → ℕ) → ((i : ℕ) → f i < 256) → bytes_high_first n (rest * 2 ^ (8 * n) + digits n f) ≡ listed n f
unfolding digits listed
high_first-digits zero rest f small = refl
high_first-digits (suc n) rest f small =
    let top : ℕ = rest * 256 + f n in
    let d : ℕ = digits n f in
    let longer : 8 * suc n ≡ 8 + 8 * n = omega arith in
    let more : 2 ^ (8 + 8 * n) ≡ 2 ^ 8 * 2 ^ (8 * n) = pow-add 2 8 (8 * n) in
    let whole : rest * 2 ^ (8 * suc n) + (f n * 2 ^ (8 * n) + d) ≡ top * 2 ^ (8 * n) + d =
    rw longer (omega (arith, ap (λ (x : ℕ). rest * x) more)) in
    let here : byte_at n (top * 2 ^ (8 * n) + d) ≡ f n =
    byte_at-is n (top * 2 ^ (8 * n) + d) ∙ ap (λ (x : ℕ). x % 256) (div-mul-add top (2 ^ (8 * n)) d (digits-lt n f small)) ∙ omega (arith, small n) in
    rw whole (λ t. here t ∷ high_first-digits n top f small t)

-- a list of 16 is its 16 elements
listed-all : (v : List ℕ) → length v ≡ 16 → listed 16 (λ i. get_or v (15 - i) 0) ≡ v
unfolding listed
listed-all v long = sym (fill_by_all (λ i. get_or v i 0) v 16 0 long (λ i below. refl))

pub bytes-number_of : (v : List ℕ) → length v ≡ 16 → ((k : ℕ) → get_or v k 0 < 256) → to_be_bytes w128 (number_of v) ≡ v
bytes-number_of v long small =
    let d : ℕ = digits 16 (λ i. get_or v (15 - i) 0) in
    let whole : number_of v ≡ 0 * 2 ^ (8 * 16) + d = number_of-digits v ∙ omega arith in
    ap (bytes_high_first 16) whole
    ∙ high_first-digits 16 0 (λ i. get_or v (15 - i) 0) (λ i. small (15 - i))
    ∙ listed-all v long
