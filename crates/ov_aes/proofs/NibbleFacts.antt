-- Vectors of bytes, lane by lane.
use Rattle.std.proofs.Common.{◌≡◌, ℕ, suc, ◌+◌, ◌*◌, ◌/◌, ◌<◌, ◌≤◌, true, List, [], ◌∷◌, length, map, get_or, bit_and, bit_xor, refl, sym, ap, ap₂, ◌∙◌, arith, subst, ◌||◌, cond, Fits, w8}
use Rattle.std.specs.Int.Bits.{xor_assoc}
use Rattle.std.specs.List.{range_with_len}
use Rattle.std.proofs.lemmas.List.{length-map}
use Rattle.std.proofs.lemmas.Nat.{and_mask, xor_comm, xor_mod, xor_shr}
use Rattle.std.proofs.lemmas.Simd.{SwzOk-from_Each1, swz_l, SwzOk, map-map, zip2_of_maps, below_from_Fits}
use lib.Dec.{T, leb, ltb}
use lib.Lanes.{Each1, zip2}
use mir.Val.{zeroes}
use Rattle.ov_aes.specs.declared.nibbles.TheConstants.{INVERSES, SCALED, INNER_LOW, INNER_HIGH}
use Rattle.ov_aes.specs.Nibbles.{AreBytes, entry, inner, first_place, second_place}
use Rattle.ov_aes.proofs.TableFacts.{agree, low-pair, high-pair}

-- ---- look-ups

entry-at : (table : List ℕ) (j k : ℕ) → k ≡ j → cond (leb 128 j) 0 (get_or table k 0) ≡ entry table j
entry-at table j k same = ap (λ (x : ℕ). cond (leb 128 j) 0 (get_or table x 0)) same

pub swizzled : (table js : List ℕ) (i : ℕ) → i + length js ≤ 16 → swz_l w8 16 table i js ≡ map (entry table) js
swizzled table [] i fits = refl
swizzled table (j ∷ js) i fits =
    let place : 16 * (i / 16) + j ≡ j = omega (arith, fits) in
    let rest = swizzled table js (suc i) (omega (arith, fits)) in
    λ t. entry-at table j (16 * (i / 16) + j) place t ∷ rest t

each_place : (f : ℕ → ℕ) (v : List ℕ) → ((x : ℕ) → x < 256 → (leb 128 (f x) || ltb (f x) 16) ≡ true) → Each1 (λ x. x < 256) v → Each1 (λ j. T (zeroes 16 w8 j || ltb j 16)) (map f v)
each_place f [] ok small = tt
each_place f (x ∷ xs) ok small = (subst T (sym (ok x small.0)) tt, each_place f xs ok small.1)

-- the places f x of bytes x are below 16 or from 128 on
pub places_ok : (f : ℕ → ℕ) (v : List ℕ) → AreBytes v → map (λ x. leb 128 (f x) || ltb (f x) 16) (range_with_len 0 256) ≡ map (λ x. true) (range_with_len 0 256) → SwzOk w8 16 16 0 (map f v)
places_ok f v bytes all =
    SwzOk-from_Each1 w8 16 1 16 0 (map f v) refl (omega (arith, length-map v f, bytes.0))
    (each_place f v (λ x below. agree (λ x. leb 128 (f x) || ltb (f x) 16) (λ x. true) 256 true all x below) bytes.1)

pub bytes-of : (v : List ℕ) → length v ≡ 16 → Each1 (Fits w8) v → AreBytes v
bytes-of v long fits = (long, below_from_Fits w8 v fits)

-- a look-up at places that were computed lane by lane from v
pub through : (table : List ℕ) (f : ℕ → ℕ) (v : List ℕ) {places result : List ℕ} → result ≡ map (entry table) places → places ≡ map f v → result ≡ map (λ x. entry table (f x)) v
through table f v found at = found ∙ ap (map (entry table)) at ∙ map-map (entry table) f v

-- ---- the inner form

joined-div : (x y : ℕ) → x < 16 → y < 16 → (16 * x + y) / 16 ≡ x
joined-div x y small_x small_y = omega arith

joined-low : (x y : ℕ) → x < 16 → y < 16 → bit_and (16 * x + y) 15 ≡ y
joined-low x y small_x small_y = let low = and_mask (16 * x + y) 4 in omega (arith, low)

low-linear : (x y : ℕ) → x < 16 → y < 16 → entry INNER_LOW (bit_xor x y) ≡ bit_xor (entry INNER_LOW x) (entry INNER_LOW y)
low-linear x y small_x small_y =
    (λ t. entry INNER_LOW (bit_xor (sym (joined-div x y small_x small_y) t) (sym (joined-low x y small_x small_y) t)))
    ∙ low-pair (16 * x + y) (omega arith)
    ∙ (λ t. bit_xor (entry INNER_LOW (joined-div x y small_x small_y t)) (entry INNER_LOW (joined-low x y small_x small_y t)))

high-linear : (x y : ℕ) → x < 16 → y < 16 → entry INNER_HIGH (bit_xor x y) ≡ bit_xor (entry INNER_HIGH x) (entry INNER_HIGH y)
high-linear x y small_x small_y =
    (λ t. entry INNER_HIGH (bit_xor (sym (joined-div x y small_x small_y) t) (sym (joined-low x y small_x small_y) t)))
    ∙ high-pair (16 * x + y) (omega arith)
    ∙ (λ t. bit_xor (entry INNER_HIGH (joined-div x y small_x small_y t)) (entry INNER_HIGH (joined-low x y small_x small_y t)))

pub xor_pairs : (a b c d : ℕ) → bit_xor (bit_xor a b) (bit_xor c d) ≡ bit_xor (bit_xor a c) (bit_xor b d)
xor_pairs a b c d =
    xor_assoc a b (bit_xor c d)
    ∙ ap (bit_xor a) (sym (xor_assoc b c d) ∙ ap (λ (x : ℕ). bit_xor x d) (xor_comm b c) ∙ xor_assoc c b d)
    ∙ sym (xor_assoc a c (bit_xor b d))

-- the inner form of a sum
pub inner-xor : (a b : ℕ) → a < 256 → b < 256 → inner (bit_xor a b) ≡ bit_xor (inner a) (inner b)
unfolding inner
inner-xor a b small_a small_b =
    let low_a = and_mask a 4 in
    let low_b = and_mask b 4 in
    let low : bit_and (bit_xor a b) 15 ≡ bit_xor (bit_and a 15) (bit_and b 15) =
    and_mask (bit_xor a b) 4 ∙ xor_mod a b 4 ∙ ap₂ bit_xor (sym low_a) (sym low_b) in
    let high : bit_xor a b / 16 ≡ bit_xor (a / 16) (b / 16) = xor_shr a b 4 in
    ap₂ bit_xor
    (ap (entry INNER_LOW) low ∙ low-linear (bit_and a 15) (bit_and b 15) (omega (arith, low_a)) (omega (arith, low_b)))
    (ap (entry INNER_HIGH) high ∙ high-linear (a / 16) (b / 16) (omega arith) (omega arith))
    ∙ xor_pairs (entry INNER_LOW (bit_and a 15)) (entry INNER_LOW (bit_and b 15)) (entry INNER_HIGH (a / 16)) (entry INNER_HIGH (b / 16))

-- ---- the places of a byte, step by step

abbrev pub high : ℕ → ℕ
high x = x / 16

abbrev pub low : ℕ → ℕ
low x = bit_and x 15

abbrev pub both : ℕ → ℕ
both x = bit_xor (high x) (low x)

abbrev pub scaled : ℕ → ℕ
scaled x = entry SCALED (low x)

abbrev pub of_high : ℕ → ℕ
of_high x = bit_xor (entry INVERSES (high x)) (scaled x)

abbrev pub of_both : ℕ → ℕ
of_both x = bit_xor (entry INVERSES (both x)) (scaled x)

pub high_ok : (v : List ℕ) → AreBytes v → SwzOk w8 16 16 0 (map high v)
high_ok v bytes = places_ok high v bytes refl

pub low_ok : (v : List ℕ) → AreBytes v → SwzOk w8 16 16 0 (map low v)
low_ok v bytes = places_ok low v bytes refl

pub both_ok : (v : List ℕ) → AreBytes v → SwzOk w8 16 16 0 (map both v)
both_ok v bytes = places_ok both v bytes refl

pub of_high_ok : (v : List ℕ) → AreBytes v → SwzOk w8 16 16 0 (map of_high v)
of_high_ok v bytes = places_ok of_high v bytes refl

pub of_both_ok : (v : List ℕ) → AreBytes v → SwzOk w8 16 16 0 (map of_both v)
of_both_ok v bytes = places_ok of_both v bytes refl

pub first_ok : (v : List ℕ) → AreBytes v → SwzOk w8 16 16 0 (map first_place v)
unfolding first_place
first_ok v bytes = places_ok first_place v bytes refl

pub second_ok : (v : List ℕ) → AreBytes v → SwzOk w8 16 16 0 (map second_place v)
unfolding second_place
second_ok v bytes = places_ok second_place v bytes refl

pub both-is : (v : List ℕ) {hs ls : List ℕ} → hs ≡ map high v → ls ≡ map low v → zip2 bit_xor hs ls ≡ map both v
both-is v h l = zip2_of_maps bit_xor high low v h l

pub of_high-is : (v : List ℕ) {hs ls found found' : List ℕ} → hs ≡ map high v → ls ≡ map low v → found ≡ map (entry INVERSES) hs → found' ≡ map (entry SCALED) ls → zip2 bit_xor found found' ≡ map of_high v
of_high-is v h l found found' =
    zip2_of_maps bit_xor (λ x. entry INVERSES (high x)) scaled v (through INVERSES high v found h) (through SCALED low v found' l)

pub of_both-is : (v : List ℕ) {bs ls found found' : List ℕ} → bs ≡ map both v → ls ≡ map low v → found ≡ map (entry INVERSES) bs → found' ≡ map (entry SCALED) ls → zip2 bit_xor found found' ≡ map of_both v
of_both-is v b l found found' =
    zip2_of_maps bit_xor (λ x. entry INVERSES (both x)) scaled v (through INVERSES both v found b) (through SCALED low v found' l)

pub first-is : (v : List ℕ) {os bs found : List ℕ} → os ≡ map of_high v → bs ≡ map both v → found ≡ map (entry INVERSES) os → zip2 bit_xor found bs ≡ map first_place v
unfolding first_place
first-is v o b found = zip2_of_maps bit_xor (λ x. entry INVERSES (of_high x)) both v (through INVERSES of_high v found o) b

pub second-is : (v : List ℕ) {os hs found : List ℕ} → os ≡ map of_both v → hs ≡ map high v → found ≡ map (entry INVERSES) os → zip2 bit_xor found hs ≡ map second_place v
unfolding second_place
second-is v o h found = zip2_of_maps bit_xor (λ x. entry INVERSES (of_both x)) high v (through INVERSES of_both v found o) h

-- ---- lists that agree byte by byte

pub map-agree : (f g : ℕ → ℕ) (v : List ℕ) → Each1 (λ x. x < 256) v → ((x : ℕ) → x < 256 → f x ≡ g x) → map f v ≡ map g v
map-agree f g [] small same = refl
map-agree f g (x ∷ xs) small same = λ t. same x small.0 t ∷ map-agree f g xs small.1 same t
