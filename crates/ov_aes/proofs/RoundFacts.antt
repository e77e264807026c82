-- A round on a vector of the state's 16 bytes in the inner form, against the round of the standard.
use Rattle.std.proofs.Common.{◌≡◌, ℕ, zero, suc, ◌<◌, List, [], ◌∷◌, ◌++◌, length, map, get_or, replicate, bit_xor, refl, sym, ap, ◌∙◌, arith, subst}
use Rattle.std.specs.List.{range_with_len}
use Rattle.std.specs.Int.Bits.{xor_assoc, xor_zero_r}
use Rattle.std.proofs.lemmas.List.{length-map}
use Rattle.std.proofs.lemmas.List.FromFn.{fill_by_all}
use Rattle.std.proofs.lemmas.Nat.{xor_comm, xor_lt}
use Rattle.std.proofs.lemmas.Simd.{map-map, zip2_splat, length-zip2}
use lib.Lanes.{Each1, zip2, pick_l}
use Rattle.ov_aes.specs.declared.nibbles.TheConstants.{ONCE_FIRST, ONCE_SECOND, TWICE_FIRST, TWICE_SECOND, LAST_FIRST, LAST_SECOND}
use Rattle.ov_aes.specs.declared.cipher.TheConstants.{SHIFTED, ONE_BELOW, TWO_BELOW, THREE_BELOW}
use Rattle.ov_aes.specs.Field.{plus, times}
use Rattle.ov_aes.specs.SBox.{sub_byte, sub_bytes}
use Rattle.ov_aes.specs.Cipher.{mix_column, mix_columns, shift_rows}
use Rattle.ov_aes.specs.Nibbles.{AreBytes, inner, nibble_sum}
use Rattle.ov_aes.proofs.TableFacts.{once-is, twice-is, thrice-is, last-is, constants-cancel, sub_byte-lt, twice-lt, thrice-lt}
use Rattle.ov_aes.proofs.NibbleFacts.{inner-xor, map-agree, xor_pairs}

-- what the look-ups give of a byte
once : ℕ → ℕ
once x = nibble_sum ONCE_FIRST ONCE_SECOND (inner x)

twice : ℕ → ℕ
twice x = nibble_sum TWICE_FIRST TWICE_SECOND (inner x)

pub last : ℕ → ℕ
last x = nibble_sum LAST_FIRST LAST_SECOND (inner x)

-- ---- SubBytes alone

last-lane : (x : ℕ) → x < 256 → bit_xor (last x) 0x63 ≡ sub_byte x
unfolding last
last-lane x below =
    ap (λ (y : ℕ). bit_xor y 0x63) (last-is x below) ∙ xor_assoc (sub_byte x) 0x63 0x63 ∙ xor_zero_r (sub_byte x)

-- a vector that was looked up at a vector in the inner form
looked : (f g : ℕ → ℕ) (v : List ℕ) {inners found : List ℕ} → inners ≡ map inner v → found ≡ map f inners → ((x : ℕ) → f (inner x) ≡ g x) → found ≡ map g v
looked f g v is found same = found ∙ ap (map f) is ∙ map-map f inner v ∙ (λ t. map (λ x. same x t) v)

pub last-bytes : (v inners found : List ℕ) → AreBytes v → inners ≡ map inner v → found ≡ map (nibble_sum LAST_FIRST LAST_SECOND) inners → zip2 bit_xor found (replicate 16 0x63) ≡ sub_bytes v
unfolding last sub_bytes
last-bytes v inners found bytes is looked_up =
    let here : found ≡ map last v = looked (nibble_sum LAST_FIRST LAST_SECOND) last v is looked_up (λ x. refl) in
    ap (λ (xs : List ℕ). zip2 bit_xor xs (replicate 16 0x63)) here
    ∙ zip2_splat bit_xor (map last v) 16 0x63 (length-map v last ∙ bytes.0)
    ∙ map-map (λ x. bit_xor x 0x63) last v
    ∙ map-agree (λ x. bit_xor (last x) 0x63) sub_byte v bytes.1 last-lane

-- ---- one byte of a round

five : (a b c d k p q r m : ℕ) → bit_xor (bit_xor (bit_xor (bit_xor p q) r) r) m ≡ 0
    → bit_xor (bit_xor (bit_xor (bit_xor (bit_xor a p) (bit_xor b q)) (bit_xor c r)) (bit_xor d r)) (bit_xor k m) ≡ bit_xor (bit_xor (bit_xor (bit_xor a b) c) d) k
five a b c d k p q r m none =
    ap (λ (x : ℕ). bit_xor (bit_xor (bit_xor x (bit_xor c r)) (bit_xor d r)) (bit_xor k m)) (xor_pairs a p b q)
    ∙ ap (λ (x : ℕ). bit_xor (bit_xor x (bit_xor d r)) (bit_xor k m)) (xor_pairs (bit_xor a b) (bit_xor p q) c r)
    ∙ ap (λ (x : ℕ). bit_xor x (bit_xor k m)) (xor_pairs (bit_xor (bit_xor a b) c) (bit_xor (bit_xor p q) r) d r)
    ∙ xor_pairs (bit_xor (bit_xor (bit_xor a b) c) d) (bit_xor (bit_xor (bit_xor p q) r) r) k m
    ∙ ap (bit_xor (bit_xor (bit_xor (bit_xor (bit_xor a b) c) d) k)) none
    ∙ xor_zero_r (bit_xor (bit_xor (bit_xor (bit_xor a b) c) d) k)

inner-five : (a b c d k : ℕ) → a < 256 → b < 256 → c < 256 → d < 256 → k < 256
    → bit_xor (bit_xor (bit_xor (bit_xor (inner a) (inner b)) (inner c)) (inner d)) (inner k) ≡ inner (bit_xor (bit_xor (bit_xor (bit_xor a b) c) d) k)
inner-five a b c d k a' b' c' d' k' =
    let ab : bit_xor a b < 256 = xor_lt 8 a b a' b' in
    let abc : bit_xor (bit_xor a b) c < 256 = xor_lt 8 (bit_xor a b) c ab c' in
    let abcd : bit_xor (bit_xor (bit_xor a b) c) d < 256 = xor_lt 8 (bit_xor (bit_xor a b) c) d abc d' in
    ap (λ (x : ℕ). bit_xor (bit_xor (bit_xor x (inner c)) (inner d)) (inner k)) (sym (inner-xor a b a' b'))
    ∙ ap (λ (x : ℕ). bit_xor (bit_xor x (inner d)) (inner k)) (sym (inner-xor (bit_xor a b) c ab c'))
    ∙ ap (λ (x : ℕ). bit_xor x (inner k)) (sym (inner-xor (bit_xor (bit_xor a b) c) d abc d'))
    ∙ sym (inner-xor (bit_xor (bit_xor (bit_xor a b) c) d) k abcd k')

-- the sum that the code computes for a byte of the state, from the bytes that MixColumns sums up
lane : ℕ → ℕ → ℕ → ℕ → ℕ → ℕ
lane a b c d k = bit_xor (bit_xor (bit_xor (bit_xor (twice a) (bit_xor (once b) (twice b))) (once c)) (once d)) (inner (bit_xor k 0x63))

lane_0 : (a b c d k : ℕ) → a < 256 → b < 256 → c < 256 → d < 256 → k < 256
    → lane a b c d k ≡ inner (bit_xor (bit_xor (bit_xor (bit_xor (times 2 (sub_byte a)) (times 3 (sub_byte b))) (sub_byte c)) (sub_byte d)) k)
unfolding lane once twice
lane_0 a b c d k a' b' c' d' k' =
    (λ t. bit_xor (bit_xor (bit_xor (bit_xor (twice-is a a' t) (thrice-is b b' t)) (once-is c c' t)) (once-is d d' t)) (inner-xor k 0x63 k' (omega arith) t))
    ∙ five (inner (times 2 (sub_byte a))) (inner (times 3 (sub_byte b))) (inner (sub_byte c)) (inner (sub_byte d)) (inner k)
    (inner (times 2 0x63)) (inner (times 3 0x63)) (inner 0x63) (inner 0x63) constants-cancel
    ∙ inner-five (times 2 (sub_byte a)) (times 3 (sub_byte b)) (sub_byte c) (sub_byte d) k
    (twice-lt (sub_byte a) (sub_byte-lt a a')) (thrice-lt (sub_byte b) (sub_byte-lt b b')) (sub_byte-lt c c') (sub_byte-lt d d') k'

-- sums of four, the last one taken to the front
turned : (p q r s : ℕ) → bit_xor (bit_xor (bit_xor p q) r) s ≡ bit_xor (bit_xor (bit_xor s p) q) r
turned p q r s =
    xor_comm (bit_xor (bit_xor p q) r) s ∙ sym (xor_assoc s (bit_xor p q) r)
    ∙ ap (λ (x : ℕ). bit_xor x r) (sym (xor_assoc s p q))

lane_1 : (a b c d k : ℕ) → a < 256 → b < 256 → c < 256 → d < 256 → k < 256
    → lane a b c d k ≡ inner (bit_xor (bit_xor (bit_xor (bit_xor (sub_byte d) (times 2 (sub_byte a))) (times 3 (sub_byte b))) (sub_byte c)) k)
lane_1 a b c d k a' b' c' d' k' =
    lane_0 a b c d k a' b' c' d' k' ∙ ap (λ (x : ℕ). inner (bit_xor x k)) (turned (times 2 (sub_byte a)) (times 3 (sub_byte b)) (sub_byte c) (sub_byte d))

lane_2 : (a b c d k : ℕ) → a < 256 → b < 256 → c < 256 → d < 256 → k < 256
    → lane a b c d k ≡ inner (bit_xor (bit_xor (bit_xor (bit_xor (sub_byte c) (sub_byte d)) (times 2 (sub_byte a))) (times 3 (sub_byte b))) k)
lane_2 a b c d k a' b' c' d' k' =
    lane_0 a b c d k a' b' c' d' k' ∙ ap (λ (x : ℕ). inner (bit_xor x k)) (turned (times 2 (sub_byte a)) (times 3 (sub_byte b)) (sub_byte c) (sub_byte d) ∙ turned (sub_byte d) (times 2 (sub_byte a)) (times 3 (sub_byte b)) (sub_byte c))

lane_3 : (a b c d k : ℕ) → a < 256 → b < 256 → c < 256 → d < 256 → k < 256
    → lane a b c d k ≡ inner (bit_xor (bit_xor (bit_xor (bit_xor (times 3 (sub_byte b)) (sub_byte c)) (sub_byte d)) (times 2 (sub_byte a))) k)
lane_3 a b c d k a' b' c' d' k' =
    lane_0 a b c d k a' b' c' d' k' ∙ ap (λ (x : ℕ). inner (bit_xor x k)) (turned (times 2 (sub_byte a)) (times 3 (sub_byte b)) (sub_byte c) (sub_byte d) ∙ turned (sub_byte d) (times 2 (sub_byte a)) (times 3 (sub_byte b)) (sub_byte c) ∙ turned (sub_byte c) (sub_byte d) (times 2 (sub_byte a)) (times 3 (sub_byte b)))

-- ---- all 16 bytes

-- the places of a state
abbrev all : (ℕ → ℕ) → List ℕ
all s = map s (range_with_len 0 16)

round-lanes : (s k : ℕ → ℕ) → ((i : ℕ) → s i < 256) → ((i : ℕ) → k i < 256)
    → lane (s 0) (s 5) (s 10) (s 15) (k 0)
    ∷ lane (s 5) (s 10) (s 15) (s 0) (k 1)
    ∷ lane (s 10) (s 15) (s 0) (s 5) (k 2)
    ∷ lane (s 15) (s 0) (s 5) (s 10) (k 3)
    ∷ lane (s 4) (s 9) (s 14) (s 3) (k 4)
    ∷ lane (s 9) (s 14) (s 3) (s 4) (k 5)
    ∷ lane (s 14) (s 3) (s 4) (s 9) (k 6)
    ∷ lane (s 3) (s 4) (s 9) (s 14) (k 7)
    ∷ lane (s 8) (s 13) (s 2) (s 7) (k 8)
    ∷ lane (s 13) (s 2) (s 7) (s 8) (k 9)
    ∷ lane (s 2) (s 7) (s 8) (s 13) (k 10)
    ∷ lane (s 7) (s 8) (s 13) (s 2) (k 11)
    ∷ lane (s 12) (s 1) (s 6) (s 11) (k 12)
    ∷ lane (s 1) (s 6) (s 11) (s 12) (k 13)
    ∷ lane (s 6) (s 11) (s 12) (s 1) (k 14)
    ∷ lane (s 11) (s 12) (s 1) (s 6) (k 15) ∷ [] ≡ map inner (plus (mix_columns (shift_rows (sub_bytes (all s)))) (all k))
unfolding mix_column mix_columns shift_rows sub_bytes
round-lanes s k small_s small_k =
    λ t. lane_0 (s 0) (s 5) (s 10) (s 15) (k 0) (small_s 0) (small_s 5) (small_s 10) (small_s 15) (small_k 0) t
    ∷ lane_1 (s 5) (s 10) (s 15) (s 0) (k 1) (small_s 5) (small_s 10) (small_s 15) (small_s 0) (small_k 1) t
    ∷ lane_2 (s 10) (s 15) (s 0) (s 5) (k 2) (small_s 10) (small_s 15) (small_s 0) (small_s 5) (small_k 2) t
    ∷ lane_3 (s 15) (s 0) (s 5) (s 10) (k 3) (small_s 15) (small_s 0) (small_s 5) (small_s 10) (small_k 3) t
    ∷ lane_0 (s 4) (s 9) (s 14) (s 3) (k 4) (small_s 4) (small_s 9) (small_s 14) (small_s 3) (small_k 4) t
    ∷ lane_1 (s 9) (s 14) (s 3) (s 4) (k 5) (small_s 9) (small_s 14) (small_s 3) (small_s 4) (small_k 5) t
    ∷ lane_2 (s 14) (s 3) (s 4) (s 9) (k 6) (small_s 14) (small_s 3) (small_s 4) (small_s 9) (small_k 6) t
    ∷ lane_3 (s 3) (s 4) (s 9) (s 14) (k 7) (small_s 3) (small_s 4) (small_s 9) (small_s 14) (small_k 7) t
    ∷ lane_0 (s 8) (s 13) (s 2) (s 7) (k 8) (small_s 8) (small_s 13) (small_s 2) (small_s 7) (small_k 8) t
    ∷ lane_1 (s 13) (s 2) (s 7) (s 8) (k 9) (small_s 13) (small_s 2) (small_s 7) (small_s 8) (small_k 9) t
    ∷ lane_2 (s 2) (s 7) (s 8) (s 13) (k 10) (small_s 2) (small_s 7) (small_s 8) (small_s 13) (small_k 10) t
    ∷ lane_3 (s 7) (s 8) (s 13) (s 2) (k 11) (small_s 7) (small_s 8) (small_s 13) (small_s 2) (small_k 11) t
    ∷ lane_0 (s 12) (s 1) (s 6) (s 11) (k 12) (small_s 12) (small_s 1) (small_s 6) (small_s 11) (small_k 12) t
    ∷ lane_1 (s 1) (s 6) (s 11) (s 12) (k 13) (small_s 1) (small_s 6) (small_s 11) (small_s 12) (small_k 13) t
    ∷ lane_2 (s 6) (s 11) (s 12) (s 1) (k 14) (small_s 6) (small_s 11) (small_s 12) (small_s 1) (small_k 14) t
    ∷ lane_3 (s 11) (s 12) (s 1) (s 6) (k 15) (small_s 11) (small_s 12) (small_s 1) (small_s 6) (small_k 15) t ∷ []

-- a list of 16 is its 16 elements
pub sixteen : (v : List ℕ) → length v ≡ 16 → v ≡ all (λ i. get_or v i 0)
sixteen v long = fill_by_all (λ i. get_or v i 0) v 16 0 long (λ i below. refl)

pub bytes-at : (v : List ℕ) → Each1 (λ x. x < 256) v → (i : ℕ) → get_or v i 0 < 256
bytes-at [] small i = omega arith
bytes-at (x ∷ xs) small zero = small.0
bytes-at (x ∷ xs) small (suc i) = bytes-at xs small.1 i

-- the sum that `round` computes
abbrev shuffled : List ℕ → List ℕ → List ℕ → List ℕ
shuffled ones twos key =
    let threes : List ℕ = zip2 bit_xor ones twos in
    zip2 bit_xor (zip2 bit_xor (zip2 bit_xor (zip2 bit_xor (pick_l 0 (twos ++ twos) SHIFTED) (pick_l 0 (threes ++ threes) ONE_BELOW))
    (pick_l 0 (ones ++ ones) TWO_BELOW)) (pick_l 0 (ones ++ ones) THREE_BELOW)) key

shuffled-lanes : (s k : ℕ → ℕ) → ((i : ℕ) → s i < 256) → ((i : ℕ) → k i < 256)
    → shuffled (map once (all s)) (map twice (all s)) (map (λ x. inner (bit_xor x 0x63)) (all k)) ≡ map inner (plus (mix_columns (shift_rows (sub_bytes (all s)))) (all k))
unfolding lane
shuffled-lanes s k small_s small_k = round-lanes s k small_s small_k

masked : (k key : List ℕ) → AreBytes k → key ≡ map inner (plus k (replicate 16 0x63)) → key ≡ map (λ x. inner (bit_xor x 0x63)) k
masked k key bytes is =
    is ∙ ap (map inner) (zip2_splat bit_xor k 16 0x63 bytes.0) ∙ map-map inner (λ x. bit_xor x 0x63) k

pub round-is : (s k state ones twos key : List ℕ) → AreBytes s → AreBytes k → state ≡ map inner s
    → ones ≡ map (nibble_sum ONCE_FIRST ONCE_SECOND) state → twos ≡ map (nibble_sum TWICE_FIRST TWICE_SECOND) state
    → key ≡ map inner (plus k (replicate 16 0x63))
    → shuffled ones twos key ≡ map inner (plus (mix_columns (shift_rows (sub_bytes s))) k)
unfolding once twice
round-is s k state ones twos key bytes_s bytes_k state_is ones_is twos_is key_is =
    let at : ℕ → ℕ = λ i. get_or s i 0 in
    let key_at : ℕ → ℕ = λ i. get_or k i 0 in
    let s_is : s ≡ all at = sixteen s bytes_s.0 in
    let k_is : k ≡ all key_at = sixteen k bytes_k.0 in
    let ones' : ones ≡ map once (all at) = looked (nibble_sum ONCE_FIRST ONCE_SECOND) once s state_is ones_is (λ x. refl) ∙ ap (map once) s_is in
    let twos' : twos ≡ map twice (all at) = looked (nibble_sum TWICE_FIRST TWICE_SECOND) twice s state_is twos_is (λ x. refl) ∙ ap (map twice) s_is in
    let key' : key ≡ map (λ x. inner (bit_xor x 0x63)) (all key_at) = masked k key bytes_k key_is ∙ ap (map (λ x. inner (bit_xor x 0x63))) k_is in
    (λ t. shuffled (ones' t) (twos' t) (key' t))
    ∙ shuffled-lanes at key_at (bytes-at s bytes_s.1) (bytes-at k bytes_k.1)
    ∙ (λ t. map inner (plus (mix_columns (shift_rows (sub_bytes (sym s_is t)))) (sym k_is t)))

-- ---- the last round

last_lane : (a k : ℕ) → a < 256 → bit_xor (last a) (bit_xor k 0x63) ≡ bit_xor (sub_byte a) k
unfolding last
last_lane a k below =
    ap (λ (x : ℕ). bit_xor x (bit_xor k 0x63)) (last-is a below) ∙ xor_pairs (sub_byte a) 0x63 k 0x63
    ∙ xor_zero_r (bit_xor (sub_byte a) k)

abbrev shifted : List ℕ → List ℕ → List ℕ
shifted found key = zip2 bit_xor (pick_l 0 (found ++ found) SHIFTED) key

last-lanes : (s k : ℕ → ℕ) → ((i : ℕ) → s i < 256) → shifted (map last (all s)) (map (λ x. bit_xor x 0x63) (all k)) ≡ plus (shift_rows (sub_bytes (all s))) (all k)
unfolding shift_rows sub_bytes
last-lanes s k small_s =
    λ t. last_lane (s 0) (k 0) (small_s 0) t
    ∷ last_lane (s 5) (k 1) (small_s 5) t
    ∷ last_lane (s 10) (k 2) (small_s 10) t
    ∷ last_lane (s 15) (k 3) (small_s 15) t
    ∷ last_lane (s 4) (k 4) (small_s 4) t
    ∷ last_lane (s 9) (k 5) (small_s 9) t
    ∷ last_lane (s 14) (k 6) (small_s 14) t
    ∷ last_lane (s 3) (k 7) (small_s 3) t
    ∷ last_lane (s 8) (k 8) (small_s 8) t
    ∷ last_lane (s 13) (k 9) (small_s 13) t
    ∷ last_lane (s 2) (k 10) (small_s 2) t
    ∷ last_lane (s 7) (k 11) (small_s 7) t
    ∷ last_lane (s 12) (k 12) (small_s 12) t
    ∷ last_lane (s 1) (k 13) (small_s 1) t
    ∷ last_lane (s 6) (k 14) (small_s 6) t
    ∷ last_lane (s 11) (k 15) (small_s 11) t ∷ []

pub last_round-is : (s k state found key : List ℕ) → AreBytes s → AreBytes k → state ≡ map inner s
    → found ≡ map (nibble_sum LAST_FIRST LAST_SECOND) state → key ≡ plus k (replicate 16 0x63)
    → shifted found key ≡ plus (shift_rows (sub_bytes s)) k
unfolding last
last_round-is s k state found key bytes_s bytes_k state_is found_is key_is =
    let at : ℕ → ℕ = λ i. get_or s i 0 in
    let key_at : ℕ → ℕ = λ i. get_or k i 0 in
    let s_is : s ≡ all at = sixteen s bytes_s.0 in
    let k_is : k ≡ all key_at = sixteen k bytes_k.0 in
    let found' : found ≡ map last (all at) = looked (nibble_sum LAST_FIRST LAST_SECOND) last s state_is found_is (λ x. refl) ∙ ap (map last) s_is in
    let key' : key ≡ map (λ x. bit_xor x 0x63) (all key_at) = key_is ∙ zip2_splat bit_xor k 16 0x63 bytes_k.0 ∙ ap (map (λ x. bit_xor x 0x63)) k_is in
    (λ t. shifted (found' t) (key' t))
    ∙ last-lanes at key_at (bytes-at s bytes_s.1)
    ∙ (λ t. plus (shift_rows (sub_bytes (sym s_is t))) (sym k_is t))

-- ---- states are bytes

each-plus : (xs ys : List ℕ) → Each1 (λ x. x < 256) xs → Each1 (λ x. x < 256) ys → Each1 (λ x. x < 256) (plus xs ys)
each-plus [] ys small_x small_y = tt
each-plus (x ∷ xs) [] small_x small_y = tt
each-plus (x ∷ xs) (y ∷ ys) small_x small_y = (xor_lt 8 x y small_x.0 small_y.0, each-plus xs ys small_x.1 small_y.1)

pub bytes-plus : (xs ys : List ℕ) → AreBytes xs → AreBytes ys → AreBytes (plus xs ys)
bytes-plus xs ys bytes_x bytes_y =
    (length-zip2 bit_xor xs ys (bytes_x.0 ∙ sym bytes_y.0) ∙ bytes_x.0, each-plus xs ys bytes_x.1 bytes_y.1)

five-lt : (p q r s k : ℕ) → p < 256 → q < 256 → r < 256 → s < 256 → k < 256 → bit_xor (bit_xor (bit_xor (bit_xor p q) r) s) k < 256
five-lt p q r s k p' q' r' s' k' =
    xor_lt 8 (bit_xor (bit_xor (bit_xor p q) r) s) k
    (xor_lt 8 (bit_xor (bit_xor p q) r) s (xor_lt 8 (bit_xor p q) r (xor_lt 8 p q p' q') r') s') k'

round-bytes : (s k : ℕ → ℕ) → ((i : ℕ) → s i < 256) → ((i : ℕ) → k i < 256) → AreBytes (plus (mix_columns (shift_rows (sub_bytes (all s)))) (all k))
unfolding mix_column mix_columns shift_rows sub_bytes
round-bytes s k small_s small_k = (
  refl,
  (
    five-lt (times 2 (sub_byte (s 0))) (times 3 (sub_byte (s 5))) (sub_byte (s 10)) (sub_byte (s 15)) (k 0) (twice-lt (sub_byte (s 0)) (sub_byte-lt (s 0) (small_s 0))) (thrice-lt (sub_byte (s 5)) (sub_byte-lt (s 5) (small_s 5))) (sub_byte-lt (s 10) (small_s 10)) (sub_byte-lt (s 15) (small_s 15)) (small_k 0),
    (
      five-lt (sub_byte (s 0)) (times 2 (sub_byte (s 5))) (times 3 (sub_byte (s 10))) (sub_byte (s 15)) (k 1) (sub_byte-lt (s 0) (small_s 0)) (twice-lt (sub_byte (s 5)) (sub_byte-lt (s 5) (small_s 5))) (thrice-lt (sub_byte (s 10)) (sub_byte-lt (s 10) (small_s 10))) (sub_byte-lt (s 15) (small_s 15)) (small_k 1),
      (
        five-lt (sub_byte (s 0)) (sub_byte (s 5)) (times 2 (sub_byte (s 10))) (times 3 (sub_byte (s 15))) (k 2) (sub_byte-lt (s 0) (small_s 0)) (sub_byte-lt (s 5) (small_s 5)) (twice-lt (sub_byte (s 10)) (sub_byte-lt (s 10) (small_s 10))) (thrice-lt (sub_byte (s 15)) (sub_byte-lt (s 15) (small_s 15))) (small_k 2),
        (
          five-lt (times 3 (sub_byte (s 0))) (sub_byte (s 5)) (sub_byte (s 10)) (times 2 (sub_byte (s 15))) (k 3) (thrice-lt (sub_byte (s 0)) (sub_byte-lt (s 0) (small_s 0))) (sub_byte-lt (s 5) (small_s 5)) (sub_byte-lt (s 10) (small_s 10)) (twice-lt (sub_byte (s 15)) (sub_byte-lt (s 15) (small_s 15))) (small_k 3),
          (
            five-lt (times 2 (sub_byte (s 4))) (times 3 (sub_byte (s 9))) (sub_byte (s 14)) (sub_byte (s 3)) (k 4) (twice-lt (sub_byte (s 4)) (sub_byte-lt (s 4) (small_s 4))) (thrice-lt (sub_byte (s 9)) (sub_byte-lt (s 9) (small_s 9))) (sub_byte-lt (s 14) (small_s 14)) (sub_byte-lt (s 3) (small_s 3)) (small_k 4),
            (
              five-lt (sub_byte (s 4)) (times 2 (sub_byte (s 9))) (times 3 (sub_byte (s 14))) (sub_byte (s 3)) (k 5) (sub_byte-lt (s 4) (small_s 4)) (twice-lt (sub_byte (s 9)) (sub_byte-lt (s 9) (small_s 9))) (thrice-lt (sub_byte (s 14)) (sub_byte-lt (s 14) (small_s 14))) (sub_byte-lt (s 3) (small_s 3)) (small_k 5),
              (
                five-lt (sub_byte (s 4)) (sub_byte (s 9)) (times 2 (sub_byte (s 14))) (times 3 (sub_byte (s 3))) (k 6) (sub_byte-lt (s 4) (small_s 4)) (sub_byte-lt (s 9) (small_s 9)) (twice-lt (sub_byte (s 14)) (sub_byte-lt (s 14) (small_s 14))) (thrice-lt (sub_byte (s 3)) (sub_byte-lt (s 3) (small_s 3))) (small_k 6),
                (
                  five-lt (times 3 (sub_byte (s 4))) (sub_byte (s 9)) (sub_byte (s 14)) (times 2 (sub_byte (s 3))) (k 7) (thrice-lt (sub_byte (s 4)) (sub_byte-lt (s 4) (small_s 4))) (sub_byte-lt (s 9) (small_s 9)) (sub_byte-lt (s 14) (small_s 14)) (twice-lt (sub_byte (s 3)) (sub_byte-lt (s 3) (small_s 3))) (small_k 7),
                  (
                    five-lt (times 2 (sub_byte (s 8))) (times 3 (sub_byte (s 13))) (sub_byte (s 2)) (sub_byte (s 7)) (k 8) (twice-lt (sub_byte (s 8)) (sub_byte-lt (s 8) (small_s 8))) (thrice-lt (sub_byte (s 13)) (sub_byte-lt (s 13) (small_s 13))) (sub_byte-lt (s 2) (small_s 2)) (sub_byte-lt (s 7) (small_s 7)) (small_k 8),
                    (
                      five-lt (sub_byte (s 8)) (times 2 (sub_byte (s 13))) (times 3 (sub_byte (s 2))) (sub_byte (s 7)) (k 9) (sub_byte-lt (s 8) (small_s 8)) (twice-lt (sub_byte (s 13)) (sub_byte-lt (s 13) (small_s 13))) (thrice-lt (sub_byte (s 2)) (sub_byte-lt (s 2) (small_s 2))) (sub_byte-lt (s 7) (small_s 7)) (small_k 9),
                      (
                        five-lt (sub_byte (s 8)) (sub_byte (s 13)) (times 2 (sub_byte (s 2))) (times 3 (sub_byte (s 7))) (k 10) (sub_byte-lt (s 8) (small_s 8)) (sub_byte-lt (s 13) (small_s 13)) (twice-lt (sub_byte (s 2)) (sub_byte-lt (s 2) (small_s 2))) (thrice-lt (sub_byte (s 7)) (sub_byte-lt (s 7) (small_s 7))) (small_k 10),
                        (
                          five-lt (times 3 (sub_byte (s 8))) (sub_byte (s 13)) (sub_byte (s 2)) (times 2 (sub_byte (s 7))) (k 11) (thrice-lt (sub_byte (s 8)) (sub_byte-lt (s 8) (small_s 8))) (sub_byte-lt (s 13) (small_s 13)) (sub_byte-lt (s 2) (small_s 2)) (twice-lt (sub_byte (s 7)) (sub_byte-lt (s 7) (small_s 7))) (small_k 11),
                          (
                            five-lt (times 2 (sub_byte (s 12))) (times 3 (sub_byte (s 1))) (sub_byte (s 6)) (sub_byte (s 11)) (k 12) (twice-lt (sub_byte (s 12)) (sub_byte-lt (s 12) (small_s 12))) (thrice-lt (sub_byte (s 1)) (sub_byte-lt (s 1) (small_s 1))) (sub_byte-lt (s 6) (small_s 6)) (sub_byte-lt (s 11) (small_s 11)) (small_k 12),
                            (
                              five-lt (sub_byte (s 12)) (times 2 (sub_byte (s 1))) (times 3 (sub_byte (s 6))) (sub_byte (s 11)) (k 13) (sub_byte-lt (s 12) (small_s 12)) (twice-lt (sub_byte (s 1)) (sub_byte-lt (s 1) (small_s 1))) (thrice-lt (sub_byte (s 6)) (sub_byte-lt (s 6) (small_s 6))) (sub_byte-lt (s 11) (small_s 11)) (small_k 13),
                              (
                                five-lt (sub_byte (s 12)) (sub_byte (s 1)) (times 2 (sub_byte (s 6))) (times 3 (sub_byte (s 11))) (k 14) (sub_byte-lt (s 12) (small_s 12)) (sub_byte-lt (s 1) (small_s 1)) (twice-lt (sub_byte (s 6)) (sub_byte-lt (s 6) (small_s 6))) (thrice-lt (sub_byte (s 11)) (sub_byte-lt (s 11) (small_s 11))) (small_k 14),
                                (five-lt (times 3 (sub_byte (s 12))) (sub_byte (s 1)) (sub_byte (s 6)) (times 2 (sub_byte (s 11))) (k 15) (thrice-lt (sub_byte (s 12)) (sub_byte-lt (s 12) (small_s 12))) (sub_byte-lt (s 1) (small_s 1)) (sub_byte-lt (s 6) (small_s 6)) (twice-lt (sub_byte (s 11)) (sub_byte-lt (s 11) (small_s 11))) (small_k 15), tt),
                              ),
                            ),
                          ),
                        ),
                      ),
                    ),
                  ),
                ),
              ),
            ),
          ),
        ),
      ),
    ),
  ),
)

pub bytes-round : (s k : List ℕ) → AreBytes s → AreBytes k → AreBytes (plus (mix_columns (shift_rows (sub_bytes s))) k)
bytes-round s k bytes_s bytes_k =
    let s_is = sym (sixteen s bytes_s.0) in
    let k_is = sym (sixteen k bytes_k.0) in
    subst AreBytes (λ t. plus (mix_columns (shift_rows (sub_bytes (s_is t)))) (k_is t))
    (round-bytes (λ i. get_or s i 0) (λ i. get_or k i 0) (bytes-at s bytes_s.1) (bytes-at k bytes_k.1))
