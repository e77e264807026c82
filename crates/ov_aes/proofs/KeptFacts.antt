-- The round keys as they are kept.
use Rattle.std.proofs.Common.{◌≡◌, ℕ, zero, suc, ◌+◌, ◌*◌, ◌/◌, ◌%◌, ◌<◌, ◌≤◌, ◌≢◌, List, [], ◌∷◌, ◌++◌, length, map, get_or, replicate, bit_xor, refl, sym, ap, ◌∙◌, arith, subst, zero-add, ◌-◌, ⊎_elim}
use Rattle.std.specs.List.{range_with_len}
use Rattle.std.specs.Int.{w32, to_be_bytes, bytes_high_first}
use Rattle.std.proofs.lemmas.Bool.{lt-ltb, le-ltb, ne_eqb, cases_lt}
use Rattle.std.proofs.lemmas.List.{length-map, get_or-map}
use Rattle.std.proofs.lemmas.Grind.{same_number_lists}
use Rattle.std.proofs.lemmas.List.FromFn.{get_or-map-range_with_len, fill_by_all}
use Rattle.std.proofs.lemmas.Simd.{map-map, zip2_splat}
use lib.Lanes.{Each1}
use Rattle.ov_aes.specs.Field.{plus}
use Rattle.ov_aes.specs.Cipher.{round_key}
use Rattle.ov_aes.specs.KeySchedule.{word}
use Rattle.ov_aes.specs.Nibbles.{AreBytes, inner}
use Rattle.ov_aes.specs.Words.{Begins, bytes_of}
use Rattle.ov_aes.specs.RoundKeys.{kept_byte, word_byte, kept_keys, HasKeys}

-- ---- what is kept of a round key

kept-byte-first : (nr r x : ℕ) → r ≡ 0 → kept_byte nr r x ≡ x
unfolding kept_byte
kept-byte-first nr r x none = rw none refl

pub kept_first : (nr r : ℕ) (v : List ℕ) → r ≡ 0 → map (kept_byte nr r) v ≡ v
unfolding kept_byte
kept_first nr r [] none = refl
kept_first nr r (x ∷ xs) none = λ t. kept-byte-first nr r x none t ∷ kept_first nr r xs none t

kept-middle : (nr r x : ℕ) → 1 ≤ r → r < nr → kept_byte nr r x ≡ inner (bit_xor x 0x63)
unfolding kept_byte
kept-middle nr r x least below =
    let some : r ≢ 0 = omega (arith, least) in
    rw (ne_eqb r 0 some, lt-ltb r nr below) refl

pub kept_middle : (nr r : ℕ) (v : List ℕ) → length v ≡ 16 → 1 ≤ r → r < nr → map (kept_byte nr r) v ≡ map inner (plus v (replicate 16 0x63))
kept_middle nr r v long least below =
    (λ t. map (λ x. kept-middle nr r x least below t) v)
    ∙ sym (map-map inner (λ x. bit_xor x 0x63) v)
    ∙ ap (map inner) (sym (zip2_splat bit_xor v 16 0x63 long))

kept-last : (nr r x : ℕ) → 1 ≤ r → nr ≤ r → kept_byte nr r x ≡ bit_xor x 0x63
unfolding kept_byte
kept-last nr r x least past =
    let some : r ≢ 0 = omega (arith, least) in
    rw (ne_eqb r 0 some, le-ltb r nr past) refl

pub kept_last : (nr r : ℕ) (v : List ℕ) → length v ≡ 16 → 1 ≤ r → nr ≤ r → map (kept_byte nr r) v ≡ plus v (replicate 16 0x63)
kept_last nr r v long least past =
    (λ t. map (λ x. kept-last nr r x least past t) v) ∙ sym (zip2_splat bit_xor v 16 0x63 long)

-- a vector of the kept bytes of a round key
pub kept-list : (nr r : ℕ) (key rk : List ℕ) → length key ≡ 16 → AreBytes rk → ((m : ℕ) → m < 16 → get_or key m 0 ≡ kept_byte nr r (get_or rk m 0)) → key ≡ map (kept_byte nr r) rk
kept-list nr r key rk long bytes each =
    same_number_lists key (map (kept_byte nr r) rk) (long ∙ sym (length-map rk (kept_byte nr r) ∙ bytes.0))
    (λ m below. let inside : m < 16 = omega (arith, below, long) in
    each m inside ∙ sym (get_or-map (kept_byte nr r) rk m 0 0 (omega (arith, inside, bytes.0))))

-- ---- the bytes of four words

sixteen-agree : (f g : ℕ → ℕ) → ((m : ℕ) → m < 16 → g m ≡ f m) → map g (range_with_len 0 16) ≡ map f (range_with_len 0 16)
sixteen-agree f g same =
    fill_by_all f (map g (range_with_len 0 16)) 16 0 refl
    (λ m below. get_or-map-range_with_len g 0 16 m m 0 below (zero-add m) ∙ same m below)

pub four-words : (words s : List ℕ) (r : ℕ) → ((k : ℕ) → k < 4 → get_or s k 0 ≡ get_or words (4 * r + k) 0)
    → bytes_of s ≡ map (λ m. word_byte words (16 * r + m)) (range_with_len 0 16)
four-words words s r same =
    sixteen-agree (λ m. word_byte words (16 * r + m)) (λ m. word_byte s m)
    (λ m below.
    let place : 4 * r + m / 4 ≡ (16 * r + m) / 4 = omega arith in
    let byte : m % 4 ≡ (16 * r + m) % 4 = omega arith in
    ap (λ (x : ℕ). get_or (to_be_bytes w32 x) (m % 4) 0) (same (m / 4) (omega arith))
    ∙ (λ t. get_or (to_be_bytes w32 (get_or words (place t) 0)) (byte t) 0))

pub four-at : (words : List ℕ) (r k : ℕ) → k < 4
    → get_or (get_or words (4 * r) 0 ∷ get_or words (4 * r + 1) 0 ∷ get_or words (4 * r + 2) 0 ∷ get_or words (4 * r + 3) 0 ∷ []) k 0 ≡ get_or words (4 * r + k) 0
four-at words r zero below = let first : 4 * r ≡ 4 * r + 0 = omega arith in ap (λ (x : ℕ). get_or words x 0) first
four-at words r (suc zero) below = refl
four-at words r (suc (suc zero)) below = refl
four-at words r (suc (suc (suc zero))) below = refl
four-at words r (suc (suc (suc (suc k)))) below = absurd (omega arith)

byte-lt : (n q k : ℕ) → get_or (bytes_high_first n q) k 0 < 256
byte-lt zero q k = omega arith
byte-lt (suc zero) q zero = omega arith
byte-lt (suc (suc n)) q zero = omega arith
byte-lt (suc n) q (suc k) = byte-lt n q k

each-map : (f : ℕ → ℕ) (xs : List ℕ) → ((x : ℕ) → f x < 256) → Each1 (λ x. x < 256) (map f xs)
each-map f [] small = tt
each-map f (x ∷ xs) small = (small x, each-map f xs small)

-- ---- the round keys of a schedule

round_key-is : (words : List ℕ) (w : List (List ℕ)) (n r : ℕ) → Begins words w n → 4 * r + 4 ≤ n
    → round_key w r ≡ map (λ m. word_byte words (16 * r + m)) (range_with_len 0 16)
round_key-is words w n r begins within =
    let first : 4 * r ≡ 4 * r + 0 = omega arith in
    (λ t. (ap (word w) first ∙ sym (begins (4 * r + 0) (omega (arith, within)))) t
    ++ (sym (begins (4 * r + 1) (omega (arith, within))) t
    ++ (sym (begins (4 * r + 2) (omega (arith, within))) t ++ sym (begins (4 * r + 3) (omega (arith, within))) t)))
    ∙ four-words words (map (λ k. get_or words (4 * r + k) 0) (range_with_len 0 4)) r
    (λ k below. get_or-map-range_with_len (λ k. get_or words (4 * r + k) 0) 0 4 k k 0 below (zero-add k))

get_or-kept : (words : List ℕ) (nr k : ℕ) → k < 240 → get_or (kept_keys words nr) k 0 ≡ kept_byte nr (k / 16) (word_byte words k)
unfolding kept_keys
get_or-kept words nr k below =
    get_or-map-range_with_len (λ i. kept_byte nr (i / 16) (word_byte words i)) 0 240 k k 0 below (zero-add k)

pub has-keys : (words keys : List ℕ) (w : List (List ℕ)) (nr n : ℕ) → Begins words w n → 4 * nr + 4 ≤ n → nr ≤ 14
    → kept_keys words nr ≡ keys → HasKeys keys w nr
has-keys words keys w nr n begins within most kept r le =
    let is = round_key-is words w n r begins (omega (arith, within, le)) in (
      subst AreBytes (sym is)
          (refl, each-map (λ m. word_byte words (16 * r + m)) (range_with_len 0 16) (λ m. byte-lt 4 (get_or words ((16 * r + m) / 4) 0) ((16 * r + m) % 4))),
      λ m below.
          let place : (16 * r + m) / 16 ≡ r = omega (arith, below) in
          ap (λ (xs : List ℕ). get_or xs (16 * r + m) 0) (sym kept)
          ∙ get_or-kept words nr (16 * r + m) (omega (arith, below, le, most))
          ∙ ap (λ (x : ℕ). kept_byte nr x (word_byte words (16 * r + m))) place
          ∙ ap (kept_byte nr r) (sym (ap (λ (xs : List ℕ). get_or xs m 0) is
          ∙ get_or-map-range_with_len (λ m. word_byte words (16 * r + m)) 0 16 m m 0 below (zero-add m))),
    )

pub kept-are : (words keys : List ℕ) (nr : ℕ) → length keys ≡ 240 → ((k : ℕ) → k < 240 → get_or keys k 0 ≡ kept_byte nr (k / 16) (word_byte words k)) → kept_keys words nr ≡ keys
unfolding kept_keys
kept-are words keys nr long each = sym (fill_by_all (λ k. kept_byte nr (k / 16) (word_byte words k)) keys 240 0 long each)

-- one round key more
pub put-more : (words key old new : List ℕ) (nr r : ℕ) → length key ≡ 16
    → key ≡ map (λ m. word_byte words (16 * r + m)) (range_with_len 0 16)
    → ((m : ℕ) → m < 16 → get_or new (16 * r + m) 0 ≡ get_or (map (kept_byte nr r) key) m 0)
    → ((k : ℕ) → k < 16 * r → get_or new k 0 ≡ get_or old k 0)
    → ((k : ℕ) → k < 16 * r → get_or old k 0 ≡ kept_byte nr (k / 16) (word_byte words k))
    → (k : ℕ) → k < 16 * (r + 1) → get_or new k 0 ≡ kept_byte nr (k / 16) (word_byte words k)
put-more words key old new nr r long is put same before k below =
    ⊎_elim (λ lt. same k lt ∙ before k lt)
    (λ ge.
    let m : ℕ = k - 16 * r in
    let inside : m < 16 = omega (arith, below, ge) in
    let place : 16 * r + m ≡ k = omega (arith, ge) in
    let row : r ≡ k / 16 = omega (arith, below, ge) in
    ap (λ (x : ℕ). get_or new x 0) (sym place) ∙ put m inside
    ∙ get_or-map (kept_byte nr r) key m 0 0 (omega (arith, inside, long))
    ∙ ap (kept_byte nr r) (ap (λ (xs : List ℕ). get_or xs m 0) is
    ∙ get_or-map-range_with_len (λ m. word_byte words (16 * r + m)) 0 16 m m 0 inside (zero-add m))
    ∙ (λ t. kept_byte nr (row t) (word_byte words (place t))))
    (cases_lt k (16 * r))
