-- Turns and products by Horner's rule are linear, and products may be taken in any order.
use Rattle.std.proofs.Common.{◌≡◌, ℕ, zero, suc, ◌*◌, ◌/◌, ◌%◌, ◌^◌, ◌<◌, Bool, true, false, List, [], ◌∷◌, ◌++◌, length, bit_xor, refl, sym, ap, ◌∙◌, arith}
use Rattle.std.proofs.lemmas.Nat.{xor_comm, xor_shr, xor_mod, xor_lt, shr_split, pow_pos}
use Rattle.std.proofs.Math.Nat.{pow-suc}
use Rattle.std.specs.Int.Bits.{xor_self, xor_assoc, xor_zero_r, xor_shifted}
use Rattle.ov_ghash.specs.Polynomial.{add, plus, scaled, product}
use Rattle.ov_ghash.specs.Turn.{turn, turns, part, horner}

pub xor_swap : (a b c : ℕ) → bit_xor a (bit_xor b c) ≡ bit_xor b (bit_xor a c)
xor_swap a b c = sym (xor_assoc a b c) ∙ ap (λ (x : ℕ). bit_xor x c) (xor_comm a b) ∙ xor_assoc b a c

pub xor_pairs : (a b c d : ℕ) → bit_xor (bit_xor a b) (bit_xor c d) ≡ bit_xor (bit_xor a c) (bit_xor b d)
xor_pairs a b c d = xor_assoc a b (bit_xor c d) ∙ ap (bit_xor a) (xor_swap b c d) ∙ sym (xor_assoc a c (bit_xor b d))

-- what a turn adds for the lowest bit
carry-xor : (a b : ℕ) → a < 2 → b < 2 → bit_xor a b * (0xe1 * 2 ^ 120) ≡ bit_xor (a * (0xe1 * 2 ^ 120)) (b * (0xe1 * 2 ^ 120))
carry-xor zero zero p q = refl
carry-xor zero (suc zero) p q = refl
carry-xor (suc zero) zero p q = refl
carry-xor (suc zero) (suc zero) p q = refl
carry-xor zero (suc (suc b)) p q = absurd (omega arith)
carry-xor (suc zero) (suc (suc b)) p q = absurd (omega arith)
carry-xor (suc (suc a)) b p q = absurd (omega arith)

pub turn-xor : (a b : ℕ) → turn (bit_xor a b) ≡ bit_xor (turn a) (turn b)
unfolding turn
turn-xor a b =
    rw (xor_shr a b 1, xor_mod a b 1, carry-xor (a % 2) (b % 2) (omega arith) (omega arith))
    (xor_pairs (a / 2) (b / 2) (a % 2 * (0xe1 * 2 ^ 120)) (b % 2 * (0xe1 * 2 ^ 120)))

pub turn-lt : (v : ℕ) → v < 2 ^ 128 → turn v < 2 ^ 128
unfolding turn
turn-lt v small = xor_lt 128 (v / 2) (v % 2 * (0xe1 * 2 ^ 120)) (omega arith) (omega arith)

-- a turn of an even block only moves it
pub turn-double : (v : ℕ) → turn (v * 2) ≡ v
unfolding turn
turn-double v =
    let half : v * 2 / 2 ≡ v = omega arith in
    let even : v * 2 % 2 ≡ 0 = omega arith in
    rw (half, even) (xor_zero_r v)

pub turns-xor : (k a b : ℕ) → turns k (bit_xor a b) ≡ bit_xor (turns k a) (turns k b)
unfolding turns
turns-xor zero a b = refl
turns-xor (suc k) a b = rw (turns-xor k a b) (turn-xor (turns k a) (turns k b))

pub turns-shift : (k v : ℕ) → turns k (v * 2 ^ k) ≡ v
unfolding turns
turns-shift zero v = omega arith
turns-shift (suc k) v =
    let shifted : v * 2 ^ suc k ≡ v * 2 * 2 ^ k = omega (arith, ap (λ (x : ℕ). v * x) (pow-suc 2 k)) in
    rw (shifted, turns-shift k (v * 2)) (turn-double v)

-- k turns move a block by k bits, and reduce the bits that fall out
pub turns_split : (k v : ℕ) → turns k v ≡ bit_xor (v / 2 ^ k) (turns k (v % 2 ^ k))
turns_split k v =
    let parts : bit_xor (v / 2 ^ k * 2 ^ k) (v % 2 ^ k) ≡ v =
    xor_shifted (v / 2 ^ k) k (v % 2 ^ k) (omega (arith, pow_pos k)) ∙ shr_split v k in
    ap (turns k) (sym parts) ∙ turns-xor k (v / 2 ^ k * 2 ^ k) (v % 2 ^ k)
    ∙ ap (λ (x : ℕ). bit_xor x (turns k (v % 2 ^ k))) (turns-shift k (v / 2 ^ k))

part-xor : (a : Bool) (g h : ℕ) → part a (bit_xor g h) ≡ bit_xor (part a g) (part a h)
unfolding part
part-xor true g h = refl
part-xor false g h = refl

pub horner-xor : (p : List Bool) (g h : ℕ) → horner p (bit_xor g h) ≡ bit_xor (horner p g) (horner p h)
unfolding horner
horner-xor [] g h = refl
horner-xor (a ∷ p) g h =
    rw (part-xor a g h, horner-xor p g h, turn-xor (horner p g) (horner p h))
    (xor_pairs (part a g) (part a h) (turn (horner p g)) (turn (horner p h)))

part-turn : (a : Bool) (h : ℕ) → part a (turn h) ≡ turn (part a h)
unfolding part turn
part-turn true h = refl
part-turn false h = refl

pub horner-turn : (p : List Bool) (h : ℕ) → horner p (turn h) ≡ turn (horner p h)
unfolding horner turn
horner-turn [] h = refl
horner-turn (a ∷ p) h =
    rw (part-turn a h, horner-turn p h) (sym (turn-xor (part a h) (turn (horner p h))))

pub horner-turns : (k : ℕ) (p : List Bool) (h : ℕ) → horner p (turns k h) ≡ turns k (horner p h)
unfolding turns
horner-turns zero p h = refl
horner-turns (suc k) p h = horner-turn p (turns k h) ∙ ap turn (horner-turns k p h)

pub horner-zero : (p : List Bool) → horner p 0 ≡ 0
unfolding horner part turn
horner-zero [] = refl
horner-zero (true ∷ p) = rw (horner-zero p) refl
horner-zero (false ∷ p) = rw (horner-zero p) refl

pub part-horner : (a : Bool) (q : List Bool) (h : ℕ) → horner q (part a h) ≡ part a (horner q h)
unfolding part
part-horner true q h = refl
part-horner false q h = horner-zero q

-- products may be taken in any order
pub horner-horner : (p q : List Bool) (h : ℕ) → horner p (horner q h) ≡ horner q (horner p h)
unfolding horner
horner-horner [] q h = sym (horner-zero q)
horner-horner (a ∷ p) q h =
    rw (horner-horner p q h, ← part-horner a q h, ← horner-turn q (horner p h))
    (sym (horner-xor q (part a h) (turn (horner p h))))

part-add : (a b : Bool) (h : ℕ) → part (add a b) h ≡ bit_xor (part a h) (part b h)
unfolding part add
part-add true true h = sym (xor_self h)
part-add true false h = sym (xor_zero_r h)
part-add false true h = refl
part-add false false h = refl

pub horner-plus : (p q : List Bool) (h : ℕ) → horner (plus p q) h ≡ bit_xor (horner p h) (horner q h)
unfolding horner plus
horner-plus [] q h = refl
horner-plus (a ∷ p) [] h = sym (xor_zero_r (horner (a ∷ p) h))
horner-plus (a ∷ p) (b ∷ q) h =
    rw (part-add a b h, horner-plus p q h, turn-xor (horner p h) (horner q h))
    (xor_pairs (part a h) (part b h) (turn (horner p h)) (turn (horner q h)))

horner-scaled : (a : Bool) (q : List Bool) (h : ℕ) → horner (scaled a q) h ≡ part a (horner q h)
unfolding horner scaled part
horner-scaled true q h = refl
horner-scaled false q h = refl

pub horner-product : (p q : List Bool) (h : ℕ) → horner (product p q) h ≡ horner p (horner q h)
unfolding horner product part
horner-product [] q h = refl
horner-product (a ∷ p) q h =
    rw (horner-plus (scaled a q) (false ∷ product p q) h, horner-scaled a q h, horner-product p q h) refl

pub horner-append : (p q : List Bool) (h : ℕ) → horner (p ++ q) h ≡ bit_xor (horner p h) (turns (length p) (horner q h))
unfolding horner turns
horner-append [] q h = refl
horner-append (a ∷ p) q h =
    rw (horner-append p q h, turn-xor (horner p h) (turns (length p) (horner q h)))
    (sym (xor_assoc (part a h) (turn (horner p h)) (turn (turns (length p) (horner q h)))))

part-lt : (a : Bool) (h : ℕ) → h < 2 ^ 128 → part a h < 2 ^ 128
unfolding part
part-lt true h small = small
part-lt false h small = omega arith

pub horner-lt : (p : List Bool) (h : ℕ) → h < 2 ^ 128 → horner p h < 2 ^ 128
unfolding horner
horner-lt [] h small = omega arith
horner-lt (a ∷ p) h small =
    xor_lt 128 (part a h) (turn (horner p h)) (part-lt a h small) (turn-lt (horner p h) (horner-lt p h small))
