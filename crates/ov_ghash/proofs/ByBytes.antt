-- Sums over the bytes of a block, by Horner's rule from the lowest byte on.
use Rattle.std.proofs.Common.{◌≡◌, ℕ, zero, suc, ◌+◌, ◌*◌, ◌/◌, ◌%◌, ◌^◌, ◌<◌, bit_xor, refl, sym, ap, ap₂, ◌∙◌, arith, zero-add, add-one, suc-add, add_comm}
use Rattle.std.specs.Int.{byte_at}
use Rattle.std.specs.Int.Bits.{xor_assoc}
use Rattle.std.proofs.Math.Nat.{pow-suc}
use Rattle.std.proofs.lemmas.Nat.{xor_comm, pow-add}
use Rattle.ov_ghash.specs.Block.{bits}
use Rattle.ov_ghash.specs.Turn.{turn, turns, horner}
use Rattle.ov_ghash.proofs.Turning.{xor_pairs, turns-xor, horner-zero, horner-xor, horner-turns, horner-horner}
use Rattle.ov_ghash.proofs.BitLists.{horner-bits, horner-bits-more}
use Rattle.ov_ghash.proofs.Tables.{horner-byte-more}

-- v (n - 1) + v (n - 2) x^8 + .. + v 0 x^(8 (n - 1))
unfoldable pub by_bytes : ℕ → (ℕ → ℕ) → ℕ
by_bytes zero v = 0
by_bytes (suc n) v = bit_xor (v n) (turns 8 (by_bytes n v))

pub by_bytes-more : (n : ℕ) (v : ℕ → ℕ) → by_bytes (n + 1) v ≡ bit_xor (v n) (turns 8 (by_bytes n v))
unfolding by_bytes
by_bytes-more n v = rw add-one refl

turns-zero : (k : ℕ) → turns k 0 ≡ 0
unfolding turns turn
turns-zero zero = refl
turns-zero (suc k) = rw (turns-zero k) refl

pub turns-turns : (a b v : ℕ) → turns (a + b) v ≡ turns a (turns b v)
unfolding turns
turns-turns zero b v = ap (λ (k : ℕ). turns k v) (zero-add b)
turns-turns (suc a) b v = rw suc-add (ap turn (turns-turns a b v))

pub turns_swap : (a b v : ℕ) → turns a (turns b v) ≡ turns b (turns a v)
turns_swap a b v = sym (turns-turns a b v) ∙ ap (λ (k : ℕ). turns k v) (add_comm a b) ∙ turns-turns b a v

pub by_bytes-agree : (n : ℕ) (v w : ℕ → ℕ) → ((i : ℕ) → i < n → v i ≡ w i) → by_bytes n v ≡ by_bytes n w
unfolding by_bytes
by_bytes-agree zero v w same = refl
by_bytes-agree (suc n) v w same =
    ap₂ (λ (a b : ℕ). bit_xor a (turns 8 b)) (same n (omega arith)) (by_bytes-agree n v w (λ i below. same i (omega arith)))

by_bytes-zero : (n : ℕ) → by_bytes n (λ i. 0) ≡ 0
unfolding by_bytes
by_bytes-zero zero = refl
by_bytes-zero (suc n) = rw (by_bytes-zero n) (turns-zero 8)

pub by_bytes-xor : (n : ℕ) (v w : ℕ → ℕ) → by_bytes n (λ i. bit_xor (v i) (w i)) ≡ bit_xor (by_bytes n v) (by_bytes n w)
unfolding by_bytes
by_bytes-xor zero v w = refl
by_bytes-xor (suc n) v w =
    rw (by_bytes-xor n v w, turns-xor 8 (by_bytes n v) (by_bytes n w))
    (xor_pairs (v n) (w n) (turns 8 (by_bytes n v)) (turns 8 (by_bytes n w)))

pub by_bytes-turns : (n k : ℕ) (v : ℕ → ℕ) → by_bytes n (λ i. turns k (v i)) ≡ turns k (by_bytes n v)
unfolding by_bytes
by_bytes-turns zero k v = sym (turns-zero k)
by_bytes-turns (suc n) k v =
    rw (by_bytes-turns n k v, turns_swap 8 k (by_bytes n v)) (sym (turns-xor k (v n) (turns 8 (by_bytes n v))))

-- a sum of sums either way
pub by_bytes_swap : (n m : ℕ) (v : ℕ → ℕ → ℕ) → by_bytes n (λ i. by_bytes m (λ j. v i j)) ≡ by_bytes m (λ j. by_bytes n (λ i. v i j))
unfolding by_bytes
by_bytes_swap zero m v = sym (by_bytes-zero m)
by_bytes_swap (suc n) m v =
    rw (by_bytes_swap n m v, ← by_bytes-turns m 8 (λ j. by_bytes n (λ i. v i j)))
    (sym (by_bytes-xor m (v n) (λ j. turns 8 (by_bytes n (λ i. v i j)))))

-- a product of a sum
pub by_bytes-horner : (n h : ℕ) (v : ℕ → ℕ) → horner (bits 128 h) (by_bytes n v) ≡ by_bytes n (λ i. horner (bits 128 h) (v i))
unfolding by_bytes
by_bytes-horner zero h v = horner-zero (bits 128 h)
by_bytes-horner (suc n) h v =
    horner-xor (bits 128 h) (v n) (turns 8 (by_bytes n v))
    ∙ ap (bit_xor (horner (bits 128 h) (v n))) (horner-turns 8 (bits 128 h) (by_bytes n v) ∙ ap (turns 8) (by_bytes-horner n h v))

-- the deepest place
pub by_bytes-first : (n : ℕ) (v : ℕ → ℕ) → by_bytes (suc n) v ≡ bit_xor (by_bytes n (λ i. v (suc i))) (turns (8 * n) (v 0))
unfolding by_bytes turns turn
by_bytes-first zero v = xor_comm (v 0) 0
by_bytes-first (suc n) v =
    let deeper : 8 * suc n ≡ 8 + 8 * n = omega arith in
    rw (deeper, turns-turns 8 (8 * n) (v 0))
    (ap (λ (x : ℕ). bit_xor (v (suc n)) (turns 8 x)) (by_bytes-first n v)
    ∙ ap (bit_xor (v (suc n))) (turns-xor 8 (by_bytes n (λ i. v (suc i))) (turns (8 * n) (v 0)))
    ∙ sym (xor_assoc (v (suc n)) (turns 8 (by_bytes n (λ i. v (suc i)))) (turns 8 (turns (8 * n) (v 0)))))

-- ---- a number is the sum of its bytes, each at the highest place

pub pow_256 : (k : ℕ) → 256 ^ k ≡ 2 ^ (8 * k)
pow_256 zero = refl
pow_256 (suc k) =
    let longer : 8 * suc k ≡ 8 + 8 * k = omega arith in
    let more : 2 ^ (8 + 8 * k) ≡ 2 ^ 8 * 2 ^ (8 * k) = pow-add 2 8 (8 * k) in
    let last = pow-suc 256 k in
    let before = pow_256 k in
    rw longer (omega (arith, more, last, before))

pub byte_at-is : (i n : ℕ) → byte_at i n ≡ n / 2 ^ (8 * i) % 256
byte_at-is zero n = omega arith
byte_at-is (suc i) n = ap (λ (p : ℕ). n / p % 256) (pow_256 (suc i))

bytes-below : (n q : ℕ) → horner (bits (8 * n) q) (2 ^ 127) ≡ by_bytes n (λ i. byte_at i q * 2 ^ 120)
unfolding by_bytes bits horner
bytes-below zero q = refl
bytes-below (suc n) q =
    let longer : 8 * suc n ≡ 8 + 8 * n = omega arith in
    let whole : q / 2 ^ (8 * n) % 256 % 256 * 2 ^ 120 ≡ q / 2 ^ (8 * n) % 256 * 2 ^ 120 = omega arith in
    rw longer
    (horner-byte-more (8 * n) q (2 ^ 127)
    ∙ ap₂ (λ (a b : ℕ). bit_xor a (turns 8 b)) (horner-bits-more 8 120 (q / 2 ^ (8 * n) % 256) refl ∙ whole ∙ ap (λ (b : ℕ). b * 2 ^ 120) (sym (byte_at-is n q))) (bytes-below n q))

pub by_its_bytes : (q : ℕ) → q < 2 ^ 128 → q ≡ by_bytes 16 (λ i. byte_at i q * 2 ^ 120)
by_its_bytes q small = sym (horner-bits q small) ∙ bytes-below 16 q

-- the product of a byte at the highest place
pub byte-product : (b h : ℕ) → b < 256 → h < 2 ^ 128 → horner (bits 8 b) h ≡ horner (bits 128 h) (b * 2 ^ 120)
byte-product b h small small_h =
    ap (horner (bits 8 b)) (sym (horner-bits h small_h)) ∙ horner-horner (bits 8 b) (bits 128 h) (2 ^ 127)
    ∙ ap (horner (bits 128 h)) (horner-bits-more 8 120 b refl ∙ omega arith)
