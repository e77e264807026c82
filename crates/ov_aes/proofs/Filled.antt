-- An array of words that is filled from the front, with zeros behind.
use Rattle.std.proofs.Common.{◌≡◌, ℕ, zero, suc, ◌+◌, ◌<◌, ◌≤◌, ◌^◌, ◌≢◌, List, [], ◌∷◌, get_or, set, replicate, refl, ◌∙◌, arith, length, ap, below_more, get_or-set_same, get_or-set_other}
use Rattle.std.specs.Int.{w32, to_be_bytes}

-- each word before i has the bytes that F says
pub set_front : (F : ℕ → List ℕ) (xs : List ℕ) (i v : ℕ) → i < length xs → ((k : ℕ) → k < i → to_be_bytes w32 (get_or xs k 0) ≡ F k) → to_be_bytes w32 v ≡ F i → (k : ℕ) → k < i + 1 → to_be_bytes w32 (get_or (set xs i v) k 0) ≡ F k
set_front F xs i v within front here =
    below_more _ _
    (λ k lt. let other : k ≢ i = omega arith in ap (to_be_bytes w32) (get_or-set_other xs i k v 0 other) ∙ front k lt)
    (ap (to_be_bytes w32) (get_or-set_same xs i v 0 within) ∙ here)

-- each word fits
pub set_fits : (xs : List ℕ) (i v : ℕ) → ((k : ℕ) → get_or xs k 0 < 2 ^ 32) → v < 2 ^ 32 → (k : ℕ) → get_or (set xs i v) k 0 < 2 ^ 32
set_fits [] i v fits below k = fits k
set_fits (x ∷ xs) zero v fits below zero = below
set_fits (x ∷ xs) zero v fits below (suc k) = fits (suc k)
set_fits (x ∷ xs) (suc i) v fits below zero = fits zero
set_fits (x ∷ xs) (suc i) v fits below (suc k) = set_fits xs i v (λ k. fits (suc k)) below k

-- there are zeros from i on
pub set_rest : (xs : List ℕ) (i v : ℕ) → ((k : ℕ) → i ≤ k → get_or xs k 0 ≡ 0) → (k : ℕ) → i + 1 ≤ k → get_or (set xs i v) k 0 ≡ 0
set_rest xs i v rest k past =
    let other : k ≢ i = omega arith in get_or-set_other xs i k v 0 other ∙ rest k (omega arith)

pub zeros : (n k : ℕ) → get_or {A = ℕ} (replicate n 0) k 0 ≡ 0
zeros zero k = refl
zeros (suc n) zero = refl
zeros (suc n) (suc k) = zeros n k
