-- The counter blocks: each is the IV and a number.
use Rattle.std.proofs.Common.{◌≡◌, ℕ, zero, suc, ◌+◌, ◌<◌, ◌%◌, ◌^◌, List, ◌++◌, length, drop, refl, ap, ◌∙◌, arith}
use Rattle.std.specs.Int.{w32, to_be_bytes, from_be_bytes}
use Rattle.std.proofs.lemmas.List.{take_at, drop_at}
use Rattle.std.proofs.lemmas.Nat.{from_be_bytes-to_be_bytes_4}
use Rattle.ov_gcm.specs.Gcm.{inc32, counter}

-- inc32 of the IV and a number
inc32-number : (nonce : List ℕ) → length nonce ≡ 12 → (n : ℕ) → n + 1 < 2 ^ 32 → inc32 (nonce ++ to_be_bytes w32 n) ≡ nonce ++ to_be_bytes w32 (n + 1)
unfolding inc32
inc32-number nonce long n below =
    let front = take_at nonce (to_be_bytes w32 n) 12 long in
    let back = drop_at nonce (to_be_bytes w32 n) 12 long in
    let next : (from_be_bytes w32 (drop 12 (nonce ++ to_be_bytes w32 n)) + 1) % 2 ^ 32 ≡ n + 1 =
    ap (λ b. (from_be_bytes w32 b + 1) % 2 ^ 32) back
    ∙ ap (λ m. (m + 1) % 2 ^ 32) (from_be_bytes-to_be_bytes_4 n (omega arith)) ∙ omega arith in
    λ i. front i ++ to_be_bytes w32 (next i)

pub counter-number : (nonce : List ℕ) → length nonce ≡ 12 → (i : ℕ) → i + 1 < 2 ^ 32 → counter nonce i ≡ nonce ++ to_be_bytes w32 (i + 1)
unfolding counter
counter-number nonce long zero below = refl
counter-number nonce long (suc i) below =
    let next : i + 1 + 1 ≡ suc i + 1 = omega arith in
    ap inc32 (counter-number nonce long i (omega arith)) ∙ inc32-number nonce long (i + 1) (omega arith)
    ∙ ap (λ n. nonce ++ to_be_bytes w32 n) next
