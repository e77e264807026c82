-- The state from round to round, in the inner form.
use Rattle.std.proofs.Common.{◌≡◌, ℕ, zero, suc, ◌+◌, ◌-◌, ◌*◌, ◌<◌, ◌≤◌, List, length, map, get_or, replicate, refl, ap, ◌∙◌, sym, subst, arith}
use Rattle.ov_aes.specs.Field.{plus}
use Rattle.ov_aes.specs.SBox.{sub_bytes}
use Rattle.ov_aes.specs.Cipher.{after_round, mix_columns, shift_rows, round_key}
use Rattle.ov_aes.specs.Nibbles.{AreBytes, inner}
use Rattle.ov_aes.specs.RoundKeys.{HasKeys}
use Rattle.ov_aes.proofs.RoundFacts.{bytes-plus, bytes-round}
use Rattle.ov_aes.proofs.KeptFacts.{kept-list, kept_first, kept_middle, kept_last}

-- ---- the round keys that are read

-- key is what is kept of round key r
abbrev pub IsRead : List ℕ → ℕ → List ℕ → Type 0
IsRead keys r key = (length key ≡ 16) × ((m : ℕ) → m < 16 → get_or key m 0 ≡ get_or keys (16 * r + m) 0)

pub first-key : (keys key : List ℕ) (w : List (List ℕ)) (nr : ℕ) → HasKeys keys w nr → IsRead keys 0 key → key ≡ round_key w 0
first-key keys key w nr has read =
    let kept = has 0 (omega arith) in
    kept-list nr 0 key (round_key w 0) read.0 kept.0 (λ m below. read.1 m below ∙ kept.1 m below) ∙ kept_first nr 0 (round_key w 0) refl

pub middle-key : (keys key : List ℕ) (w : List (List ℕ)) (nr r : ℕ) → 1 ≤ r → r < nr → HasKeys keys w nr → IsRead keys r key → key ≡ map inner (plus (round_key w r) (replicate 16 0x63))
middle-key keys key w nr r least below has read =
    let kept = has r (omega arith) in
    kept-list nr r key (round_key w r) read.0 kept.0 (λ m below. read.1 m below ∙ kept.1 m below)
    ∙ kept_middle nr r (round_key w r) kept.0.0 (omega arith) (omega arith)

pub last-key : (keys key : List ℕ) (w : List (List ℕ)) (nr : ℕ) → 1 ≤ nr → HasKeys keys w nr → IsRead keys nr key → key ≡ plus (round_key w nr) (replicate 16 0x63)
last-key keys key w nr least has read =
    let kept = has nr (omega arith) in
    kept-list nr nr key (round_key w nr) read.0 kept.0 (λ m below. read.1 m below ∙ kept.1 m below)
    ∙ kept_last nr nr (round_key w nr) kept.0.0 (omega arith) (omega arith)

-- ---- the states

-- state is the inner form of a block after the first AddRoundKey and n rounds
abbrev pub IsAfter : List (List ℕ) → List ℕ → ℕ → List ℕ → Type 0
IsAfter w block n state = AreBytes (after_round w block n) × (state ≡ map inner (after_round w block n))

pub begun : (w : List (List ℕ)) (block vector key state : List ℕ) → vector ≡ block → AreBytes vector → AreBytes (round_key w 0) → key ≡ round_key w 0 → state ≡ map inner (plus vector key) → IsAfter w block 0 state
unfolding after_round
begun w block vector key state same bytes bytes_key key_is is = (
  bytes-plus block (round_key w 0) (subst AreBytes same bytes) bytes_key,
  is ∙ (λ t. map inner (plus (same t) (key_is t))),
)

after_round-one : (w : List (List ℕ)) (s : List ℕ) (r : ℕ) → 1 ≤ r → plus (mix_columns (shift_rows (sub_bytes (after_round w s (r - 1))))) (round_key w r) ≡ after_round w s r
unfolding after_round
after_round-one w s zero least = absurd (omega arith)
after_round-one w s (suc n) least = let e : suc n - 1 ≡ n = omega arith in rw e refl

-- what `round` ensures of a state and a key
abbrev pub IsRound : List ℕ → List ℕ → List ℕ → Type 0
IsRound state key next = (s k : List ℕ) → AreBytes s → AreBytes k → state ≡ map inner s → key ≡ map inner (plus k (replicate 16 0x63)) → next ≡ map inner (plus (mix_columns (shift_rows (sub_bytes s))) k)

pub one-more : (w : List (List ℕ)) (block state key next : List ℕ) (r : ℕ) → 1 ≤ r → AreBytes (round_key w r) → key ≡ map inner (plus (round_key w r) (replicate 16 0x63)) → IsRound state key next → IsAfter w block (r - 1) state → IsAfter w block (r + 1 - 1) next
one-more w block state key next r least bytes key_is round before =
    let same : r + 1 - 1 ≡ r = omega arith in
    let after = after_round-one w block r least ∙ ap (after_round w block) (sym same) in (
      subst AreBytes after (bytes-round (after_round w block (r - 1)) (round_key w r) before.0 bytes),
      round (after_round w block (r - 1)) (round_key w r) before.0 bytes before.1 key_is ∙ ap (map inner) after,
    )
