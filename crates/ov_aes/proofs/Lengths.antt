-- What AES makes of a block has 16 bytes.
use Rattle.std.proofs.Common.{◌≡◌, ℕ, zero, suc, ◌+◌, ◌-◌, ◌*◌, ◌/◌, ◌%◌, ◌<◌, ◌≤◌, true, false, cond, eqb, ◌&&◌, List, [], ◌∷◌, length, refl, ap, ◌∙◌, ⊎_elim, arith, length-append}
use Rattle.std.proofs.lemmas.List.{length-map}
use Rattle.std.proofs.lemmas.Bool.{cases_lt}
use Rattle.ov_aes.specs.Aes.{IsKeyLength}
use Rattle.ov_aes.specs.Field.{plus}
use Rattle.ov_aes.specs.SBox.{sub_byte, sub_bytes}
use Rattle.ov_aes.specs.KeySchedule.{word, rot_word, round_constant, changed_word, next_word, schedule, key_schedule}
use Rattle.ov_aes.specs.Cipher.{after_round, shift_rows, round_key, cipher, aes}
use Rattle.ov_aes.proofs.Schedules.{key_length, schedule-key, schedule-more, schedule-last}

-- a sum is as long as its first list, where the second is not shorter
pub length-plus : (xs ys : List ℕ) → length xs ≤ length ys → length (plus xs ys) ≡ length xs
length-plus [] ys enough = refl
length-plus (x ∷ xs) [] enough = absurd (omega arith)
length-plus (x ∷ xs) (y ∷ ys) enough = ap suc (length-plus xs ys (omega arith))

length-changed_word : (nk i : ℕ) (t : List ℕ) → length t ≡ 4 → length (changed_word nk i t) ≡ 4
unfolding changed_word sub_bytes
length-changed_word nk i t four =
    elim (eqb (i % nk) 0) as (λ b. length (cond b (plus (sub_bytes (rot_word t)) (round_constant (i / nk))) (cond (eqb nk 8 && eqb (i % 8) 4) (sub_bytes t) t)) ≡ 4) [
      | true ↦ refl
      | false ↦
          elim (eqb nk 8 && eqb (i % 8) 4) as (λ b. length (cond b (sub_bytes t) t) ≡ 4) [
            | true ↦ length-map t sub_byte ∙ four
            | false ↦ four
          ]
    ]

length-next_word : (nk : ℕ) (w : List (List ℕ)) (i : ℕ) → length (word w (i - nk)) ≡ 4 → length (word w (i - 1)) ≡ 4 → length (next_word nk w i) ≡ 4
length-next_word nk w i first last =
    let changed = length-changed_word nk i (word w (i - 1)) last in
    length-plus (word w (i - nk)) (changed_word nk i (word w (i - 1))) (omega arith) ∙ first

-- each word of a schedule has 4 bytes
length-word : (nk : ℕ) (key : List ℕ) → 0 < nk → (n i : ℕ) → i < nk + n → length (word (schedule nk key n) i) ≡ 4
length-word nk key some zero i below = ap length (schedule-key nk key zero i (omega arith))
length-word nk key some (suc n) i below =
    ⊎_elim (λ lt. ap length (schedule-more nk key n i lt) ∙ length-word nk key some n i lt)
    (λ ge. let last : i ≡ nk + n = omega arith in
    ap (λ j. length (word (schedule nk key (suc n)) j)) last ∙ ap length (schedule-last nk key n)
    ∙ length-next_word nk (schedule nk key n) (nk + n) (length-word nk key some n (nk + n - nk) (omega arith))
    (length-word nk key some n (nk + n - 1) (omega arith)))
    (cases_lt i (nk + n))

length-round_key : (w : List (List ℕ)) (r : ℕ) → ((i : ℕ) → i < 4 * r + 4 → length (word w i) ≡ 4) → length (round_key w r) ≡ 16
length-round_key w r each =
    let a = each (4 * r) (omega arith) in
    let b = each (4 * r + 1) (omega arith) in
    let c = each (4 * r + 2) (omega arith) in
    let d = each (4 * r + 3) (omega arith) in
    simp length-append (omega arith)

pub length-aes : (key block : List ℕ) → IsKeyLength (length key) → length (aes key block) ≡ 16
unfolding aes cipher key_schedule shift_rows
length-aes key block is =
    let nk : ℕ = length key / 4 in
    let sizes = key_length (length key) is in
    let w : List (List ℕ) = key_schedule key in
    let long = length-round_key w (nk + 6) (λ i below. length-word nk key (omega arith) (3 * nk + 28) i (omega arith)) in
    length-plus (shift_rows (sub_bytes (after_round w block (nk + 6 - 1)))) (round_key w (nk + 6)) (omega arith)
