-- The key schedule word by word.
use Rattle.std.proofs.Common.{◌≡◌, ℕ, zero, suc, ◌+◌, ◌-◌, ◌*◌, ◌/◌, ◌<◌, ◌≤◌, List, [], ◌∷◌, length, refl, ap, sym, ◌∙◌, ⊎_elim, arith}
use Rattle.std.proofs.lemmas.List.{length_push, get_or_append_left, get_or_push, get_or_past}
use Rattle.std.proofs.lemmas.Bool.{cases_lt}
use Rattle.ov_aes.specs.Aes.{IsKeyLength}
use Rattle.ov_aes.specs.Field.{plus}
use Rattle.ov_aes.specs.KeySchedule.{word, key_word, key_words, changed_word, next_word, schedule, key_schedule}

-- a key of n bytes has n / 4 words
pub key_length : (n : ℕ) → IsKeyLength n → (4 * (n / 4) ≡ n) × (4 ≤ n / 4) × (n / 4 ≤ 8)
key_length n is = (omega arith, omega arith, omega arith)

-- ---- the words of the key

length-key_words : (key : List ℕ) (n : ℕ) → length (key_words key n) ≡ n
unfolding key_words
length-key_words key zero = refl
length-key_words key (suc n) =
    length_push (key_words key n) (key_word key n) ∙ (let before = length-key_words key n in omega arith)

key_words-at : (key : List ℕ) (n i : ℕ) → i < n → word (key_words key n) i ≡ key_word key i
unfolding key_words
key_words-at key zero i below = absurd (omega arith)
key_words-at key (suc n) i below =
    let long = length-key_words key n in
    ⊎_elim (λ lt. get_or_append_left (key_words key n) (key_word key n ∷ []) [] i (omega arith) ∙ key_words-at key n i lt)
    (λ ge. let same : i ≡ n = omega arith in rw same (get_or_push (key_words key n) (key_word key n) [] n long))
    (cases_lt i n)

-- ---- the words after them

module _ (nk : ℕ) (key : List ℕ) where
  pub length-schedule : (n : ℕ) → length (schedule nk key n) ≡ nk + n
  unfolding schedule
  length-schedule zero = length-key_words key nk ∙ omega arith
  length-schedule (suc n) =
      length_push (schedule nk key n) (next_word nk (schedule nk key n) (nk + n))
      ∙ (let before = length-schedule n in omega arith)

  -- a word that is there stays
  pub schedule-more : (n i : ℕ) → i < nk + n → word (schedule nk key (suc n)) i ≡ word (schedule nk key n) i
  unfolding schedule
  schedule-more n i below =
      let long = length-schedule n in
      get_or_append_left (schedule nk key n) (next_word nk (schedule nk key n) (nk + n) ∷ []) [] i (omega arith)

  pub schedule-key : (n i : ℕ) → i < nk → word (schedule nk key n) i ≡ key_word key i
  unfolding schedule
  schedule-key zero i below = key_words-at key nk i below
  schedule-key (suc n) i below = schedule-more n i (omega arith) ∙ schedule-key n i below

  pub schedule-last : (n : ℕ) → word (schedule nk key (suc n)) (nk + n) ≡ next_word nk (schedule nk key n) (nk + n)
  unfolding schedule
  schedule-last n =
      get_or_push (schedule nk key n) (next_word nk (schedule nk key n) (nk + n)) [] (nk + n) (length-schedule n)

  -- the words that word nk + n is made of stay
  next_word-more : 0 < nk → (m n : ℕ) → n ≤ m → next_word nk (schedule nk key m) (nk + n) ≡ next_word nk (schedule nk key (suc m)) (nk + n)
  next_word-more some m n le =
      let first = schedule-more m (nk + n - nk) (omega arith) in
      let last = schedule-more m (nk + n - 1) (omega arith) in
      λ i. plus (sym first i) (changed_word nk (nk + n) (sym last i))

  schedule-step : 0 < nk → (m n : ℕ) → n < m → word (schedule nk key m) (nk + n) ≡ next_word nk (schedule nk key m) (nk + n)
  schedule-step some zero n below = absurd (omega arith)
  schedule-step some (suc m) n below =
      ⊎_elim (λ lt. schedule-more m (nk + n) (omega arith) ∙ schedule-step some m n lt ∙ next_word-more some m n (omega arith))
      (λ ge. let equal : m ≡ n = omega arith in
      ap (λ x. word (schedule nk key (suc x)) (nk + n)) equal ∙ schedule-last n ∙ next_word-more some n n (omega arith)
      ∙ ap (λ x. next_word nk (schedule nk key (suc x)) (nk + n)) (sym equal))
      (cases_lt n m)

-- ---- the whole schedule

pub length-key_schedule : (key : List ℕ) → IsKeyLength (length key) → length (key_schedule key) ≡ length key + 28
unfolding key_schedule
length-key_schedule key is =
    let sizes = key_length (length key) is in
    length-schedule (length key / 4) key (3 * (length key / 4) + 28) ∙ omega arith

pub key_schedule-key : (key : List ℕ) (i : ℕ) → i < length key / 4 → word (key_schedule key) i ≡ key_word key i
unfolding key_schedule
key_schedule-key key i below = schedule-key (length key / 4) key (3 * (length key / 4) + 28) i below

pub key_schedule-step : (key : List ℕ) → IsKeyLength (length key) → (j : ℕ) → length key / 4 ≤ j → j < length key + 28 → word (key_schedule key) j ≡ next_word (length key / 4) (key_schedule key) j
unfolding key_schedule
key_schedule-step key is j least below =
    let nk : ℕ = length key / 4 in
    let sizes = key_length (length key) is in
    let place : nk + (j - nk) ≡ j = omega arith in
    rw place at (schedule-step nk key (omega arith) (3 * nk + 28) (j - nk) (omega arith))

-- past its end the schedule has no word
pub key_schedule-past : (key : List ℕ) → IsKeyLength (length key) → (i : ℕ) → length key + 28 ≤ i → word (key_schedule key) i ≡ []
key_schedule-past key is i past =
    let long = length-key_schedule key is in get_or_past (key_schedule key) i [] (omega arith)
