-- Bytes that differ nowhere.
use Rattle.std.proofs.Common.{◌≡◌, ℕ, ◌+◌, ◌<◌, List, length, get_or, refl, sym, ap, ◌∙◌, arith, below_more}
use Rattle.std.specs.Prelude.{bit_or, bit_xor}
use Rattle.std.specs.Int.Bits.{xor_assoc, xor_self, xor_zero_l, xor_zero_r}
use Rattle.std.proofs.lemmas.Nat.{le_or_l, le_or_r}
use Rattle.std.proofs.lemmas.List.FromFn.{fill_by_all}

xor_none : (a b : ℕ) → bit_xor a b ≡ 0 → a ≡ b
xor_none a b none =
    sym (xor_zero_r a) ∙ ap (bit_xor a) (sym (xor_self b)) ∙ sym (xor_assoc a b b)
    ∙ ap (λ (x : ℕ). bit_xor x b) none ∙ xor_zero_l b

-- the first n bytes of two lists are the same
abbrev pub Same : List ℕ → List ℕ → ℕ → Type 0
Same xs ys n = (k : ℕ) → k < n → get_or xs k 0 ≡ get_or ys k 0

-- one byte more, where d shows whether the bytes before it differ
pub same_more : (xs ys : List ℕ) (d i : ℕ) → (d ≡ 0 → Same xs ys i) → bit_or d (bit_xor (get_or xs i 0) (get_or ys i 0)) ≡ 0 → Same xs ys (i + 1)
same_more xs ys d i before none =
    let front : d ≡ 0 = omega (arith, le_or_l d (bit_xor (get_or xs i 0) (get_or ys i 0)), none) in
    let here : bit_xor (get_or xs i 0) (get_or ys i 0) ≡ 0 = omega (arith, le_or_r d (bit_xor (get_or xs i 0) (get_or ys i 0)), none) in
    below_more _ _ (before front) (xor_none (get_or xs i 0) (get_or ys i 0) here)

pub none_more : (xs ys : List ℕ) (d i : ℕ) → xs ≡ ys → d ≡ 0 → bit_or d (bit_xor (get_or xs i 0) (get_or ys i 0)) ≡ 0
none_more xs ys d i same none =
    ap (λ (x : ℕ). bit_or x (bit_xor (get_or xs i 0) (get_or ys i 0))) none
    ∙ ap (λ zs. bit_or 0 (bit_xor (get_or zs i 0) (get_or ys i 0))) same
    ∙ ap (bit_or 0) (xor_self (get_or ys i 0))

pub same_lists : (xs ys : List ℕ) → length xs ≡ 16 → length ys ≡ 16 → Same xs ys 16 → xs ≡ ys
same_lists xs ys long_xs long_ys same =
    fill_by_all (λ k. get_or ys k 0) xs 16 0 long_xs same ∙ sym (fill_by_all (λ k. get_or ys k 0) ys 16 0 long_ys (λ k below. refl))
