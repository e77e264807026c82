-- Counts over lists of lists.
use Rattle.std.proofs.Common.{ℕ, ◌≡◌, ◌∙◌, ◌+◌, ◌<◌, List, length, get_or, take, sum_by, ap, sym}
use Rattle.std.proofs.lemmas.List.Sums.{sum_by_more}

-- What is counted in one member more.
pub member_counted : {X : Type 0} (value : X → ℕ) (xs : List X) (i : ℕ) (d : X) (sum more n : ℕ) → i < length xs → sum ≡ sum_by value (take i xs) → n ≡ value (get_or xs i d) → more ≡ sum + n → more ≡ sum_by value (take (i + 1) xs)
member_counted value xs i d sum more n below was is next =
    next ∙ ap (λ s. s + n) was ∙ ap (λ k. sum_by value (take i xs) + k) is
    ∙ sym (sum_by_more value xs i d below)
