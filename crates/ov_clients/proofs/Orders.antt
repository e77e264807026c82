-- Entries of one thread, in order, and what one more changes.
use Rattle.std.proofs.Common.{◌≡◌, ℕ, ◌+◌, ◌≤◌, List, [], ◌∷◌, ◌++◌, length, refl, ap, ◌∙◌, arith, length-append}
use mathlib.Core.List.{IsPrefix}
use Rattle.ov_clients.specs.declared.journal.Entry.{Entry}
use Rattle.ov_base.specs.Sums.{count_of}
use Rattle.ov_turn.specs.Lists.{times, IsWhole}
use Rattle.ov_clients.specs.Entries.{InOrder}
use Rattle.ov_draw.proofs.Intervals.{length-interval}

abbrev pub entry : ℕ → ℕ → Entry
entry t k = record { thread = t; number = k }

-- more room behind the last
pub InOrder-wider : (t k low high more : ℕ) (es : List (ℕ × Entry)) → InOrder t k low es high → high ≤ more → InOrder t k low es more
InOrder-wider t k low high more [] le wider = omega arith
InOrder-wider t k low high more (e ∷ es) o wider = (o.0, o.1, InOrder-wider t (k + 1) (e.0 + 1) high more es o.2 wider)

-- the thread's next entry behind all others
pub InOrder-snoc : (t k low high p n : ℕ) (es : List (ℕ × Entry)) → InOrder t k low es high → high ≤ p → k + length es ≡ n → InOrder t k low (es ++ (p, entry t n) ∷ []) (p + 1)
InOrder-snoc t k low high p n [] le after is = (omega arith, ap (entry t) (omega arith), omega arith)
InOrder-snoc t k low high p n (e ∷ es) o after is = (o.0, o.1, InOrder-snoc t (k + 1) (e.0 + 1) high p n es o.2 after (omega arith))

pub prefix_length : {A : Type 0} (xs ys : List A) → IsPrefix xs ys → length xs ≤ length ys
prefix_length xs ys front = omega (arith, ap length front.1, length-append xs front.0)

abbrev positions : List (ℕ × Entry) → List ℕ
positions [] = []
positions (e ∷ es) = e.0 ∷ positions es

length-positions : (es : List (ℕ × Entry)) → length (positions es) ≡ length es
length-positions [] = refl
length-positions (e ∷ es) = omega (arith, length-positions es)

times-positions : (p : ℕ) (es : List (ℕ × Entry)) → count_of p (positions es) ≡ times p es
times-positions p [] = refl
times-positions p (e ∷ es) = omega (arith, times-positions p es)

-- a history is as long as the list of entries that are the whole of it
pub length-whole : (log : List Entry) (es : List (ℕ × Entry)) → IsWhole log es → length es ≡ length log
length-whole log es whole =
    omega (arith, length-interval (positions es) 0 (length log) (λ n. times-positions n es ∙ whole.0 n), length-positions es)
