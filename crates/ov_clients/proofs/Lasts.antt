-- Which of two that give a hold back was the last.
use Rattle.std.proofs.Common.{◌≡◌, ◌≢◌, ℕ, ◌<◌, ◌≤◌, List, [], ◌++◌, refl, ap, inl, inr, ◌∙◌, arith}
use mathlib.Core.Logic.{dite}
use native.Mathlib.Decide.{ℕ_discrete}
use Rattle.ov_base.specs.Sums.{count_of}
use Rattle.ov_model.specs.declared.hold.Given.{Given}
use Rattle.ov_model.specs.declared.hold.Given.TheVariants.{More, Last}
use Rattle.ov_turn.specs.Lists.{without}
use Rattle.ov_turn.proofs.Members.{without_count, others_count}
use Rattle.ov_hold.specs.Holds.{Owes}
use Rattle.ov_clients.specs.Stages.{IsOneLast}

-- whoever held the cell 0 alone holds nothing afterwards
pub none_left : (held : List ℕ) → ((c : ℕ) → c ≢ 0 → count_of c held ≡ 0) → (c : ℕ) → count_of c (without 0 held) ≡ 0
none_left held only c =
    dite (ℕ_discrete c 0)
    (λ e. ap (λ (k : ℕ). count_of k (without 0 held)) e ∙ without_count 0 held)
    (λ n. others_count 0 c held n ∙ only c n)

-- whoever is told More owes what it owed
pub owes_more : (given : Given) (c : ℕ) (before after : List ℕ) → given ≡ More → Owes given c before after → after ≡ before
owes_more More c before after e owes = owes
owes_more Last c before after e owes = absurd (cc e)

-- where the release is owed once by both together, one of them was told Last
pub one_last : (one two : Given) (first second all : List ℕ) → Owes one 0 [] first → Owes two 0 [] second → all ≡ first ++ second → 0 < count_of 0 all → count_of 0 all ≤ 1 → IsOneLast one two
one_last Last More first second all a b both some_of once = inl (refl, refl)
one_last More Last first second all a b both some_of once = inr (refl, refl)
one_last Last Last first second all a b both some_of once =
    let e : count_of 0 all ≡ 2 = ap (count_of 0) (both ∙ (λ i. a i ++ b i)) in absurd (omega arith)
one_last More More first second all a b both some_of once =
    let e : count_of 0 all ≡ 0 = ap (count_of 0) (both ∙ (λ i. a i ++ b i)) in absurd (omega arith)
