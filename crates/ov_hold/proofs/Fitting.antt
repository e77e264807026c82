-- Cells that a seat knows are cells of the table.
use Rattle.std.proofs.Common.{◌≡◌, ◌≢◌, ℕ, ◌<◌, ◌==◌, Bool, true, false, ◌&&◌, ◌||◌, if◌then◌else◌, List, [], ◌∷◌, ◌++◌, refl, sym, ap, ◌∙◌, arith, ne_eqb}
use Rattle.std.specs.List.{list_any}
use mathlib.Core.Bool.{true≢false}
use mathlib.Core.Logic.{dite}
use native.Mathlib.Decide.{ℕ_discrete}
use Rattle.std.proofs.lemmas.Bool.{lt-ltb}
use Rattle.ov_base.specs.Sums.{count_of}
use Rattle.ov_turn.specs.declared.view.View.{View}
use Rattle.ov_turn.specs.Lists.{has, without, all_below}
use Rattle.ov_turn.specs.Views.{holds_fit, lists_fit}
use Rattle.ov_turn.specs.Steps.{holding}
use Rattle.ov_hold.specs.Holds.{AreHeld}
use Rattle.ov_turn.proofs.Members.{both_true, true_both, has_counted, without_has, others_has, others_count, count_snoc_here, count_snoc_other, below_has, below_append, below_filter}

module _ {I : Type 0} (v : View I) (d : ℕ) where
  pub held_small : holds_fit v ≡ true → 0 < count_of d v.holds → d < v.cells
  held_small fit h = let one = has_counted d v.holds h in below_has v.cells d v.holds fit (omega arith)

  module _ (fit : lists_fit v ≡ true) where
    parts : (all_below v.cells v.live ≡ true) × (all_below v.cells v.to_link ≡ true) × (all_below v.cells v.to_unlink ≡ true)
    parts =
        let first = both_true (all_below v.cells v.live) (all_below v.cells v.to_link && all_below v.cells v.to_unlink) fit in
        let second = both_true (all_below v.cells v.to_link) (all_below v.cells v.to_unlink) first.1 in
        (first.0, second.0, second.1)

    pub live_small : has d v.live ≡ 1 → d < v.cells
    live_small h = below_has v.cells d v.live parts.0 (omega arith)

    pub link_small : has d v.to_link ≡ 1 → d < v.cells
    link_small h = below_has v.cells d v.to_link parts.1 (omega arith)

    pub unlink_small : has d v.to_unlink ≡ 1 → d < v.cells
    unlink_small h = below_has v.cells d v.to_unlink parts.2 (omega arith)

    pub linked_fit : (held owed : List ℕ) → lists_fit (holding v held owed (without d v.to_link) v.to_unlink) ≡ true
    linked_fit held owed = true_both (all_below v.cells v.live) _ parts.0 (true_both (all_below v.cells (without d v.to_link)) (all_below v.cells v.to_unlink) (below_filter v.cells _ v.to_link parts.1) parts.2)

    pub unlinked_fit : (held owed : List ℕ) → lists_fit (holding v held owed v.to_link (without d v.to_unlink)) ≡ true
    unlinked_fit held owed = true_both (all_below v.cells v.live) _ parts.0 (true_both (all_below v.cells v.to_link) (all_below v.cells (without d v.to_unlink)) parts.1 (below_filter v.cells _ v.to_unlink parts.2))

  pub got_fit : holds_fit v ≡ true → d < v.cells → all_below v.cells (v.holds ++ d ∷ []) ≡ true
  got_fit fit small = below_append v.cells v.holds (d ∷ []) fit (true_both _ true (lt-ltb d v.cells small) refl)

  pub given_fit : holds_fit v ≡ true → all_below v.cells (without d v.holds) ≡ true
  given_fit fit = below_filter v.cells _ v.holds fit

-- What `contains` finds.
pub any_has : (d : ℕ) (xs : List ℕ) → list_any (λ y. y == d) xs ≡ true → has d xs ≡ 1
any_has d [] e = absurd (true≢false (sym e))
any_has d (x ∷ xs) e = by (x == d) (any_has d xs) e
  where
    by : (b : Bool) → (list_any (λ y. y == d) xs ≡ true → has d xs ≡ 1) → (b || list_any (λ y. y == d) xs) ≡ true → (if b then 1 else has d xs) ≡ 1
    by true k e = refl
    by false k e = k e

pub has_any : (d : ℕ) (xs : List ℕ) → has d xs ≡ 1 → list_any (λ y. y == d) xs ≡ true
has_any d [] e = absurd (omega arith)
has_any d (x ∷ xs) e = by (x == d) (has_any d xs) e
  where
    by : (b : Bool) → (has d xs ≡ 1 → list_any (λ y. y == d) xs ≡ true) → (if b then 1 else has d xs) ≡ 1 → (b || list_any (λ y. y == d) xs) ≡ true
    by true k e = refl
    by false k e = k e

-- Which cells a `Held` has, that goes with a seat.
has_snoc : (c d : ℕ) (xs : List ℕ) → c ≢ d → has c (xs ++ d ∷ []) ≡ has c xs
has_snoc c d [] n = let t : (d == c) ≡ false = ne_eqb d c (λ e. n (sym e)) in rw t
has_snoc c d (x ∷ xs) n = ap (λ (k : ℕ). if x == c then 1 else k) (has_snoc c d xs n)

pub held_more : (d : ℕ) (held holds : List ℕ) → AreHeld held holds → AreHeld (held ++ d ∷ []) (holds ++ d ∷ [])
held_more d held holds are c h =
    dite (ℕ_discrete c d)
    (λ e. let x = count_snoc_here d holds in let same : count_of c (holds ++ d ∷ []) ≡ count_of d (holds ++ d ∷ []) = ap (λ k. count_of k (holds ++ d ∷ [])) e in omega arith)
    (λ n. let x = count_snoc_other d c holds n in let y = are c (sym (has_snoc c d held n) ∙ h) in omega arith)

pub held_less : (d : ℕ) (held holds : List ℕ) → AreHeld held holds → AreHeld (without d held) (without d holds)
held_less d held holds are c h =
    dite (ℕ_discrete c d)
    (λ e. let x = without_has d held in let same : has c (without d held) ≡ has d (without d held) = ap (λ k. has k (without d held)) e in absurd (omega arith))
    (λ n. let x = others_count d c holds n in let y = are c (sym (others_has d c held n) ∙ h) in omega arith)
