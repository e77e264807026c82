-- How the floor, the verdict and a shard's steps change as one more comes at the end.
use Rattle.std.proofs.Common.{◌≡◌, ℕ, ◌+◌, ◌-◌, ◌%◌, ◌<◌, max, true, false, ◌||◌, cond, List, [], ◌∷◌, ◌++◌, length, take, refl, sym, subst, ◌∙◌, arith, append_assoc, ◌⊎◌, inl, inr, zero, suc, Some, nat_le, nat_lt, ◌==◌}
use Rattle.std.specs.List.{list_any, list_all, slice_get}
use Rattle.std.proofs.lemmas.Bool.{cases_eq, cases_lt, eq-eqb, ne_eqb, or_from, or_left, or_right, both_ways}
use Rattle.std.proofs.lemmas.Bool.Decides.{nat_tests}
use Rattle.std.proofs.lemmas.List.Folds.{list_any-append}
use Rattle.std.proofs.lemmas.List.Elements.{filter-append}
use Rattle.std.proofs.lemmas.List.{append-nil, take-append-le}
use Rattle.std.proofs.Math.Seq.{take-append_seam}
use Rattle.ov_model.specs.declared.place.Place.{Place}
use Rattle.ov_model.specs.Replay.{Accepted, greatest_id, next_moment, has_items, before_gap, floor_of, verdict_of, accepted_by, steps_of, moment_of, accepts_of, judged, IsJudged, ShardJudges}
use Rattle.ov_model.specs.declared.replay.ReplayEntry.{ReplayEntry}
use Rattle.ov_model.specs.declared.replay.Verdict.TheVariants.{Accept, Zero, Old, Below, Again}

-- ---- the floor

next_moment-push : (l : List Accepted) (a : Accepted) (m : ℕ) → next_moment (l ++ a ∷ []) m ≡ next_moment l a.moment
next_moment-push [] a m = refl
next_moment-push (x ∷ l) a m = refl

has_items-push : (l : List Accepted) (a : Accepted) → has_items (l ++ a ∷ []) ≡ true
has_items-push [] a = refl
has_items-push (x ∷ l) a = refl

-- One more accept: the whole list, where the gap comes after it, and else what stood before it.
pub before_gap-push : (l : List Accepted) (a : Accepted) (m : ℕ) → before_gap (l ++ a ∷ []) m ≡ cond (nat_le (a.moment + 30) m) (l ++ a ∷ []) (before_gap l a.moment)
unfolding before_gap
before_gap-push [] a m = refl
before_gap-push (x ∷ l) a m =
    rw (before_gap-push l a m, next_moment-push l a m)
    (elim (nat_le (a.moment + 30) m) as (λ t. cond (has_items (cond t (l ++ a ∷ []) (before_gap l a.moment)) || nat_le (x.moment + 30) (next_moment l a.moment)) (x ∷ cond t (l ++ a ∷ []) (before_gap l a.moment)) [] ≡ cond t (x ∷ (l ++ a ∷ [])) (cond (has_items (before_gap l a.moment) || nat_le (x.moment + 30) (next_moment l a.moment)) (x ∷ before_gap l a.moment) [])) [
      | true ↦ rw (has_items-push l a) refl
      | false ↦ refl
    ])

pub greatest_id-push : (l : List Accepted) (a : Accepted) → greatest_id (l ++ a ∷ []) ≡ max (greatest_id l) a.id
greatest_id-push [] a = grind arith
greatest_id-push (x ∷ l) a = grind (arith, greatest_id-push l a)

-- ---- the verdict

-- An id is above each of the list where it is above the greatest.
pub all_below : (l : List Accepted) (id : ℕ) → 0 < id → list_all (λ a. nat_lt a.id id) l ≡ nat_lt (greatest_id l) id
all_below [] id p = grind (arith, nat_tests)
all_below (x ∷ l) id p = rw (all_below l id p) (grind (arith, nat_tests))

-- No id above the greatest is in the list.
pub none_above : (l : List Accepted) (id : ℕ) → greatest_id l < id → list_any (λ a. a.id == id) l ≡ false
none_above [] id above = refl
none_above (x ∷ l) id above = or_from (x.id == id) (list_any (λ a. a.id == id) l) (ne_eqb x.id id (λ e. omega arith)) (none_above l id (omega arith))

-- The rows of the rule by the greatest id.
pub verdict_rows : (l : List Accepted) (id m : ℕ) → verdict_of l id m ≡ cond (id == 0) Zero (cond (nat_lt (greatest_id l) id) Accept (cond (nat_le 2048 (greatest_id l - id)) Old (cond (nat_le id (floor_of l m)) Below (cond (list_any (λ a. a.id == id) l) Again Accept))))
unfolding verdict_of
verdict_rows l id m =
    elim (cases_eq id 0) [
      | inl e ↦ rw (eq-eqb id 0 e) refl
      | inr ne ↦ rw (all_below l id (omega arith)) refl
    ]

-- An accepted id is not in the list.
pub accepted-new : (l : List Accepted) (id m : ℕ) → verdict_of l id m ≡ Accept → list_any (λ a. a.id == id) l ≡ false
accepted-new l id m accepted =
    elim (cases_lt (greatest_id l) id) [
      | inl above ↦ none_above l id above
      | inr within ↦ grind (arith, nat_tests, verdict_rows l id m)
    ]

-- ---- a shard's steps

-- One more step: of its own key alone.
pub steps_of-push : (key : ℕ) (es : List ReplayEntry) (e : ReplayEntry) → steps_of key (es ++ e ∷ []) ≡ cond (e.key == key) (steps_of key es ++ e ∷ []) (steps_of key es)
steps_of-push key es e = filter-append (λ x. x.key == key) es (e ∷ []) ∙ (elim (e.key == key) as (λ t. steps_of key es ++ cond t (e ∷ []) [] ≡ cond t (steps_of key es ++ e ∷ []) (steps_of key es)) [ true ↦ refl | false ↦ append-nil (steps_of key es) ])

pub moment_of-push : (es : List ReplayEntry) (e : ReplayEntry) → moment_of (es ++ e ∷ []) ≡ max (moment_of es) e.at
moment_of-push [] e = grind arith
moment_of-push (x ∷ es) e = grind (arith, moment_of-push es e)

pub accepts_of-push : (es : List ReplayEntry) (e : ReplayEntry) → accepts_of (es ++ e ∷ []) ≡ accepts_of es ++ accepted_by e.verdict e.id e.moment
accepts_of-push [] e = append-nil (accepted_by e.verdict e.id e.moment)
accepts_of-push (x ∷ es) e = rw (accepts_of-push es e, append_assoc) refl

-- What stands at a place after one more came: what stood there, or the one that came.
slice_get-push : (es : List ReplayEntry) (e : ReplayEntry) (i : ℕ) (x : ReplayEntry) → slice_get (es ++ e ∷ []) i ≡ Some x → ((i < length es) × (slice_get es i ≡ Some x)) ⊎ ((i ≡ length es) × (x ≡ e))
slice_get-push [] e zero x at = inr (refl, cc)
slice_get-push [] e (suc i) x at = cc
slice_get-push (y ∷ es) e zero x at = inl (omega arith, at)
slice_get-push (y ∷ es) e (suc i) x at =
    elim (slice_get-push es e i x at) [ inl w ↦ inl (omega (arith, w.0), w.1) | inr w ↦ inr (omega (arith, w.0), w.1) ]

-- A step more, judged after those that are there.
pub ShardJudges-push : (shard : ℕ) (es : List ReplayEntry) (e : ReplayEntry) → ShardJudges shard es → IsJudged shard es e → ShardJudges shard (es ++ e ∷ [])
ShardJudges-push shard es e earlier last i x at =
    elim (slice_get-push es e i x at) [
      | inl w ↦ rw (take-append-le i es (e ∷ []) (omega (arith, w.0))) (earlier i x w.1)
      | inr w ↦ rw (w.0, w.1, take-append_seam es (e ∷ [])) last
    ]

-- No step yet.
pub ShardJudges-nil : (shard : ℕ) → ShardJudges shard []
ShardJudges-nil shard i e at = cc

-- The entry that a step makes is judged.
pub IsJudged-judged : (shard : ℕ) (es : List ReplayEntry) (place : Place) (key id at : ℕ) → key % 8 ≡ shard → IsJudged shard es (judged es place key id at)
unfolding judged
IsJudged-judged shard es place key id at belongs = record { key = belongs; moment = refl; verdict = refl }

-- ---- no id twice

-- A step that was accepted is among the accepts of its key.
accepted_first : (e : ReplayEntry) (es : List ReplayEntry) → e.verdict ≡ Accept → list_any (λ a. a.id == e.id) (accepts_of (steps_of e.key (e ∷ es))) ≡ true
accepted_first e es accepted = rw (eq-eqb e.key e.key refl, accepted) (or_left (e.id == e.id) _ (eq-eqb e.id e.id refl))

accepted_among : (es : List ReplayEntry) (e : ReplayEntry) (i : ℕ) → slice_get es i ≡ Some e → e.verdict ≡ Accept → list_any (λ a. a.id == e.id) (accepts_of (steps_of e.key es)) ≡ true
accepted_among [] e i at accepted = cc
accepted_among (x ∷ es) e zero at accepted =
    let same : e ≡ x = cc in
    subst (λ (y : ReplayEntry). list_any (λ a. a.id == e.id) (accepts_of (steps_of e.key (y ∷ es))) ≡ true) same (accepted_first e es accepted)
accepted_among (x ∷ es) e (suc i) at accepted =
    let later = accepted_among es e i at accepted in
    elim (x.key == e.key) as (λ t. list_any (λ a. a.id == e.id) (accepts_of (cond t (x ∷ steps_of e.key es) (steps_of e.key es))) ≡ true) [
      | true ↦ list_any-append (λ a. a.id == e.id) (accepted_by x.verdict x.id x.moment) (accepts_of (steps_of e.key es)) ∙ or_right (list_any (λ a. a.id == e.id) (accepted_by x.verdict x.id x.moment)) _ later
      | false ↦ later
    ]

slice_get-take : (es : List ReplayEntry) (j i : ℕ) → i < j → slice_get (take j es) i ≡ slice_get es i
slice_get-take es zero i before = absurd (omega arith)
slice_get-take [] (suc j) i before = refl
slice_get-take (x ∷ es) (suc j) zero before = refl
slice_get-take (x ∷ es) (suc j) (suc i) before = slice_get-take es j i (omega arith)

-- No id is accepted twice under a key.
pub accepted_once : (shard : ℕ) (es : List ReplayEntry) (i j : ℕ) (a b : ReplayEntry) → ShardJudges shard es → i < j
    → slice_get es i ≡ Some a → slice_get es j ≡ Some b → a.key ≡ b.key → a.verdict ≡ Accept → b.verdict ≡ Accept → a.id ≡ b.id → ⊥
accepted_once shard es i j a b judges before at_i at_j key first second id =
    let among = accepted_among (take j es) a i (slice_get-take es j i before ∙ at_i) first in
    let new = accepted-new (accepts_of (steps_of b.key (take j es))) b.id b.moment (sym (judges j b at_j).verdict ∙ second) in
    both_ways _ new (rw (← key, ← id) among)
