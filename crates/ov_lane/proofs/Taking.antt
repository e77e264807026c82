-- A pass is taken in: of all named entries its own are those with its number.
use Rattle.std.proofs.Common.{ℕ, suc, ◌≡◌, ◌≢◌, ◌+◌, ◌<◌, ◌≤◌, List, [], ◌∷◌, ◌++◌, refl, sym, ap, ◌∙◌, subst, arith, inl, inr, true, false, if◌then◌else◌, ◌==◌, append-nil}
use Rattle.std.specs.Prelude.{map, filter, Contains}
use Rattle.std.specs.List.{AllByRecursion}
use Rattle.std.proofs.lemmas.Bool.{cases_eq, eq-eqb, ne_eqb}
use Rattle.std.proofs.lemmas.List.Elements.{filter-append, Contains-append_left, Contains-append_right}
use mathlib.Core.List.{IsPrefix}
use Rattle.ov_base.specs.Sums.{count_of}
use Rattle.ov_base.proofs.Sums.{total_append}
use Rattle.ov_draw.specs.Drawer as draws
use Rattle.ov_turn.proofs.Fronts.{prefix_self, prefix_more}
use Rattle.ov_model.specs.Own.{RiseFrom}
use Rattle.ov_model.proofs.Lanes.{all_weaker}
use Rattle.ov_replay.specs.Desk.{part_at}
use Rattle.ov_share.specs.Shares.{Common, Sharing, IsShareOf, IsFree, IsBoth}
use Rattle.ov_share.specs.Keepings.{IsOrderly}
use Rattle.ov_share.specs.Passings.{Passing}
use Rattle.ov_lane.specs.Inner.{AreTaken, HasTaken, entry_lane, own_entries, judged_lane, own_judged}
use Rattle.ov_lane.proofs.Ordering.{all_both}

-- ---- numbers rise, so they differ

rise_after : (b : ℕ) (xs : List Passing) (p : Passing) (ys : List Passing) → RiseFrom b (map (λ q. q.number) (xs ++ p ∷ ys)) → RiseFrom (suc p.number) (map (λ q. q.number) ys)
rise_after b [] p ys rise = rise.1
rise_after b (x ∷ xs) p ys rise = rise_after (suc x.number) xs p ys rise.1

all_above : (b : ℕ) (ys : List Passing) → RiseFrom b (map (λ q. q.number) ys) → AllByRecursion (λ q. b ≤ q.number) ys
all_above b [] rise = tt
all_above b (q ∷ ys) rise = (rise.0, all_weaker (λ r. suc q.number ≤ r.number) (λ r. b ≤ r.number) (λ r above. let first : b ≤ q.number = rise.0 in let more : suc q.number ≤ r.number = above in omega arith) ys (all_above (suc q.number) ys rise.1))

count_above : (b n : ℕ) (ys : List Passing) → AllByRecursion (λ q. b ≤ q.number) ys → 0 < count_of n (map (λ q. q.number) ys) → b ≤ n
count_above b n [] all counted = absurd (omega arith)
count_above b n (q ∷ ys) all counted = elim (cases_eq q.number n) [
  | inl same ↦ (let above : b ≤ q.number = all.0 in omega arith)
  | inr other ↦ let zero_times : ◌≡◌ {A = ℕ} (if q.number == n then 1 else 0) 0 = rw (ne_eqb q.number n other) refl in count_above b n ys all.1 (omega arith)
]

pub prefix_on : {X : Type 0} (xs ys zs : List X) → IsPrefix xs ys → IsPrefix ys zs → IsPrefix xs zs
prefix_on xs ys zs p q = subst (IsPrefix xs) q.1 (prefix_more xs ys q.0 p)

-- ---- the entries of one number

module _ {X : Type 0} (lane : X → ℕ) where
  abbrev pub by : ℕ → List (ℕ × X) → List (ℕ × X)
  by n es = filter (λ e. lane e.1 == n) es

  by_none : (n : ℕ) (es : List (ℕ × X)) → AllByRecursion (λ e. lane e.1 ≢ n) es → by n es ≡ []
  by_none n [] all = refl
  by_none n (e ∷ es) all = rw (ne_eqb (lane e.1) n all.0) (by_none n es all.1)

  by_all : (n : ℕ) (es : List (ℕ × X)) → AllByRecursion (λ e. lane e.1 ≡ n) es → by n es ≡ es
  by_all n [] all = refl
  by_all n (e ∷ es) all = rw (eq-eqb (lane e.1) n all.0) (ap (λ l. e ∷ l) (by_all n es all.1))

  by_split : (n : ℕ) (es fs : List (ℕ × X)) → by n (es ++ fs) ≡ by n es ++ by n fs
  by_split n es fs = filter-append (λ e. lane e.1 == n) es fs

  pub all_by : (P : (ℕ × X) → Type 0) (n : ℕ) (es : List (ℕ × X)) → AllByRecursion P es → AllByRecursion P (by n es)
  all_by P n [] all = tt
  all_by P n (e ∷ es) all = elim (lane e.1 == n) as (λ b. AllByRecursion P (if b then e ∷ by n es else by n es)) [
    | true ↦ (all.0, all_by P n es all.1)
    | false ↦ all_by P n es all.1
  ]

  one_named : (n : ℕ) (ns : List ℕ) (es : List (ℕ × X)) → AllByRecursion (λ e. lane e.1 ≡ n) es → AllByRecursion (λ e. 0 < count_of (lane e.1) (n ∷ ns)) es
  one_named n ns es placed = all_weaker {X = ℕ × X} (λ e. lane e.1 ≡ n) (λ e. 0 < count_of (lane e.1) (n ∷ ns)) (λ e same. let one : ◌≡◌ {A = ℕ} (if n == lane e.1 then 1 else 0) 1 = rw (eq-eqb n (lane e.1) (sym same)) refl in omega arith) es placed

  module _ (own : Passing → List (ℕ × X)) where
    -- The first pass.
    pub take_one : (p : Passing) → AllByRecursion (λ e. lane e.1 ≡ p.number) (own p) → AreTaken lane own (p ∷ []) (own p)
    take_one p placed = record { each = (by_all p.number (own p) placed, tt); within = one_named p.number [] (own p) placed }

    others_stay : (n : ℕ) (all new : List (ℕ × X)) (qs : List Passing) → AllByRecursion (λ e. lane e.1 ≡ n) new → AllByRecursion (λ q. suc n ≤ q.number) qs → AllByRecursion (λ q. by q.number all ≡ own q) qs → AllByRecursion (λ q. by q.number (all ++ new) ≡ own q) qs
    others_stay n all new [] placed above each = tt
    others_stay n all new (q ∷ qs) placed above each =
        let higher : suc n ≤ q.number = above.0 in
        let none_here : by q.number new ≡ [] = by_none q.number new (all_weaker {X = ℕ × X} (λ e. lane e.1 ≡ n) (λ e. lane e.1 ≢ q.number) (λ e same equal. absurd (let a : lane e.1 ≡ n = same in let b : lane e.1 ≡ q.number = equal in omega arith)) new placed) in
        (by_split q.number all new ∙ ap (λ l. by q.number all ++ l) none_here ∙ append-nil (by q.number all) ∙ each.0, others_stay n all new qs placed above.1 each.1)

    -- One pass more, with a lower number.
    pub take_more : (rest ys : List Passing) (p : Passing) (all : List (ℕ × X)) → RiseFrom 0 (map (λ q. q.number) (rest ++ p ∷ ys)) → AreTaken lane own ys all → AllByRecursion (λ e. lane e.1 ≡ p.number) (own p) → AreTaken lane own (p ∷ ys) (all ++ own p)
    take_more rest ys p all rise was placed =
        let above : AllByRecursion (λ q. suc p.number ≤ q.number) ys = all_above (suc p.number) ys (rise_after 0 rest p ys rise) in
        let others : AllByRecursion (λ e. lane e.1 ≢ p.number) all =
        all_weaker {X = ℕ × X} (λ e. 0 < count_of (lane e.1) (map (λ q. q.number) ys)) (λ e. lane e.1 ≢ p.number) (λ e counted same. absurd (let over = count_above (suc p.number) (lane e.1) ys above counted in omega arith)) all was.within in
        let mine : by p.number (all ++ own p) ≡ own p = by_split p.number all (own p) ∙ ap (λ l. l ++ by p.number (own p)) (by_none p.number all others) ∙ by_all p.number (own p) placed in
        record {
          each = (mine, others_stay p.number all (own p) ys placed above was.each);
          within = all_both (λ e. 0 < count_of (lane e.1) (p.number ∷ map (λ q. q.number) ys)) all (own p)
              (all_weaker {X = ℕ × X} (λ e. 0 < count_of (lane e.1) (map (λ q. q.number) ys)) (λ e. 0 < count_of (lane e.1) (p.number ∷ map (λ q. q.number) ys)) (λ e counted. let some_of : 0 < count_of (lane e.1) (map (λ q. q.number) ys) = counted in omega arith) all was.within)
              (one_named p.number (map (λ q. q.number) ys) (own p) placed);
        }

-- ---- a whole share

-- The first pass is taken.
pub taken_one : (w : Common) (p : Passing) (s : Sharing) → s ≡ p.share → IsShareOf w p.share → IsFree p.share → IsOrderly p.number p.share → HasTaken w (p ∷ []) s
taken_one w p s same of free orderly = subst (HasTaken w (p ∷ [])) (sym same) record {
  of = of;
  free = free;
  table = omega arith;
  parts = λ i lt. omega arith;
  counters = omega arith;
  orderly = (orderly, tt);
  seen = (prefix_self p.share.sight.seen, tt);
  own = take_one entry_lane own_entries p orderly.placed;
  judged = λ i lt. take_one judged_lane (own_judged i) p (orderly.parts i lt).placed;
  drawn = λ k n. omega arith;
  spent = (λ k has. has, tt);
}

-- One more pass is taken in.
pub taken_more : (w : Common) (rest ys : List Passing) (p : Passing) (s new : Sharing) → RiseFrom 0 (map (λ q. q.number) (rest ++ p ∷ ys)) → HasTaken w ys s → IsShareOf w new → IsFree new → IsBoth s p.share new → IsOrderly p.number p.share → HasTaken w (p ∷ ys) new
taken_more w rest ys p s new rise was of free both orderly = record {
  of = of;
  free = free;
  table = (let before = was.table in let more = both.share in omega arith);
  parts = λ i lt. (let before = was.parts i lt in let more = (both.parts i lt).share in omega arith);
  counters = (let before = was.counters in let more = ap (λ d. d.share) both.drawer in omega arith);
  orderly = (orderly, was.orderly);
  seen = (both.seen_right, all_weaker (λ q. IsPrefix q.share.sight.seen s.sight.seen) (λ q. IsPrefix q.share.sight.seen new.sight.seen) (λ q seen. prefix_on q.share.sight.seen s.sight.seen new.sight.seen seen both.seen_left) ys was.seen);
  own = subst (AreTaken entry_lane own_entries (p ∷ ys)) (sym both.own) (take_more entry_lane own_entries rest ys p s.sight.own rise was.own orderly.placed);
  judged = λ i lt. subst (AreTaken judged_lane (own_judged i) (p ∷ ys)) (sym (both.parts i lt).own) (take_more judged_lane (own_judged i) rest ys p (part_at s.parts i).own rise (was.judged i lt) (orderly.parts i lt).placed);
  drawn = λ k n. (let all = ap (λ d. draws.times k n d.drawn) both.drawer in let before = was.drawn k n in let split : draws.times k n (s.drawer.drawn ++ p.share.drawer.drawn) ≡ draws.times k n s.drawer.drawn + draws.times k n p.share.drawer.drawn = total_append _ s.drawer.drawn p.share.drawer.drawn in omega arith);
  spent = (
    λ k has. subst (λ d. Contains d.spent k) (sym both.drawer) (Contains-append_right s.drawer.spent p.share.drawer.spent k has),
    all_weaker (λ q. (k : ℕ) → Contains q.share.drawer.spent k → Contains s.drawer.spent k) (λ q. (k : ℕ) → Contains q.share.drawer.spent k → Contains new.drawer.spent k) (λ q kept k has. subst (λ d. Contains d.spent k) (sym both.drawer) (Contains-append_left s.drawer.spent p.share.drawer.spent k (kept k has))) ys was.spent,
  );
}
