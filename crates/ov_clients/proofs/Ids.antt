-- From what each of two threads has drawn, and from what the one seat that is left knows, to the ids of both.
use Rattle.std.proofs.Common.{◌≡◌, ℕ, ◌+◌, ◌*◌, ◌<◌, min, List, [], ◌∷◌, ◌++◌, map, length, sym, refl, ap, ◌∙◌, arith, length-append}
use Rattle.std.specs.Prelude.{if◌then◌else◌, ◌==◌}
use Rattle.std.proofs.lemmas.List.Elements.{Contains-append_left, Contains-append_right}
use mathlib.Core.Logic.{dite}
use mathlib.Core.List.{map-append}
use native.Mathlib.Decide.{dec_le}
use Rattle.ov_base.specs.Sums.{between, count_of}
use Rattle.ov_base.proofs.Sums.{between_out}
use Rattle.ov_draw.specs.Drawer.{Counters, Drawer, times, IsEnded}
use Rattle.ov_clients.specs.Ids.{HasDrawn}
use Rattle.ov_draw.proofs.Intervals.{length-interval}

-- draws of the key 0 are counted as their ids
times-ids : (n : ℕ) (l : List ℕ) → times 0 n (map (λ m. (0, m)) l) ≡ count_of n l
times-ids n [] = refl
times-ids n (x ∷ xs) = ap (λ (k : ℕ). (if x == n then 1 else 0) + k) (times-ids n xs)

-- what both threads' ids are, from what the seat that is left knows
pub all_ids : (counters : Counters) (s t count : ℕ) (one two : Drawer) (ids others : List ℕ) → HasDrawn counters s count one ids → HasDrawn counters t count two others
    → IsEnded 1 (one.drawn ++ two.drawn) (one.spent ++ two.spent) → 2 * count < 4294967295 → (n : ℕ) → count_of n (ids ++ others) ≡ between 1 (2 * count + 1) n
all_ids counters s t count one two ids others a b ended few n =
    let all : List ℕ = ids ++ others in
    let e = ended 0 in
    let end : ℕ = e.0 in
    let pairs : one.drawn ++ two.drawn ≡ map (λ m. (0, m)) all = rw (a.drawn, b.drawn) (sym (map-append (λ m. (0, m)) ids others)) in
    let each : (m : ℕ) → count_of m all ≡ between 1 end m = λ m. sym (times-ids m all) ∙ ap (times 0 m) (sym pairs) ∙ e.2 m in
    let size : length all ≡ length ids + length others = length-append ids others in
    let full : length all + min 1 end ≡ end = length-interval all 1 end each in
    let counted = a.counted in
    let also = b.counted in
    let one_unspent : length one.spent ≡ 0 = dite (dec_le 1 (length one.spent))
    (λ some_of. absurd (omega (arith, e.3 (Contains-append_left one.spent two.spent 0 (a.spent some_of)), full)))
    (λ none_of. omega arith) in
    let two_unspent : length two.spent ≡ 0 = dite (dec_le 1 (length two.spent))
    (λ some_of. absurd (omega (arith, e.3 (Contains-append_right one.spent two.spent 0 (b.spent some_of)), full)))
    (λ none_of. omega arith) in
    let is : min 1 end + 2 * count ≡ end = omega arith in
    dite (dec_le 1 end)
    (λ some_of. let full_is : end ≡ 2 * count + 1 = omega arith in each n ∙ ap (λ (k : ℕ). between 1 k n) full_is)
    (λ none_of.
    let no : 2 * count + 1 ≡ 1 = omega arith in
    each n ∙ between_out 1 end n (λ lt. omega arith) ∙ sym (between_out 1 (2 * count + 1) n (λ lt. omega arith)))
