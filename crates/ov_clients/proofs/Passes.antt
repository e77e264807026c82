-- Two passes of one table before and after a call each.
use Rattle.std.proofs.Common.{◌≡◌, List, [], ◌∷◌, ◌++◌, length, length-append, refl, sym, ap, ◌∙◌, subst, arith}
use Rattle.ov_replay.specs.Desk.{part_at}
use Rattle.ov_share.specs.Passings.{Passing}
use Rattle.ov_lane.specs.Passes.{Shared, IsFresh, AreFreshFrom, AreFresh, AreAllPasses}
use Rattle.ov_lane.proofs.Keeping.{Keeps}

-- The two passes that a table for two begins with.
pub record AreTwo (o : Shared) (rest : List Passing) (one two : Passing) : Type 0 where
  pub one_new : IsFresh o 0 one
  pub two_new : IsFresh o 1 two
  pub rest_is : rest ≡ []
  pub all : AreAllPasses o (one ∷ two ∷ [])

no_others : (l : List Passing) → length l ≡ 0 → l ≡ []
no_others [] e = refl
no_others (p ∷ l) e = absurd (omega arith)

pub two_fresh : (o : Shared) (passes more rest : List Passing) (one two : Passing) → AreFresh o 2 passes → AreAllPasses o passes → passes ≡ more ++ two ∷ [] → more ≡ rest ++ one ∷ [] → AreTwo o rest one two
two_fresh o passes more rest one two new all with_two with_one =
    let split : passes ≡ (rest ++ one ∷ []) ++ two ∷ [] = with_two ∙ ap (λ l. l ++ two ∷ []) with_one in
    let none : rest ≡ [] = no_others rest (let count = new.counted in omega (arith, ap length split, length-append (rest ++ one ∷ []) (two ∷ []), length-append rest (one ∷ []))) in
    let both : passes ≡ one ∷ two ∷ [] = split ∙ ap (λ l. (l ++ one ∷ []) ++ two ∷ []) none in
    let each : AreFreshFrom o 0 (one ∷ two ∷ []) = subst (AreFreshFrom o 0) both new.each in
    record { one_new = each.0; two_new = each.1.0; rest_is = none; all = subst (AreAllPasses o) both all }

-- After a call each they are all passes still.
pub two_all : (o : Shared) (a b one two : Passing) → AreAllPasses o (a ∷ b ∷ []) → Keeps a one → Keeps b two → AreAllPasses o (one ∷ two ∷ [])
two_all o a b one two all first second = record {
  of = (first.of o.words all.of.0, (second.of o.words all.of.1.0, tt));
  free = (first.free all.free.0, (second.free all.free.1.0, tt));
  numbers = (omega arith, ((let x = first.number in let y = second.number in let rise = all.numbers.1.0 in omega arith), tt));
  table = (let x = first.table in let y = second.table in let whole = all.table in omega arith);
  parts = λ i lt. (let x = ap (λ ps. (part_at ps i).share) first.parts in let y = ap (λ ps. (part_at ps i).share) second.parts in let whole = all.parts i lt in omega arith);
  counters = (let x = ap (λ d. d.share) first.drawer in let y = ap (λ d. d.share) second.drawer in let whole = all.counters in omega arith);
}
