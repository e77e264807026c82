-- What is among the cells got is held.
use Rattle.std.proofs.Common.{rules, ◌≡◌, ◌<◌, ℕ, List, sym, subst, arith}
use Rattle.ov_base.specs.Sums.{count_of}
use Rattle.ov_turn.specs.Lists.{has}
use Rattle.ov_turn.proofs.Members.{counted_has}
use Rattle.ov_hold.proofs.tests.release.Goals as goal

pub give_back-given-requires-clause-holds : goal.give_back-given-requires-clause-holds
give_back-given-requires-clause-holds c κs =
    let here : has 0 c.args.held.now ≡ 1 = search rules in
    let one : 0 < count_of 0 c.args.held.now = counted_has 0 c.args.held.now (omega arith) in
    subst (λ (l : List ℕ). 0 < count_of 0 l) (sym c.requires.holds) one
