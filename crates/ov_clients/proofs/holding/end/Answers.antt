-- The seat holds the thing, so it isn't the last to let it go.
use Rattle.std.proofs.Common.{rules, ◌≡◌, ◌<◌, ℕ, List, sym, ap, subst, ◌∙◌, arith}
use Rattle.ov_base.specs.Sums.{count_of}
use Rattle.ov_turn.specs.Lists.{has, still}
use Rattle.ov_turn.specs.Insides.{holds_in, dying_in}
use Rattle.ov_turn.proofs.Members.{counted_has}
use Rattle.ov_clients.proofs.Lasts.{owes_more}
use Rattle.ov_clients.proofs.holding.end.Goals as goal

pub returns-clause-keeps : goal.returns-clause-keeps
returns-clause-keeps g c =
    let r = c.requires in
    let holds : holds_in c.append.new.self ≡ c.args.held.now = c.append.ensures.holds ∙ c.enter-inside.ensures.holds ∙ r.holds in
    let here : has 0 c.args.held.now ≡ 1 = search rules in
    let one : 0 < count_of 0 c.args.held.now = counted_has 0 c.args.held.now (omega arith) in
    let more = c.unlink.ensures.held (subst (λ (l : List ℕ). 0 < count_of 0 l) (sym holds) one) in
    record {
      of = search rules;
      cells = r.cells;
      holds = c.leave-2.ensures.holds ∙ c.unlink.ensures.holds ∙ holds;
      only = r.only;
      owes = c.leave-2.ensures.owes
          ∙ owes_more c.unlink.result 0 _ _ more c.unlink.ensures.owes
          ∙ c.append.ensures.owes
          ∙ ap (λ (l : List ℕ). still (dying_in c.append.new.self) l) (c.enter-inside.ensures.owes ∙ r.owes);
    }
