-- The seat has the whole share, so the load shows that its draws are all draws.
use Rattle.std.proofs.Common.{◌∙◌, sym, ap, subst, rules}
use Rattle.ov_draw.specs.Drawer.{Drawer, IsEnded}
use Rattle.ov_draw.proofs.Keeps.{settles}
use Rattle.ov_draw.proofs.laws.ended.Goals as goal

pub load-word-requires : goal.load-word-requires
load-word-requires c =
    let own = ap (λ d. d.of) c.seat.view_is ∙ c.requires.seat ∙ sym c.draws.view_is in
    (ap (λ d. d.name) own, search rules, settles c.draws.inside.table.shared.key 65536 _ _ _ _ (ap (λ d. d.share) c.seat.view_is ∙ c.requires.whole))

pub returns-clause-ended : goal.returns-clause-ended
returns-clause-ended c = subst (λ (d : Drawer). IsEnded d.of.first d.drawn d.spent) c.seat.view_is c.load-word.ensures.2.1
