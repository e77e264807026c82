use Rattle.std.proofs.Common.{ℕ, ap, ◌∙◌}
use Rattle.ov_turn.specs.Insides.{to_link_in}
use Rattle.std.specs.Prelude.{Option}
use Rattle.ov_base.specs.Sums.{count_of}
use Rattle.ov_ticket.specs.Within.{cell_list}
use Rattle.ov_ticket.proofs.Stepping.{none_has, linked_all}
use Rattle.ov_ticket.proofs.within.link_made.Goals as goal

pub returns-in-Some-clause-link : goal.returns-in-Some-clause-link
returns-in-Some-clause-link c = linked_all c.in-Some.cell c.args.cell (to_link_in c.args.inside.now) _ c.in-Some.is c.requires.made c.link.ensures.link

pub returns-in_default-clause-link : goal.returns-in_default-clause-link
returns-in_default-clause-link c = none_has _ (λ x. c.requires.made x ∙ ap (λ (o : Option ℕ). count_of x (cell_list o)) c.in_default.is)
