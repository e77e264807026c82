use Rattle.std.proofs.Common.{sym, ap, ◌∙◌}
use Rattle.ov_turn.specs.Insides.{to_unlink_in}
use Rattle.ov_model.specs.declared.reply.Reply.{Reply}
use Rattle.ov_ticket.specs.Asked.{spent_left}
use Rattle.ov_ticket.proofs.Tidying.{spent_other}
use Rattle.ov_ticket.proofs.asked.unlink_spent.Goals as goal

pub unlink_held-requires-clause-left : goal.unlink_held-requires-clause-left
unlink_held-requires-clause-left c = c.requires.left c.in-Killed.is

pub returns-in-Killed-clause-unlink : goal.returns-in-Killed-clause-unlink
returns-in-Killed-clause-unlink c = c.unlink_held.ensures.unlink ∙ ap (λ (r : Reply). spent_left r c.args.key (to_unlink_in c.args.inside.now)) (sym c.in-Killed.is)

pub returns-in_default-clause-unlink : goal.returns-in_default-clause-unlink
returns-in_default-clause-unlink c = sym (spent_other c.args.reply.now c.args.key (to_unlink_in c.args.inside.now) c.in_default.not-Killed)
