use Rattle.std.proofs.Common.{sym, subst}
use Rattle.ov_model.specs.declared.reply.Reply.{Reply}
use Rattle.ov_ticket.specs.Within.{IsAnswered}
use Rattle.ov_ticket.proofs.Settling.{answered, served}
use Rattle.ov_ticket.proofs.within.serve.Goals as goal

pub settle-requires-clause-counted : goal.settle-requires-clause-counted
settle-requires-clause-counted c =
    subst (λ (r : Reply). IsAnswered c.count.new.inside c.args.command.now r) (sym c.in_ok-reply.ensures.reply)
    (answered c.args.inside.now c.count.new.inside c.args.place c.args.at c.args.command.now c.requires.settled c.requires.free c.in_ok-reply.ensures.ok)

pub returns-clause-ok : goal.returns-clause-ok
returns-clause-ok c =
    served c.args.inside.now c.count.new.inside c.settle.new.inside c.release_all.new.inside c.args.place c.args.at c.args.command.now c.in_ok-reply.reply c.settle.new.owed.items
    c.in_ok-reply.ensures.ok c.in_ok-reply.ensures.reply c.settle.ensures.some c.settle.ensures.steady c.settle.ensures.holds c.release_all.ensures.releasing c.release_all.ensures.made
