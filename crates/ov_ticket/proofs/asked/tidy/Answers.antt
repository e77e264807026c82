use Rattle.std.proofs.Common.{ℕ, List, ◌++◌, sym, ap, ◌∙◌, subst, append-nil}
use Rattle.ov_model.specs.declared.act.Act.{Act}
use Rattle.ov_ticket.specs.Asks.{got_cells}
use Rattle.ov_ticket.specs.Asked.{MayTidy, IsTidied}
use Rattle.ov_ticket.proofs.Tidying.{command_tidied, spend_tidied, killed_left, is_other, other_tidied}
use Rattle.ov_ticket.proofs.asked.tidy.Goals as goal

pub settle-requires-clause-counted : goal.settle-requires-clause-counted
settle-requires-clause-counted c = (subst (λ (a : Act). MayTidy c.args.inside.now a c.args.reply.now c.args.held.now c.args.owed.now) c.in-Do.is c.requires).0

pub settle-requires-clause-room : goal.settle-requires-clause-room
settle-requires-clause-room c = (subst (λ (a : Act). MayTidy c.args.inside.now a c.args.reply.now c.args.held.now c.args.owed.now) c.in-Do.is c.requires).1

pub unlink_spent-requires-clause-left : goal.unlink_spent-requires-clause-left
unlink_spent-requires-clause-left c killed = killed_left c.args.inside.now c.in-Spend.key c.args.reply.now (subst (λ (a : Act). MayTidy c.args.inside.now a c.args.reply.now c.args.held.now c.args.owed.now) c.in-Spend.is c.requires).0 killed

pub unlink_spent-requires-clause-cells : goal.unlink_spent-requires-clause-cells
unlink_spent-requires-clause-cells c = (subst (λ (a : Act). MayTidy c.args.inside.now a c.args.reply.now c.args.held.now c.args.owed.now) c.in-Spend.is c.requires).0.cells

pub unlink_spent-requires-clause-held : goal.unlink_spent-requires-clause-held
unlink_spent-requires-clause-held c = (subst (λ (a : Act). MayTidy c.args.inside.now a c.args.reply.now c.args.held.now c.args.owed.now) c.in-Spend.is c.requires).1

pub hold_found-requires : goal.hold_found-requires
hold_found-requires c = (is_other c.args.inside.now c.args.act.now c.args.reply.now c.args.held.now c.args.owed.now c.in_default.not-Do c.in_default.not-Spend c.requires).hold

pub returns-in-Do-clause-tidied : goal.returns-in-Do-clause-tidied
returns-in-Do-clause-tidied c =
    let may = subst (λ (a : Act). MayTidy c.args.inside.now a c.args.reply.now c.args.held.now c.args.owed.now) c.in-Do.is c.requires in
    let e = c.settle.ensures in
    subst (λ (a : Act). IsTidied c.args.inside.now c.settle.new.inside a c.args.reply.now c.args.owed.now.items c.settle.new.owed.items) (sym c.in-Do.is)
    (command_tidied c.args.inside.now c.settle.new.inside _ c.args.reply.now c.args.owed.now.items c.settle.new.owed.items may.0 may.1.nothing e.owes e.some e.steady e.holds)

pub returns-in-Spend-clause-tidied : goal.returns-in-Spend-clause-tidied
returns-in-Spend-clause-tidied c =
    let may = subst (λ (a : Act). MayTidy c.args.inside.now a c.args.reply.now c.args.held.now c.args.owed.now) c.in-Spend.is c.requires in
    let e = c.unlink_spent.ensures in
    subst (λ (a : Act). IsTidied c.args.inside.now c.unlink_spent.new.inside a c.args.reply.now c.args.owed.now.items c.args.owed.now.items) (sym c.in-Spend.is)
    (spend_tidied c.args.inside.now c.unlink_spent.new.inside _ c.in-Spend.key c.args.reply.now c.args.owed.now.items may.0 e.same e.link e.unlink e.holds e.owes)

pub returns-in_default-clause-tidied : goal.returns-in_default-clause-tidied
returns-in_default-clause-tidied c =
    let other = is_other c.args.inside.now c.args.act.now c.args.reply.now c.args.held.now c.args.owed.now c.in_default.not-Do c.in_default.not-Spend c.requires in
    let e = c.hold_found.ensures in
    other_tidied c.args.inside.now c.hold_found.new.inside c.args.act.now c.args.reply.now c.args.held.now c.args.owed.now.items other e.same e.link e.unlink e.holds e.owes

pub returns-in-Do-clause-held : goal.returns-in-Do-clause-held
returns-in-Do-clause-held c = sym (ap (λ (a : Act). c.args.held.now ++ got_cells a c.args.reply.now) c.in-Do.is ∙ append-nil c.args.held.now)

pub returns-in-Spend-clause-held : goal.returns-in-Spend-clause-held
returns-in-Spend-clause-held c = sym (ap (λ (a : Act). c.args.held.now ++ got_cells a c.args.reply.now) c.in-Spend.is ∙ append-nil c.args.held.now)

pub returns-in_default-clause-held : goal.returns-in_default-clause-held
returns-in_default-clause-held c =
    let other = is_other c.args.inside.now c.args.act.now c.args.reply.now c.args.held.now c.args.owed.now c.in_default.not-Do c.in_default.not-Spend c.requires in
    c.hold_found.ensures.held ∙ ap (λ (l : List ℕ). c.args.held.now ++ l) (sym other.got)
