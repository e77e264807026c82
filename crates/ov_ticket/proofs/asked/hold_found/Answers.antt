use Rattle.std.proofs.Common.{◌++◌, List, ℕ, sym, ap, ◌∙◌, subst, append-nil}
use Rattle.ov_turn.specs.Insides.{holds_in}
use Rattle.ov_model.specs.declared.reply.Reply.{Reply}
use Rattle.ov_ticket.specs.Asks.{found_cells}
use Rattle.ov_ticket.specs.Asked.{MayHold}
use Rattle.ov_ticket.proofs.Tidying.{found_other}
use Rattle.ov_ticket.proofs.asked.hold_found.Goals as goal

pub hold_both-requires : goal.hold_both-requires
hold_both-requires c = subst (λ (r : Reply). MayHold r c.args.inside.now c.args.held.now) c.in-Hold.is c.requires

pub returns-in-Hold-clause-holds : goal.returns-in-Hold-clause-holds
returns-in-Hold-clause-holds c =
    let can = subst (λ (r : Reply). MayHold r c.args.inside.now c.args.held.now) c.in-Hold.is c.requires in
    c.hold_both.ensures.holds ∙ ap found_cells (sym c.in-Hold.is) ∙ ap (λ (l : List ℕ). l ++ found_cells c.args.reply.now) (sym can.free)

pub returns-in-Hold-clause-held : goal.returns-in-Hold-clause-held
returns-in-Hold-clause-held c =
    let can = subst (λ (r : Reply). MayHold r c.args.inside.now c.args.held.now) c.in-Hold.is c.requires in
    c.hold_both.ensures.held ∙ ap found_cells (sym c.in-Hold.is) ∙ ap (λ (l : List ℕ). l ++ found_cells c.args.reply.now) (sym can.new)

pub returns-in_default-clause-holds : goal.returns-in_default-clause-holds
returns-in_default-clause-holds c = sym (ap (λ (l : List ℕ). holds_in c.args.inside.now ++ l) (found_other c.args.reply.now c.in_default.not-Hold) ∙ append-nil (holds_in c.args.inside.now))

pub returns-in_default-clause-held : goal.returns-in_default-clause-held
returns-in_default-clause-held c = sym (ap (λ (l : List ℕ). c.args.held.now ++ l) (found_other c.args.reply.now c.in_default.not-Hold) ∙ append-nil c.args.held.now)
