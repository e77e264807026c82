use Rattle.std.proofs.Common.{◌++◌, List, ℕ, sym, ap, ◌∙◌, subst}
use Rattle.ov_turn.specs.Insides.{inside_with, holds_in, owes_in}
use Rattle.ov_model.specs.declared.reply.Reply.{Reply}
use Rattle.ov_ticket.specs.Within.{IsUntouched}
use Rattle.ov_ticket.specs.Asks.{got_cells}
use Rattle.ov_ticket.specs.Asked.{MayTidy}
use Rattle.ov_ticket.proofs.Asking.{frees_none, owes_none}
use Rattle.ov_ticket.proofs.Tidying.{ready_may, to_tidy, lent_back, tidied_on, made, fits_on}
use Rattle.ov_ticket.proofs.asked.make.Goals as goal

pub count-requires-clause-may : goal.count-requires-clause-may
count-requires-clause-may c = ready_may c.args.inside.now c.args.call.now.act c.requires.ready

pub count-requires-clause-owes : goal.count-requires-clause-owes
count-requires-clause-owes c = owes_none c.args.call.now.act (owes_in c.args.inside.now) (frees_none (holds_in c.args.inside.now) (owes_in c.args.inside.now) c.args.call.now.act c.requires.ready.asks)

pub tidy-requires : goal.tidy-requires
tidy-requires c =
    subst (λ (r : Reply). MayTidy c.count.new.inside c.args.call.now.act r c.args.held.now c.args.owed.now) (sym c.in_ok-reply.ensures.reply)
    (to_tidy c.args.inside.now c.count.new.inside c.args.place c.args.call.now.at c.args.held.now c.args.owed.now c.args.call.now.act c.requires.ready c.requires.held c.requires.owed c.in_ok-reply.ensures.ok)

pub returns-clause-ok : goal.returns-clause-ok
returns-clause-ok c =
    let it = c.args.inside.now in
    let last = inside_with c.keep_pair.new.inside c.kept.result.now in
    let same : IsUntouched c.tidy.new.inside last = lent_back c.tidy.new.inside c.keep_pair.new.inside c.kept.result.now c.keep_pair.ensures.same c.kept.ensures.value in
    let tidied = tidied_on c.count.new.inside c.tidy.new.inside last c.args.call.now.act c.in_ok-reply.reply c.args.owed.now.items c.tidy.new.owed.items c.tidy.ensures.tidied same in
    made it c.count.new.inside last c.args.place c.args.call.now c.in_ok-reply.reply _ c.args.owed.now.items c.tidy.new.owed.items c.requires.ready c.in_ok-reply.ensures.ok c.in_ok-reply.ensures.reply tidied c.stepped-event.ensures

pub returns-clause-held : goal.returns-clause-held
returns-clause-held c =
    let tidied = c.tidy.ensures.tidied in
    let same = c.keep_pair.ensures.same in
    c.tidy.ensures.held ∙ ap (λ (l : List ℕ). l ++ got_cells c.args.call.now.act c.in_ok-reply.reply) (c.requires.held ∙ sym c.in_ok-reply.ensures.ok.holds) ∙ sym tidied.holds ∙ sym same.holds

pub returns-clause-owed : goal.returns-clause-owed
returns-clause-owed c =
    let it = c.args.inside.now in
    let last = inside_with c.keep_pair.new.inside c.kept.result.now in
    let same : IsUntouched c.tidy.new.inside last = lent_back c.tidy.new.inside c.keep_pair.new.inside c.kept.result.now c.keep_pair.ensures.same c.kept.ensures.value in
    let tidied = tidied_on c.count.new.inside c.tidy.new.inside last c.args.call.now.act c.in_ok-reply.reply c.args.owed.now.items c.tidy.new.owed.items c.tidy.ensures.tidied same in
    fits_on it last c.count.new.inside c.args.place c.args.call.now c.in_ok-reply.reply _ c.args.owed.now c.tidy.new.owed
    (made it c.count.new.inside last c.args.place c.args.call.now c.in_ok-reply.reply _ c.args.owed.now.items c.tidy.new.owed.items c.requires.ready c.in_ok-reply.ensures.ok c.in_ok-reply.ensures.reply tidied c.stepped-event.ensures)
    tidied c.requires.owed c.tidy.ensures.capacity
