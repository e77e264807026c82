use Rattle.std.proofs.Common.{sym, ap, ◌∙◌, subst}
use Rattle.ov_turn.specs.Insides.{inside_with, kept_of, owes_in}
use Rattle.ov_model.specs.declared.act.Call.{Call}
use Rattle.ov_model.specs.Step.{May}
use Rattle.ov_table.specs.Recorded.{Recorded}
use Rattle.ov_table.specs.Cells.{OwesFreed}
use Rattle.ov_ticket.specs.Within as spec
use Rattle.ov_ticket.specs.Within.{IsCounted}
use Rattle.ov_ticket.proofs.Releasing.{out_may, owes_release, released_rest, released_made, release_tells, counted_lent}
use Rattle.ov_ticket.proofs.within.release_one.Goals as goal

pub count-requires-clause-may : goal.count-requires-clause-may
count-requires-clause-may c =
    let was = c.requires.1 in
    subst (λ (k : Call). May (kept_of c.args.inside.now).now k) (sym c.release_call-call.ensures) (out_may (kept_of c.args.inside.now).now c.args.at c.args.owed was.out.0)

pub count-requires-clause-owes : goal.count-requires-clause-owes
count-requires-clause-owes c =
    subst (λ (k : Call). OwesFreed k.act (owes_in c.args.inside.now)) (sym c.release_call-call.ensures) (owes_release c.args.at c.args.owed c.requires.0 (owes_in c.args.inside.now) c.requires.1.owes)

pub returns-clause-releasing : goal.returns-clause-releasing
returns-clause-releasing c rest was =
    let last = inside_with c.count.new.inside c.kept.result.now in
    let counted = counted_lent c.args.inside.now c.count.new.inside c.args.place _ c.kept.result.now c.kept.ensures.value c.in-Ok.ensures.ok in
    let is : IsCounted c.args.inside.now last c.args.place (spec.release_call c.args.at c.args.owed) = subst (λ (k : Call). IsCounted c.args.inside.now last c.args.place k) c.release_call-call.ensures counted in
    released_rest c.args.inside.now last c.args.place c.args.at c.args.owed rest was is was.settled

pub returns-clause-made : goal.returns-clause-made
returns-clause-made c =
    let last = inside_with c.count.new.inside c.kept.result.now in
    let counted = counted_lent c.args.inside.now c.count.new.inside c.args.place _ c.kept.result.now c.kept.ensures.value c.in-Ok.ensures.ok in
    released_made c.args.inside.now last c.args.place c.args.at c.args.owed (subst (λ (k : Call). IsCounted c.args.inside.now last c.args.place k) c.release_call-call.ensures counted)

pub returns-clause-settled : goal.returns-clause-settled
returns-clause-settled c =
    let rest = c.requires.0 in
    let was = c.requires.1 in
    let last = inside_with c.count.new.inside c.kept.result.now in
    let counted = counted_lent c.args.inside.now c.count.new.inside c.args.place _ c.kept.result.now c.kept.ensures.value c.in-Ok.ensures.ok in
    let is : IsCounted c.args.inside.now last c.args.place (spec.release_call c.args.at c.args.owed) = subst (λ (k : Call). IsCounted c.args.inside.now last c.args.place k) c.release_call-call.ensures counted in
    (released_rest c.args.inside.now last c.args.place c.args.at c.args.owed rest was is was.settled).settled

pub returns-clause-event : goal.returns-clause-event
returns-clause-event c =
    let counted = c.in-Ok.ensures.ok in
    release_tells (kept_of c.args.inside.now).now c.args.place c.args.at c.args.owed c.release_call-call.result c.in-Ok.reply _ _ c.stepped.ensures c.release_call-call.ensures c.in-Ok.ensures.reply
    (ap (λ (k : Recorded). k.taken) (c.kept.ensures.value ∙ counted.kept))
