use Rattle.std.proofs.Common.{◌≡◌, List, [], ◌∷◌, ◌++◌, sym, ap, ◌∙◌}
use Rattle.ov_turn.specs.Lists.{has}
use Rattle.ov_turn.specs.Insides.{kept_of, seen_in, live_in, dying_in}
use Rattle.ov_model.specs.declared.entry.Entry.{Entry}
use Rattle.ov_table.specs.Recorded.{Recorded, stepped, entry_of}
use Rattle.ov_table.specs.Cells.{live_cells, dying_cells}
use Rattle.ov_table.proofs.Told.{told_after}
use Rattle.ov_ticket.proofs.Stepping.{may_append, made_left, gone_left}
use Rattle.ov_ticket.proofs.within.count.Goals as goal

pub append-requires-clause-cells : goal.append-requires-clause-cells
append-requires-clause-cells c κs =
    let r : Recorded = kept_of c.args.inside.now in
    let s = c.requires.settled in
    let is : c.step.new.self ≡ stepped r c.args.place c.args.call.now = c.in_ok-reply.ensures.stepped ∙ ap (λ (k : Recorded). stepped k c.args.place c.args.call.now) c.kept.ensures.value in
    may_append r c.step.new.self c.args.place c.args.call.now _ _ _ _ is s.cells s.live s.dying s.told c.requires.may c.requires.owes

pub returns-clause-ok : goal.returns-clause-ok
returns-clause-ok c =
    let it = c.args.inside.now in
    let r : Recorded = kept_of it in
    let s = c.requires.settled in
    let k : Recorded = c.step.new.self in
    let new = c.append.new.self in
    let is : k ≡ stepped r c.args.place c.args.call.now = c.in_ok-reply.ensures.stepped ∙ ap (λ (q : Recorded). stepped q c.args.place c.args.call.now) c.kept.ensures.value in
    let kept : kept_of new ≡ stepped r c.args.place c.args.call.now = c.append.ensures.kept ∙ is in
    let e : Entry = entry_of r.now c.args.place c.args.call.now in
    let longer : k.journal ≡ seen_in it ++ e ∷ [] = ap (λ (q : Recorded). q.journal) is ∙ ap (λ (l : List Entry). l ++ e ∷ []) s.history in
    let seen : seen_in new ≡ k.journal = c.append.ensures.seen in
    let live : live_in new ≡ live_cells k.now = c.append.ensures.lists.0 in
    let dying : dying_in new ≡ dying_cells k.now = c.append.ensures.lists.1 in
    let same : kept_of new ≡ k = c.append.ensures.kept in
    record {
      same = c.append.ensures.lock;
      told = told_after r c.args.place c.args.call.now (kept_of new) kept c.requires.may s.told;
      kept = kept;
      seen = seen ∙ longer;
      own = c.append.ensures.own e longer;
      history = ap (λ (q : Recorded). q.journal) same ∙ sym seen;
      live = ap (λ (q : Recorded). live_cells q.now) same ∙ sym live;
      dying = ap (λ (q : Recorded). dying_cells q.now) same ∙ sym dying;
      holds = c.append.ensures.holds;
      owes = c.append.ensures.owes;
      made = λ cell. ap (has cell) c.append.ensures.link ∙ made_left r k c.args.place c.args.call.now (live_in it) (live_in new) is s.live live s.told c.requires.may cell;
      gone = λ cell. ap (has cell) c.append.ensures.unlink ∙ gone_left r k c.args.place c.args.call.now (dying_in it) (dying_in new) is s.dying dying s.told c.requires.may cell;
    }
