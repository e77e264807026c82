use Rattle.std.proofs.Common.{ℕ, List, ◌∷◌, [], ◌++◌, sym, ap, subst, ◌∙◌}
use Rattle.ov_hold.specs.Holds.{AreHeld}
use Rattle.ov_hold.proofs.Fitting.{live_small, held_more}
use Rattle.ov_hold.proofs.Holding.{cell_of, get_step}
use Rattle.ov_hold.proofs.hold.get.Goals as goal

pub add_inside-requires-clause-cell : goal.add_inside-requires-clause-cell
add_inside-requires-clause-cell g c κs within = let it = c.args.inside.now in live_small it.seat.me.0 c.args.cell it.fit.1 c.requires.live

pub add_inside-requires-clause-step : goal.add_inside-requires-clause-step
add_inside-requires-clause-step g c κs within =
    let it = c.args.inside.now in
    get_step g.S.Kept.history g.S.Kept.live g.S.Kept.dying _ _ _ _ _ it.place.0 it.place.1 it.place.2 it.fit.0 it.fit.1 c.requires.live c.requires.linked c.requires.free (live_small it.seat.me.0 c.args.cell it.fit.1 c.requires.live)

pub returns-clause-goes : goal.returns-clause-goes
returns-clause-goes g c are =
    let holds = c.args.inside.now.seat.me.0.holds in
    let held = c.args.held.now in
    let more = ap (λ v. v.holds) c.add_inside.ensures.step ∙ ap (λ (d : ℕ). holds ++ d ∷ []) (sym (cell_of c.args.cell)) in
    subst (λ (z : List ℕ × List ℕ). AreHeld z.0 z.1) (λ i. (sym c.add.ensures i, sym more i)) (held_more c.args.cell held holds are)
