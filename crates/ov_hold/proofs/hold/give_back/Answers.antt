use mathlib.Core.Logic.{dite}
use native.Mathlib.Decide.{ℕ_discrete}
use Rattle.std.proofs.Common.{◌≡◌, ℕ, ◌+◌, ◌-◌, List, sym, ap, subst, ◌∙◌, arith}
use Rattle.ov_turn.specs.Lists.{without}
use Rattle.ov_hold.specs.Holds.{AreHeld}
use Rattle.ov_hold.proofs.Fitting.{held_small, held_less}
use Rattle.ov_hold.proofs.Holding.{cell_of, give_step}
use Rattle.ov_hold.proofs.hold.give_back.Goals as goal

pub sub_outside-found-requires-clause-cell : goal.sub_outside-found-requires-clause-cell
sub_outside-found-requires-clause-cell g c κs within =
    let it = c.args.seat.now in
    let small = held_small it.seat.me.0 c.args.cell it.fit.0 c.requires.holds in
    let mine = it.fit.1 in
    let theirs = c.args.lock.now.sized.0 in
    let same = ap (λ z. z.words) c.requires.seat in
    omega arith

pub sub_outside-found-requires-clause-step : goal.sub_outside-found-requires-clause-step
sub_outside-found-requires-clause-step g c κs within = let it = c.args.seat.now in give_step g.S.Kept.history g.S.Kept.live g.S.Kept.dying _ _ _ _ _ it.idle.3 it.fit.0 c.requires.holds

pub returns-clause-goes : goal.returns-clause-goes
returns-clause-goes g c are =
    let holds = c.args.seat.now.seat.me.0.holds in
    let held = c.args.held.now in
    let step = c.sub_outside-found.ensures.step in
    let less : c.sub_outside-found.new.seat.seat.me.0.holds ≡ without (3 + c.args.cell - 3) holds = dite (ℕ_discrete c.sub_outside-found.result 2) (λ e. ap (λ v. v.holds) (step.0 e)) (λ n. ap (λ v. v.holds) (step.1 n)) in
    let left = less ∙ ap (λ (d : ℕ). without d holds) (sym (cell_of c.args.cell)) in
    subst (λ (z : List ℕ × List ℕ). AreHeld z.0 z.1) (λ i. (sym c.remove.ensures i, sym left i)) (held_less c.args.cell held holds are)
