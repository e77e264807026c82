use Rattle.std.proofs.Common.{◌≡◌, ◌+◌, subst, arith}
use Rattle.ov_turn.specs.Lists.{has}
use Rattle.ov_turn.specs.Insides.{to_unlink_in}
use Rattle.ov_model.specs.declared.hold.Owed.{Owed}
use Rattle.ov_ticket.specs.Within.{cell_of}
use Rattle.ov_hold.proofs.Fitting.{unlink_small}
use Rattle.ov_ticket.proofs.within.unlink_one.Goals as goal

pub overflow_add-cell : goal.overflow_add-cell
overflow_add-cell c =
    let it = c.args.inside.now in
    let left : has (4096 + c.in-Key.key) (to_unlink_in it) ≡ 1 = subst (λ (o : Owed). has (cell_of o) (to_unlink_in it) ≡ 1) c.in-Key.is c.requires.left in
    let lt = unlink_small it.seat.me.0 (4096 + c.in-Key.key) it.fit.1 left in
    let count = c.requires.cells in
    omega arith
