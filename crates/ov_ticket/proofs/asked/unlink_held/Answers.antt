use Rattle.std.proofs.Common.{◌+◌, subst, arith}
use Rattle.ov_turn.specs.Insides.{owes_in}
use Rattle.ov_hold.specs.Holds.{Owes}
use Rattle.ov_hold.proofs.Fitting.{unlink_small}
use Rattle.ov_model.specs.declared.hold.Given.{Given}
use Rattle.ov_ticket.proofs.asked.unlink_held.Goals as goal

pub overflow_add-key : goal.overflow_add-key
overflow_add-key c =
    let lt = unlink_small c.args.inside.now.seat.me.0 (4096 + c.args.key) c.args.inside.now.fit.1 c.requires.left in
    let count = c.requires.cells in
    omega arith

pub returns-clause-owes : goal.returns-clause-owes
returns-clause-owes c = subst (λ (g : Given). Owes g (4096 + c.args.key) (owes_in c.args.inside.now) (owes_in c.unlink.new.inside)) (c.unlink.ensures.held c.requires.held) c.unlink.ensures.owes
