use Rattle.std.proofs.Common.{◌+◌, ap, arith}
use Rattle.ov_base.specs.Sums.{count_of}
use Rattle.ov_turn.specs.Lists.{has}
use Rattle.ov_hold.proofs.Fitting.{live_small}
use Rattle.ov_ticket.proofs.asked.hold_both.Goals as goal

pub get-requires-clause-linked : goal.get-requires-clause-linked
get-requires-clause-linked c κs = ap (has c.args.view.now.peer) c.requires.linked

pub get-requires-clause-free : goal.get-requires-clause-free
get-requires-clause-free c κs = ap (count_of c.args.view.now.peer) c.requires.free

pub get-requires-clause-new : goal.get-requires-clause-new
get-requires-clause-new c κs = ap (has c.args.view.now.peer) c.requires.new

pub overflow_add-view : goal.overflow_add-view
overflow_add-view c =
    let lt = live_small c.args.inside.now.seat.me.0 (4096 + c.args.view.now.key) c.args.inside.now.fit.1 c.requires.key in
    let count = c.requires.cells in
    omega arith
