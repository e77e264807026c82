use Rattle.ov_core.proofs.Whole.{turned_first, turned_next, turned_falls}
use Rattle.ov_core.proofs.course.Course.run_line.Goals as goal

pub turns-init : goal.turns-init
turns-init c = turned_first c.args.world.now c.turn.new.world c.args.self.now c.turn.new.self c.in_ok-last.last c.in_ok-last.ensures

pub turns-smaller : goal.turns-smaller
turns-smaller c =
    turned_falls c.args.world.now c.turns.world c.turn-in-Going.new.world c.args.self.now c.turns.self c.turn-in-Going.new.self c.turns.last c.in_ok-last-2.last c.in-Going.is c.requires.on c.turns.invariant c.in_ok-last-2.ensures

pub turns-preserved : goal.turns-preserved
turns-preserved c =
    turned_next c.args.world.now c.turns.world c.turn-in-Going.new.world c.args.self.now c.turns.self c.turn-in-Going.new.self c.turns.last c.in_ok-last-2.last c.in-Going.is c.turns.invariant c.in_ok-last-2.ensures
