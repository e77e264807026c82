use Rattle.ov_core.proofs.Whole.{out_first, out_next, out_falls, out_last}
use Rattle.ov_core.proofs.course.Course.run_out.Goals as goal

pub lines-init : goal.lines-init
lines-init c = out_first c.args.world.now c.args.self.now

pub lines-smaller : goal.lines-smaller
lines-smaller c =
    out_falls c.args.world.now c.lines.world c.run_line.new.world c.args.self.now c.lines.self c.run_line.new.self c.in_ok-run_line.field-0 c.in-Answered.is c.requires.on c.lines.invariant c.in_ok-run_line.ensures

pub lines-preserved : goal.lines-preserved
lines-preserved c =
    out_next c.args.world.now c.lines.world c.run_line.new.world c.args.self.now c.lines.self c.run_line.new.self c.in_ok-run_line.field-0 c.in-Answered.is c.lines.invariant c.in_ok-run_line.ensures

pub returns : goal.returns
returns c =
    out_last c.args.world.now c.lines.world c.run_line.new.world c.args.self.now c.lines.self c.run_line.new.self c.in_ok-run_line.field-0 c.in_default.not-Answered c.lines.invariant c.in_ok-run_line.ensures
