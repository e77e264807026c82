use Rattle.std.proofs.Common.{◌≡◌, ◌<◌, ◌-◌, length, sym, ◌∙◌, subst, arith}
use Rattle.ov_lanes.specs.Jobs.{RanSome}
use Rattle.ov_lanes.proofs.Working.{none_ran, one_ran, ran_stopped, next_left}
use Rattle.ov_lanes.proofs.job.Job.run_out.Goals as goal

pub loop-line-init : goal.loop-line-init
loop-line-init g c = none_ran c.args.self.now c.left-left.ensures.ready

pub returns-then-stopped : goal.returns-then-stopped
returns-then-stopped g c = ran_stopped c.loop-line._line (length c.args.self.now.lines - length c.args.self.now.answers) c.args.self.now c.loop-line.self (sym c.stopped.ensures ∙ c.if-stopped.true) c.loop-line.invariant

pub run_next-requires : goal.run_next-requires
run_next-requires g c =
    let below : c.loop-line._line < length c.args.self.now.lines - length c.args.self.now.answers = omega (arith, c.loop-line-test.true, c.left-left.ensures.count) in
    record { left = next_left c.loop-line._line c.args.self.now c.loop-line.self (sym c.stopped.ensures ∙ c.if-stopped.false) below c.loop-line.invariant }

pub loop-line-preserved : goal.loop-line-preserved
loop-line-preserved g c = one_ran c.loop-line._line c.args.self.now c.loop-line.self c.run_next.new.self c.left-left.ensures.ready (sym c.stopped.ensures ∙ c.if-stopped.false) c.loop-line.invariant c.run_next.ensures

pub returns : goal.returns
returns g c =
    let all : c.loop-line._line ≡ length c.args.self.now.lines - length c.args.self.now.answers = omega (arith, c.loop-line-test.false, c.loop-line.auto._line-end, c.left-left.ensures.count) in
    subst (λ n. RanSome n c.args.self.now c.loop-line.self) all c.loop-line.invariant
