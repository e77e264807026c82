-- Each lane ran out, as its closure says.
use Rattle.ov_lanes.proofs.Placing.{all_ran, ran_between}
use Rattle.ov_lanes.proofs.run.run_side_by_side.Goals as goal

pub returns : goal.returns
returns g c = all_ran c.args.jobs.now c.for_each_mut.new.s c.for_each_mut.auto.s (λ i d below.
    let at = (c.for_each_mut.ensures i d below).1 in
    ran_between _ _ at.argument.now at.after_call.now at.argument_is at.left at.call)
