use Rattle.ov_lanes.specs.Jobs.{RanSome}
use Rattle.ov_lanes.proofs.job.Job.run_out.Given as goal

-- So many of the lines that were left were run.
abbrev pub invariant-loop-line : goal.invariant-loop-line
invariant-loop-line g l = RanSome l._line l.fn.self l.self
