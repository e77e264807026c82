use Rattle.std.proofs.Common.{◌≡◌, true}
use Rattle.std.specs.Prelude.{map}
use Rattle.std.specs.Vec.{vec_capacity}
use Rattle.ov_lanes.specs.Jobs.{passes_of, log_of, are_on}
use Rattle.ov_lanes.proofs.run.take_in.Given as goal

abbrev pub invariant-loop-job : goal.invariant-loop-job
invariant-loop-job l = record {
  passes : l.passes.items ≡ passes_of l.yielded;
  logs : l.logs.items ≡ map log_of l.yielded;
  passes_room : vec_capacity l.passes ≡ vec_capacity l.fn.passes;
  logs_room : vec_capacity l.logs ≡ vec_capacity l.fn.logs;
  on : l.all ≡ true → are_on l.yielded;
}
