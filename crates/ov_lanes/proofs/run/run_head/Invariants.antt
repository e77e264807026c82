use Rattle.std.proofs.Common.{◌≡◌, ◌<◌, length}
use Rattle.ov_lanes.specs.Jobs.{AreAtHead}
use Rattle.ov_lanes.proofs.run.run_head.Given as goal

-- So many lines of the head are over, and the last one's lane has seen all of them.
abbrev pub invariant-loop-lane : goal.invariant-loop-lane
invariant-loop-lane g l = record {
  head : AreAtHead g.it.table g.it.lines l.lane-index l.last l.jobs.items;
  within : l.last < length l.jobs.items;
  count : length l.jobs.items ≡ length l.fn.jobs.items;
}
