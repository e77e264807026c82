use Rattle.std.proofs.Common.{◌≡◌, length}
use Rattle.ov_lanes.proofs.Meeting.{AreMeeting}
use Rattle.ov_lanes.proofs.run.meet_all.Given as goal

abbrev pub invariant-loop-other : goal.invariant-loop-other
invariant-loop-other g l = record {
  met : AreMeeting g.it.table g.it.lines g.it.head l.one l.other l.jobs.items;
  count : length l.jobs.items ≡ length l.fn.jobs.items;
}
