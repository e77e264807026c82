-- Some of the releases that are owed are made.
use Rattle.ov_desk.proofs.Ending.{Releasing}
use Rattle.ov_desk.proofs.desk.LaneDesk.give_up.Given as goal

abbrev pub invariant-loop-done : goal.invariant-loop-done
invariant-loop-done g l = Releasing l.place l.at l.fn.self l.self l._done l.count
