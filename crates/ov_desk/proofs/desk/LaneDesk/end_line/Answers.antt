-- The line is over.
use Rattle.ov_desk.proofs.Seating.{free_seated, over_seated}
use Rattle.ov_desk.proofs.desk.LaneDesk.end_line.Goals as goal

pub invariant_of-self : goal.invariant_of-self
invariant_of-self g c = over_seated c.self.invariant c.self.view_is c.new.result c.requires.hold c.new.ensures

pub returns-clause-free : goal.returns-clause-free
returns-clause-free g c = free_seated c.self.invariant c.self.view_is c.requires.hold c.requires.owing
