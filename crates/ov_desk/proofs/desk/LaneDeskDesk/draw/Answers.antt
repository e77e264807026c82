-- A draw.
use Rattle.ov_desk.proofs.Seating.{drew_seated}
use Rattle.ov_desk.proofs.desk.LaneDeskDesk.draw.Goals as goal

pub invariant_of-self : goal.invariant_of-self
invariant_of-self g c = drew_seated c.self.invariant c.self.view_is c.args.key c.draw-drawn.result c.draw-drawn.new.share c.push.new.self c.requires.held c.requires.looked c.draw-drawn.ensures.of c.draw-drawn.ensures.drew c.push.ensures
