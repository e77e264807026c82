-- The release that is owed first.
use Rattle.ov_past.specs.Pasts.{event_of}
use Rattle.ov_desk.proofs.Seating.{freed_seated, freed_told}
use Rattle.ov_desk.proofs.desk.LaneDesk.release_first.Goals as goal

pub invariant_of-self : goal.invariant_of-self
invariant_of-self g c =
    freed_seated c.self.invariant c.self.view_is c.args.place c.args.at (event_of c.release-event.result) c.release-event.new.share c.push.new.self c.release-event.new.owed
    c.release-event.ensures.of c.release-event.ensures.same c.release-event.ensures.released c.release-event.ensures.owed c.push.ensures

pub returns : goal.returns
returns g c =
    freed_told c.self.invariant c.self.view_is c.args.place c.args.at (event_of c.release-event.result) c.release-event.new.share c.push.new.self c.release-event.new.owed
    c.release-event.ensures.of c.release-event.ensures.same c.release-event.ensures.released c.push.ensures
