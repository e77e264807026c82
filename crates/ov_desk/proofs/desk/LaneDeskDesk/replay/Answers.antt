-- A replay step.
use Rattle.ov_desk.proofs.Seating.{judged_seated}
use Rattle.ov_desk.proofs.desk.LaneDeskDesk.replay.Goals as goal

pub invariant_of-self-2 : goal.invariant_of-self-2
invariant_of-self-2 g c =
    judged_seated c.self.invariant c.self.view_is c.args.place c.args.key c.args.id c.args.at c.in_ok-verdict.verdict c.judge.new.share c.push.new.self c.requires.looked c.judge.ensures.of c.judge.ensures.same c.in_ok-verdict.ensures.ok c.push.ensures
