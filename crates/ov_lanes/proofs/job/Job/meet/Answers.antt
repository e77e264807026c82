use Rattle.ov_lanes.proofs.Working.{kept_saw, lane_saw}
use Rattle.ov_lanes.proofs.job.Job.meet.Goals as goal

pub invariant_of-self : goal.invariant_of-self
invariant_of-self c =
    kept_saw c.self.inside.ovpn.now c.self.inside.lines.items c.self.inside.answers.items c.self.inside.stopped _ c.self.inside.pass c.in-Some.one c.meet.new.one c.in-Some.is c.meet.ensures.one c.self.invariant

pub invariant_of-other : goal.invariant_of-other
invariant_of-other c =
    kept_saw c.other.inside.ovpn.now c.other.inside.lines.items c.other.inside.answers.items c.other.inside.stopped _ c.other.inside.pass c.in-Some-pass.two c.meet.new.other c.in-Some-pass.is c.meet.ensures.other c.other.invariant

pub returns-clause-one : goal.returns-clause-one
returns-clause-one c =
    lane_saw c.self.inside.ovpn.now c.self.inside.lines.items c.self.inside.answers.items c.self.inside.stopped c.args.self.now c.self.inside.pass c.in-Some.one c.meet.new.one c.in-Some.is c.meet.ensures.one c.self.view_is

pub returns-clause-other : goal.returns-clause-other
returns-clause-other c =
    lane_saw c.other.inside.ovpn.now c.other.inside.lines.items c.other.inside.answers.items c.other.inside.stopped c.args.other.now c.other.inside.pass c.in-Some-pass.two c.meet.new.other c.in-Some-pass.is c.meet.ensures.other c.other.view_is

pub returns-clause-same : goal.returns-clause-same
returns-clause-same c = c.meet.ensures.same
