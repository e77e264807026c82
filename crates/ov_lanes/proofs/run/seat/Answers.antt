-- Each lane is made of the last pass, the last lines and the last room that are left.
use Rattle.std.proofs.Common.{◌≡◌, length, ◌∙◌, refl, arith}
use Rattle.ov_lanes.proofs.Placing.{IsNextSeat, next_seat, none_seated, one_seated, many_seated, all_seated}
use Rattle.ov_lanes.proofs.run.seat.Given.{Over}
use Rattle.ov_lanes.proofs.run.seat.Goals as goal

next : (g : Over) (c : goal.After-push_reserved-arg-1 g) → IsNextSeat c.args.ovpn.now c.in-Some-Some-Some.pass c.in-Some-Some-Some.lines c.in-Some-Some-Some.answers
next g c = next_seat c.args.ovpn.now g.lines c.loop-lane._lane c.args.passes.items c.loop-lane.passes.items c.pop.new.self.items c.args.dealt.items c.loop-lane.dealt.items c.pop-in-loop-lane.new.self.items c.args.rooms.items c.loop-lane.rooms.items c.pop-in-loop-lane-2.new.self.items c.loop-lane.jobs.items c.in-Some-Some-Some.pass c.in-Some-Some-Some.lines c.in-Some-Some-Some.answers c.requires.0 c.requires.1.1.0 c.requires.1.1.1.0 c.requires.1.1.1.1.0 c.loop-lane.invariant.seats c.in-Some-Some-Some.ensures.items c.in-Some-Some-Some.ensures'.items c.in-Some-Some-Some.ensures''.items

pub loop-lane-init : goal.loop-lane-init
loop-lane-init g c = record { seats = none_seated c.args.ovpn.now c.args.passes.items c.args.dealt.items c.args.rooms.items c.args.jobs.now.items c.requires.1.1.1.1.1.0; room = refl; most = omega arith }

pub new-requires-clause-of : goal.new-requires-clause-of
new-requires-clause-of g c = (next g c).fresh.of

pub new-requires-clause-free : goal.new-requires-clause-free
new-requires-clause-free g c = (next g c).fresh.nothing.free

pub new-requires-clause-none : goal.new-requires-clause-none
new-requires-clause-none g c = (next g c).fresh.lines

pub new-requires-clause-unanswered : goal.new-requires-clause-unanswered
new-requires-clause-unanswered g c = (next g c).room.none

pub new-requires-clause-room : goal.new-requires-clause-room
new-requires-clause-room g c = (next g c).room.room

pub new-requires-clause-fits : goal.new-requires-clause-fits
new-requires-clause-fits g c = (next g c).fits

pub push_reserved-requires : goal.push_reserved-requires
push_reserved-requires g c =
    let many : length c.loop-lane.jobs.items ≡ c.loop-lane._lane = many_seated c.args.ovpn.now c.loop-lane._lane c.args.passes.items c.loop-lane.passes.items c.args.dealt.items c.loop-lane.dealt.items c.args.rooms.items c.loop-lane.rooms.items c.loop-lane.jobs.items c.loop-lane.invariant.seats in
    omega (arith, many, c.loop-lane.jobs.ok.0, c.loop-lane-test.true, c.as_slice-count.ensures.len, c.args.dealt.ok.0, c.loop-lane.invariant.room, c.requires.1.1.1.1.1.1)

pub loop-lane-preserved : goal.loop-lane-preserved
loop-lane-preserved g c = record {
  seats = one_seated c.args.ovpn.now c.loop-lane._lane c.args.passes.items c.loop-lane.passes.items c.pop.new.self.items c.args.dealt.items c.loop-lane.dealt.items c.pop-in-loop-lane.new.self.items c.args.rooms.items c.loop-lane.rooms.items c.pop-in-loop-lane-2.new.self.items c.loop-lane.jobs.items c.push_reserved.new.self.items c.new.result c.in-Some-Some-Some.pass c.in-Some-Some-Some.lines c.in-Some-Some-Some.answers
      c.loop-lane.invariant.seats c.in-Some-Some-Some.ensures.items c.in-Some-Some-Some.ensures'.items c.in-Some-Some-Some.ensures''.items c.new.ensures.value c.new.ensures.ready c.push_reserved.ensures.items;
  room = c.push_reserved.ensures.capacity ∙ c.loop-lane.invariant.room;
  most = omega (arith, c.loop-lane-test.true, c.as_slice-count.ensures.len, c.args.dealt.ok.0);
}

pub returns : goal.returns
returns g c =
    let all : c.loop-lane._lane ≡ length c.args.dealt.items = omega (arith, c.loop-lane-test.false, c.loop-lane.invariant.most, c.as_slice-count.ensures.len, c.args.dealt.ok.0) in
    all_seated c.args.ovpn.now g.lines c.loop-lane._lane c.loop-lane.jobs.len c.args.passes.items c.loop-lane.passes.items c.args.dealt.items c.loop-lane.dealt.items c.args.rooms.items c.loop-lane.rooms.items c.loop-lane.jobs.items c.as_mut_slice.result.now c.reverse.new.self
    c.requires.0 c.requires.1.0 c.requires.1.1.0 c.loop-lane.invariant.seats all c.as_mut_slice.ensures.value c.reverse.ensures.after (c.reverse.ensures.len ∙ c.as_mut_slice.ensures.len)
