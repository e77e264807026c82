use Rattle.std.proofs.Common.{◌≡◌, ◌≤◌, length}
use Rattle.std.specs.Vec.{vec_capacity}
use Rattle.ov_lanes.specs.Dealt.{Seats}
use Rattle.ov_lanes.proofs.run.seat.Given as goal

abbrev pub invariant-loop-lane : goal.invariant-loop-lane
invariant-loop-lane g l = record {
  seats : Seats l.ovpn l._lane l.fn.passes.items l.passes.items l.fn.dealt.items l.dealt.items l.fn.rooms.items l.rooms.items l.jobs.items;
  room : vec_capacity l.jobs ≡ vec_capacity l.fn.jobs;
  most : l._lane ≤ length l.fn.dealt.items;
}
