use Rattle.std.proofs.Common.{rules, arith}
use Rattle.std.proofs.lemmas.List.{length-take-le}
use Rattle.ov_model.specs.declared.hold.Owed.TheVariants as kind
use Rattle.ov_ticket.proofs.Stepping.{unlinked_none, unlinked_next, next_left}
use Rattle.ov_ticket.proofs.within.unlink_peers.Goals as goal

pub loop-peer-init : goal.loop-peer-init
loop-peer-init c = record { done = unlinked_none kind.Peer c.args.inside.now c.args.owed.now.items; capacity = search rules }

pub unlink_one-requires-clause-left : goal.unlink_one-requires-clause-left
unlink_one-requires-clause-left c = next_left kind.Peer c.args.inside.now c.loop-peer.inside c.args.peers.now c.loop-peer.peer-index c.args.owed.now.items c.loop-peer.owed.items _ c.requires c.loop-peer.invariant.done c.loop-peer-test.true

pub unlink_one-requires-clause-room : goal.unlink_one-requires-clause-room
unlink_one-requires-clause-room c =
    let fits = c.requires.fits in
    let few = c.loop-peer.invariant.done.few in
    let capacity = c.loop-peer.invariant.capacity in
    let test = c.loop-peer-test.true in
    let part = length-take-le c.loop-peer.peer-index c.args.peers.now (omega arith) in
    let long = c.loop-peer.owed.ok.0 in
    omega arith

pub loop-peer-preserved : goal.loop-peer-preserved
loop-peer-preserved c =
    let e = c.unlink_one.ensures in
    record {
      done = unlinked_next kind.Peer c.args.inside.now c.loop-peer.inside c.unlink_one.new.inside c.args.peers.now c.loop-peer.peer-index c.args.owed.now.items c.loop-peer.owed.items c.unlink_one.new.owed.items _ c.requires c.loop-peer.invariant.done c.loop-peer-test.true
          e.same e.holds e.link e.unlink e.owes;
      capacity = search rules;
    }
