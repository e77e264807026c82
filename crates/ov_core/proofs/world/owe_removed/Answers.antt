-- One more is looked at.
use Rattle.std.proofs.Common.{◌+◌, ℕ, List, length, get_or, arith, ap}
use Rattle.std.specs.Prelude.{map, drop}
use Rattle.ov_model.specs.declared.hold.Owed.TheVariants as owed
use Rattle.ov_core.proofs.Joining.{owe_more, drop_next}
use Rattle.ov_core.proofs.world.owe_removed.Goals as goal

pub owe-requires-clause-turn : goal.owe-requires-clause-turn
owe-requires-clause-turn c = let long = c.loop-peer.invariant.long in let under = c.requires.turn in omega arith

pub owe-requires-clause-spare : goal.owe-requires-clause-spare
owe-requires-clause-spare c = let room = c.loop-peer.invariant.room in let more = c.loop-peer-test.true in omega arith

pub loop-peer-preserved : goal.loop-peer-preserved
loop-peer-preserved c =
    let xs : List ℕ = c.args.gone.now in
    let n : ℕ = c.loop-peer.peer-index in
    let m = owe_more c.args.seats.now.items c.loop-peer.seats.items c.owe.new.seats.items c.args.turn n (length xs) (owed.Peer (get_or xs n 0)) (map owed.Peer xs) (map owed.Peer (drop n xs)) (map owed.Peer (drop (n + 1) xs))
    c.loop-peer.invariant.rest c.loop-peer.invariant.long c.loop-peer.invariant.room (ap (λ ys. map owed.Peer ys) (drop_next xs n 0 c.loop-peer-test.true))
    (let long = c.loop-peer.invariant.long in let under = c.requires.turn in omega arith) c.owe.ensures in
    record { rest = m.rest_is; long = m.long; room = m.room }
