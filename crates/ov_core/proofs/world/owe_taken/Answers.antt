-- One more is looked at.
use Rattle.std.proofs.Common.{◌+◌, ℕ, List, length, get_or, arith, ap}
use Rattle.std.specs.Prelude.{map, drop}
use Rattle.ov_model.specs.declared.hold.Owed.TheVariants as owed
use Rattle.ov_core.proofs.Joining.{owe_more, drop_next}
use Rattle.ov_core.proofs.world.owe_taken.Goals as goal

pub owe-requires-clause-turn : goal.owe-requires-clause-turn
owe-requires-clause-turn c = let long = c.loop-key.invariant.long in let under = c.requires.turn in omega arith

pub owe-requires-clause-spare : goal.owe-requires-clause-spare
owe-requires-clause-spare c = let room = c.loop-key.invariant.room in let more = c.loop-key-test.true in omega arith

pub loop-key-preserved : goal.loop-key-preserved
loop-key-preserved c =
    let xs : List ℕ = c.args.taken.now in
    let n : ℕ = c.loop-key.key-index in
    let m = owe_more c.args.seats.now.items c.loop-key.seats.items c.owe.new.seats.items c.args.turn n (length xs) (owed.Key (get_or xs n 0)) (map owed.Key xs) (map owed.Key (drop n xs)) (map owed.Key (drop (n + 1) xs))
    c.loop-key.invariant.rest c.loop-key.invariant.long c.loop-key.invariant.room (ap (λ ys. map owed.Key ys) (drop_next xs n 0 c.loop-key-test.true))
    (let long = c.loop-key.invariant.long in let under = c.requires.turn in omega arith) c.owe.ensures in
    record { rest = m.rest_is; long = m.long; room = m.room }
