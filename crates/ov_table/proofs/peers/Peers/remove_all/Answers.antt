use Rattle.std.proofs.Common.{arith}
use Rattle.ov_model.specs.Tables.{serials_of, keys_of, key_serials}
use Rattle.ov_table.proofs.Apart.{part}
use Rattle.ov_table.proofs.peers.Peers.remove_all.Goals as goal

pub remove_each-requires-clause-apart : goal.remove_each-requires-clause-apart
remove_each-requires-clause-apart c =
    let live = serials_of c.self.inside.live.live in
    rw c.make_room.ensures.same (part live (serials_of c.self.inside.dying.items) live c.self.inside.made c.make_room.new.self.serials c.self.invariant.5 (λ x. omega arith) c.in_ok-make_room.ensures.serials)

pub remove_each-requires-clause-keys : goal.remove_each-requires-clause-keys
remove_each-requires-clause-keys c =
    let live = key_serials (keys_of c.self.inside.live.live) in
    rw c.make_room-2.ensures.same (part live (key_serials c.self.inside.retired.items) live c.self.inside.keys_made c.make_room-2.new.self.serials c.self.invariant.6 (λ x. omega arith) c.in_ok-make_room-2.ensures.serials)
