use Rattle.std.proofs.Common.{rules, ap, ◌≡◌, ◌<◌, length, subst, refl, false, cond}
use Rattle.std.specs.Prelude.{Some, vec_len}
use Rattle.std.specs.HashMap.{get}
use Rattle.ov_model.specs.Tables.{Peer}
use Rattle.ov_index.specs.Names.{same_name, has_name}
use Rattle.ov_index.specs.Index.{present}
use Rattle.ov_index.proofs.Slots.{standing_within}
use Rattle.ov_model.specs.Tables.{by_remote}
use Rattle.std.specs.Prelude.{is_some}
use Rattle.ov_index.proofs.Held.{same_index}
use Rattle.ov_index.proofs.Changed.{renamed, moved_free}
use Rattle.ov_index.proofs.Returned.{peer_back, peer_missing, one_changed}
use Rattle.ov_index.proofs.index.Index.float.Goals as goal

pub invariant_of-self : goal.invariant_of-self
invariant_of-self c = (same_index (get same_name c.self.inside.owners) (get same_name c.make_room.new.owners) c.self.inside.homes.items c.self.inside.peers.items c.make_room.ensures.same c.self.invariant)

pub invariant_of-self-in_default : goal.invariant_of-self-in_default
invariant_of-self-in_default c =
    rw (peer_missing (get same_name c.self.inside.owners) c.self.inside.homes.items c.self.inside.peers.items c.take_at.new.self.items c.args.serial c.self.invariant (search rules) c.take_at.ensures.now).items (same_index (get same_name c.self.inside.owners) (get same_name c.make_room.new.owners) c.self.inside.homes.items c.self.inside.peers.items c.make_room.ensures.same c.self.invariant)

pub returns-in_default-clause-peers : goal.returns-in_default-clause-peers
returns-in_default-clause-peers c =
    let f : Peer → Peer = λ p. record p { remote = c.args.to } in
    let stay = peer_missing (get same_name c.self.inside.owners) c.self.inside.homes.items c.self.inside.peers.items c.take_at.new.self.items c.args.serial c.self.invariant (search rules) c.take_at.ensures.now in
    one_changed c.args.serial f (record { live = present c.self.inside.peers.items; made = length c.self.inside.peers.items; keys_made = vec_len c.self.inside.homes }) (record { live = present c.take_at.new.self.items; made = length c.take_at.new.self.items; keys_made = vec_len c.self.inside.homes }) c.args.self.now c.self.view_is (stay.changed f) (search rules) refl

pub put_at-requires : goal.put_at-requires
put_at-requires c =
    let long : c.args.serial < length c.self.inside.peers.items = standing_within c.self.inside.peers.items c.args.serial c.in-Some.peer (search rules) in
    rw c.take_at.ensures.long long

pub invariant_of-self-2 : goal.invariant_of-self-2
invariant_of-self-2 c =
    let was : present c.self.inside.peers.items ≡ c.args.self.now.live = ap (λ x. x.live) c.self.view_is in
    let none : is_some (by_remote c.args.to (present c.self.inside.peers.items)) ≡ false = rw was c.requires in
    let back = peer_back (get same_name c.self.inside.owners) c.self.inside.homes.items c.self.inside.peers.items c.take_at.new.self.items c.put_at.new.self.items c.args.serial (λ p. record p { remote = c.args.to }) c.in-Some.peer c.float.new.self c.self.invariant (search rules) c.take_at.ensures.now c.put_at.ensures c.float.ensures in
    rw back.items (renamed (get same_name c.make_room.new.owners) (get same_name c.take_all.new.owners) (get same_name c.put_all.new.owners) c.self.inside.homes.items c.self.inside.peers.items c.args.serial c.in-Some.peer (record c.in-Some.peer { remote = c.args.to }) (same_index (get same_name c.self.inside.owners) (get same_name c.make_room.new.owners) c.self.inside.homes.items c.self.inside.peers.items c.make_room.ensures.same c.self.invariant) (search rules) refl refl (λ n has. moved_free (get same_name c.make_room.new.owners) c.self.inside.homes.items c.self.inside.peers.items (same_index (get same_name c.self.inside.owners) (get same_name c.make_room.new.owners) c.self.inside.homes.items c.self.inside.peers.items c.make_room.ensures.same c.self.invariant) c.in-Some.peer (record c.in-Some.peer { remote = c.args.to }) c.args.to none refl refl refl refl n has) c.take_all.ensures.names (λ n. subst (λ q. get same_name c.put_all.new.owners n ≡ cond (has_name n q) (Some q.serial) (get same_name c.take_all.new.owners n)) c.float.ensures (c.put_all.ensures n)))

pub returns-clause-peers : goal.returns-clause-peers
returns-clause-peers c =
    let f : Peer → Peer = λ p. record p { remote = c.args.to } in
    one_changed c.args.serial f (record { live = present c.self.inside.peers.items; made = length c.self.inside.peers.items; keys_made = vec_len c.self.inside.homes }) (record { live = present c.put_at.new.self.items; made = length c.put_at.new.self.items; keys_made = vec_len c.self.inside.homes }) c.args.self.now c.self.view_is (peer_back (get same_name c.self.inside.owners) c.self.inside.homes.items c.self.inside.peers.items c.take_at.new.self.items c.put_at.new.self.items c.args.serial (λ p. record p { remote = c.args.to }) c.in-Some.peer c.float.new.self c.self.invariant (search rules) c.take_at.ensures.now c.put_at.ensures c.float.ensures).changed (search rules) refl
