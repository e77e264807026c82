use Rattle.std.proofs.Common.{rules, sym, ◌∙◌, ap, ◌<◌, length, refl}
use Rattle.std.specs.Prelude.{vec_len}
use Rattle.std.specs.HashMap.{get}
use Rattle.ov_model.specs.Tables.{Peer}
use Rattle.ov_model.specs.Step.{is_there, settled_peer, received_peer}
use Rattle.ov_index.specs.Names.{same_name}
use Rattle.ov_index.specs.Index.{Indexed, present}
use Rattle.ov_index.proofs.Slots.{standing_within}
use Rattle.ov_index.proofs.Changed.{settled_alike, alike_kept}
use Rattle.ov_index.proofs.Returned.{peer_back, peer_missing, one_changed}
use Rattle.ov_index.proofs.index.Index.received.Goals as goal

pub invariant_of-self : goal.invariant_of-self
invariant_of-self c = rw (peer_missing (get same_name c.self.inside.owners) c.self.inside.homes.items c.self.inside.peers.items c.take_at.new.self.items c.args.serial c.self.invariant (search rules) c.take_at.ensures.now).items c.self.invariant

pub returns-in_default-clause-there : goal.returns-in_default-clause-there
returns-in_default-clause-there c = sym (peer_missing (get same_name c.self.inside.owners) c.self.inside.homes.items c.self.inside.peers.items c.take_at.new.self.items c.args.serial c.self.invariant (search rules) c.take_at.ensures.now).any ∙ ap (λ (x : Indexed). is_there c.args.serial x.live) c.self.view_is

pub returns-in_default-clause-peers : goal.returns-in_default-clause-peers
returns-in_default-clause-peers c =
    let f : Peer → Peer = λ p. settled_peer c.args.settled c.args.inner (received_peer c.args.now c.args.outer p) in
    let stay = peer_missing (get same_name c.self.inside.owners) c.self.inside.homes.items c.self.inside.peers.items c.take_at.new.self.items c.args.serial c.self.invariant (search rules) c.take_at.ensures.now in
    one_changed c.args.serial f (record { live = present c.self.inside.peers.items; made = length c.self.inside.peers.items; keys_made = vec_len c.self.inside.homes }) (record { live = present c.take_at.new.self.items; made = length c.take_at.new.self.items; keys_made = vec_len c.self.inside.homes }) c.args.self.now c.self.view_is (stay.changed f) (search rules) refl

pub put_at-requires : goal.put_at-requires
put_at-requires c =
    let long : c.args.serial < length c.self.inside.peers.items = standing_within c.self.inside.peers.items c.args.serial c.in-Some.peer (search rules) in
    rw c.take_at.ensures.long long

pub invariant_of-self-2 : goal.invariant_of-self-2
invariant_of-self-2 c =
    rw (peer_back (get same_name c.self.inside.owners) c.self.inside.homes.items c.self.inside.peers.items c.take_at.new.self.items c.put_at.new.self.items c.args.serial (λ p. settled_peer c.args.settled c.args.inner (received_peer c.args.now c.args.outer p)) c.in-Some.peer c.settle.new.self c.self.invariant (search rules) c.take_at.ensures.now c.put_at.ensures c.settle.ensures).items (alike_kept (get same_name c.self.inside.owners) c.self.inside.homes.items c.self.inside.peers.items c.args.serial c.in-Some.peer (settled_peer c.args.settled c.args.inner (received_peer c.args.now c.args.outer c.in-Some.peer)) c.self.invariant (search rules) (settled_alike c.args.now c.args.inner c.args.outer c.args.settled c.in-Some.peer))

pub returns-clause-there : goal.returns-clause-there
returns-clause-there c = sym (peer_back (get same_name c.self.inside.owners) c.self.inside.homes.items c.self.inside.peers.items c.take_at.new.self.items c.put_at.new.self.items c.args.serial (λ p. settled_peer c.args.settled c.args.inner (received_peer c.args.now c.args.outer p)) c.in-Some.peer c.settle.new.self c.self.invariant (search rules) c.take_at.ensures.now c.put_at.ensures c.settle.ensures).any ∙ ap (λ (x : Indexed). is_there c.args.serial x.live) c.self.view_is

pub returns-clause-peers : goal.returns-clause-peers
returns-clause-peers c =
    let f : Peer → Peer = λ p. settled_peer c.args.settled c.args.inner (received_peer c.args.now c.args.outer p) in
    one_changed c.args.serial f (record { live = present c.self.inside.peers.items; made = length c.self.inside.peers.items; keys_made = vec_len c.self.inside.homes }) (record { live = present c.put_at.new.self.items; made = length c.put_at.new.self.items; keys_made = vec_len c.self.inside.homes }) c.args.self.now c.self.view_is (peer_back (get same_name c.self.inside.owners) c.self.inside.homes.items c.self.inside.peers.items c.take_at.new.self.items c.put_at.new.self.items c.args.serial (λ p. settled_peer c.args.settled c.args.inner (received_peer c.args.now c.args.outer p)) c.in-Some.peer c.settle.new.self c.self.invariant (search rules) c.take_at.ensures.now c.put_at.ensures c.settle.ensures).changed (search rules) refl
