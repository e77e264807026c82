use Rattle.std.proofs.Common.{rules, ◌∙◌, ap, ◌≡◌, ◌<◌, length, subst, refl, false, cond}
use Rattle.std.specs.Prelude.{Some, None, vec_len, slice_set}
use Rattle.std.specs.HashMap.{get}
use Rattle.std.specs.List.{list_any}
use Rattle.ov_model.specs.Tables.{Peer, change_first, has_id, shares_vpn}
use Rattle.ov_model.specs.Step.{others, set_peer, takes_remote}
use Rattle.ov_index.specs.Names.{same_name, has_name}
use Rattle.ov_index.specs.Index.{Indexed, present}
use Rattle.ov_index.proofs.Slots.{set_set, standing_within}
use Rattle.ov_index.proofs.Held.{same_index, length_changed}
use Rattle.ov_index.proofs.Changed.{renamed, id_changed, id_nowhere}
use Rattle.ov_index.proofs.Others.{set_free}
use Rattle.ov_index.proofs.index.Index.set.Goals as goal

pub invariant_of-self : goal.invariant_of-self
invariant_of-self c = (same_index (get same_name c.self.inside.owners) (get same_name c.make_room.new.owners) c.self.inside.homes.items c.self.inside.peers.items c.make_room.ensures.same c.self.invariant)

pub invariant_of-self-in_default : goal.invariant_of-self-in_default
invariant_of-self-in_default c = (same_index (get same_name c.self.inside.owners) (get same_name c.make_room.new.owners) c.self.inside.homes.items c.self.inside.peers.items c.make_room.ensures.same c.self.invariant)

pub invariant_of-self-2 : goal.invariant_of-self-2
invariant_of-self-2 c =
    let items : c.put_at.new.self.items ≡ slice_set c.self.inside.peers.items c.in-Some.serial (Some c.set.new.self) = c.put_at.ensures ∙ ap (λ xs. slice_set xs c.in-Some.serial (Some c.set.new.self)) c.take_at.ensures.now ∙ set_set c.self.inside.peers.items c.in-Some.serial None (Some c.set.new.self) in
    let was : present c.self.inside.peers.items ≡ c.args.self.now.live = ap (λ x. x.live) c.self.view_is in
    let there = (same_index (get same_name c.self.inside.owners) (get same_name c.make_room.new.owners) c.self.inside.homes.items c.self.inside.peers.items c.make_room.ensures.same c.self.invariant) in
    let id = c.args.attrs.now.id in
    let vpn : list_any (shares_vpn c.args.attrs.now) (others id (present c.self.inside.peers.items)) ≡ false = rw was c.requires.vpn in
    let remote : takes_remote c.args.attrs.now.remote (others id (present c.self.inside.peers.items)) ≡ false = rw was c.requires.remote in
    rw items (rw c.set.ensures (renamed (get same_name c.make_room.new.owners) (get same_name c.take_all.new.owners) (get same_name c.put_all.new.owners) c.self.inside.homes.items c.self.inside.peers.items c.in-Some.serial c.in-Some-take_at.peer (set_peer c.args.now c.args.attrs.now c.in-Some-take_at.peer) there (search rules) refl refl
    (λ n has. set_free (get same_name c.make_room.new.owners) c.self.inside.homes.items c.self.inside.peers.items there c.args.now c.args.attrs.now c.in-Some.serial c.in-Some-take_at.peer (search rules) (search rules) vpn remote n has)
    c.take_all.ensures.names (λ n. subst (λ q. get same_name c.put_all.new.owners n ≡ cond (has_name n q) (Some q.serial) (get same_name c.take_all.new.owners n)) c.set.ensures (c.put_all.ensures n))))

pub returns-in_default-clause-now : goal.returns-in_default-clause-now
returns-in_default-clause-now c =
    let was : present c.self.inside.peers.items ≡ c.args.self.now.live = ap (λ x. x.live) c.self.view_is in
    let f : Peer → Peer = set_peer c.args.now c.args.attrs.now in
    let live = id_nowhere (get same_name c.make_room.new.owners) c.self.inside.homes.items c.self.inside.peers.items (same_index (get same_name c.self.inside.owners) (get same_name c.make_room.new.owners) c.self.inside.homes.items c.self.inside.peers.items c.make_room.ensures.same c.self.invariant) c.args.attrs.now.id f (search rules) ∙ ap (change_first (has_id c.args.attrs.now.id) f) was in
    let made : length c.self.inside.peers.items ≡ c.args.self.now.made = search rules in
    let keys : vec_len c.self.inside.homes ≡ c.args.self.now.keys_made = search rules in
    λ i. record { live = live i; made = made i; keys_made = keys i }

pub put_at-requires : goal.put_at-requires
put_at-requires c =
    let long : c.in-Some.serial < length c.self.inside.peers.items = standing_within c.self.inside.peers.items c.in-Some.serial c.in-Some-take_at.peer (search rules) in
    rw c.take_at.ensures.long long

pub returns-clause-now : goal.returns-clause-now
returns-clause-now c =
    let items : c.put_at.new.self.items ≡ slice_set c.self.inside.peers.items c.in-Some.serial (Some c.set.new.self) = c.put_at.ensures ∙ ap (λ xs. slice_set xs c.in-Some.serial (Some c.set.new.self)) c.take_at.ensures.now ∙ set_set c.self.inside.peers.items c.in-Some.serial None (Some c.set.new.self) in
    let was : present c.self.inside.peers.items ≡ c.args.self.now.live = ap (λ x. x.live) c.self.view_is in
    let f : Peer → Peer = set_peer c.args.now c.args.attrs.now in
    let live = id_changed (get same_name c.make_room.new.owners) c.self.inside.homes.items c.self.inside.peers.items c.put_at.new.self.items (same_index (get same_name c.self.inside.owners) (get same_name c.make_room.new.owners) c.self.inside.homes.items c.self.inside.peers.items c.make_room.ensures.same c.self.invariant) c.args.attrs.now.id c.in-Some.serial c.in-Some-take_at.peer c.set.new.self f (search rules) (search rules) items c.set.ensures ∙ ap (change_first (has_id c.args.attrs.now.id) f) was in
    let made : length c.put_at.new.self.items ≡ c.args.self.now.made = search rules in
    let keys : vec_len c.self.inside.homes ≡ c.args.self.now.keys_made = search rules in
    λ i. record { live = live i; made = made i; keys_made = keys i }

pub returns-clause-long : goal.returns-clause-long
returns-clause-long c = ap (λ (x : Indexed). length x.live) (returns-clause-now c) ∙ length_changed (has_id c.args.attrs.now.id) (set_peer c.args.now c.args.attrs.now) c.args.self.now.live
