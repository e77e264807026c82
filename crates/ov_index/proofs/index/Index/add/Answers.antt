use Rattle.std.proofs.Common.{rules, ◌∙◌, ap, ◌≡◌, cond, ◌+◌, ◌++◌, ◌∷◌, [], subst, length, length-append}
use Rattle.std.specs.Prelude.{Some, vec_len}
use Rattle.ov_model.specs.Tables.{Peer}
use Rattle.std.specs.HashMap.{get}
use Rattle.ov_model.specs.Step.{peer_of}
use Rattle.ov_index.specs.Names.{same_name, has_name}
use Rattle.ov_index.specs.Index.{present}
use Rattle.ov_index.proofs.Slots.{present_more}
use Rattle.ov_index.proofs.Held.{same_index, added}
use Rattle.ov_index.proofs.index.Index.add.Goals as goal

pub invariant_of-self : goal.invariant_of-self
invariant_of-self c = same_index (get same_name c.self.inside.owners) (get same_name c.make_room.new.owners) c.self.inside.homes.items c.self.inside.peers.items c.make_room.ensures.same c.self.invariant

pub invariant_of-self-in_err-reserve : goal.invariant_of-self-in_err-reserve
invariant_of-self-in_err-reserve c = rw c.reserve.ensures.items (same_index (get same_name c.self.inside.owners) (get same_name c.make_room.new.owners) c.self.inside.homes.items c.self.inside.peers.items c.make_room.ensures.same c.self.invariant)

pub invariant_of-self-2 : goal.invariant_of-self-2
invariant_of-self-2 c =
    let peer : c.new-peer.result ≡ peer_of c.args.serial c.args.now c.args.attrs.now c.args.remote = c.new-peer.ensures in
    let items : c.push.new.self.items ≡ c.self.inside.peers.items ++ Some (peer_of c.args.serial c.args.now c.args.attrs.now c.args.remote) ∷ [] = search rules in
    rw items (added (get same_name c.make_room.new.owners) (get same_name c.put_all.new.owners) c.self.inside.homes.items c.self.inside.peers.items c.args.serial c.args.now c.args.attrs.now c.args.remote
    (same_index (get same_name c.self.inside.owners) (get same_name c.make_room.new.owners) c.self.inside.homes.items c.self.inside.peers.items c.make_room.ensures.same c.self.invariant)
    (search rules) (search rules) (search rules) (search rules)
    (λ n. subst (λ p. get same_name c.put_all.new.owners n ≡ cond (has_name n p) (Some p.serial) (get same_name c.make_room.new.owners n)) peer (c.put_all.ensures n)))

pub returns-clause-ok : goal.returns-clause-ok
returns-clause-ok c =
    let p : Peer = peer_of c.args.serial c.args.now c.args.attrs.now c.args.remote in
    let peer : c.new-peer.result ≡ p = c.new-peer.ensures in
    let items : c.push.new.self.items ≡ c.self.inside.peers.items ++ Some p ∷ [] = search rules in
    let was : present c.self.inside.peers.items ≡ c.args.self.now.live = ap (λ x. x.live) c.self.view_is in
    let live : present c.push.new.self.items ≡ c.args.self.now.live ++ p ∷ [] = ap present items ∙ present_more c.self.inside.peers.items p ∙ ap (λ ps. ps ++ p ∷ []) was in
    let made : length c.push.new.self.items ≡ c.args.self.now.made + 1 = ap length items ∙ length-append c.self.inside.peers.items (Some p ∷ []) ∙ ap (λ x. x.made + 1) c.self.view_is in
    let keys : vec_len c.self.inside.homes ≡ c.args.self.now.keys_made = search rules in
    λ i. record { live = live i; made = made i; keys_made = keys i }
