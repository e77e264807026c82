use Rattle.std.proofs.Common.{rules, sym, ◌∙◌, ap, ◌≡◌, ◌<◌, length, refl}
use Rattle.std.specs.Prelude.{Some, None, vec_len}
use Rattle.std.specs.HashMap.{get}
use Rattle.ov_model.specs.Tables.{Peer}
use Rattle.ov_index.specs.Names.{same_name}
use Rattle.ov_index.specs.Index.{Indexed, present, standing}
use Rattle.ov_index.proofs.Held.{length_changed}
use Rattle.ov_index.proofs.Slots.{standing_within}
use Rattle.ov_model.specs.Tables.{has_serial, without_key}
use Rattle.ov_index.specs.Index.{key_taken}
use Rattle.ov_index.proofs.Changed.{lost_key}
use Rattle.ov_index.proofs.Held.{by_serial_is}
use Rattle.ov_index.proofs.Returned.{peer_back, peer_missing, one_changed}
use Rattle.ov_index.proofs.index.Index.kill.Goals as goal

pub invariant_of-self : goal.invariant_of-self
invariant_of-self c = rw (peer_missing (get same_name c.self.inside.owners) c.self.inside.homes.items c.self.inside.peers.items c.take_at.new.self.items c.args.serial c.self.invariant (search rules) c.take_at.ensures.now).items c.self.invariant

pub returns-in_default-clause-was : goal.returns-in_default-clause-was
returns-in_default-clause-was c =
    let was : present c.self.inside.peers.items ≡ c.args.self.now.live = ap (λ x. x.live) c.self.view_is in
    let none : standing c.self.inside.peers.items c.args.serial ≡ None = search rules in
    rw (sym was) (sym (ap (key_taken c.args.key) (by_serial_is (get same_name c.self.inside.owners) c.self.inside.homes.items c.self.inside.peers.items c.self.invariant c.args.serial ∙ none)))

pub returns-in_default-clause-now : goal.returns-in_default-clause-now
returns-in_default-clause-now c =
    let f : Peer → Peer = λ q. record q { slots = without_key c.args.key q.slots } in
    let stay = peer_missing (get same_name c.self.inside.owners) c.self.inside.homes.items c.self.inside.peers.items c.take_at.new.self.items c.args.serial c.self.invariant (search rules) c.take_at.ensures.now in
    one_changed c.args.serial f (record { live = present c.self.inside.peers.items; made = length c.self.inside.peers.items; keys_made = vec_len c.self.inside.homes }) (record { live = present c.take_at.new.self.items; made = length c.take_at.new.self.items; keys_made = vec_len c.self.inside.homes }) c.args.self.now c.self.view_is (stay.changed f) (search rules) refl

pub put_at-requires : goal.put_at-requires
put_at-requires c =
    let long : c.args.serial < length c.self.inside.peers.items = standing_within c.self.inside.peers.items c.args.serial c.in-Some.peer (search rules) in
    rw c.take_at.ensures.long long

pub invariant_of-self-2 : goal.invariant_of-self-2
invariant_of-self-2 c =
    let back = peer_back (get same_name c.self.inside.owners) c.self.inside.homes.items c.self.inside.peers.items c.take_at.new.self.items c.put_at.new.self.items c.args.serial (λ q. record q { slots = without_key c.args.key q.slots }) c.in-Some.peer c.kill-killed.new.self c.self.invariant (search rules) c.take_at.ensures.now c.put_at.ensures c.kill-killed.ensures.now in
    rw (back.items, sym c.kill-killed.ensures.now) (lost_key (get same_name c.self.inside.owners) c.self.inside.homes.items c.self.inside.peers.items c.args.serial c.in-Some.peer c.kill-killed.new.self c.args.key c.self.invariant (search rules) c.kill-killed.ensures.now)

pub returns-clause-was : goal.returns-clause-was
returns-clause-was c =
    let was : present c.self.inside.peers.items ≡ c.args.self.now.live = ap (λ x. x.live) c.self.view_is in
    let some : standing c.self.inside.peers.items c.args.serial ≡ Some c.in-Some.peer = search rules in
    rw (sym was) (c.kill-killed.ensures.was ∙ sym (ap (key_taken c.args.key) (by_serial_is (get same_name c.self.inside.owners) c.self.inside.homes.items c.self.inside.peers.items c.self.invariant c.args.serial ∙ some)))

pub returns-clause-now : goal.returns-clause-now
returns-clause-now c =
    let f : Peer → Peer = λ q. record q { slots = without_key c.args.key q.slots } in
    one_changed c.args.serial f (record { live = present c.self.inside.peers.items; made = length c.self.inside.peers.items; keys_made = vec_len c.self.inside.homes }) (record { live = present c.put_at.new.self.items; made = length c.put_at.new.self.items; keys_made = vec_len c.self.inside.homes }) c.args.self.now c.self.view_is (peer_back (get same_name c.self.inside.owners) c.self.inside.homes.items c.self.inside.peers.items c.take_at.new.self.items c.put_at.new.self.items c.args.serial (λ q. record q { slots = without_key c.args.key q.slots }) c.in-Some.peer c.kill-killed.new.self c.self.invariant (search rules) c.take_at.ensures.now c.put_at.ensures c.kill-killed.ensures.now).changed (search rules) refl

pub returns-in_default-clause-long : goal.returns-in_default-clause-long
returns-in_default-clause-long c = ap (λ (x : Indexed). length x.live) (returns-in_default-clause-now c) ∙ length_changed (has_serial c.args.serial) (λ q. record q { slots = without_key c.args.key q.slots }) c.args.self.now.live

pub returns-clause-long : goal.returns-clause-long
returns-clause-long c = ap (λ (x : Indexed). length x.live) (returns-clause-now c) ∙ length_changed (has_serial c.args.serial) (λ q. record q { slots = without_key c.args.key q.slots }) c.args.self.now.live
