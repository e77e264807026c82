use Rattle.std.proofs.Common.{rules, sym, ◌∙◌, ap, ◌≡◌, ◌<◌, length}
use Rattle.std.specs.Prelude.{Some, None, vec_len, slice_set}
use Rattle.std.specs.HashMap.{get}
use Rattle.ov_model.specs.Tables.{Peer, change_first, has_id, with_slot}
use Rattle.ov_model.specs.Step.{with_slots}
use Rattle.ov_index.specs.declared.name.Name.TheVariants.{Id}
use Rattle.ov_index.specs.Names.{same_name}
use Rattle.ov_index.specs.Index.{Indexed, present, slot_of}
use Rattle.ov_index.proofs.Slots.{set_set, standing_at, standing_within}
use Rattle.ov_index.proofs.Held.{named_at, named_nowhere, length_changed}
use Rattle.ov_index.proofs.Changed.{no_more_keys, key_of_emptied, id_changed, id_nowhere}
use Rattle.ov_index.proofs.index.Index.take_key.Goals as goal

pub returns-in_default-clause-was : goal.returns-in_default-clause-was
returns-in_default-clause-was c =
    let was : present c.self.inside.peers.items ≡ c.args.self.now.live = ap (λ x. x.live) c.self.view_is in
    rw (sym was) (sym (ap (slot_of c.args.slot) (named_nowhere (get same_name c.self.inside.owners) c.self.inside.homes.items c.self.inside.peers.items c.self.invariant (Id c.args.id.number) (search rules)).found))

pub returns-clause-was : goal.returns-clause-was
returns-clause-was c =
    let was : present c.self.inside.peers.items ≡ c.args.self.now.live = ap (λ x. x.live) c.self.view_is in
    rw (sym was) (c.take-taken.ensures.was ∙ sym (ap (slot_of c.args.slot) (named_at (get same_name c.self.inside.owners) c.self.inside.homes.items c.self.inside.peers.items c.self.invariant (Id c.args.id.number) c.in-Some.serial c.in-Some-take_at.peer (search rules) (standing_at c.self.inside.peers.items c.in-Some.serial c.in-Some-take_at.peer (search rules))).found))

pub invariant_of-self : goal.invariant_of-self
invariant_of-self c =
    let items : c.put_at.new.self.items ≡ slice_set c.self.inside.peers.items c.in-Some.serial (Some c.take-taken.new.self) = c.put_at.ensures ∙ ap (λ xs. slice_set xs c.in-Some.serial (Some c.take-taken.new.self)) c.take_at.ensures.now ∙ set_set c.self.inside.peers.items c.in-Some.serial None (Some c.take-taken.new.self) in
    rw items (no_more_keys (get same_name c.self.inside.owners) c.self.inside.homes.items c.self.inside.peers.items c.in-Some.serial c.in-Some-take_at.peer c.take-taken.new.self (with_slot c.args.slot None) c.self.invariant (search rules) c.take-taken.ensures.now (key_of_emptied c.args.slot c.in-Some-take_at.peer.slots))

pub returns-in_default-clause-now : goal.returns-in_default-clause-now
returns-in_default-clause-now c =
    let was : present c.self.inside.peers.items ≡ c.args.self.now.live = ap (λ x. x.live) c.self.view_is in
    let f : Peer → Peer = with_slots (with_slot c.args.slot None) in
    let live = sym was ∙ id_nowhere (get same_name c.self.inside.owners) c.self.inside.homes.items c.self.inside.peers.items c.self.invariant c.args.id f (search rules) ∙ ap (change_first (has_id c.args.id) f) was in
    λ i. record { live = live i; made = c.args.self.now.made; keys_made = c.args.self.now.keys_made }

pub put_at-requires : goal.put_at-requires
put_at-requires c =
    let long : c.in-Some.serial < length c.self.inside.peers.items = standing_within c.self.inside.peers.items c.in-Some.serial c.in-Some-take_at.peer (search rules) in
    rw c.take_at.ensures.long long

pub returns-clause-now : goal.returns-clause-now
returns-clause-now c =
    let items : c.put_at.new.self.items ≡ slice_set c.self.inside.peers.items c.in-Some.serial (Some c.take-taken.new.self) = c.put_at.ensures ∙ ap (λ xs. slice_set xs c.in-Some.serial (Some c.take-taken.new.self)) c.take_at.ensures.now ∙ set_set c.self.inside.peers.items c.in-Some.serial None (Some c.take-taken.new.self) in
    let was : present c.self.inside.peers.items ≡ c.args.self.now.live = ap (λ x. x.live) c.self.view_is in
    let f : Peer → Peer = with_slots (with_slot c.args.slot None) in
    let live = id_changed (get same_name c.self.inside.owners) c.self.inside.homes.items c.self.inside.peers.items c.put_at.new.self.items c.self.invariant c.args.id c.in-Some.serial c.in-Some-take_at.peer c.take-taken.new.self f (search rules) (search rules) items c.take-taken.ensures.now ∙ ap (change_first (has_id c.args.id) f) was in
    let made : length c.put_at.new.self.items ≡ c.args.self.now.made = search rules in
    let keys : vec_len c.self.inside.homes ≡ c.args.self.now.keys_made = search rules in
    λ i. record { live = live i; made = made i; keys_made = keys i }

pub returns-clause-long : goal.returns-clause-long
returns-clause-long c = ap (λ (x : Indexed). length x.live) (returns-clause-now c) ∙ length_changed (has_id c.args.id) (with_slots (with_slot c.args.slot None)) c.args.self.now.live
