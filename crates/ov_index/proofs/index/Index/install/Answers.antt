use Rattle.std.proofs.Common.{rules, sym, ◌∙◌, ap, ◌≡◌, ◌<◌, ◌++◌, ◌∷◌, [], ◌+◌, length}
use Rattle.std.specs.Prelude.{Some, None, vec_len, slice_set}
use Rattle.std.specs.HashMap.{get}
use Rattle.ov_model.specs.Tables.{Peer}
use Rattle.ov_index.specs.Names.{same_name}
use Rattle.ov_index.specs.Index.{Indexed, present}
use Rattle.ov_index.proofs.Held.{length_changed}
use Rattle.ov_index.proofs.Slots.{set_set, standing_at, standing_within}
use Rattle.ov_model.specs.Tables.{change_first, has_id, by_id, in_slot}
use Rattle.ov_model.specs.Step.{with_key}
use Rattle.ov_index.specs.declared.name.Name.TheVariants.{Id}
use Rattle.ov_index.proofs.Held.{named_at, named_nowhere, not_both}
use Rattle.ov_index.proofs.Changed.{got_key, same_one}
use Rattle.ov_index.proofs.index.Index.install.Goals as goal

pub unreachable-requires : goal.unreachable-requires
unreachable-requires c =
    let was : present c.self.inside.peers.items ≡ c.args.self.now.live = ap (λ x. x.live) c.self.view_is in
    let none : by_id c.args.id c.args.self.now.live ≡ None = rw (sym was) (named_nowhere (get same_name c.self.inside.owners) c.self.inside.homes.items c.self.inside.peers.items c.self.invariant (Id c.args.id.number) (search rules)).found in
    not_both _ none c.requires.there

pub put_at-requires : goal.put_at-requires
put_at-requires c =
    let long : c.in-Some.serial < length c.self.inside.peers.items = standing_within c.self.inside.peers.items c.in-Some.serial c.in-Some-take_at.peer (search rules) in
    rw c.take_at.ensures.long long

pub invariant_of-self-2 : goal.invariant_of-self-2
invariant_of-self-2 c =
    let items : c.put_at.new.self.items ≡ slice_set c.self.inside.peers.items c.in-Some.serial (Some c.install-was.new.self) = c.put_at.ensures ∙ ap (λ xs. slice_set xs c.in-Some.serial (Some c.install-was.new.self)) c.take_at.ensures.now ∙ set_set c.self.inside.peers.items c.in-Some.serial None (Some c.install-was.new.self) in
    let homes : c.push.new.self.items ≡ c.self.inside.homes.items ++ c.in-Some.serial ∷ [] = search rules in
    rw (items, homes) (got_key (get same_name c.self.inside.owners) c.self.inside.homes.items c.self.inside.peers.items c.in-Some.serial c.in-Some-take_at.peer c.install-was.new.self c.args.slot c.args.key c.self.invariant (search rules) c.install-was.ensures.now (search rules))

pub returns-clause-was : goal.returns-clause-was
returns-clause-was c = λ p found.
    let was : present c.self.inside.peers.items ≡ c.args.self.now.live = ap (λ x. x.live) c.self.view_is in
    let at : by_id c.args.id c.args.self.now.live ≡ Some c.in-Some-take_at.peer = rw (sym was) (named_at (get same_name c.self.inside.owners) c.self.inside.homes.items c.self.inside.peers.items c.self.invariant (Id c.args.id.number) c.in-Some.serial c.in-Some-take_at.peer (search rules) (standing_at c.self.inside.peers.items c.in-Some.serial c.in-Some-take_at.peer (search rules))).found in
    let same : c.in-Some-take_at.peer ≡ p = same_one _ _ (sym at ∙ found) in
    c.install-was.ensures.was ∙ ap (λ (q : Peer). in_slot c.args.slot q.slots) same

pub returns-clause-now : goal.returns-clause-now
returns-clause-now c =
    let items : c.put_at.new.self.items ≡ slice_set c.self.inside.peers.items c.in-Some.serial (Some c.install-was.new.self) = c.put_at.ensures ∙ ap (λ xs. slice_set xs c.in-Some.serial (Some c.install-was.new.self)) c.take_at.ensures.now ∙ set_set c.self.inside.peers.items c.in-Some.serial None (Some c.install-was.new.self) in
    let was : present c.self.inside.peers.items ≡ c.args.self.now.live = ap (λ x. x.live) c.self.view_is in
    let at = named_at (get same_name c.self.inside.owners) c.self.inside.homes.items c.self.inside.peers.items c.self.invariant (Id c.args.id.number) c.in-Some.serial c.in-Some-take_at.peer (search rules) (standing_at c.self.inside.peers.items c.in-Some.serial c.in-Some-take_at.peer (search rules)) in
    let f : Peer → Peer = with_key c.args.slot c.args.key in
    let is : c.install-was.new.self ≡ f c.in-Some-take_at.peer = c.install-was.ensures.now in
    let live = ap present items ∙ ap (λ x. present (slice_set c.self.inside.peers.items c.in-Some.serial (Some x))) is ∙ sym (at.changed f) ∙ ap (change_first (has_id c.args.id) f) was in
    let made : length c.put_at.new.self.items ≡ c.args.self.now.made = search rules in
    let keys : vec_len c.push.new.self ≡ c.args.self.now.keys_made + 1 = search rules in
    λ i. record { live = live i; made = made i; keys_made = keys i }

pub returns-clause-long : goal.returns-clause-long
returns-clause-long c = ap (λ (x : Indexed). length x.live) (returns-clause-now c) ∙ length_changed (has_id c.args.id) (with_key c.args.slot c.args.key) c.args.self.now.live
