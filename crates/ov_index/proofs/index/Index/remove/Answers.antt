use Rattle.std.proofs.Common.{rules, sym, ◌∙◌, ap, ◌≡◌, ◌+◌, length}
use Rattle.std.specs.Prelude.{Some, vec_len}
use Rattle.std.specs.HashMap.{get}
use Rattle.ov_index.specs.Names.{same_name}
use Rattle.ov_index.specs.Index.{Indexed, present}
use Rattle.ov_index.proofs.Held.{length_without}
use Rattle.ov_index.proofs.Slots.{standing_at}
use Rattle.ov_model.specs.Tables.{without_first, has_id, by_id}
use Rattle.ov_index.specs.declared.name.Name.TheVariants.{Id}
use Rattle.ov_index.proofs.Held.{named_at, named_nowhere, standing_there}
use Rattle.ov_index.proofs.Changed.{taken_out}
use Rattle.ov_index.proofs.index.Index.remove.Goals as goal

pub returns-in_default-clause-was : goal.returns-in_default-clause-was
returns-in_default-clause-was c =
    let was : present c.self.inside.peers.items ≡ c.args.self.now.live = ap (λ x. x.live) c.self.view_is in
    rw (sym was) (sym (named_nowhere (get same_name c.self.inside.owners) c.self.inside.homes.items c.self.inside.peers.items c.self.invariant (Id c.args.id.number) (search rules)).found)

pub returns-in_default-clause-now : goal.returns-in_default-clause-now
returns-in_default-clause-now c =
    let was : present c.self.inside.peers.items ≡ c.args.self.now.live = ap (λ x. x.live) c.self.view_is in
    let none = named_nowhere (get same_name c.self.inside.owners) c.self.inside.homes.items c.self.inside.peers.items c.self.invariant (Id c.args.id.number) (search rules) in
    let live = sym was ∙ sym none.without ∙ ap (without_first (has_id c.args.id)) was in
    λ i. record { live = live i; made = c.args.self.now.made; keys_made = c.args.self.now.keys_made }

pub unreachable-requires : goal.unreachable-requires
unreachable-requires c = standing_there (get same_name c.self.inside.owners) c.self.inside.homes.items c.self.inside.peers.items c.self.invariant (Id c.args.id.number) c.in-Some.serial (search rules) (search rules)

pub invariant_of-self : goal.invariant_of-self
invariant_of-self c =
    rw c.take_at.ensures.now (taken_out (get same_name c.self.inside.owners) (get same_name c.take_all.new.owners) c.self.inside.homes.items c.self.inside.peers.items c.in-Some.serial c.in-Some-take_at.peer c.self.invariant (search rules) c.take_all.ensures.names)

pub returns-clause-was : goal.returns-clause-was
returns-clause-was c =
    let was : present c.self.inside.peers.items ≡ c.args.self.now.live = ap (λ x. x.live) c.self.view_is in
    rw (sym was) (sym (named_at (get same_name c.self.inside.owners) c.self.inside.homes.items c.self.inside.peers.items c.self.invariant (Id c.args.id.number) c.in-Some.serial c.in-Some-take_at.peer (search rules) (standing_at c.self.inside.peers.items c.in-Some.serial c.in-Some-take_at.peer (search rules))).found)

pub returns-clause-now : goal.returns-clause-now
returns-clause-now c =
    let was : present c.self.inside.peers.items ≡ c.args.self.now.live = ap (λ x. x.live) c.self.view_is in
    let at = named_at (get same_name c.self.inside.owners) c.self.inside.homes.items c.self.inside.peers.items c.self.invariant (Id c.args.id.number) c.in-Some.serial c.in-Some-take_at.peer (search rules) (standing_at c.self.inside.peers.items c.in-Some.serial c.in-Some-take_at.peer (search rules)) in
    let live = ap present c.take_at.ensures.now ∙ sym at.without ∙ ap (without_first (has_id c.args.id)) was in
    let made : length c.take_at.new.self.items ≡ c.args.self.now.made = search rules in
    let keys : vec_len c.self.inside.homes ≡ c.args.self.now.keys_made = search rules in
    λ i. record { live = live i; made = made i; keys_made = keys i }

pub returns-clause-fewer : goal.returns-clause-fewer
returns-clause-fewer c =
    let found : by_id c.args.id c.args.self.now.live ≡ Some c.in-Some-take_at.peer = sym (returns-clause-was c) in
    ap (λ (x : Indexed). length x.live + 1) (returns-clause-now c) ∙ length_without (has_id c.args.id) c.args.self.now.live c.in-Some-take_at.peer found
