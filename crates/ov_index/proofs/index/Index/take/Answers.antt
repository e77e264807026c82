use Rattle.std.proofs.Common.{rules, sym, ◌∙◌, ap, ◌≡◌, length}
use Rattle.std.specs.Prelude.{None, vec_len}
use Rattle.std.specs.HashMap.{get}
use Rattle.ov_model.specs.Tables.{without_first, has_serial}
use Rattle.ov_index.specs.Names.{same_name}
use Rattle.ov_index.specs.Index.{present, standing}
use Rattle.ov_index.proofs.Slots.{standing_at}
use Rattle.ov_index.proofs.Held.{by_serial_is, serial_at, serial_nowhere, nobody}
use Rattle.ov_index.proofs.Changed.{taken_out}
use Rattle.ov_index.proofs.Returned.{peer_missing}
use Rattle.ov_index.proofs.index.Index.take.Goals as goal

pub invariant_of-self : goal.invariant_of-self
invariant_of-self c = rw (peer_missing (get same_name c.self.inside.owners) c.self.inside.homes.items c.self.inside.peers.items c.take_at.new.self.items c.args.serial c.self.invariant (search rules) c.take_at.ensures.now).items c.self.invariant

pub returns-in_default-clause-was : goal.returns-in_default-clause-was
returns-in_default-clause-was c =
    let was : present c.self.inside.peers.items ≡ c.args.self.now.live = ap (λ x. x.live) c.self.view_is in
    let none : standing c.self.inside.peers.items c.args.serial ≡ None = search rules in
    rw (sym was) (sym (by_serial_is (get same_name c.self.inside.owners) c.self.inside.homes.items c.self.inside.peers.items c.self.invariant c.args.serial ∙ none))

pub returns-in_default-clause-now : goal.returns-in_default-clause-now
returns-in_default-clause-now c =
    let was : present c.self.inside.peers.items ≡ c.args.self.now.live = ap (λ x. x.live) c.self.view_is in
    let none : standing c.self.inside.peers.items c.args.serial ≡ None = search rules in
    let nowhere = serial_nowhere (get same_name c.self.inside.owners) c.self.inside.homes.items c.self.inside.peers.items c.self.invariant c.args.serial (nobody c.self.inside.peers.items c.args.serial none) in
    let missing = peer_missing (get same_name c.self.inside.owners) c.self.inside.homes.items c.self.inside.peers.items c.take_at.new.self.items c.args.serial c.self.invariant none c.take_at.ensures.now in
    let live = ap present missing.items ∙ sym nowhere.without ∙ ap (without_first (has_serial c.args.serial)) was in
    let made : length c.take_at.new.self.items ≡ c.args.self.now.made = search rules in
    let keys : vec_len c.self.inside.homes ≡ c.args.self.now.keys_made = search rules in
    λ i. record { live = live i; made = made i; keys_made = keys i }

pub invariant_of-self-2 : goal.invariant_of-self-2
invariant_of-self-2 c =
    rw c.take_at.ensures.now (taken_out (get same_name c.self.inside.owners) (get same_name c.take_all.new.owners) c.self.inside.homes.items c.self.inside.peers.items c.args.serial c.in-Some.peer c.self.invariant (search rules) c.take_all.ensures.names)

pub returns-clause-was : goal.returns-clause-was
returns-clause-was c =
    let was : present c.self.inside.peers.items ≡ c.args.self.now.live = ap (λ x. x.live) c.self.view_is in
    let at = serial_at (get same_name c.self.inside.owners) c.self.inside.homes.items c.self.inside.peers.items c.self.invariant c.args.serial c.in-Some.peer (standing_at c.self.inside.peers.items c.args.serial c.in-Some.peer (search rules)) in
    rw (sym was) (sym at.found)

pub returns-clause-now : goal.returns-clause-now
returns-clause-now c =
    let was : present c.self.inside.peers.items ≡ c.args.self.now.live = ap (λ x. x.live) c.self.view_is in
    let at = serial_at (get same_name c.self.inside.owners) c.self.inside.homes.items c.self.inside.peers.items c.self.invariant c.args.serial c.in-Some.peer (standing_at c.self.inside.peers.items c.args.serial c.in-Some.peer (search rules)) in
    let live = ap present c.take_at.ensures.now ∙ sym at.without ∙ ap (without_first (has_serial c.args.serial)) was in
    let made : length c.take_at.new.self.items ≡ c.args.self.now.made = search rules in
    let keys : vec_len c.self.inside.homes ≡ c.args.self.now.keys_made = search rules in
    λ i. record { live = live i; made = made i; keys_made = keys i }
