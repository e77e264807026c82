use Rattle.std.proofs.Common.{rules, sym, ap, ◌≡◌, ◌∙◌}
use Rattle.std.specs.Prelude.{Some, None, find}
use Rattle.std.specs.HashMap.{get}
use Rattle.ov_index.specs.Names.{same_name, has_name}
use Rattle.ov_index.specs.Index.{present}
use Rattle.ov_index.proofs.Held.{named, named_none}
use Rattle.ov_index.proofs.Others.{other_named}
use Rattle.ov_index.proofs.index.Index.other_has.Goals as goal

pub returns-in_default : goal.returns-in_default
returns-in_default c =
    let v : c.args.self.now.live ≡ present c.self.inside.peers.items = sym (ap (λ x. x.live) c.self.view_is) in
    let found : find (has_name c.args.name) (present c.self.inside.peers.items) ≡ None = named_none (get same_name c.self.inside.owners) c.self.inside.homes.items c.self.inside.peers.items c.self.invariant c.args.name (search rules) in
    rw (v, other_named (get same_name c.self.inside.owners) c.self.inside.homes.items c.self.inside.peers.items c.self.invariant c.args.id c.args.name, found) (search rules)

pub returns-in-Some-standing : goal.returns-in-Some-standing
returns-in-Some-standing c =
    let v : c.args.self.now.live ≡ present c.self.inside.peers.items = sym (ap (λ x. x.live) c.self.view_is) in
    let found : find (has_name c.args.name) (present c.self.inside.peers.items) ≡ Some c.in-Some-standing.peer.now = named (get same_name c.self.inside.owners) c.self.inside.homes.items c.self.inside.peers.items c.self.invariant c.args.name c.in-Some.serial (search rules) ∙ search rules in
    rw (v, other_named (get same_name c.self.inside.owners) c.self.inside.homes.items c.self.inside.peers.items c.self.invariant c.args.id c.args.name, found) (search rules)

pub returns-in-None : goal.returns-in-None
returns-in-None c =
    let v : c.args.self.now.live ≡ present c.self.inside.peers.items = sym (ap (λ x. x.live) c.self.view_is) in
    let found : find (has_name c.args.name) (present c.self.inside.peers.items) ≡ None = named (get same_name c.self.inside.owners) c.self.inside.homes.items c.self.inside.peers.items c.self.invariant c.args.name c.in-Some.serial (search rules) ∙ search rules in
    rw (v, other_named (get same_name c.self.inside.owners) c.self.inside.homes.items c.self.inside.peers.items c.self.invariant c.args.id c.args.name, found) (search rules)
