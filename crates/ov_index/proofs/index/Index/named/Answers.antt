use Rattle.std.proofs.Common.{rules, sym, ap, ◌≡◌}
use Rattle.std.specs.HashMap.{get}
use Rattle.ov_index.specs.Names.{same_name}
use Rattle.ov_index.specs.Index.{present}
use Rattle.ov_index.proofs.Held.{named, named_none}
use Rattle.ov_index.proofs.index.Index.named.Goals as goal

pub returns-in-Some : goal.returns-in-Some
returns-in-Some c =
    let v : c.args.self.now.live ≡ present c.self.inside.peers.items = sym (ap (λ x. x.live) c.self.view_is) in
    rw (v, named (get same_name c.self.inside.owners) c.self.inside.homes.items c.self.inside.peers.items c.self.invariant c.args.name c.in-Some.serial (search rules)) (search rules)

pub returns-in-None : goal.returns-in-None
returns-in-None c =
    let v : c.args.self.now.live ≡ present c.self.inside.peers.items = sym (ap (λ x. x.live) c.self.view_is) in
    rw v (sym (named_none (get same_name c.self.inside.owners) c.self.inside.homes.items c.self.inside.peers.items c.self.invariant c.args.name (search rules)))
