use Rattle.std.proofs.Common.{rules, sym, ap, ◌≡◌}
use Rattle.std.specs.HashMap.{get}
use Rattle.ov_index.specs.Names.{same_name}
use Rattle.ov_index.specs.Index.{present}
use Rattle.ov_index.proofs.Held.{by_key_none, by_key_not, by_key_is, key_not_there, key_not_here}
use Rattle.ov_index.proofs.index.Index.by_key.Goals as goal

pub returns-in_err-home : goal.returns-in_err-home
returns-in_err-home c =
    let v : c.args.self.now.live ≡ present c.self.inside.peers.items = sym (ap (λ x. x.live) c.self.view_is) in
    rw (v, by_key_none (get same_name c.self.inside.owners) c.self.inside.homes.items c.self.inside.peers.items c.self.invariant c.args.key (search rules)) (search rules)

pub returns-in_err-peer : goal.returns-in_err-peer
returns-in_err-peer c =
    let v : c.args.self.now.live ≡ present c.self.inside.peers.items = sym (ap (λ x. x.live) c.self.view_is) in
    rw (v, by_key_not (get same_name c.self.inside.owners) c.self.inside.homes.items c.self.inside.peers.items c.self.invariant c.args.key c.in_ok-home.home (search rules) (λ p at. key_not_there c.self.inside.peers.items c.args.key c.in_ok-home.home p (search rules) at)) (search rules)

pub returns-then-is_none : goal.returns-then-is_none
returns-then-is_none c =
    let v : c.args.self.now.live ≡ present c.self.inside.peers.items = sym (ap (λ x. x.live) c.self.view_is) in
    rw v (sym (by_key_not (get same_name c.self.inside.owners) c.self.inside.homes.items c.self.inside.peers.items c.self.invariant c.args.key c.in_ok-home.home (search rules) (λ p at. key_not_here c.self.inside.peers.items c.args.key c.in_ok-home.home c.in_ok-peer.peer.now p (search rules) (search rules) at)))

pub returns : goal.returns
returns c =
    let v : c.args.self.now.live ≡ present c.self.inside.peers.items = sym (ap (λ x. x.live) c.self.view_is) in
    rw v (sym (by_key_is (get same_name c.self.inside.owners) c.self.inside.homes.items c.self.inside.peers.items c.self.invariant c.args.key c.in_ok-home.home c.in_ok-peer.peer.now (search rules) (search rules) (search rules)))
