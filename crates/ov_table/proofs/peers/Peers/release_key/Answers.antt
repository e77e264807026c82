use Rattle.std.proofs.Common.{arith, ◌≡◌, ◌+◌, ◌∙◌, sym, ap, length, true}
use Rattle.ov_model.specs.Tables.{Key, Table, keys_of, key_serials}
use Rattle.ov_model.specs.Step as model
use Rattle.ov_table.specs.Recorded.{unreleased}
use Rattle.ov_table.proofs.Apart.{let_go, length_let_go}
use Rattle.ov_table.proofs.peers.Peers.release_key.Goals as goal

pub invariant_of-self : goal.invariant_of-self
invariant_of-self c =
    let lists : c.self.inside.retired.items ≡ c.args.self.now.retired = ap (λ (x : Table). x.retired) c.self.view_is in
    let there : model.is_retired c.args.serial c.self.inside.retired.items ≡ true = rw lists c.requires in (
      c.self.invariant.0,
      c.self.invariant.1,
      c.self.invariant.2,
      c.self.invariant.3,
      c.self.invariant.4,
      c.self.invariant.5,
      rw c.take.ensures.now (let_go (λ (x : Key). x.serial) (key_serials (keys_of c.self.inside.live.live)) c.self.inside.retired.items c.self.inside.keys_made c.args.serial there c.self.invariant.6),
    )

pub returns-clause-fewer : goal.returns-clause-fewer
returns-clause-fewer c =
    let lists : c.self.inside.retired.items ≡ c.args.self.now.retired = ap (λ (x : Table). x.retired) c.self.view_is in
    let there : model.is_retired c.args.serial c.self.inside.retired.items ≡ true = rw lists c.requires in
    let less : length c.take.new.self.items + 1 ≡ length c.self.inside.retired.items = ap (λ xs. length xs + 1) c.take.ensures.now ∙ length_let_go (model.has_key_serial c.args.serial) c.self.inside.retired.items there in
    let was : unreleased c.args.self.now ≡ length c.self.inside.live.live + length c.self.inside.dying.items + length c.self.inside.retired.items = sym (ap unreleased c.self.view_is) in
    omega arith
