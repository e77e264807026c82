use Rattle.std.proofs.Common.{ap, ◌∙◌, ◌≡◌}
use Rattle.std.specs.List.{list_any}
use Rattle.ov_base.specs.Address.{same_transport}
use Rattle.ov_model.specs.Step.{others}
use Rattle.ov_index.specs.Names.{has_name, remote_name}
use Rattle.ov_index.proofs.Held.{remote_same, any_is}
use Rattle.ov_index.proofs.index.Index.other_has_remote.Goals as goal

pub returns-in-Some : goal.returns-in-Some
returns-in-Some c =
    let left = others c.args.attrs.now.id c.args.self.now.live in
    let name : c.remote_name.result ≡ remote_name c.in-Some.remote = c.remote_name.ensures in
    rw c.in-Some.is (c.other_has.ensures ∙ ap (λ n. list_any (has_name n) left) name ∙ ap (λ test. list_any test left) (remote_same c.in-Some.remote) ∙ any_is (λ p. same_transport p.remote c.in-Some.remote) left)
