use Rattle.std.proofs.Common.{rules, sym, ◌∙◌, ap, ◌≡◌, List, true}
use Rattle.std.specs.Prelude.{Option, is_some, None, Some}
use Rattle.ov_base.specs.declared.address.Transport.{Transport}
use Rattle.ov_model.specs.Tables.{Peer, change_first, has_serial, by_remote}
use Rattle.ov_model.specs.Step.{floated}
use Rattle.ov_index.proofs.Held.{changed_not, stays}
use Rattle.ov_index.proofs.index.Index.float_if_free.Goals as goal

pub returns-in_default-clause-peers : goal.returns-in_default-clause-peers
returns-in_default-clause-peers c =
    let none : c.args.from ≡ None = search rules in
    let live : List Peer = c.args.self.now.live in
    let same : live ≡ change_first (has_serial c.args.serial) (floated live c.args.from) live = sym (ap (λ (from : Option Transport). change_first (has_serial c.args.serial) (floated live from) live) none ∙ changed_not (has_serial c.args.serial) live) in
    λ i. record { live = same i; made = c.args.self.now.made; keys_made = c.args.self.now.keys_made }

pub returns-then-is_some-clause-peers : goal.returns-then-is_some-clause-peers
returns-then-is_some-clause-peers c =
    let some : c.args.from ≡ Some c.in-Some.from = search rules in
    let live : List Peer = c.args.self.now.live in
    let taken : is_some (by_remote c.in-Some.from live) ≡ true = search rules in
    let same : live ≡ change_first (has_serial c.args.serial) (floated live c.args.from) live = sym (ap (λ (from : Option Transport). change_first (has_serial c.args.serial) (floated live from) live) some ∙ stays live c.args.serial c.in-Some.from taken) in
    λ i. record { live = same i; made = c.args.self.now.made; keys_made = c.args.self.now.keys_made }
