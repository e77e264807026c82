use Rattle.std.proofs.Common.{rules, ◌≡◌, ◌∙◌, sym, ap}
use Rattle.ov_index.specs.Index.{present, standing}
use Rattle.std.specs.Prelude.{slice_get}
use Rattle.ov_index.proofs.Listed.{front_first}
use Rattle.ov_index.proofs.gone.Gone.first.Goals as goal

pub returns : goal.returns
returns g c =
    let items : present c.self.inside.slots.items ≡ c.args.self.now.items = ap (λ x. x.items) c.self.view_is in
    let front : standing c.self.inside.slots.items c.self.inside.front ≡ slice_get (present c.self.inside.slots.items) 0 = ap (standing c.self.inside.slots.items) c.self.invariant.leading ∙ front_first c.self.inside.slots.items in
    rw (sym items, sym front) (search rules)
