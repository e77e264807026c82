use Rattle.std.proofs.Common.{ℕ, ◌==◌, List, sym, ap, ◌∙◌}
use Rattle.std.specs.List.{list_any}
use Rattle.ov_hold.proofs.Fitting.{any_has, has_any}
use Rattle.ov_hold.proofs.held.Held.has.Goals as goal

pub returns : goal.returns
returns c =
    let items = c.as_slice.ensures.value ∙ c.self.view_is in
    let is = c.contains.ensures.value ∙ ap (λ (l : List ℕ). list_any (λ y. y == c.args.cell) l) items in (
      (λ found. any_has c.args.cell c.args.self.now (sym is ∙ found)),
      (λ here. is ∙ has_any c.args.cell c.args.self.now here),
    )
