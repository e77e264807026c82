-- Where nothing is left, the line is what follows alone.
use Rattle.std.proofs.Common.{◌++◌, List, ℕ, ap, sym, subst}
use Rattle.std.specs.Prelude.{IfErr}
use Rattle.ov_script.specs.Steps as spec
use Rattle.ov_script.proofs.Lines.{nothing}
use Rattle.ov_script.proofs.pieces.Pieces.end_line.Goals as goal

pub returns-then-is_empty-clause-refused : goal.returns-then-is_empty-clause-refused
returns-then-is_empty-clause-refused c =
    let none = nothing c.args.self.now.rest.items _ c.args.self.now.rest.ok.0 c.if-is_empty.ensures in
    subst (λ (b : List ℕ). IfErr c.add.result (spec.Refuses c.args.lanes b c.args.self.now.good.lines.items c.args.self.now.good.wide)) (ap (λ (r : List ℕ). r ++ c.args.part.now) (sym none)) c.add.ensures.refused
