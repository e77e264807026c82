-- The value that the bytes are read as is the one that isn't a line.
use Rattle.std.proofs.Common.{◌≡◌, ◌∙◌, sym, subst}
use Rattle.serde_json.specs.Data.{Data}
use Rattle.serde_json.specs.View.{view}
use Rattle.ov_model.specs.declared.line.Line.{Line}
use Rattle.ov_line.specs.declared.line.LineStop.{LineStop}
use Rattle.ov_line.specs.Grammar.{IsLine, Says}
use Rattle.ov_line.specs.Outcome.{IsBad}
use Rattle.ov_line.proofs.Options.{some_same, handed_on, nothing_by}
use Rattle.ov_line.proofs.line.read_value.Goals as goal

pub returns-in_err-read-clause-bad : goal.returns-in_err-read-clause-bad
returns-in_err-read-clause-bad c =
    let P : LineStop → Type 0 = λ stop. IsBad stop → (line : Line) → ¬ (Says c.args.line.now c.args.lanes line) in
    handed_on c.from_residual.result c.in_err-read.field-0.0 P c.from_residual.ensures
    (λ bad line h.
    let R : Data → Type 0 = λ d. IsLine c.args.lanes d line in
    let same : h.value ≡ view c.in-Ok.value = some_same _ _ (sym h.reads ∙ c.in-Ok.ensures.ok.1) in
    nothing_by c.in_err-read.field-0.0 (IsLine c.args.lanes (view c.in-Ok.value)) c.in_err-read.ensures bad line (subst R same h.is_line))
