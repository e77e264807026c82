-- What a line asks for has the form that its word names.
use Rattle.std.proofs.Common.{codes, Some}
use Rattle.serde_json.specs.View.{view}
use Rattle.ov_line.specs.declared.grammar.Form.{Form}
use Rattle.ov_line.specs.declared.line.LineStop.TheVariants as stop
use Rattle.ov_line.specs.Values.{Has, IsWord}
use Rattle.ov_line.specs.Forms.{form_word, deed_form}
use Rattle.ov_line.proofs.Options.{reads_not}
use Rattle.ov_line.proofs.Words.{has_form}
use Rattle.ov_line.proofs.grammar.deed_of.Goals as goal

pub returns-in_err-form : goal.returns-in_err-form
returns-in_err-form c = reads_not c.from_residual.result (stop.Bad c.in_err-form.field-0.0) (λ (f : Form). Has (IsWord form_word) (codes "do") (view c.args.value.now) (Some f)) _ c.from_residual.ensures c.in_err-form.ensures
    (λ asked h. (deed_form asked, has_form (codes "do") (view c.args.value.now) asked h.0))
