-- The pieces follow one another, and make the answer's text.
use Rattle.std.proofs.Common.{◌∙◌, ◌++◌, ap, sym}
use Rattle.ov_text.proofs.Lines.{joined}
use Rattle.ov_report.proofs.Lines.{dropped_pieces}
use Rattle.ov_report.proofs.answer.append_dropped.Goals as goal

pub returns : goal.returns
returns c =
    joined c.args.page.now.items _ _ _ _ (rw c.cause_name.ensures at c.in_ok-append_word.ensures)
    (c.in_ok-append.ensures)
    ∙ ap (λ t. c.args.page.now.items ++ t) (sym (dropped_pieces c.args.cause))
