-- The pieces follow one another, and make the line.
use Rattle.std.proofs.Common.{◌∙◌, ◌++◌, ap, sym}
use Rattle.ov_text.proofs.Lines.{joined}
use Rattle.ov_report.proofs.Lines.{answer_pieces}
use Rattle.ov_report.proofs.answer.append_answer.Goals as goal

pub returns : goal.returns
returns c =
    joined c.args.page.now.items _ _ _ _ c.in_ok-append.ensures
    (joined c.append.new.page.items _ _ _ _ c.in_ok-append_given.ensures
    (joined c.append_given.new.page.items _ _ _ _ c.in_ok-append_number.ensures
    (c.in_ok-append_closed.ensures)))
    ∙ ap (λ t. c.args.page.now.items ++ t) (sym (answer_pieces c.args.lane c.args.line c.args.answer.now))
