-- The pieces follow one another, and make the answer's text.
use Rattle.std.proofs.Common.{◌∙◌, ◌++◌, ap, sym}
use Rattle.ov_text.proofs.Lines.{joined}
use Rattle.ov_report.proofs.Lines.{delivered_pieces}
use Rattle.ov_report.proofs.answer.append_delivered.Goals as goal

pub returns : goal.returns
returns c =
    joined c.args.page.now.items _ _ _ _ c.in_ok-append.ensures
    (joined c.append.new.page.items _ _ _ _ c.in_ok-append_digits.ensures.text
    ((rw c.get.ensures.value at c.in_ok-append_closed.ensures)))
    ∙ ap (λ t. c.args.page.now.items ++ t) (sym (delivered_pieces c.args.peer c.args.packet.now c.in_ok-append_digits.ensures.plain))
