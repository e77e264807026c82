-- The pieces follow one another, and make the entry's text.
use Rattle.std.proofs.Common.{◌∙◌, ◌++◌, ap, sym}
use Rattle.ov_text.proofs.Lines.{joined}
use Rattle.ov_report.proofs.Lines.{entry_pieces}
use Rattle.ov_report.proofs.print.append_entry.Goals as goal

pub returns : goal.returns
returns c =
    joined c.args.page.now.items _ _ _ _ c.in_ok-append_number.ensures
    (joined c.append_number.new.page.items _ _ _ _ (rw c.call_name.ensures at c.in_ok-append_word.ensures)
    (joined c.append_word.new.page.items _ _ _ _ c.in_ok-append_number-2.ensures
    (joined c.append_number-2.new.page.items _ _ _ _ c.in_ok-append_number-3.ensures
    (joined c.append_number-3.new.page.items _ _ _ _ c.in_ok-append_number-4.ensures
    (joined c.append_number-4.new.page.items _ _ _ _ c.in_ok-append.ensures
    (joined c.append.new.page.items _ _ _ _ c.in_ok-append_reply.ensures
    (c.in_ok-append-2.ensures)))))))
    ∙ ap (λ t. c.args.page.now.items ++ t) (sym (entry_pieces c.args.number c.args.entry.now))
