-- The pieces follow one another, and make the answer's text.
use Rattle.std.proofs.Common.{◌∙◌, ◌++◌, ap, sym}
use Rattle.ov_text.proofs.Lines.{joined}
use Rattle.ov_report.proofs.Lines.{ticked_pieces}
use Rattle.ov_report.proofs.answer.append_ticked.Goals as goal

pub returns : goal.returns
returns c =
    joined c.args.page.now.items _ _ _ _ c.in_ok-append.ensures
    (joined c.append.new.page.items _ _ _ _ c.in_ok-append_items.ensures
    (joined c.append_items.new.page.items _ _ _ _ c.in_ok-append-2.ensures
    (joined c.append-2.new.page.items _ _ _ _ c.in_ok-append_items-2.ensures
    (c.in_ok-append-3.ensures))))
    ∙ ap (λ t. c.args.page.now.items ++ t) (sym (ticked_pieces c.args.expired.now c.args.pings.now))
