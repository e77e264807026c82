-- The pieces follow one another, and make the hold's text.
use Rattle.std.proofs.Common.{◌∙◌, ◌++◌, ap, sym}
use Rattle.ov_text.proofs.Lines.{joined, hold_pieces}
use Rattle.ov_text.proofs.reply.append_hold.Goals as goal

pub returns : goal.returns
returns c =
    joined c.args.page.now.items _ _ _ _ c.in_ok-append_number.ensures
    (c.in_ok-append_closed.ensures)
    ∙ ap (λ t. c.args.page.now.items ++ t) (sym (hold_pieces c.args.hold.now))
