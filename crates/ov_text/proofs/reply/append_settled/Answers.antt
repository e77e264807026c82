-- The pieces follow one another, and make the text.
use Rattle.std.proofs.Common.{◌∙◌, ◌++◌, ap, sym}
use Rattle.ov_text.proofs.Lines.{joined, settled_pieces}
use Rattle.ov_text.proofs.reply.append_settled.Goals as goal

pub returns : goal.returns
returns c =
    joined c.args.page.now.items _ _ _ _ (rw c.settled_name.ensures at c.in_ok-append_word.ensures)
    (c.in_ok-append.ensures)
    ∙ ap (λ t. c.args.page.now.items ++ t) (sym (settled_pieces c.args.settled))
