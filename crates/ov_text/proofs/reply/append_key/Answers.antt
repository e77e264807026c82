-- The pieces follow one another, and make the reply's text.
use Rattle.std.proofs.Common.{◌∙◌, ◌++◌, ap, sym}
use Rattle.ov_text.proofs.Lines.{joined, key_pieces}
use Rattle.ov_text.proofs.reply.append_key.Goals as goal

pub returns : goal.returns
returns c =
    joined c.args.page.now.items _ _ _ _ (rw c.cipher_name.ensures at c.in_ok-append_word.ensures)
    (joined c.append_word.new.page.items _ _ _ _ (rw c.get.ensures.value at c.in_ok-append_number.ensures)
    (joined c.append_number.new.page.items _ _ _ _ (rw c.get-2.ensures.value at c.in_ok-append_number-2.ensures)
    (joined c.append_number-2.new.page.items _ _ _ _ (rw c.slot_name.ensures at c.in_ok-append_word-2.ensures)
    (c.in_ok-append.ensures))))
    ∙ ap (λ t. c.args.page.now.items ++ t) (sym (key_pieces c.args.key.now))
