-- The pieces follow one another, and make the datagram's text.
use Rattle.std.proofs.Common.{◌∙◌, ◌++◌, ap, sym}
use Rattle.ov_text.proofs.Lines.{joined, sealed_pieces}
use Rattle.ov_text.proofs.sealed.append_sealed.Goals as goal

pub returns : goal.returns
returns c =
    joined c.args.page.now.items _ _ _ _ c.in_ok-append.ensures
    (joined c.append.new.page.items _ _ _ _ (rw c.as_slice.ensures at c.in_ok-append_digits.ensures.text)
    (joined c.append_digits.new.page.items _ _ _ _ c.in_ok-append_number.ensures
    (joined c.append_number.new.page.items _ _ _ _ c.in_ok-append_number-2.ensures
    (joined c.append_number-2.new.page.items _ _ _ _ c.in_ok-append-2.ensures
    (joined c.append-2.new.page.items _ _ _ _ c.in_ok-append_address.ensures.text
    (joined c.append_address.new.page.items _ _ _ _ c.in_ok-append_number-3.ensures
    (c.in_ok-append-3.ensures)))))))
    ∙ ap (λ t. c.args.page.now.items ++ t) (sym (sealed_pieces c.args.sealed.now (rw c.as_slice.ensures at c.in_ok-append_digits.ensures.plain) c.in_ok-append_address.ensures.plain))
