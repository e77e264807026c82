-- The pieces follow one another, and make the text of what is shown.
use Rattle.std.proofs.Common.{◌∙◌, ◌++◌, ap, sym}
use Rattle.ov_text.proofs.Lines.{joined}
use Rattle.ov_text.proofs.Viewed.{view_pieces}
use Rattle.ov_text.proofs.view.append_view.Goals as goal

pub returns : goal.returns
returns c =
    joined c.args.page.now.items _ _ _ _ (rw c.get.ensures.value at c.in_ok-append_number.ensures)
    (joined c.append_number.new.page.items _ _ _ _ c.in_ok-append_number-2.ensures
    (joined c.append_number-2.new.page.items _ _ _ _ c.in_ok-append_number-3.ensures
    (joined c.append_number-3.new.page.items _ _ _ _ c.in_ok-append_link_counts.ensures
    (joined c.append_link_counts.new.page.items _ _ _ _ c.in_ok-append_remote.ensures.text
    (joined c.append_remote.new.page.items _ _ _ _ c.in_ok-append_number-4.ensures
    (joined c.append_number-4.new.page.items _ _ _ _ c.in_ok-append_vpn4.ensures.text
    (joined c.append_vpn4.new.page.items _ _ _ _ c.in_ok-append_vpn6.ensures.text
    (joined c.append_vpn6.new.page.items _ _ _ _ c.in_ok-append_vpn_counts.ensures
    (c.in_ok-append.ensures)))))))))
    ∙ ap (λ t. c.args.page.now.items ++ t) (sym (view_pieces c.args.peer.now c.in_ok-append_remote.ensures.plain c.in_ok-append_vpn4.ensures.plain c.in_ok-append_vpn6.ensures.plain))
