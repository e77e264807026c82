-- The pieces follow one another.
use Rattle.ov_text.proofs.Lines.{joined}
use Rattle.ov_text.proofs.view.append_link_counts.Goals as goal

pub returns : goal.returns
returns c =
    joined c.args.page.now.items _ _ _ _ c.in_ok-append_number.ensures
    (joined c.append_number.new.page.items _ _ _ _ c.in_ok-append_number-2.ensures
    (joined c.append_number-2.new.page.items _ _ _ _ c.in_ok-append_number-3.ensures
    (c.in_ok-append_number-4.ensures)))
