-- The pieces follow one another, and make the ping's text.
use Rattle.std.proofs.Common.{◌∙◌, ◌++◌, ap, sym}
use Rattle.ov_text.proofs.Lines.{joined, ping_pieces}
use Rattle.ov_text.proofs.sealed.PingOutItem.append_item.Goals as goal

pub returns : goal.returns
returns c =
    joined c.args.page.now.items _ _ _ _ c.in_ok-append.ensures
    (joined c.append.new.page.items _ _ _ _ c.in_ok-append_outcome.ensures
    (c.in_ok-append_closed.ensures))
    ∙ ap (λ t. c.args.page.now.items ++ t) (sym (ping_pieces c.args.self.now))
