-- The pieces follow one another, and make the reply's text.
use Rattle.std.proofs.Common.{◌∙◌, ◌++◌, ap, sym}
use Rattle.ov_text.proofs.Lines.{joined, peers_pieces}
use Rattle.ov_text.proofs.reply.append_peers.Goals as goal

pub returns : goal.returns
returns c =
    joined c.args.page.now.items _ _ _ _ c.in_ok-append.ensures
    (joined c.append.new.page.items _ _ _ _ c.in_ok-append_items.ensures
    (c.in_ok-append-2.ensures))
    ∙ ap (λ t. c.args.page.now.items ++ t) (sym (peers_pieces c.args.peers.now))
