-- The pieces follow one another, and make the step's text.
use Rattle.std.proofs.Common.{◌∙◌, ◌++◌, ap, sym}
use Rattle.ov_text.proofs.Lines.{joined}
use Rattle.ov_report.proofs.Lines.{replay_pieces}
use Rattle.ov_report.proofs.print.append_replay.Goals as goal

pub returns : goal.returns
returns c =
    joined c.args.page.now.items _ _ _ _ c.in_ok-append_number.ensures
    (joined c.append_number.new.page.items _ _ _ _ c.in_ok-append_number-2.ensures
    (joined c.append_number-2.new.page.items _ _ _ _ c.in_ok-append_number-3.ensures
    (joined c.append_number-3.new.page.items _ _ _ _ c.in_ok-append_number-4.ensures
    (joined c.append_number-4.new.page.items _ _ _ _ c.in_ok-append_number-5.ensures
    (joined c.append_number-5.new.page.items _ _ _ _ c.in_ok-append_number-6.ensures
    (joined c.append_number-6.new.page.items _ _ _ _ c.in_ok-append_number-7.ensures
    (joined c.append_number-7.new.page.items _ _ _ _ (rw c.verdict_name.ensures at c.in_ok-append_word.ensures)
    (c.in_ok-append.ensures))))))))
    ∙ ap (λ t. c.args.page.now.items ++ t) (sym (replay_pieces c.args.shard c.args.entry.now))
