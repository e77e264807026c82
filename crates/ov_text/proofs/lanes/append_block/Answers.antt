-- Both halves follow one another.
use Rattle.std.proofs.Common.{◌∙◌, ◌++◌, ap}
use Rattle.ov_text.proofs.Lines.{joined}
use Rattle.ov_text.proofs.lanes.append_block.Goals as goal

pub returns : goal.returns
returns c =
    joined c.args.page.now.items _ _ _ _ c.in_ok-extend_from_slice.ensures.items c.in_ok-extend_from_slice-2.ensures.items
    ∙ ap (λ t. c.args.page.now.items ++ t) c.block_digits.ensures
