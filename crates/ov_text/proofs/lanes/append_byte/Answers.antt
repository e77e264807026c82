-- The two digits of a byte, by their places.
use Rattle.std.proofs.Common.{◌++◌, ◌∙◌, ap}
use Rattle.ov_text.proofs.Woven.{byte_digits}
use Rattle.ov_text.proofs.lanes.append_byte.Goals as goal

pub returns : goal.returns
returns c = c.in_ok-extend_from_slice.ensures.items ∙ ap (λ t. c.args.page.now.items ++ t) (byte_digits c.args.byte)
