-- A byte more, and all of them.
use Rattle.std.proofs.Common.{◌++◌, ◌∙◌, ap, refl}
use Rattle.std.proofs.lemmas.List.{take_all}
use Rattle.hex.specs.Hex.{encode_lower}
use Rattle.ov_text.proofs.Woven.{byte_more, none_yet}
use Rattle.ov_text.proofs.lanes.append_rest.Goals as goal

pub loop-byte-init : goal.loop-byte-init
loop-byte-init c = none_yet c.args.page.now.items

pub loop-byte-preserved : goal.loop-byte-preserved
loop-byte-preserved c = byte_more c.args.page.now.items _ _ c.args.bytes.now c.loop-byte.byte-index 0 _ c.loop-byte-test.true refl c.loop-byte.invariant c.in_ok-append_byte.ensures

pub returns : goal.returns
returns c = c.loop-byte.invariant ∙ ap (λ b. c.args.page.now.items ++ encode_lower b) (take_all c.loop-byte.byte-index c.args.bytes.now c.loop-byte-test.false)
