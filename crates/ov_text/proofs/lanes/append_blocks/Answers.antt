-- A block more.
use Rattle.std.proofs.Common.{◌≡◌, ◌++◌, arith, take, drop}
use Rattle.hex.specs.Hex.{encode_lower}
use Rattle.ov_text.proofs.Woven.{block_more, lent, none_yet}
use Rattle.ov_text.proofs.lanes.append_blocks.Goals as goal

pub each_block-init : goal.each_block-init
each_block-init c = record { within = omega arith; put = none_yet c.args.page.now.items }

pub each_block-preserved : goal.each_block-preserved
each_block-preserved c =
    let rest = lent c.each_block.at c.args.bytes.now in
    let put : c.append_block.new.page.items ≡ c.each_block.page.items ++ encode_lower (take 16 (drop c.each_block.at c.args.bytes.now)) = cc (c.in_ok-append_block.ensures, rest) in
    record {
      within = omega arith;
      put = block_more c.args.page.now.items _ _ c.args.bytes.now c.each_block.at c.each_block.invariant.put put;
    }
