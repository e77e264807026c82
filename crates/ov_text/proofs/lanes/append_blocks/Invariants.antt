use Rattle.std.proofs.Common.{◌≡◌, ◌≤◌, ◌-◌, ◌++◌, length, take}
use Rattle.hex.specs.Hex.{encode_lower}
use Rattle.ov_text.proofs.lanes.append_blocks.Given as goal

abbrev pub invariant-each_block : goal.invariant-each_block
invariant-each_block l = record {
  within : l.at ≤ length l.bytes;
  put : l.page.items ≡ l.fn.page.items ++ encode_lower (take l.at l.bytes);
}

abbrev pub decreases-each_block : goal.decreases-each_block
decreases-each_block l = length l.bytes - l.at
