use Rattle.std.proofs.Common.{◌≡◌, ◌<◌, map, length}
use Rattle.std.specs.List.{range_with_len, AllByRecursion}
use Rattle.ov_model.specs.Sizes.{Fits}
use Rattle.ov_made.specs.Made.{head_line}
use Rattle.ov_made.proofs.head.head_lines.Given as goal

abbrev pub invariant-loop-i : goal.invariant-loop-i
invariant-loop-i l = record {
  lines : l.lines.items ≡ map (head_line l.seed) (range_with_len 0 l.i);
  fits : AllByRecursion (λ line. Fits line.deed) l.lines.items;
  lanes : AllByRecursion (λ line. line.lane < 8) l.lines.items;
  count : length l.lines.items ≡ l.i;
}
