use Rattle.std.proofs.Common.{◌≡◌, ◌≢◌, ◌<◌, ◌≤◌, ◌+◌, ◌%◌, ◌++◌, map, length}
use Rattle.std.specs.List.{range_with_len, AllByRecursion}
use Rattle.ov_model.specs.Limits.{longest_datagram}
use Rattle.ov_model.specs.Sizes.{Fits}
use Rattle.ov_made.specs.Made.{head_lines, made_line, sealed_of, group_of}
use Rattle.ov_made.proofs.script.made.Given as goal

abbrev pub invariant-loop-j : goal.invariant-loop-j
invariant-loop-j l = record {
  lines : l.lines.items ≡ head_lines l.seed ++ map (made_line l.seed) (range_with_len 0 l.j);
  kept : l.j % 4 ≢ 0 → l.sealed ≡ sealed_of l.seed (group_of l.j);
  size : length l.sealed ≤ longest_datagram;
  fits : AllByRecursion (λ line. Fits line.deed) l.lines.items;
  lanes : AllByRecursion (λ line. line.lane < 8) l.lines.items;
  count : length l.lines.items ≡ 256 + l.j;
}
