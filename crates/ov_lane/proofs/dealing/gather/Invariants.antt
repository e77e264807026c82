use Rattle.std.proofs.Common.{◌≡◌, ◌+◌, ◌++◌, List, length}
use Rattle.ov_share.specs.Passings.{Passing}
use Rattle.ov_lane.specs.Inner.{HasTaken}
use Rattle.ov_lane.proofs.dealing.gather.Given as goal

abbrev pub invariant-loop-taken : goal.invariant-loop-taken
invariant-loop-taken l = record {
  left : length l.passes.items + l._taken ≡ l.count;
  taken : List Passing;
  split : l.fn.passes.items ≡ l.passes.items ++ taken;
  has : HasTaken l.words taken l.whole;
}
