use Rattle.std.proofs.Common.{◌≡◌}
use Rattle.ov_gcm.proofs.Equal.{Same}
use Rattle.ov_gcm.proofs.key.equal.Given as goal

abbrev pub invariant-loop-i : goal.invariant-loop-i
invariant-loop-i l = record {
  same : l.differing ≡ 0 → Same l.right l.tag l.i;
  none : l.right ≡ l.tag → l.differing ≡ 0;
}
