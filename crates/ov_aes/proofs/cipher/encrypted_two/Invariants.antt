use Rattle.std.proofs.Common.{ℕ, ◌-◌, List}
use Rattle.ov_aes.specs.RoundKeys.{HasKeys}
use Rattle.ov_aes.proofs.States.{IsAfter}
use Rattle.ov_aes.proofs.cipher.encrypted_two.Given as goal

abbrev pub invariant-loop-r : goal.invariant-loop-r
invariant-loop-r l = record {
  one : (w : List (List ℕ)) → HasKeys l.keys w l.rounds → IsAfter w l.fn.first (l.r - 1) l.one;
  other : (w : List (List ℕ)) → HasKeys l.keys w l.rounds → IsAfter w l.fn.second (l.r - 1) l.other;
}
