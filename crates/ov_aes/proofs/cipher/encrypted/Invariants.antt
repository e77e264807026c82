use Rattle.std.proofs.Common.{ℕ, ◌-◌, List}
use Rattle.ov_aes.specs.RoundKeys.{HasKeys}
use Rattle.ov_aes.proofs.States.{IsAfter}
use Rattle.ov_aes.proofs.cipher.encrypted.Given as goal

abbrev pub invariant-loop-r : goal.invariant-loop-r
invariant-loop-r l = (w : List (List ℕ)) → HasKeys l.keys w l.rounds → IsAfter w l.fn.block (l.r - 1) l.state
