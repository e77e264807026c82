use Rattle.std.proofs.Common.{◌*◌}
use Rattle.ov_aes.specs.Aes.{key_list}
use Rattle.ov_gcm.specs.Steps.{IsCryptedUpTo}
use Rattle.ov_gcm.proofs.stream.crypt.Given as goal

abbrev pub invariant-loop-turn : goal.invariant-loop-turn
invariant-loop-turn l = IsCryptedUpTo (key_list l.key) l.nonce l.fn.text (2 * l.turn) l.text
