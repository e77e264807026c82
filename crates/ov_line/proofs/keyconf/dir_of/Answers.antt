-- A part of another kind makes no direction.
use Rattle.std.proofs.Common.{codes}
use Rattle.serde_json.specs.View.{view}
use Rattle.ov_line.specs.Values.{Has, IsHex}
use Rattle.ov_line.specs.Grammar.{most_key_bytes}
use Rattle.ov_line.proofs.Options.{reads_not}
use Rattle.ov_line.proofs.keyconf.dir_of.Goals as goal

pub returns-in_err-cipher_key : goal.returns-in_err-cipher_key
returns-in_err-cipher_key c = reads_not c.from_residual-in_err-cipher_key.result c.in_err-cipher_key.field-0.0 (Has (IsHex most_key_bytes) (codes "cipher-key") (view c.args.value.now)) _ c.from_residual-in_err-cipher_key.ensures c.in_err-cipher_key.ensures (λ d h. (d.cipher_key, h.cipher_key))

pub returns-in_err-nonce_tail : goal.returns-in_err-nonce_tail
returns-in_err-nonce_tail c = reads_not c.from_residual-in_err-nonce_tail.result c.in_err-nonce_tail.field-0.0 (Has (IsHex most_key_bytes) (codes "nonce-tail") (view c.args.value.now)) _ c.from_residual-in_err-nonce_tail.ensures c.in_err-nonce_tail.ensures (λ d h. (d.nonce_tail, h.nonce_tail))
