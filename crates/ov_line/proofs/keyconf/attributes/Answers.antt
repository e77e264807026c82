-- An attribute of another kind makes no key.
use Rattle.std.proofs.Common.{codes}
use Rattle.serde_json.specs.View.{view}
use Rattle.ov_line.specs.declared.line.LineStop.TheVariants as stop
use Rattle.ov_line.specs.Values.{Has, IsNumber, IsWord, most_number}
use Rattle.ov_line.specs.Grammar.{IsDir, slot_word, cipher_word}
use Rattle.ov_line.proofs.Options.{reads_not}
use Rattle.ov_line.proofs.keyconf.attributes.Goals as goal

pub returns-in_err-peer_id : goal.returns-in_err-peer_id
returns-in_err-peer_id c = reads_not c.from_residual-in_err-peer_id.result (stop.Bad c.in_err-peer_id.field-0.0) (Has (IsNumber most_number) (codes "peer-id") (view c.args.value.now)) _ c.from_residual-in_err-peer_id.ensures c.in_err-peer_id.ensures (λ k h. (k.peer_id, h.peer_id))

pub returns-in_err-slot : goal.returns-in_err-slot
returns-in_err-slot c = reads_not c.from_residual-in_err-slot.result (stop.Bad c.in_err-slot.field-0.0) (Has (IsWord slot_word) (codes "slot") (view c.args.value.now)) _ c.from_residual-in_err-slot.ensures c.in_err-slot.ensures (λ k h. (k.slot, h.slot))

pub returns-in_err-key_id : goal.returns-in_err-key_id
returns-in_err-key_id c = reads_not c.from_residual-in_err-key_id.result (stop.Bad c.in_err-key_id.field-0.0) (Has (IsNumber most_number) (codes "key-id") (view c.args.value.now)) _ c.from_residual-in_err-key_id.ensures c.in_err-key_id.ensures (λ k h. (k.key_id, h.key_id))

pub returns-in_err-cipher : goal.returns-in_err-cipher
returns-in_err-cipher c = reads_not c.from_residual-in_err-cipher.result (stop.Bad c.in_err-cipher.field-0.0) (Has (IsWord cipher_word) (codes "cipher-alg") (view c.args.value.now)) _ c.from_residual-in_err-cipher.ensures c.in_err-cipher.ensures (λ k h. (k.cipher, h.cipher))

pub returns-in_err-encrypt : goal.returns-in_err-encrypt
returns-in_err-encrypt c = reads_not c.from_residual-in_err-encrypt.result c.in_err-encrypt.field-0.0 (Has IsDir (codes "encrypt-dir") (view c.args.value.now)) _ c.from_residual-in_err-encrypt.ensures c.in_err-encrypt.ensures (λ k h. (k.encrypt, h.encrypt))

pub returns-in_err-decrypt : goal.returns-in_err-decrypt
returns-in_err-decrypt c = reads_not c.from_residual-in_err-decrypt.result c.in_err-decrypt.field-0.0 (Has IsDir (codes "decrypt-dir") (view c.args.value.now)) _ c.from_residual-in_err-decrypt.ensures c.in_err-decrypt.ensures (λ k h. (k.decrypt, h.decrypt))
