-- A tag that verifies opens its datagram.
use Rattle.std.specs.Prelude.{ℕ, ◌≡◌, List, Some}
use Rattle.std.proofs.Common.{ap}
use Rattle.std.proofs.lemmas.Slice.Eq.{bytes_eq-Decides}
use Rattle.ov_aes.specs.Aes.{key_list}
use Rattle.ov_gcm.specs.Gcm.{Opens, plain}
use Rattle.ov_model.specs.declared.command.KeyDir.{KeyDir}
use Rattle.ov_model.specs.Packets.{opened, nonce_of, packet_id_of, head_part, tag_part, sealed_part}

pub opened_is :
    (d : KeyDir) (bytes text : List ℕ) →
    Opens (key_list d.key) (nonce_of (packet_id_of bytes) d.tail) (head_part bytes) (sealed_part bytes) (tag_part bytes) →
    text ≡ plain (key_list d.key) (nonce_of (packet_id_of bytes) d.tail) (sealed_part bytes) →
    Some text ≡ opened d bytes
unfolding opened
opened_is d bytes text opens is = rw ((bytes_eq-Decides _ _).1 opens) (ap Some is)
