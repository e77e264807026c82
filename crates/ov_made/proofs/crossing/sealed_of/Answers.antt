use Rattle.std.proofs.Common.{rules, ◌≡◌, ◌∙◌, ℕ, ◌<◌, ◌%◌, List, IfOk, subst, arith}
use Rattle.ov_aes.specs.declared.key_bytes.KeyBytes.TheVariants.{K16}
use Rattle.ov_made.specs.Made as spec
use Rattle.ov_made.proofs.More.{key_at, sealed_by}
use Rattle.ov_made.proofs.crossing.sealed_of.Goals as goal

pub returns-clause-exactly : goal.returns-clause-exactly
returns-clause-exactly c =
    let below : c.args.q % 128 < spec.peer_count = omega arith in
    let key_is : c.index-keys-from.result ≡ K16 (spec.decrypt_key c.args.seed (c.args.q % 128)) =
    c.index-keys-from.is ∙ key_at c.args.seed (c.args.q % 128) c.from.result c.args.keys.now c.index-keys-from.result c.requires.keys c.from.ensures below in
    let whole = sealed_by c.args.seed c.args.q c.datagram_head-head.result.id.number c.datagram_head-head.result.key_id.number c.datagram_head-head.result.packet_id c.index-keys-from.result c.tail_bytes.result c.as_slice.result.now
    c.datagram_head-head.ensures.id c.datagram_head-head.ensures.key_id c.datagram_head-head.ensures.packet_id key_is c.tail_bytes.ensures (search rules) in
    subst (λ (bs : List ℕ). IfOk c.write_datagram.result (λ bytes. bytes ≡ bs)) whole c.write_datagram.ensures.ok
