-- Each name in its place.
use Rattle.std.proofs.Common.{List, ℕ, false, codes, drop, refl}
use Rattle.std.specs.Prelude.{option_map}
use Rattle.ov_model.specs.declared.netlink.NlKeyDir.{NlKeyDir}
use Rattle.ov_write.specs.Text.{Field, hex, dir_fields, dir_members}
use Rattle.ov_write.proofs.Putting.{puts_on, plain_text}
use Rattle.ov_write.proofs.object.put_parts.Goals as goal

pub returns : goal.returns
unfolding dir_members
returns c =
    let d : NlKeyDir = c.args.dir.now in
    let fs : List Field = dir_fields d in
    let last : List ℕ = c.extend_from_slice.new.self.items in
    puts_on (c.args.page.now.items) (c.put_octets.new.page.items) (false) (c.in_ok-later.later) (codes "cipher-key") (option_map hex d.cipher_key) (drop 1 fs) last (c.in_ok-later.ensures (plain_text (codes "cipher-key") refl)) (
    puts_on (c.put_octets.new.page.items) (c.put_octets-2.new.page.items) (c.in_ok-later.later) (c.in_ok-_later._later) (codes "nonce-tail") (option_map hex d.nonce_tail) (drop 2 fs) last (c.in_ok-_later.ensures (plain_text (codes "nonce-tail") refl)) (
    c.in_ok-extend_from_slice.ensures.items))
