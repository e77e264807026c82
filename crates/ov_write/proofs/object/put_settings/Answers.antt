-- Each name in its place.
use Rattle.std.proofs.Common.{List, ℕ, false, codes, drop, refl}
use Rattle.std.specs.Prelude.{option_map}
use Rattle.serde_json.specs.Data.{string}
use Rattle.ov_model.specs.declared.command.Slot.{Slot}
use Rattle.ov_model.specs.declared.netlink.Cipher.{Cipher}
use Rattle.ov_model.specs.declared.netlink.NlKeyConf.{NlKeyConf}
use Rattle.ov_line.specs.Grammar.{cipher_word, slot_word}
use Rattle.ov_write.specs.Text.{Field, num, dir_data, conf_fields, conf_members}
use Rattle.ov_write.proofs.Putting.{puts_on, plain_text}
use Rattle.ov_write.proofs.object.put_settings.Goals as goal

pub returns : goal.returns
unfolding conf_members
returns c =
    let k : NlKeyConf = c.args.conf.now in
    let fs : List Field = conf_fields k in
    let last : List ℕ = c.extend_from_slice.new.self.items in
    puts_on (c.args.page.now.items) (c.put_cipher.new.page.items) (false) (c.in_ok-later.later) (codes "cipher-alg") (option_map (λ (c : Cipher). string (cipher_word c)) k.cipher) (drop 1 fs) last (c.in_ok-later.ensures) (
    puts_on (c.put_cipher.new.page.items) (c.put_dir.new.page.items) (c.in_ok-later.later) (c.in_ok-later-2.later) (codes "decrypt-dir") (option_map dir_data k.decrypt) (drop 2 fs) last (c.in_ok-later-2.ensures (plain_text (codes "decrypt-dir") refl)) (
    puts_on (c.put_dir.new.page.items) (c.put_dir-2.new.page.items) (c.in_ok-later-2.later) (c.in_ok-later-3.later) (codes "encrypt-dir") (option_map dir_data k.encrypt) (drop 3 fs) last (c.in_ok-later-3.ensures (plain_text (codes "encrypt-dir") refl)) (
    puts_on (c.put_dir-2.new.page.items) (c.put_number.new.page.items) (c.in_ok-later-3.later) (c.in_ok-later-4.later) (codes "key-id") (option_map num k.key_id) (drop 4 fs) last (c.in_ok-later-4.ensures (plain_text (codes "key-id") refl)) (
    puts_on (c.put_number.new.page.items) (c.put_number-2.new.page.items) (c.in_ok-later-4.later) (c.in_ok-later-5.later) (codes "peer-id") (option_map num k.peer_id) (drop 5 fs) last (c.in_ok-later-5.ensures (plain_text (codes "peer-id") refl)) (
    puts_on (c.put_number-2.new.page.items) (c.put_slot.new.page.items) (c.in_ok-later-5.later) (c.in_ok-_later._later) (codes "slot") (option_map (λ (s : Slot). string (slot_word s)) k.slot) (drop 6 fs) last (c.in_ok-_later.ensures) (
    c.in_ok-extend_from_slice.ensures.items))))))
