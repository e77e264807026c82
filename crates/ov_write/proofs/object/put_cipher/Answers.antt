-- The word under its name.
use Rattle.std.proofs.Common.{codes, refl, sym, subst, true, Option}
use Rattle.std.specs.Prelude.{option_map}
use Rattle.serde_json.specs.Data.{string}
use Rattle.ov_model.specs.declared.netlink.Cipher.{Cipher}
use Rattle.ov_line.specs.Grammar.{cipher_word}
use Rattle.ov_write.specs.Text.{Puts}
use Rattle.ov_write.proofs.Putting.{puts_word, plain_text, cipher_plain}
use Rattle.ov_write.proofs.object.put_cipher.Goals as goal

pub returns : goal.returns
returns c =
    subst (λ (o : Option Cipher). Puts c.args.page.now.items c.put_text.new.page.items c.args.later true (codes "cipher-alg") (option_map (λ (x : Cipher). string (cipher_word x)) o)) (sym c.in-Some.is)
    (puts_word c.args.page.now.items c.put_text.new.page.items c.args.later (codes "cipher-alg") c.cipher_text.result.now (cipher_word c.in-Some.cipher) c.cipher_text.ensures (cipher_plain c.in-Some.cipher)
    (c.in_ok-put_text.ensures (plain_text (codes "cipher-alg") refl)))
