use Rattle.std.proofs.Common.{bit_xor, sym, subst}
use Rattle.std.proofs.lemmas.Simd.{SwzOk, zip2_of_maps}
use mir.Syntax.{w8}
use Rattle.ov_aes.specs.declared.nibbles.TheConstants.{INNER_LOW, INNER_HIGH}
use Rattle.ov_aes.specs.Nibbles.{entry, inner}
use Rattle.ov_aes.proofs.NibbleFacts.{bytes-of, high, low, high_ok, low_ok, through}
use Rattle.ov_aes.proofs.nibbles.inner_form.Goals as goal

pub looked_up-requires : goal.looked_up-requires
looked_up-requires c =
    subst (SwzOk w8 16 16 0) (sym c.low_halves.ensures) (low_ok c.args.bytes (bytes-of c.args.bytes c.fits-bytes.0 c.fits-bytes.1))

pub looked_up-requires-2 : goal.looked_up-requires-2
looked_up-requires-2 c =
    subst (SwzOk w8 16 16 0) (sym c.high_halves.ensures) (high_ok c.args.bytes (bytes-of c.args.bytes c.fits-bytes.0 c.fits-bytes.1))

pub returns : goal.returns
unfolding inner
returns c =
    zip2_of_maps bit_xor (λ x. entry INNER_LOW (low x)) (λ x. entry INNER_HIGH (high x)) c.args.bytes
    (through INNER_LOW low c.args.bytes c.looked_up.ensures c.low_halves.ensures)
    (through INNER_HIGH high c.args.bytes c.looked_up-2.ensures c.high_halves.ensures)
