-- The text of the address's family.
use Rattle.std.proofs.Common.{codes, refl, sym, subst, false, true, Some}
use Rattle.serde_json.specs.Data.{string}
use Rattle.ov_base.specs.declared.address.Addr.{Addr}
use Rattle.ov_write.specs.Text.{Puts, addr_text}
use Rattle.ov_write.proofs.Putting.{plain_text}
use Rattle.ov_write.proofs.object.put_addr.Goals as goal

pub returns-in_ok-put_dotted-in-V4 : goal.returns-in_ok-put_dotted-in-V4
returns-in_ok-put_dotted-in-V4 c =
    subst (λ (a : Addr). Puts c.args.page.now.items c.put_dotted.new.page.items false true (codes "addr") (Some (string (addr_text a)))) (sym c.in-V4.is)
    (c.in_ok-put_dotted-in-V4.ensures (plain_text (codes "addr") refl))

pub returns-in_ok-put_hex-in-V6 : goal.returns-in_ok-put_hex-in-V6
returns-in_ok-put_hex-in-V6 c =
    subst (λ (a : Addr). Puts c.args.page.now.items c.put_hex.new.page.items false true (codes "addr") (Some (string (addr_text a)))) (sym c.in-V6.is)
    (c.in_ok-put_hex-in-V6.ensures (plain_text (codes "addr") refl))
