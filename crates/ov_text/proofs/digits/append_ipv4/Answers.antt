-- The pieces follow one another, and none is escaped.
use Rattle.std.proofs.Common.{◌∙◌, ◌++◌, ap, sym}
use Rattle.ov_text.proofs.Lines.{joined}
use Rattle.ov_text.proofs.Plain.{ipv4_parts, ipv4_plain}
use Rattle.ov_text.proofs.digits.append_ipv4.Goals as goal

pub returns-clause-text : goal.returns-clause-text
returns-clause-text c =
    joined c.args.page.now.items _ _ _ _ c.in_ok-append_octet.ensures.text
    (joined c.append_octet.new.page.items _ _ _ _ c.in_ok-append_octet-2.ensures.text
    (joined c.append_octet-2.new.page.items _ _ _ _ c.in_ok-append_octet-3.ensures.text
    c.in_ok-append_octet-4.ensures.text))
    ∙ ap (λ t. c.args.page.now.items ++ t) (sym (ipv4_parts c.args.octets))

pub returns-clause-plain : goal.returns-clause-plain
returns-clause-plain c = ipv4_plain c.args.octets c.in_ok-append_octet.ensures.plain c.in_ok-append_octet-2.ensures.plain c.in_ok-append_octet-3.ensures.plain c.in_ok-append_octet-4.ensures.plain
