-- Each kind of answer by its pieces.
use Rattle.std.proofs.Common.{◌∙◌, ap}
use Rattle.ov_report.specs.Print.{given_text}
use Rattle.ov_text.proofs.Lines.{kept_on}
use Rattle.ov_report.proofs.Lines.{keepalive_pieces, control_text, replied_text, sealed_text}
use Rattle.ov_report.proofs.answer.append_given.Goals as goal

pub returns-in-Reply : goal.returns-in-Reply
returns-in-Reply c = kept_on c.append_reply.result c.append_reply.new.page.items c.args.page.now.items _ _ c.append_reply.ensures (ap given_text c.in-Reply.is ∙ replied_text c.in-Reply.reply)

pub returns-in-Sealed : goal.returns-in-Sealed
returns-in-Sealed c = kept_on c.append_sealed.result c.append_sealed.new.page.items c.args.page.now.items _ _ c.append_sealed.ensures (ap given_text c.in-Sealed.is ∙ sealed_text c.in-Sealed.sealed)

pub returns-in-Keepalive : goal.returns-in-Keepalive
returns-in-Keepalive c = kept_on c.append_closed.result c.append_closed.new.page.items c.args.page.now.items _ _ (rw c.get.ensures.value at c.append_closed.ensures) (ap given_text c.in-Keepalive.is ∙ keepalive_pieces c.in-Keepalive.peer)

pub returns-in-Control : goal.returns-in-Control
returns-in-Control c = kept_on c.append.result c.append.new.page.items c.args.page.now.items _ _ c.append.ensures (ap given_text c.in-Control.is ∙ control_text)
