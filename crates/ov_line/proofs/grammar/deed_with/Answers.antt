-- Where the form's own rule gives nothing, the line asks for nothing of that form.
use Rattle.std.proofs.Common.{◌≡◌, ◌∙◌, List, ℕ}
use Rattle.serde_json.specs.Data.{Data}
use Rattle.serde_json.specs.View.{view}
use Rattle.ov_base.specs.declared.address.Transport.{Transport}
use Rattle.ov_model.specs.declared.ident.PeerId.{PeerId}
use Rattle.ov_model.specs.declared.command.Reason.{Reason}
use Rattle.ov_model.specs.declared.line.Deed.{Deed}
use Rattle.ov_model.specs.declared.line.Deed.TheVariants as deed
use Rattle.ov_line.specs.declared.grammar.Form.TheVariants as form
use Rattle.ov_line.specs.declared.line.LineStop.TheVariants as stop
use Rattle.ov_line.specs.Forms.{deed_form}
use Rattle.ov_line.specs.Grammar.{IsDeed, IsRx, IsLoser}
use Rattle.ov_line.proofs.Options.{reads_not}
use Rattle.ov_line.proofs.grammar.deed_with.Goals as goal

rx_part : (d : Data) (asked : Deed) → deed_form asked ≡ form.Rx → IsDeed d asked → (receipt : Transport × List ℕ) × IsRx d receipt.0 receipt.1
rx_part d (deed.Netlink m) h is = absurd (cc h)
rx_part d (deed.Tx packet) h is = absurd (cc h)
rx_part d (deed.Rx from datagram) h is = ((from, datagram), is)
rx_part d (deed.Lost id why) h is = absurd (cc h)
rx_part d deed.Tick h is = absurd (cc h)
rx_part d deed.Down h is = absurd (cc h)

lost_part : (d : Data) (asked : Deed) → deed_form asked ≡ form.Lost → IsDeed d asked → (lost : PeerId × Reason) × IsLoser d lost.0 lost.1
lost_part d (deed.Netlink m) h is = absurd (cc h)
lost_part d (deed.Tx packet) h is = absurd (cc h)
lost_part d (deed.Rx from datagram) h is = absurd (cc h)
lost_part d (deed.Lost id why) h is = ((id, why), is)
lost_part d deed.Tick h is = absurd (cc h)
lost_part d deed.Down h is = absurd (cc h)

pub returns-in_err-from-in-Rx : goal.returns-in_err-from-in-Rx
returns-in_err-from-in-Rx c = reads_not c.from_residual-in_err-from-in-Rx.result c.in_err-from-in-Rx.field-0.0 (λ (receipt : Transport × List ℕ). IsRx (view c.args.value.now) receipt.0 receipt.1) _ c.from_residual-in_err-from-in-Rx.ensures c.in_err-from-in-Rx.ensures
    (λ asked h. rx_part (view c.args.value.now) asked (h.0 ∙ c.in-Rx.is) h.1)

pub returns-in_err-id-in-Lost : goal.returns-in_err-id-in-Lost
returns-in_err-id-in-Lost c = reads_not c.from_residual-in_err-id-in-Lost.result (stop.Bad c.in_err-id-in-Lost.field-0.0) (λ (lost : PeerId × Reason). IsLoser (view c.args.value.now) lost.0 lost.1) _ c.from_residual-in_err-id-in-Lost.ensures c.in_err-id-in-Lost.ensures
    (λ asked h. lost_part (view c.args.value.now) asked (h.0 ∙ c.in-Lost.is) h.1)
