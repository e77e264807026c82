-- The word under its name.
use Rattle.std.proofs.Common.{codes, refl, sym, subst, true, Option}
use Rattle.std.specs.Prelude.{option_map}
use Rattle.serde_json.specs.Data.{string}
use Rattle.ov_model.specs.declared.command.Slot.{Slot}
use Rattle.ov_line.specs.Grammar.{slot_word}
use Rattle.ov_write.specs.Text.{Puts}
use Rattle.ov_write.proofs.Putting.{puts_word, plain_text, slot_plain}
use Rattle.ov_write.proofs.object.put_slot.Goals as goal

pub returns : goal.returns
returns c =
    subst (λ (o : Option Slot). Puts c.args.page.now.items c.put_text.new.page.items c.args.later true (codes "slot") (option_map (λ (x : Slot). string (slot_word x)) o)) (sym c.in-Some.is)
    (puts_word c.args.page.now.items c.put_text.new.page.items c.args.later (codes "slot") c.slot_text.result.now (slot_word c.in-Some.slot) c.slot_text.ensures (slot_plain c.in-Some.slot)
    (c.in_ok-put_text.ensures (plain_text (codes "slot") refl)))
