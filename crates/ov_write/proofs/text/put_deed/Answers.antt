-- The words of a tick and of the end of the device stand in a text as they are.
use Rattle.std.proofs.Common.{◌≡◌, ◌++◌, false, codes, refl, sym, subst}
use Rattle.serde_json.specs.Written.{members_text}
use Rattle.ov_model.specs.declared.line.Deed.{Deed}
use Rattle.ov_write.specs.Text.{line_members}
use Rattle.ov_write.proofs.Putting.{plain_text}
use Rattle.ov_write.proofs.text.put_deed.Goals as goal

pub returns-in_ok-put_bare-in-Tick : goal.returns-in_ok-put_bare-in-Tick
unfolding line_members
returns-in_ok-put_bare-in-Tick c =
    subst (λ (a : Deed). c.put_bare.new.page.items ≡ c.args.page.now.items ++ members_text false (line_members c.args.line.now.at c.args.line.now.lane a)) (sym c.in-Tick.is)
    (c.in_ok-put_bare-in-Tick.ensures (plain_text (codes "tick") refl))

pub returns-in_ok-put_bare-in-Down : goal.returns-in_ok-put_bare-in-Down
unfolding line_members
returns-in_ok-put_bare-in-Down c =
    subst (λ (a : Deed). c.put_bare-in-Down.new.page.items ≡ c.args.page.now.items ++ members_text false (line_members c.args.line.now.at c.args.line.now.lane a)) (sym c.in-Down.is)
    (c.in_ok-put_bare-in-Down.ensures (plain_text (codes "down") refl))
