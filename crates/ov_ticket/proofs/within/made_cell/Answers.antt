use Rattle.std.proofs.Common.{◌≡◌, ◌<◌, ◌+◌, ℕ, List, [], ◌∷◌, refl, arith, subst, sym, ap, ◌∙◌}
use Rattle.std.proofs.lemmas.Bool.{eq-eqb}
use Rattle.ov_base.specs.Sums.{count_of}
use Rattle.ov_model.specs.declared.act.Act.TheVariants as act
use Rattle.ov_model.specs.declared.command.Command.{Command}
use Rattle.ov_model.specs.declared.reply.Reply.{Reply}
use Rattle.ov_model.specs.declared.reply.Reply.TheVariants as reply
use Rattle.ov_table.specs.Cells.{made_cells}
use Rattle.ov_ticket.proofs.within.made_cell.Goals as goal

pub overflow_add-result : goal.overflow_add-result
overflow_add-result c =
    let at = c.in-KeyNew-Made in
    let key : ℕ = at.key in
    let made : made_cells (act.Do c.args.command.now) c.args.reply.now ≡ (4096 + key) ∷ [] = ap (λ (r : Reply). made_cells (act.Do c.args.command.now) r) at.is-1 ∙ ap (λ (q : Command). made_cells (act.Do q) (reply.Made key)) at.is-0 in
    let one : 0 < count_of (4096 + key) ((4096 + key) ∷ []) = rw (eq-eqb (4096 + key) (4096 + key) refl) (omega arith) in
    let lt : 4096 + key < 69632 = c.requires (4096 + key) (subst (λ (l : List ℕ). 0 < count_of (4096 + key) l) (sym made) one) in
    omega arith
