use Rattle.std.proofs.Common.{rules, ◌≡◌, ℕ, ◌+◌, true, sym, ap, subst, ◌∙◌, arith}
use Rattle.ov_turn.specs.Lists.{all_below}
use Rattle.ov_turn.specs.Views.{holds_fit}
use Rattle.ov_turn.proofs.Members.{below_append}
use Rattle.ov_turn.proofs.Turning.{join_step, meet_step}
use Rattle.ov_turn.proofs.lock.TicketLock.join.Goals as goal

pub join_seat-requires : goal.join_seat-requires
join_seat-requires g c = (search rules, search rules, search rules, search rules, join_step g.S.Kept.history g.S.Kept.live g.S.Kept.dying _ _ _ _ _ (search rules) (search rules) (search rules) (search rules) (search rules) c.requires.apart)

pub load-requires : goal.load-requires
load-requires g c = (search rules, search rules, meet_step g.S.Kept.history g.S.Kept.live g.S.Kept.dying _ _ _ _ (search rules))

pub invariant_of-result : goal.invariant_of-result
invariant_of-result g c =
    let left = c.args.left in
    let right = c.args.right in
    let both = c.join_seat.ensures.2 in
    let met = c.load.ensures.2.0 in
    let same_table = c.load.ensures.0 ∙ c.join_seat.ensures.0 in
    let tables : left.seat.table_id ≡ right.seat.table_id = c.requires.left ∙ sym c.requires.right in
    let sizes : left.seat.me.0.cells ≡ right.seat.me.0.cells = let a = left.fit.1 in let b = right.fit.1 in let t = ap (λ z. z.words) tables in omega arith in
    let share = ap (λ m. m.0.share) met ∙ ap (λ m. m.0.share) both in
    record {
      idle = (
        ap (λ m. m.1) met ∙ ap (λ m. m.1) both ∙ left.idle.0,
        ap (λ m. m.0.queued) met ∙ ap (λ m. m.0.queued) both ∙ left.idle.1,
        ap (λ m. m.0.inside) met ∙ ap (λ m. m.0.inside) both ∙ left.idle.2,
        (let part = left.idle.3 in omega arith),
      );
      fit = (
        ap (λ m. holds_fit m.0) met
            ∙ ap (λ m. holds_fit m.0) both
            ∙ below_append left.seat.me.0.cells left.seat.me.0.holds right.seat.me.0.holds left.fit.0 (subst (λ (n : ℕ). all_below n right.seat.me.0.holds ≡ true) (sym sizes) right.fit.0),
        ap (λ m. 3 + m.0.cells) met ∙ ap (λ m. 3 + m.0.cells) both ∙ left.fit.1 ∙ sym (ap (λ z. z.words) same_table),
      );
    }
