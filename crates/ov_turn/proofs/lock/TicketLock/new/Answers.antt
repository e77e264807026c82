use Rattle.std.proofs.Common.{◌≡◌, ℕ, ◌+◌, List, [], ◌∷◌, ◌++◌, replicate, sym, ap, subst, ◌∙◌}
use Rattle.atomic_table.specs.Table.{opening}
use Rattle.ov_turn.specs.TurnRule.{whole}
use Rattle.ov_turn.proofs.Turning.{T, opens}
use Rattle.ov_turn.proofs.lock.TicketLock.new.Goals as goal

pub new-requires : goal.new-requires
new-requires g c =
    let words : c.as_slice.result.now ≡ replicate (3 + c.from-count.result) 0 = c.as_slice.ensures.value ∙ c.in-Ok.ensures.items_if_clones_equal (λ y h. h) ∙ ap (λ (n : ℕ). replicate (3 + n) 0) (sym c.from-count.ensures) in
    let slots : c.push.new.self.items ≡ c.args.kept ∷ [] = c.in_default-push.ensures.items ∙ ap (λ (l : List g.row.S.Denot). l ++ c.args.kept ∷ []) c.new-slots.ensures.items in
    subst (λ (z : List ℕ × List g.row.S.Denot). T g.S.Kept.history g.S.Kept.live g.S.Kept.dying c.from-count.result (opening z.0 z.1 (whole c.from-count.result)))
    (λ i. (sym words i, sym slots i))
    (opens g.S.Kept.history g.S.Kept.live g.S.Kept.dying c.from-count.result c.args.kept c.requires.empty c.requires.live c.requires.dying)
