-- Both seats are these counters'. After the join one seat has both lists of draws, in which no draw stands twice.
use Rattle.std.proofs.Common.{◌∙◌, sym, ap, rules}
use Rattle.ov_draw.proofs.Counts.{apart}
use Rattle.ov_draw.proofs.Keeps.{joins, compares}
use Rattle.ov_draw.proofs.draws.Draws.join.Goals as goal

pub join_seat-requires : goal.join_seat-requires
join_seat-requires c =
    let left = ap (λ d. d.of) c.left.view_is ∙ c.requires.left ∙ sym c.self.view_is in
    let right = ap (λ d. d.of) c.right.view_is ∙ c.requires.right ∙ sym c.self.view_is in (
      ap (λ d. d.name) left,
      ap (λ d. d.name) right,
      c.right.invariant.slotless,
      search rules,
      joins c.self.inside.table.shared.key 65536 _ _ _ _ c.left.invariant.live,
    )

pub load-word-requires : goal.load-word-requires
load-word-requires c =
    let left = ap (λ d. d.of) c.left.view_is ∙ c.requires.left ∙ sym c.self.view_is in
    (c.join_seat.ensures.0 ∙ ap (λ d. d.name) left, search rules, compares c.self.inside.table.shared.key 65536 _ _ _ _)

pub returns-clause-apart : goal.returns-clause-apart
returns-clause-apart c =
    let both = ap (λ m. m.0.drawn) c.join_seat.ensures.2 in
    let left = ap (λ d. d.drawn) c.left.view_is in
    let right = ap (λ d. d.drawn) c.right.view_is in
    apart c.args.left.drawn c.args.right.drawn (λ k n. rw (both, left, right) at (c.load-word.ensures.2.1 k n))
