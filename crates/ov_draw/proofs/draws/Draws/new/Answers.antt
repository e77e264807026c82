-- The words are as many copies of the first number.
use Rattle.std.proofs.Common.{◌∙◌, sym, rules, subst, List, ℕ, []}
use Rattle.atomic_table.specs.Table.{opening}
use Rattle.ov_draw.specs.Rule.{Kept}
use Rattle.ov_draw.specs.Steps.{whole}
use Rattle.ov_draw.proofs.Keeps.{opens}
use Rattle.ov_draw.proofs.draws.Draws.new.Goals as goal

pub of_words-requires : goal.of_words-requires
of_words-requires c =
    let words = c.as_slice.ensures.value ∙ c.in_ok-words.ensures.items_if_clones_equal (λ y h. h) in
    subst (λ (ws : List ℕ). Kept c.from-start.result 65536 (opening {S = Unit {0}} ws [] (whole c.from-start.result))) (sym words) (opens c.from-start.result 65536 (search rules) (search rules))
