use Rattle.std.proofs.Common.{rules, List, ℕ, ap, ◌∙◌}
use Rattle.arrayvec.proofs.ArrayVecLemmas.{filter-from_retain}
use Rattle.ov_turn.specs.Lists.{without}
use Rattle.ov_hold.proofs.held.Held.remove.Goals as goal

pub returns : goal.returns
returns c = filter-from_retain _ _ _ (λ x b f' y called. search rules) _ _ c.retain.ensures.filtered ∙ ap (λ (l : List ℕ). without c.args.cell l) (c.self.view_is)
