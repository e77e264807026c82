-- Both are proved of every run.
use Rattle.ov_model.proofs.Noted.{removals_noted}
use Rattle.ov_model.proofs.Freed.{all_released}
use Rattle.ov_model.proofs.laws.removals.Goals as goal

pub returns-clause-noted : goal.returns-clause-noted
returns-clause-noted c = removals_noted

pub returns-clause-released : goal.returns-clause-released
returns-clause-released c = all_released
