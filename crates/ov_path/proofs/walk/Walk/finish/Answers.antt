use Rattle.std.proofs.Common.{sym, ◌∙◌, ap}
use Rattle.std.specs.Prelude.{Ok, Err}
use Rattle.ov_path.specs.Stages.{ends}
use Rattle.ov_path.proofs.Ending.{finish_by}
use Rattle.ov_path.proofs.walk.Walk.finish.Goals as goal

pub returns-in-Ok-clause-then : goal.returns-in-Ok-clause-then
returns-in-Ok-clause-then g c = finish_by (Ok c.in-Ok.answer) _ _ c.requires.1 (sym c.in-Ok.is ∙ c.into_answer.ensures.ends ∙ ap ends c.replace.ensures.value) c.owed.ensures.first c.is_some.ensures c.if-is_some.false

pub returns-in-Err-clause-then : goal.returns-in-Err-clause-then
returns-in-Err-clause-then g c = rw c.enter.ensures (finish_by (Err c.in-Err.stage) _ _ c.requires.1 (sym c.in-Err.is ∙ c.into_answer.ensures.ends ∙ ap ends c.replace.ensures.value) c.owed.ensures.first c.is_some.ensures c.if-is_some.false)
