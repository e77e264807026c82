use Rattle.std.proofs.Common.{rules}
use Rattle.ov_turn.proofs.Turning.{closes}
use Rattle.ov_turn.proofs.lock.TicketLock.close.Goals as goal

pub returns-clause-seen : goal.returns-clause-seen
returns-clause-seen g c = (closes g.S.Kept.history g.S.Kept.live g.S.Kept.dying _ _ _ _ _ _ c.requires.whole (search rules) c.close_with-closed.ensures.values.2 c.take-kept.ensures.value).0

pub returns-clause-own : goal.returns-clause-own
returns-clause-own g c = (closes g.S.Kept.history g.S.Kept.live g.S.Kept.dying _ _ _ _ _ _ c.requires.whole (search rules) c.close_with-closed.ensures.values.2 c.take-kept.ensures.value).1

pub returns-clause-cells : goal.returns-clause-cells
returns-clause-cells g c = (closes g.S.Kept.history g.S.Kept.live g.S.Kept.dying _ _ _ _ _ _ c.requires.whole (search rules) c.close_with-closed.ensures.values.2 c.take-kept.ensures.value).2
