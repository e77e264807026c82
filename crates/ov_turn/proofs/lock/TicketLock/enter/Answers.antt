use Rattle.std.proofs.Common.{rules, ap, ◌∙◌, arith}
use Rattle.ov_turn.proofs.Turning.{queue_step, enter_step}
use Rattle.ov_turn.proofs.lock.TicketLock.enter.Goals as goal

pub fetch_add-ticket-requires : goal.fetch_add-ticket-requires
fetch_add-ticket-requires g c = (search rules, search rules, queue_step g.S.Kept.history g.S.Kept.live g.S.Kept.dying _ _ _ _ (search rules) (search rules) (search rules))

pub load-requires : goal.load-requires
load-requires g c = let stands = c.loop.invariant.2.2 in (search rules, search rules, enter_step g.S.Kept.history g.S.Kept.live g.S.Kept.dying _ _ _ _ (ap (λ v. v.queued) stands) (ap (λ v. v.inside) stands ∙ c.args.seat.idle.2) (let part = c.args.seat.idle.3 in let same = ap (λ v. v.share) stands in omega arith))
