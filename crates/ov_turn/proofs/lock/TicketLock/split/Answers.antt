use Rattle.std.proofs.Common.{rules}
use Rattle.ov_turn.proofs.Turning.{split_step}
use Rattle.ov_turn.proofs.lock.TicketLock.split.Goals as goal

pub split_seat-second-requires : goal.split_seat-second-requires
split_seat-second-requires g c = (search rules, search rules, split_step g.S.Kept.history g.S.Kept.live g.S.Kept.dying _ _ _ (search rules) (search rules) c.requires.share)
