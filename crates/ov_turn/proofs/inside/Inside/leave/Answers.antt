use Rattle.std.proofs.Common.{rules}
use Rattle.ov_turn.proofs.Slots.{slot_is}
use Rattle.ov_turn.proofs.Turning.{leave_step}
use Rattle.ov_turn.proofs.inside.Inside.leave.Goals as goal

pub fetch_add-requires : goal.fetch_add-requires
fetch_add-requires g c = let it = c.args.self in (
  search rules,
  search rules,
  leave_step g.S.Kept.history g.S.Kept.live g.S.Kept.dying _ _ _ _ it.place.0 it.place.1 it.place.2 c.requires.linked.0 c.requires.linked.1 _ (slot_is it.seat.me.1 it.slot.0 it.slot.1) c.requires.history c.requires.lists.0 c.requires.lists.1,
)
