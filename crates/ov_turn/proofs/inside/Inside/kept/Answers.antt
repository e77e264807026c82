use Rattle.std.proofs.Common.{rules}
use Rattle.ov_turn.specs.Slots.{kept_in}
use Rattle.ov_turn.proofs.Slots.{slot_first, slot_value, lent_same}
use Rattle.ov_turn.proofs.inside.Inside.kept.Goals as goal

pub slot_mut-requires : goal.slot_mut-requires
slot_mut-requires g c = let it = c.args.self.now in (it.here, (kept_in it.seat.me.1 it.slot.0, slot_first it.seat.me.1 it.slot.0))

pub returns : goal.returns
returns g c = let it = c.args.self.now in (
  (search rules, λ w. lent_same it w _ _ _ _),
  record { writes_back = tt; value = slot_value it.seat.me.1 it.slot.0 _ _ c.slot_mut.ensures.value },
)
