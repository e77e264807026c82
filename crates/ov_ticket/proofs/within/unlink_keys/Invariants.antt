use Rattle.std.proofs.Common.{◌≡◌, length}
use Rattle.std.specs.Prelude.{take}
use Rattle.std.specs.VecDeque.{deque_capacity}
use Rattle.ov_turn.specs.Insides.{kept_of}
use Rattle.ov_model.specs.declared.hold.Owed.TheVariants as kind
use Rattle.ov_ticket.specs.Within.{IsUnlinked}
use Rattle.ov_ticket.proofs.within.unlink_keys.Given as goal

abbrev pub invariant-loop-index : goal.invariant-loop-index
invariant-loop-index l = record {
  done : IsUnlinked kind.Key (take l.index (kept_of l.fn.inside).taken) l.fn.inside l.inside l.fn.owed.items l.owed.items;
  counted : l.count ≡ length (kept_of l.fn.inside).taken;
  capacity : deque_capacity l.owed ≡ deque_capacity l.fn.owed;
}
