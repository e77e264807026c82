use Rattle.std.proofs.Common.{◌≡◌}
use Rattle.std.specs.Prelude.{take}
use Rattle.std.specs.VecDeque.{deque_capacity}
use Rattle.ov_model.specs.declared.hold.Owed.TheVariants as kind
use Rattle.ov_ticket.specs.Within.{IsUnlinked}
use Rattle.ov_ticket.proofs.within.unlink_peers.Given as goal

abbrev pub invariant-loop-peer : goal.invariant-loop-peer
invariant-loop-peer l = record {
  done : IsUnlinked kind.Peer (take l.peer-index l.peers) l.fn.inside l.inside l.fn.owed.items l.owed.items;
  capacity : deque_capacity l.owed ≡ deque_capacity l.fn.owed;
}
