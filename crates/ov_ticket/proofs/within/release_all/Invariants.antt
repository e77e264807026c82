use Rattle.std.proofs.Common.{◌≡◌, ◌+◌, ◌++◌, List, length}
use Rattle.std.specs.VecDeque.{deque_capacity}
use Rattle.ov_model.specs.declared.hold.Owed.{Owed}
use Rattle.ov_model.specs.Events.{releases}
use Rattle.ov_ticket.specs.Within.{IsReleasing, HasMade, entries_of}
use Rattle.ov_ticket.proofs.within.release_all.Given as goal

abbrev pub invariant-loop-done : goal.invariant-loop-done
invariant-loop-done l = record {
  left : length l.owed.items + l._done ≡ l.count;
  gone : List Owed;
  split : l.fn.owed.items ≡ gone ++ l.owed.items;
  releasing : IsReleasing l.owed.items l.inside;
  made : HasMade (entries_of (releases l.place l.at gone)) l.fn.inside l.inside;
  capacity : deque_capacity l.owed ≡ deque_capacity l.fn.owed;
}
