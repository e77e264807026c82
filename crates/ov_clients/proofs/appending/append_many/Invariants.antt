use Rattle.ov_turn.specs.Seats.{share_of}
use Rattle.ov_clients.specs.Entries.{HasAppended}
use Rattle.ov_clients.proofs.appending.append_many.Given as goal

abbrev pub invariant-loop-number : goal.invariant-loop-number
invariant-loop-number g l = HasAppended l.lock (share_of l.fn.seat) l.thread l.number l.seat
