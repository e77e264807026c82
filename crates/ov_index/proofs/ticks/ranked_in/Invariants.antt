use Rattle.std.proofs.Common.{◌≡◌, ◌++◌}
use Rattle.std.specs.Prelude.{map, filter, drop}
use Rattle.ov_index.specs.Index.{present}
use Rattle.ov_index.specs.Ticks.{ranked_of, is_asked}
use Rattle.ov_index.proofs.ticks.ranked_in.Given as goal

-- What was asked for and what is left to ask for is what is asked of all.
abbrev pub invariant-loop-slot : goal.invariant-loop-slot
invariant-loop-slot l = l.ranked.items ++ map ranked_of (filter (is_asked l.now) (present (drop l.slot-index l.peers))) ≡ map ranked_of (filter (is_asked l.now) (present l.peers))
