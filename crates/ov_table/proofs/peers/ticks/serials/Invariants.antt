use Rattle.std.proofs.Common.{◌≡◌, ◌++◌}
use Rattle.std.specs.Prelude.{map, drop}
use Rattle.ov_keepalive.specs.declared.tick.TickFacts.{TickFacts}
use Rattle.ov_table.proofs.peers.ticks.serials.Given as goal

-- The serials so far and those that are left are all.
abbrev pub invariant-loop-one : goal.invariant-loop-one
invariant-loop-one l = l.list.items ++ map (λ (f : TickFacts). f.serial) (drop l.one-index l.facts) ≡ map (λ (f : TickFacts). f.serial) l.facts
