use Rattle.std.proofs.Common.{◌≡◌, ◌++◌}
use Rattle.std.specs.Prelude.{map, drop}
use Rattle.ov_index.specs.declared.ticks.Ranked.{Ranked}
use Rattle.ov_index.proofs.ticks.facts_in.Given as goal

-- The facts so far and those that are left are all.
abbrev pub invariant-loop-one : goal.invariant-loop-one
invariant-loop-one l = l.facts.items ++ map (λ (r : Ranked). r.facts) (drop l.one-index l.ranked) ≡ map (λ (r : Ranked). r.facts) l.ranked
