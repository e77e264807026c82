use Rattle.std.proofs.Common.{◌≡◌, ◌++◌}
use Rattle.std.specs.Prelude.{drop}
use Rattle.ov_keepalive.specs.Rule.{expired, due}
use Rattle.ov_keepalive.proofs.tick.lists.Given as goal

-- What was found and what is left to find is what there is to find.
abbrev pub invariant-loop-peer : goal.invariant-loop-peer
invariant-loop-peer l = record {
  expired : l.expired.items ++ expired l.now (drop l.peer-index l.facts) ≡ expired l.now l.facts;
  due : l.due.items ++ due l.now (drop l.peer-index l.facts) ≡ due l.now l.facts;
}
