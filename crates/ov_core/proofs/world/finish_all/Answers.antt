-- One shard more is closed.
use Rattle.std.proofs.Common.{rules, [], ◌∷◌}
use Rattle.std.proofs.lemmas.List.{map-append}
use Rattle.ov_replay.specs.History.{History}
use Rattle.ov_core.proofs.world.finish_all.Goals as goal

pub loop-shard-preserved : goal.loop-shard-preserved
loop-shard-preserved c = rw (map-append (λ (s : History). s.entries) c.loop-shard.yielded (c.in-Some.shard ∷ [])) (search rules)
