use Rattle.std.specs.Prelude.{None}
use Rattle.ov_index.proofs.Keys.{updated}
use Rattle.ov_index.proofs.names.take.Goals as goal

pub returns-clause-names : goal.returns-clause-names
returns-clause-names c = updated c.args.owners.now c.remove.new.self c.args.name None c.remove.ensures.updates.0
