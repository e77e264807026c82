use Rattle.std.specs.Prelude.{Some}
use Rattle.ov_index.proofs.Keys.{updated}
use Rattle.ov_index.proofs.names.put.Goals as goal

pub returns-clause-names : goal.returns-clause-names
returns-clause-names c = updated c.args.owners.now c.insert.new.self c.args.name (Some c.args.serial) c.in-Ok.ensures.updates.0
