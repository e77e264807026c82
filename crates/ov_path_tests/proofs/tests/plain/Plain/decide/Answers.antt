use Rattle.ov_path_tests.proofs.Plain.{has_key}
use Rattle.ov_path_tests.proofs.tests.plain.Plain.decide.Goals as goal

pub returns-then-is-clause-has : goal.returns-then-is-clause-has
returns-then-is-clause-has c = has_key c.args.self.now.pair c.args.act.now c.self.inside.peer

pub returns-else-ne-2-clause-has : goal.returns-else-ne-2-clause-has
returns-else-ne-2-clause-has c = has_key c.args.self.now.pair c.args.act.now c.self.inside.peer
