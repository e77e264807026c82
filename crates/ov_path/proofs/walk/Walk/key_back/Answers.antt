use Rattle.std.proofs.Common.{refl}
use Rattle.ov_path.proofs.Going.{key_given_step}
use Rattle.ov_path.proofs.Making.{key_made}
use Rattle.ov_path.proofs.walk.Walk.key_back.Goals as goal

pub returns-clause-then : goal.returns-clause-then
returns-clause-then g c = rw c.enter.ensures (key_given_step c.give_back_key.result c.requires.1 c.give_back_key.ensures.gave, tt)

pub returns-clause-made : goal.returns-clause-made
returns-clause-made g c = key_made c.give_back_key.result c.requires.1 c.give_back_key.ensures.gave

pub returns-clause-stays : goal.returns-clause-stays
returns-clause-stays g c = record { keys = c.give_back_key.ensures.gave.leaves.grows; place = rw c.enter.ensures refl }
