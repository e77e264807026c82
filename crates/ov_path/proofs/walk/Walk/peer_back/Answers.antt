use Rattle.std.proofs.Common.{refl, ◌∙◌}
use Rattle.ov_path.proofs.Going.{peer_given_step}
use Rattle.ov_path.proofs.Making.{peer_made, made_by}
use Rattle.ov_path.proofs.walk.Walk.peer_back.Goals as goal

pub finish-requires : goal.finish-requires
finish-requires g c = λ κs l. (l, rw c.enter.ensures (peer_given_step c.give_back.result c.requires.1.0 c.requires.1.1 c.give_back.ensures.gave))

pub returns-clause-made : goal.returns-clause-made
returns-clause-made g c = made_by c.finish.result (peer_made c.give_back.result c.requires.1.0 c.requires.1.1 c.give_back.ensures.gave)

pub returns-clause-stays : goal.returns-clause-stays
returns-clause-stays g c = record { keys = c.give_back.ensures.gave.leaves.grows; place = c.finish.ensures.place ∙ rw c.enter.ensures refl }
