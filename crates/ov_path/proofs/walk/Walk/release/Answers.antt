use Rattle.ov_path.proofs.Going.{release_step}
use Rattle.ov_path.proofs.Making.{release_made, made_by}
use Rattle.ov_path.proofs.walk.Walk.release.Goals as goal

pub finish-requires : goal.finish-requires
finish-requires g c = λ κs l. (l, release_step c.args.owed c.requires.1.0 c.requires.1.1 c.release.ensures.released)

pub returns-clause-made : goal.returns-clause-made
returns-clause-made g c = made_by c.finish.result (release_made c.args.owed c.requires.1.1 c.release.ensures.released)

pub returns-clause-stays : goal.returns-clause-stays
returns-clause-stays g c = record { keys = c.release.ensures.released.leaves.grows; place = c.finish.ensures.place }
