use Rattle.ov_index.proofs.Keys.{reordered}
use Rattle.ov_index.proofs.names.make_room.Goals as goal

pub returns-clause-same : goal.returns-clause-same
returns-clause-same c = reordered c.args.owners.now c.reserve.new.self c.reserve.ensures.entries.2
