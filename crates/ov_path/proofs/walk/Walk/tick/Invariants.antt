use Rattle.ov_path.proofs.walk.Walk.tick.Given as goal

abbrev pub ghost-ping : goal.ghost-ping
ghost-ping g a = g.via

abbrev pub ghost-finish : goal.ghost-finish
ghost-finish g a = g.via
