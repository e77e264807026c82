use Rattle.ov_path.proofs.walk.Walk.peer_back.Given as goal

abbrev pub ghost-finish : goal.ghost-finish
ghost-finish g a = g.via
