use Rattle.ov_path.proofs.walk.Walk.release.Given as goal

abbrev pub ghost-finish : goal.ghost-finish
ghost-finish g a = g.via
