use Rattle.ov_path.proofs.walk.Walk.command.Given as goal

abbrev pub ghost-finish : goal.ghost-finish
ghost-finish g a = g.via
