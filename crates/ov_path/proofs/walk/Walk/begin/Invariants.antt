use Rattle.ov_path.proofs.walk.Walk.begin.Given as goal

abbrev pub ghost-command : goal.ghost-command
ghost-command g a = g.via

abbrev pub ghost-look : goal.ghost-look
ghost-look g a = g.via
