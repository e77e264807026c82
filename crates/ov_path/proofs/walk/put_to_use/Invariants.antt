use Rattle.ov_path.proofs.walk.put_to_use.Given as goal

abbrev pub ghost-receive : goal.ghost-receive
ghost-receive g a = g.via
