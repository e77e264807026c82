use Rattle.ov_path.proofs.walk.Walk.use_hold.Given as goal

abbrev pub ghost-put_to_use : goal.ghost-put_to_use
ghost-put_to_use g a = g.via
