use Rattle.ov_path.proofs.walk.Walk.use_id.Given as goal

abbrev pub ghost-use_draw : goal.ghost-use_draw
ghost-use_draw g a = g.via
