use Rattle.ov_path.proofs.walk.use_draw.Given as goal

abbrev pub ghost-send : goal.ghost-send
ghost-send g a = g.via

abbrev pub ghost-spend : goal.ghost-spend
ghost-spend g a = g.via
