use Rattle.ov_course.proofs.walk.walk_out.Given as goal

abbrev pub ghost-turn_out : goal.ghost-turn_out
ghost-turn_out g a = g.via
