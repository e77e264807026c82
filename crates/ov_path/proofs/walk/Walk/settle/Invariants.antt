use Rattle.ov_path.proofs.walk.Walk.settle.Given as goal

abbrev pub ghost-settled : goal.ghost-settled
ghost-settled g a = g.via
