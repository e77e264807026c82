use Rattle.ov_path.proofs.ping.ping.Given as goal

abbrev pub ghost-look : goal.ghost-look
ghost-look g a = g.via

abbrev pub ghost-send : goal.ghost-send
ghost-send g a = g.via

abbrev pub ghost-spend : goal.ghost-spend
ghost-spend g a = g.via
