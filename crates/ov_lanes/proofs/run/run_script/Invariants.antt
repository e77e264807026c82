use Rattle.ov_lanes.proofs.run.run_script.Given as goal

abbrev pub ghost-run_seated : goal.ghost-run_seated
ghost-run_seated g a = record { table = a.ovpn.now; lines = g.it.lines; head = g.it.head }
