use Rattle.ov_lanes.proofs.run.run_seated.Given as goal

abbrev pub ghost-seat : goal.ghost-seat
ghost-seat g a = g.it.lines

abbrev pub ghost-run_all : goal.ghost-run_all
ghost-run_all g a = g.it
