use Rattle.ov_lanes.proofs.run.run_lanes.Given as goal

-- The lines and the head are those that the call is given.
abbrev pub ghost-run_script : goal.ghost-run_script
ghost-run_script g a = record { lines = a.script.lines; head = a.head }
