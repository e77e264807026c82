use Rattle.std.proofs.Common.{length, take}
use Rattle.ov_lanes.proofs.run.run_all.Given as goal

abbrev pub ghost-run_head : goal.ghost-run_head
ghost-run_head g a = g.it

-- The head has no more lines than the script.
abbrev pub ghost-meet_all : goal.ghost-meet_all
ghost-meet_all g a = record { table = g.it.table; lines = g.it.lines; head = length (take g.it.head g.it.lines) }
