use Rattle.ov_path.specs.Walks.{Walking, IsOpen}
use Rattle.ov_path_tests.specs.Plain.{shown_of, hop_or}
use Rattle.ov_path_tests.proofs.tests.walks.run_on.Given as goal

abbrev pub invariant-loop-turn : goal.invariant-loop-turn
invariant-loop-turn l = Walking (hop_or l.desk.hop) l.walk.place l.line (shown_of l.desk) l.walk.stage × IsOpen l.walk.stage (shown_of l.desk).owing
