use Rattle.ov_path_tests.specs.Plain.{hop_or}
use Rattle.ov_path_tests.proofs.tests.walks.turn.Given as goal

abbrev pub ghost-turn : goal.ghost-turn
ghost-turn a = hop_or a.desk.now.hop
