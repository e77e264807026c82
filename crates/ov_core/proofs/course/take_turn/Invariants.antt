use Rattle.ov_core.specs.Seats.{via_in}
use Rattle.ov_core.proofs.course.take_turn.Given as goal

abbrev pub ghost-turn : goal.ghost-turn
ghost-turn a = via_in a.desk.now
