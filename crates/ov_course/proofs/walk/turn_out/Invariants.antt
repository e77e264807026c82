use Rattle.ov_course.proofs.Turns.{Going}
use Rattle.ov_course.proofs.walk.turn_out.Given as goal

abbrev pub ghost-turn : goal.ghost-turn
ghost-turn g a = g.via

-- The line goes on, and what it shows happened one after the other.
abbrev pub invariant-loop : goal.invariant-loop
invariant-loop g l = Going g.D.Desk.view g.D.Desk.does g.via l.fn.walk.place l.fn.line l.fn.desk l.desk l.walk
