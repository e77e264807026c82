use Rattle.ov_model.specs.Via.{via_of}
use Rattle.ov_course.proofs.lines.run_line.Given as goal

-- The next hops are those of the desk's routes.
abbrev pub ghost-walk_out : goal.ghost-walk_out
ghost-walk_out g a = via_of a.desk.now.routes
