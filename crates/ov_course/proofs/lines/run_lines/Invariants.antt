use Rattle.ov_course.proofs.Following.{RunTo}
use Rattle.ov_course.proofs.lines.run_lines.Given as goal

-- So many lines are answered.
abbrev pub invariant-loop-line : goal.invariant-loop-line
invariant-loop-line g l = RunTo l.fn.lane l.fn.first l.fn.lines l.fn.desk l.desk l.fn.answers.items l.answers.items l.line-index l.number
