use Rattle.std.proofs.Common.{◌≡◌, []}
use Rattle.std.specs.Prelude.{map}
use Rattle.std.specs.List.{range_with_len}
use Rattle.ov_core.specs.Scripts.{course_of}
use Rattle.ov_core.proofs.course.new_courses.Given as goal

abbrev pub invariant-loop-lane : goal.invariant-loop-lane
invariant-loop-lane l = l.courses.items ≡ map (course_of []) (range_with_len 0 l.lane)
