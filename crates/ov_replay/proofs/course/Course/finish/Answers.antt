use Rattle.ov_replay.proofs.course.Course.finish.Goals as goal

pub returns-clause-judged : goal.returns-clause-judged
returns-clause-judged c = rw (c.of_vec.ensures) c.self.invariant.judged
