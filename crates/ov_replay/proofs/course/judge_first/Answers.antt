use Rattle.ov_replay.proofs.CourseLemmas.{stood_new}
use Rattle.ov_replay.proofs.course.judge_first.Goals as goal

pub returns-clause-ok : goal.returns-clause-ok
returns-clause-ok c =
    record {
      was = c.new-window.result;
      now = c.step_on.new.window;
      stood = stood_new _ _ c.requires c.new-window.ensures;
      judged = c.in_ok-made.ensures.ok;
      updates = c.in_ok-insert.ensures.updates;
    }
