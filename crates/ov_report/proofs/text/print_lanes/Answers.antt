-- The answers of one lane more, or of one that didn't pass.
use Rattle.std.proofs.Common.{ℕ, ◌+◌, ◌∙◌, ap, arith}
use Rattle.std.proofs.lemmas.List.{take_all}
use Rattle.ov_model.specs.declared.report.LaneLog.{LaneLog}
use Rattle.ov_report.specs.Summary.{answers_text}
use Rattle.ov_report.proofs.Passing.{handed_on}
use Rattle.ov_report.proofs.Texts.{passed_more, stopped_at, log_text, logs_are, answers_are}
use Rattle.ov_report.proofs.text.print_lanes.Goals as goal

pub loop-log-preserved : goal.loop-log-preserved
loop-log-preserved g c = record {
  passed = passed_more log_text _ _ _ _ _ _ _ _ _ _ c.loop-log-test.true
      (answers_are c.loop-log.number 0 c.as_slice.result.now ∙ ap (λ k. answers_text k 0 c.as_slice.result.now) c.loop-log.invariant.number ∙ ap (answers_text c.loop-log.log-index 0) (c.as_slice.ensures ∙ ap (λ (log : LaneLog). log.answers) c.log-item.is))
      c.loop-log.invariant.passed c.in_ok-print_list.ensures.passed;
  bound = λ held. c.in_ok-print_list.ensures.bound (c.loop-log.invariant.bound held);
  later = omega (arith, c.loop-log.invariant.later, c.print_list.ensures.later);
  kept = c.in_ok-print_list.ensures.kept ∙ c.loop-log.invariant.kept;
  number = ap (λ (k : ℕ). k + 1) c.loop-log.invariant.number;
}

pub returns-in_err-print_list-clause-stopped : goal.returns-in_err-print_list-clause-stopped
returns-in_err-print_list-clause-stopped g c = handed_on _ _ _ c.from_residual.ensures
    (rw (← logs_are 0 c.args.lanes.now) (stopped_at log_text _ _ _ _ _ _ _ _ _ _ _ _ _ c.loop-log-test.true
    (answers_are c.loop-log.number 0 c.as_slice.result.now ∙ ap (λ k. answers_text k 0 c.as_slice.result.now) c.loop-log.invariant.number ∙ ap (answers_text c.loop-log.log-index 0) (c.as_slice.ensures ∙ ap (λ (log : LaneLog). log.answers) c.log-item.is))
    c.loop-log.invariant.passed c.loop-log.invariant.later c.in_err-print_list.ensures.stopped))

pub returns-clause-passed : goal.returns-clause-passed
returns-clause-passed g c = rw (← logs_are 0 c.args.lanes.now) (rw (take_all c.loop-log.log-index c.args.lanes.now c.loop-log-test.false) at c.loop-log.invariant.passed)
