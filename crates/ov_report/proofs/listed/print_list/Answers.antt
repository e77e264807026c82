-- A line more, or a line that didn't pass.
use Rattle.std.proofs.Common.{ℕ, ◌+◌, ◌∙◌, ap, arith}
use Rattle.ov_report.proofs.Passing.{handed_on, no_memory, refilled, refilled_stop}
use Rattle.ov_report.proofs.Texts.{passed_more, stopped_at}
use Rattle.ov_report.proofs.listed.print_list.Goals as goal

pub loop-member-preserved : goal.loop-member-preserved
loop-member-preserved g c = record {
  passed = passed_more (g.T.Listed.text c.args.owner) _ _ _ _ _ _ _ _ _ _ c.loop-member-test.true
      (ap (λ k. g.T.Listed.text c.args.owner k c.member-item.result) c.loop-member.invariant.number ∙ ap (g.T.Listed.text c.args.owner c.loop-member.member-index) c.member-item.is)
      c.loop-member.invariant.passed (refilled _ _ _ _ _ _ c.in_ok-append.ensures.text c.in_ok-pass.ensures.passed);
  bound = λ held. c.in_ok-pass.ensures.bound;
  later = omega (arith, c.loop-member.invariant.later, c.pass.ensures.later);
  kept = c.in_ok-pass.ensures.kept ∙ c.loop-member.invariant.kept;
  number = ap (λ (k : ℕ). k + 1) c.loop-member.invariant.number;
}

pub returns-in_err-append-clause-stopped : goal.returns-in_err-append-clause-stopped
returns-in_err-append-clause-stopped g c = handed_on _ _ _ c.from_residual.ensures
    (stopped_at (g.T.Listed.text c.args.owner) _ _ _ _ _ _ _ _ _ _ _ _ _ c.loop-member-test.true
    (ap (λ k. g.T.Listed.text c.args.owner k c.member-item.result) c.loop-member.invariant.number ∙ ap (g.T.Listed.text c.args.owner c.loop-member.member-index) c.member-item.is)
    c.loop-member.invariant.passed c.loop-member.invariant.later (no_memory _ _ _ _ _ c.append.ensures.some))

pub returns-in_err-pass-clause-stopped : goal.returns-in_err-pass-clause-stopped
returns-in_err-pass-clause-stopped g c = handed_on _ _ _ c.from_residual-in_err-pass.ensures
    (stopped_at (g.T.Listed.text c.args.owner) _ _ _ _ _ _ _ _ _ _ _ _ _ c.loop-member-test.true
    (ap (λ k. g.T.Listed.text c.args.owner k c.member-item.result) c.loop-member.invariant.number ∙ ap (g.T.Listed.text c.args.owner c.loop-member.member-index) c.member-item.is)
    c.loop-member.invariant.passed c.loop-member.invariant.later (refilled_stop _ _ _ _ _ _ _ _ c.in_ok-append.ensures.text c.in_err-pass.ensures.stopped))
