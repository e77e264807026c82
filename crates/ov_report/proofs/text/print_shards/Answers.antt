-- The steps of one shard more, or of one that didn't pass.
use Rattle.std.proofs.Common.{ℕ, ◌+◌, ◌∙◌, ap, arith}
use Rattle.std.proofs.lemmas.List.{take_all}
use Rattle.ov_report.specs.Summary.{replays_text}
use Rattle.ov_report.proofs.Passing.{handed_on}
use Rattle.ov_report.proofs.Texts.{passed_more, stopped_at, shards_are, replays_are}
use Rattle.ov_report.proofs.text.print_shards.Goals as goal

pub loop-shard-preserved : goal.loop-shard-preserved
loop-shard-preserved g c = record {
  passed = passed_more replays_text _ _ _ _ _ _ _ _ _ _ c.loop-shard-test.true
      (replays_are c.loop-shard.number 0 c.as_slice.result.now ∙ ap (λ k. replays_text k c.as_slice.result.now) c.loop-shard.invariant.number ∙ ap (replays_text c.loop-shard.shard-index) (c.as_slice.ensures ∙ c.shard-item.is))
      c.loop-shard.invariant.passed c.in_ok-print_list.ensures.passed;
  bound = λ held. c.in_ok-print_list.ensures.bound (c.loop-shard.invariant.bound held);
  later = omega (arith, c.loop-shard.invariant.later, c.print_list.ensures.later);
  kept = c.in_ok-print_list.ensures.kept ∙ c.loop-shard.invariant.kept;
  number = ap (λ (k : ℕ). k + 1) c.loop-shard.invariant.number;
}

pub returns-in_err-print_list-clause-stopped : goal.returns-in_err-print_list-clause-stopped
returns-in_err-print_list-clause-stopped g c = handed_on _ _ _ c.from_residual.ensures
    (rw (← shards_are 0 c.args.shards.now) (stopped_at replays_text _ _ _ _ _ _ _ _ _ _ _ _ _ c.loop-shard-test.true
    (replays_are c.loop-shard.number 0 c.as_slice.result.now ∙ ap (λ k. replays_text k c.as_slice.result.now) c.loop-shard.invariant.number ∙ ap (replays_text c.loop-shard.shard-index) (c.as_slice.ensures ∙ c.shard-item.is))
    c.loop-shard.invariant.passed c.loop-shard.invariant.later c.in_err-print_list.ensures.stopped))

pub returns-clause-passed : goal.returns-clause-passed
returns-clause-passed g c = rw (← shards_are 0 c.args.shards.now) (rw (take_all c.loop-shard.shard-index c.args.shards.now c.loop-shard-test.false) at c.loop-shard.invariant.passed)
