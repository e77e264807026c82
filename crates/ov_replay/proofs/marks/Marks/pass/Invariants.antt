use Rattle.std.proofs.Common.{◌≡◌, ℕ, ◌+◌, ◌-◌, ◌<◌, ◌≤◌, false}
use Rattle.ov_replay.specs.Marks.{is_marked}
use Rattle.ov_replay.proofs.marks.Marks.pass.Given as goal

abbrev pub invariant-loop-passed : goal.invariant-loop-passed
invariant-loop-passed l = record {
  within : l.passed ≤ l.jump;
  passed : (id : ℕ) → l.from < id → id ≤ l.from + l.passed → is_marked l.self id ≡ false;
  kept : (id : ℕ) → id ≤ l.from → l.to < id + 2048 → is_marked l.self id ≡ is_marked l.fn.self id;
}

abbrev pub decreases-loop-passed : goal.decreases-loop-passed
decreases-loop-passed l = l.jump - l.passed
