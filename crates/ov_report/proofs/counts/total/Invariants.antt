use Rattle.std.proofs.Common.{ℕ, ◌≡◌, take, sum_by}
use Rattle.std.specs.Fn.{FnReturnsAt}
use Rattle.ov_report.proofs.counts.total.Given as goal

abbrev pub invariant-loop-member : goal.invariant-loop-member
invariant-loop-member g l =
    (value : g.row.T.Denot → ℕ) → ((member : g.row.T.Denot) (n : ℕ) → FnReturnsAt g.F.Fn l.count member n → n ≡ value member)
    → l.sum ≡ sum_by value (take l.member-index l.list)
