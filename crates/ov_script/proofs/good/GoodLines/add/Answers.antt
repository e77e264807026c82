-- The line that couldn't be read has the next number.
use Rattle.std.proofs.Common.{rules, ◌≡◌, ◌+◌, ℕ, length, ap}
use Rattle.ov_script.proofs.good.GoodLines.add.Goals as goal

pub returns-in-Err-Bad-clause-refused : goal.returns-in-Err-Bad-clause-refused
returns-in-Err-Bad-clause-refused c =
    let count : c.len.result ≡ length c.args.self.now.lines.items = search rules in
    (ap (λ (n : ℕ). n + 1) count, (rw c.in-Err-Bad.field-0-is at c.in-Err-Bad.ensures.bad) tt)
