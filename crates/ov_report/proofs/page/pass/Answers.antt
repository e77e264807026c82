-- A page that wasn't written whole.
use Rattle.std.proofs.Common.{◌≤◌, [], length, rules}
use Rattle.ov_report.specs.Printing.{full_page}
use Rattle.ov_report.proofs.Passing.{handed_on, part_sent}
use Rattle.ov_report.proofs.page.pass.Goals as goal

pub returns-in_err-flush-clause-stopped : goal.returns-in_err-flush-clause-stopped
returns-in_err-flush-clause-stopped g c =
    let full : full_page ≤ length c.args.page.now.items = search rules in
    handed_on _ _ _ c.from_residual.ensures (part_sent _ _ _ _ [] _ full c.in_err-flush.ensures.part c.in_err-flush.ensures.failed)
