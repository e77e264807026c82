-- A text that didn't pass, and one whose last page was written in part.
use Rattle.ov_report.proofs.Passing.{handed_on, part_of, part_at_end, none_of}
use Rattle.ov_report.proofs.text.print_report.Goals as goal

pub returns-in_err-print_lines-clause-part : goal.returns-in_err-print_lines-clause-part
returns-in_err-print_lines-clause-part g c = handed_on _ _ _ c.from_residual.ensures (part_of _ _ _ _ _ _ (rw c.new-page.ensures.items at c.in_err-print_lines.ensures.stopped))

pub returns-in_err-flush-clause-part : goal.returns-in_err-flush-clause-part
returns-in_err-flush-clause-part g c = handed_on _ _ _ c.from_residual-in_err-flush.ensures (part_at_end _ _ _ _ _ (rw c.new-page.ensures.items at c.in_ok-print_lines.ensures.passed) c.in_err-flush.ensures.part)

pub returns-in_err-print_lines-clause-short : goal.returns-in_err-print_lines-clause-short
returns-in_err-print_lines-clause-short g c = handed_on _ _ _ c.from_residual.ensures (λ is short. none_of _ _ _ _ _ _ (rw c.new-page.ensures.items at c.in_err-print_lines.ensures.stopped) short)
