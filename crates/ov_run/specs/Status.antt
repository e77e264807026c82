-- The program's exit status.
use Rattle.std.specs.Prelude.{ℕ}
use Rattle.ov_run.specs.declared.ended.Cause.{Cause}
use Rattle.ov_run.specs.declared.ended.Cause.TheVariants as cause

-- The exit status of each cause.
abbrev pub status_of : Cause → ℕ
status_of cause.Fine = 0
status_of cause.Usage = 1
status_of (cause.BadLine n) = 2
status_of (cause.Limit l) = 3
status_of cause.ReadFault = 4
status_of cause.WriteFault = 5
status_of cause.Memory = 6
