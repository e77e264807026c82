-- The value under the name is the test's answer, which tells exactly whether the keys differ.
use Rattle.ov_report.proofs.Distinct.{told-exactly}
use Rattle.ov_report.proofs.laws.keys_told.Goals as goal

pub returns : goal.returns
returns c = record { differ = told-exactly }
