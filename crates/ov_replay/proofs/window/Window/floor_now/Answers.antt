use Rattle.std.proofs.Common.{arith}
use Rattle.std.proofs.lemmas.Bool.Decides.{nat_tests}
use Rattle.ov_replay.proofs.WindowLemmas.{floor_now}
use Rattle.ov_replay.proofs.window.Window.floor_now.Goals as goal

pub returns-then-saturating_sub-ge-QUIET_SECONDS : goal.returns-then-saturating_sub-ge-QUIET_SECONDS
returns-then-saturating_sub-ge-QUIET_SECONDS c l m s = grind (arith, nat_tests, floor_now c.args.self.now l m s)

pub returns-else-saturating_sub-ge-QUIET_SECONDS : goal.returns-else-saturating_sub-ge-QUIET_SECONDS
returns-else-saturating_sub-ge-QUIET_SECONDS c l m s = grind (arith, nat_tests, floor_now c.args.self.now l m s)
