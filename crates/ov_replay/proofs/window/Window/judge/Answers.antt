use Rattle.std.proofs.Common.{arith}
use Rattle.std.proofs.lemmas.Bool.Decides.{nat_tests}
use Rattle.ov_model.proofs.ReplayLemmas.{verdict_rows}
use Rattle.ov_replay.proofs.window.Window.judge.Goals as goal

pub returns-then-id-eq0 : goal.returns-then-id-eq0
returns-then-id-eq0 c l m s = grind (arith, nat_tests, verdict_rows l c.args.id m, s.highest)

pub returns-then-id-self : goal.returns-then-id-self
returns-then-id-self c l m s = grind (arith, nat_tests, verdict_rows l c.args.id m, s.highest)

pub returns-then-self-id-ge-WINDOW_PLACES : goal.returns-then-self-id-ge-WINDOW_PLACES
returns-then-self-id-ge-WINDOW_PLACES c l m s = grind (arith, nat_tests, verdict_rows l c.args.id m, s.highest)

pub returns-then-id-floor_now : goal.returns-then-id-floor_now
returns-then-id-floor_now c l m s = grind (arith, nat_tests, verdict_rows l c.args.id m, s.highest, c.floor_now.ensures l m s)

pub returns-then-has : goal.returns-then-has
returns-then-has c l m s = grind (arith, nat_tests, verdict_rows l c.args.id m, s.highest, c.floor_now.ensures l m s, s.marks c.args.id (omega arith) (omega arith) (omega arith))

pub returns-else-has : goal.returns-else-has
returns-else-has c l m s = grind (arith, nat_tests, verdict_rows l c.args.id m, s.highest, c.floor_now.ensures l m s, s.marks c.args.id (omega arith) (omega arith) (omega arith))
